-- Slots by counting: lists put together, the free list's two operations, and that slots of a store that are each counted at
-- most once are no more than the store has. Assumes nothing.
use mathlib.Core.Path.{◌≡◌, refl, sym, ap, ◌∙◌}
use mathlib.Core.List.{List, [], ◌∷◌, ◌++◌}
use mathlib.Core.Bool.{Bool, true, false, ◌&&◌}
use lib.ListN.{length}
use lib.Dec.{leb, eqb, leb-suc-suc}
use native.Mathlib.Omega.{arith}
use borrow.Author.Tests.{leb-true, leb-false, le-leb, lt-leb, eqb-true, eqb-false, eq-eqb}
use Prim.Native.Nat.{ℕ, zero, suc, ◌+◌, ◌≤◌, ◌<◌}
use Rattle.tree.specs.Free.{bit, occurs, in_store, first_free, later_free, FreePolicy, give_all, stack, slots_from}
use Rattle.tree.proofs.Cases.{by_bool}

pub occurs_append : (x : ℕ) (s t : List ℕ) → occurs x (s ++ t) ≡ occurs x s + occurs x t
occurs_append x [] t = omega arith
occurs_append x (y ∷ s) t = omega (arith, occurs_append x s t)

-- ---- taking and giving

pub take_occurs : (x : ℕ) (fs : List ℕ) → 0 < length fs → bit (eqb x (first_free fs)) + occurs x (later_free fs) ≡ occurs x fs
take_occurs x [] h = absurd (omega arith)
take_occurs x (y ∷ fs) h = refl

pub give_all_occurs : (g : FreePolicy) (x : ℕ) (freed fs : List ℕ) → occurs x (give_all g freed fs) ≡ occurs x freed + occurs x fs
give_all_occurs g x [] fs = omega arith
give_all_occurs g x (s ∷ freed) fs = omega (arith, g.given x s (give_all g freed fs), give_all_occurs g x freed fs)

pub give_all_stack : (freed fs : List ℕ) → give_all stack freed fs ≡ freed ++ fs
give_all_stack [] fs = refl
give_all_stack (s ∷ freed) fs = rw (give_all_stack freed fs)

-- ---- the slots of a store

pub in_store_lem : (n y : ℕ) → 1 ≤ in_store n y → (1 ≤ y) × (y ≤ n)
in_store_lem n y h = by_bool (leb 1 y)
    (λ p. by_bool (leb y n) (λ q. (leb-true 1 y p, leb-true y n q)) (λ q. absurd (let z = rw (p, q) at h in omega arith)))
    (λ p. absurd (let z = rw p at h in omega arith))

bit_le : (b : Bool) → bit b ≤ 1
bit_le true = omega arith
bit_le false = omega arith

pub in_store_le : (n x : ℕ) → in_store n x ≤ 1
in_store_le n x = bit_le (leb 1 x && leb x n)

-- how often the numbers 1 to n stand in a list
abbrev pub total : ℕ → List ℕ → ℕ
total zero l = 0
total (suc n) l = total n l + occurs (suc n) l

pub total_le : (n : ℕ) (l : List ℕ) → ((x : ℕ) → occurs x l ≤ 1) → total n l ≤ n
total_le zero l h = omega arith
total_le (suc n) l h = omega (arith, total_le n l h, h (suc n))

pub total_cons : (n y : ℕ) (l : List ℕ) → total n (y ∷ l) ≡ total n (y ∷ []) + total n l
total_cons zero y l = omega arith
total_cons (suc n) y l = omega (arith, total_cons n y l)

pub total_one : (n y : ℕ) → 1 ≤ y → y ≤ n → 1 ≤ total n (y ∷ [])
total_one zero y p q = absurd (omega arith)
total_one (suc n) y p q = by_bool (eqb (suc n) y) (λ e. rw e (omega arith))
    (λ e.
    let ne : suc n ≡ y → ⊥ = eqb-false (suc n) y e in
    let le : y ≤ n = omega arith in
    omega (arith, total_one n y p le))

pub within_total : (n : ℕ) (l : List ℕ) → ((x : ℕ) → occurs x l ≤ in_store n x) → length l ≤ total n l
within_total n [] h = omega arith
within_total n (y ∷ l) h =
    let at = rw (eq-eqb y y refl) at (h y) in
    let p = in_store_lem n y (omega arith) in
    omega (arith, total_cons n y l, total_one n y p.0 p.1, within_total n l (λ x. omega (arith, h x)))

pub within_store : (n : ℕ) (l : List ℕ) → ((x : ℕ) → occurs x l ≤ in_store n x) → length l ≤ n
within_store n l h = omega (arith, within_total n l h, total_le n l (λ x. omega (arith, h x, in_store_le n x)))

-- ---- a formatted store has each slot once

inside_lem : (s e x : ℕ) → s ≤ x → x < e → bit (leb s x && leb (suc x) e) ≡ 1
inside_lem s e x p q = rw (le-leb s x p, le-leb (suc x) e q)

under : (s e x : ℕ) → x < s → bit (leb s x && leb (suc x) e) ≡ 0
under s e x p = rw (lt-leb s x p)

over_lem : (s e x : ℕ) → e ≤ x → bit (leb s x && leb (suc x) e) ≡ 0
over_lem s e x p = by_bool (leb s x) (λ q. rw (q, lt-leb (suc x) e (omega arith))) (λ q. rw q)

occurs_from : (x s m : ℕ) → occurs x (slots_from s m) ≡ bit (leb s x && leb (suc x) (s + m))
occurs_from x s zero = by_bool (leb s x) (λ q. sym (over_lem s (s + 0) x (omega (arith, leb-true s x q)))) (λ q. rw q)
occurs_from x s (suc m) =
    let ih = occurs_from x (suc s) m in
    by_bool (eqb x s)
    (λ e. let same = eqb-true x s e in rw e (omega (arith, under (suc s) (suc s + m) x (omega arith), inside_lem s (s + suc m) x (omega arith) (omega arith))))
    (λ e.
    let other : x ≡ s → ⊥ = eqb-false x s e in
    rw e (by_bool (leb s x)
    (λ p. let le = leb-true s x p in by_bool (leb (suc x) (s + suc m))
    (λ q. let lt = leb-true (suc x) (s + suc m) q in omega (arith, inside_lem (suc s) (suc s + m) x (omega arith) (omega arith), inside_lem s (s + suc m) x le (omega arith)))
    (λ q. let ge = leb-false (suc x) (s + suc m) q in omega (arith, over_lem (suc s) (suc s + m) x (omega arith), over_lem s (s + suc m) x (omega arith))))
    (λ p. let lt = leb-false s x p in omega (arith, under (suc s) (suc s + m) x (omega arith), under s (s + suc m) x lt))))

pub formatted_once : (n x : ℕ) → occurs x (slots_from 1 n) ≡ in_store n x
formatted_once n x = let e : 1 + n ≡ suc n = omega arith in occurs_from x 1 n ∙ ap (λ (b : Bool). bit (leb 1 x && b)) (rw e (leb-suc-suc x n))
