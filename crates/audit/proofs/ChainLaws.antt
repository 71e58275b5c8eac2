-- The free chain: what is walked is the chain of the bytes, it has each slot once, and with as many reached slots as are missing it
-- fills the store. Assumes nothing.
use mathlib.Core.Path.{◌≡◌, refl, sym, ap, subst, ◌∙◌}
use mathlib.Core.List.{List, [], ◌∷◌}
use mathlib.Core.Bool.{Bool, true, ◌&&◌}
use mathlib.Core.Option.{Option, none, some}
use Prim.Native.Nat.{ℕ, zero, suc, ◌^◌, ◌≤◌, ◌<◌}
use lib.ListN.{length}
use lib.Dec.{leb, eqb}
use native.Mathlib.Omega.{arith}
use borrow.Author.Tests.{leb-true, leb-false, le-leb, eqb-true, ne_eqb}
use Rattle.tree.specs.Free.{bit, occurs, in_store, first_free}
use Rattle.tree.proofs.Cases.{by_cond, by_bool}
use Rattle.tree.proofs.Slots.{in_store_lem, total, total_cons, within_store}
use Rattle.slots.specs.Layout.{slot_at, idle, count_of}
use Rattle.slots.specs.Mirror.{is_slot}
use Rattle.slots.specs.Entries.{same_bytes}
use Rattle.slots.specs.Stands.{Links, Based}
use Rattle.slots.proofs.HeaderLaws.{and_both}
use Rattle.slots.proofs.StoreLaws.{slot_of_lem, next_is_lem, idle_same, based_slot}
use Rattle.slots.proofs.Framing.{Within, first_within, first_free_within_lem}
use Rattle.slots.proofs.Building.{IfSome, same_bytes_true, same_bytes_refl}
use Rattle.slots.proofs.Unique.{one_chain}
use Rattle.audit.specs.Walk.{linked, next_free, is_idle, chain}

-- ---- slots of a store of n

pub inside_lem : (n x : ℕ) → 1 ≤ x → x ≤ n → in_store n x ≡ 1
inside_lem n x p q = rw (le-leb 1 x p, le-leb x n q)

-- one more, that was not there
pub within_cons : (n x : ℕ) (us : List ℕ) → 1 ≤ x → x ≤ n → occurs x us ≡ 0 → Within n us → Within n (x ∷ us)
within_cons n x us lo hi z h y =
    by_bool (eqb y x)
    (λ e.
    let w = eqb-true y x e in
    let f : eqb x x ≡ true = rw w at e in
    subst (λ (v : ℕ). occurs v (x ∷ us) ≤ in_store n v) (sym w) (rw (f, z, inside_lem n x lo hi) (omega arith)))
    (λ e. rw e (omega (arith, h y)))

abbrev pub AllIn : ℕ → List ℕ → Type 0
AllIn n [] = Unit {0}
AllIn n (x ∷ fs) = (1 ≤ x) × (x ≤ n) × AllIn n fs

pub all_in : (n : ℕ) (fs : List ℕ) → Within n fs → AllIn n fs
all_in n [] h = tt
all_in n (x ∷ fs) h = let i = first_within n x fs (h x) in (i.0, i.1, all_in n fs (λ y. omega (arith, h y)))

head_in : (n : ℕ) (fs : List ℕ) → AllIn n fs → first_free fs ≤ n
head_in n [] h = omega arith
head_in n (x ∷ fs) h = h.1

-- ---- each once: a slot's bytes tell its next, so a slot met again would have the same chain behind it, which is shorter

record Later (s : List ℕ) (x : ℕ) (fs : List ℕ) : Type 0 where
  rest : List ℕ
  here : slot_at s x ≡ idle (first_free rest)
  links : Links s rest
  fewer : (z : ℕ) → occurs z rest ≤ occurs z fs
  shorter : length rest < length fs

later_lem : (s : List ℕ) (x : ℕ) (fs : List ℕ) → Links s fs → 1 ≤ occurs x fs → Later s x fs
later_lem s x [] h k = absurd (omega arith)
later_lem s x (y ∷ fs) h k =
    by_bool (eqb x y)
    (λ e. record { rest = fs; here = ap (slot_at s) (eqb-true x y e) ∙ h.0; links = h.1; fewer = λ z. omega arith; shorter = omega arith })
    (λ e. let l = later_lem s x fs h.1 (omega (arith, rw e at k)) in record { rest = l.rest; here = l.here; links = l.links; fewer = λ z. omega (arith, l.fewer z); shorter = omega (arith, l.shorter) })

module _ (n : ℕ) (small : n < 2 ^ 32) (s : List ℕ) where
  absent : (x : ℕ) (fs : List ℕ) → Within n fs → Links s (x ∷ fs) → occurs x fs ≡ 0
  absent x fs w h =
      by_bool (leb 1 (occurs x fs))
      (λ e.
      let l = later_lem s x fs h.1 (leb-true 1 (occurs x fs) e) in
      let v : Within n l.rest = λ z. omega (arith, l.fewer z, w z) in
      let a = first_free_within_lem n fs w in
      let b = first_free_within_lem n l.rest v in
      let same : fs ≡ l.rest = one_chain n small s fs l.rest w v (idle_same (first_free fs) (first_free l.rest) (omega arith) (omega arith) (sym h.0 ∙ l.here)) h.1 l.links in
      absurd (omega (arith, l.shorter, ap (λ (t : List ℕ). length t) same)))
      (λ e. omega (arith, leb-false 1 (occurs x fs) e))

  pub links_within : (fs : List ℕ) → AllIn n fs → Links s fs → Within n fs
  links_within [] a h x = omega arith
  links_within (y ∷ fs) a h x = let w = links_within fs a.2 h.1 in within_cons n y fs a.0 a.1 (absent y fs w h) w x

-- ---- what is walked is the chain

-- none of the slots is marked
abbrev pub AllFree : (ℕ → Bool) → List ℕ → Type 0
AllFree is_free [] = Unit {0}
AllFree is_free (x ∷ fs) = (is_free x ≡ true) × AllFree is_free fs

pub record Walked (n : ℕ) (s : List ℕ) (is_free : ℕ → Bool) (x : ℕ) (fs : List ℕ) : Type 0 where
  pub links : Links s fs
  pub first : first_free fs ≡ x
  pub slots : AllIn n fs
  pub free : AllFree is_free fs

module _ (n : ℕ) (s : List ℕ) (is_free : ℕ → Bool) where
  ended : (x : ℕ) → eqb x 0 ≡ true → Walked n s is_free x []
  ended x q = record { links = tt; first = sym (eqb-true x 0 q); slots = tt; free = tt }

  pub chain_sound : count_of s ≡ n → (f x : ℕ) → IfSome (Walked n s is_free x) (chain is_free f s x)
  chain_sound e zero x = by_cond (IfSome (Walked n s is_free x)) (eqb x 0) (ended x) (λ q. tt)
  chain_sound e (suc f) x =
      by_cond (IfSome (Walked n s is_free x)) (eqb x 0) (ended x)
      (λ q. by_cond (IfSome (Walked n s is_free x)) (is_idle s x && is_free x) (λ w. go (and_both (is_idle s x) (is_free x) w) (chain is_free f s (next_free s x)) (chain_sound e f (next_free s x))) (λ w. tt))
    where
      go : (is_idle s x ≡ true) × (is_free x ≡ true) → (o : Option (List ℕ)) → IfSome (Walked n s is_free (next_free s x)) o → IfSome (Walked n s is_free x) (linked x o)
      go w none h = tt
      go w (some fs) h =
          let p = and_both (is_slot s x) (same_bytes (slot_at s x) (idle (next_free s x))) w.0 in
          let i = slot_of_lem s x p.0 in
          record {
            links = (same_bytes_true (slot_at s x) (idle (next_free s x)) p.1 ∙ ap idle (sym h.first), h.links);
            first = refl;
            slots = (i.least, omega (arith, i.most), h.slots);
            free = (w.1, h.free);
          }

  pub chain_complete : (r d : ℕ) (gs : List ℕ) → n < 2 ^ 32 → Based n r d s gs → (f : ℕ) (fs : List ℕ) → Links s fs → AllIn n fs → AllFree is_free fs → length fs ≤ f
      → chain is_free f s (first_free fs) ≡ some fs
  chain_complete r d gs small b zero [] h a o l = refl
  chain_complete r d gs small b zero (x ∷ fs) h a o l = absurd (omega arith)
  chain_complete r d gs small b (suc f) [] h a o l = refl
  chain_complete r d gs small b (suc f) (x ∷ fs) h a o l =
      let p = head_in n fs a.2 in
      let is = based_slot n r d s gs b small x a.0 a.1 in
      rw (
        ne_eqb x 0 (λ z. let q = a.0 in omega arith),
        is,
        next_of_lem x (first_free fs) is h.0 (omega arith),
        h.0,
        same_bytes_refl (idle (first_free fs)),
        o.0,
        chain_complete r d gs small b f fs h.1 a.2 o.1 (omega arith),
      )
    where
      next_of_lem : (x y : ℕ) → is_slot s x ≡ true → slot_at s x ≡ idle y → y < 2 ^ 32 → next_free s x ≡ y
      next_of_lem x y is e l = unfold next_free in next_is_lem s x y is e l

-- ---- as many as there are slots: all of them

pub all_there : (n : ℕ) (l : List ℕ) → Within n l → length l ≡ n → (x : ℕ) → occurs x l ≡ in_store n x
all_there n l h e x = by_bool (leb 1 x && leb x n)
    (λ q. let w = ap bit q in by_bool (leb 1 (occurs x l))
    (λ p. let a = leb-true 1 (occurs x l) p in omega (arith, h x))
    (λ p.
    let a = leb-false 1 (occurs x l) p in
    let i = in_store_lem n x (omega arith) in
    let more = within_store n (x ∷ l) (within_cons n x l i.0 i.1 (omega arith) h) in
    absurd (omega arith)))
    (λ q. let w = ap bit q in omega (arith, h x))

total_none : (n : ℕ) → total n [] ≡ 0
total_none zero = refl
total_none (suc n) = omega (arith, total_none n)

total_above : (n y : ℕ) → n < y → total n (y ∷ []) ≡ 0
total_above zero y h = refl
total_above (suc n) y h = rw (ne_eqb (suc n) y (omega arith)) (omega (arith, total_above n y (omega arith)))

total_alone : (n y : ℕ) → total n (y ∷ []) ≤ 1
total_alone zero y = omega arith
total_alone (suc n) y =
    by_bool (eqb (suc n) y) (λ e. rw e (let w = eqb-true (suc n) y e in omega (arith, total_above n y (omega arith)))) (λ e. rw e (omega (arith, total_alone n y)))

pub total_most : (n : ℕ) (l : List ℕ) → total n l ≤ length l
total_most n [] = omega (arith, total_none n)
total_most n (y ∷ l) = omega (arith, total_cons n y l, total_alone n y, total_most n l)

-- all slots of a store, each once, are as many as it has
pub all_length : (n : ℕ) (l : List ℕ) → ((x : ℕ) → occurs x l ≡ in_store n x) → length l ≡ n
all_length n l h =
    let lo = total_most n l in
    let hi = within_store n l (λ x. omega (arith, h x)) in
    omega (arith, all_lem n (omega arith))
  where
    all_lem : (k : ℕ) → k ≤ n → total k l ≡ k
    all_lem zero q = refl
    all_lem (suc k) q = omega (arith, all_lem k (omega arith), h (suc k), inside_lem n (suc k) (omega arith) q)
