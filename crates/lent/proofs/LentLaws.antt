-- Each way through this crate's functions (a law NAME-k is of the k-th return). Assumes nothing.
use mathlib.Core.Path.{◌≡◌, refl, sym, subst, ◌∙◌}
use mathlib.Core.List.{List, map}
use Prim.Native.Nat.{ℕ, suc, ◌<◌}
use lib.ListN.{length, get_or, length-map}
use lib.Dec.{ltb}
use native.Mathlib.Omega.{arith}
use Rattle.std.proofs.Common.{Bor}
use Rattle.std.specs.Prelude.{Option, Some, None, unwrap_or, option_map, option_copied}
use Rattle.std.specs.Slice.{IsItemAt}
use Rattle.std.proofs.lemmas.List.{get_or_past, get_or-map, ext_get_or}
use borrow.Author.Tests.{eq-eqb, ne_eqb, ltb-true}
use Rattle.word.specs.Pick.{pick, pick_t, pick_f, by_test}
use Rattle.iter.specs.declared.Place.TheVariants.{Start, End, At, Seeked}
use Rattle.iter.specs.declared.Cursor.{Cursor}
use Rattle.iter.specs.Mirror.{length_of}
use Rattle.lent.specs.Lent.{kind_of, place_of, Holds, within}

-- ---- the place that two numbers name

pub place_1 : {k : ℕ} (n : ℕ) → k ≡ 0 → Start ≡ place_of k n
unfolding place_of pick
place_1 n e = rw e

pub place_2 : {k : ℕ} (n : ℕ) → k ≡ 1 → End ≡ place_of k n
unfolding place_of pick
place_2 n e = rw e

pub place_3 : {k : ℕ} (n : ℕ) → k ≡ 2 → At n ≡ place_of k n
unfolding place_of pick
place_3 n e = rw e

pub place_4 : {k : ℕ} (n : ℕ) → k ≡ 3 → Seeked n ≡ place_of k n
unfolding place_of pick
place_4 n e = rw e

pub place_5 : (k n : ℕ) → (k ≡ 0 → ⊥) → (k ≡ 1 → ⊥) → (k ≡ 2 → ⊥) → (k ≡ 3 → ⊥) → At 289 ≡ place_of k n
unfolding place_of
place_5 k n a b c d = sym (pick_f _ _ (ne_eqb k 0 a) ∙ pick_f _ _ (ne_eqb k 1 b) ∙ pick_f _ _ (ne_eqb k 2 c) ∙ pick_f _ _ (ne_eqb k 3 d))

-- ---- a cursor left behind

pub leave_1 : {m k n k' n' : ℕ} {b b' : List ℕ} (c : Cursor) → m ≡ 0 → k' ≡ kind_of c.place → n' ≡ length_of c.place → b' ≡ c.key → Holds m c k n b k' n' b'
leave_1 {m = m} c e f g h = record {
  kind_is = f ∙ sym (pick_t _ _ (eq-eqb m 0 e));
  length_is = g ∙ sym (pick_t _ _ (eq-eqb m 0 e));
  key_is = h ∙ sym (pick_t _ _ (eq-eqb m 0 e));
}

pub leave_2 : {m k n : ℕ} {b : List ℕ} (c : Cursor) → (m ≡ 0 → ⊥) → Holds m c k n b k n b
leave_2 {m = m} c z = record {
  kind_is = sym (pick_f _ _ (ne_eqb m 0 z));
  length_is = sym (pick_f _ _ (ne_eqb m 0 z));
  key_is = sym (pick_f _ _ (ne_eqb m 0 z));
}

-- ---- what stands at an index

copied_or : {A : Type 0} (o : Option (Bor A)) (z : A) → unwrap_or (option_copied o) z ≡ unwrap_or (option_map (λ x. x.now) o) z
copied_or (Some x) z = refl
copied_or None z = refl

-- an element that is got by its index, or z, where the last index is n
pub got : {A : Type 0} (n : ℕ) (l : List A) (i : ℕ) (z : A) (o : Option (Bor A)) → length l ≡ suc n → IsItemAt l i o → unwrap_or (option_copied o) z ≡ within n l i z
unfolding within
got n l i z o e h = copied_or o z ∙ h.4 (omega arith) z ∙ by_test (λ x. get_or l i z ≡ x) (ltb n i) (λ t. get_or_past l i z (omega (arith, ltb-true n i t))) (λ t. refl)

-- ---- a node to be written

-- each element by f
pub each : {A : Type 0} (f : ℕ → A) (l : List ℕ) (ys : List A) (n : ℕ) → length l ≡ n → length ys ≡ n → ((i : ℕ) → i < n → get_or ys i (f 0) ≡ f (get_or l i 0)) → ys ≡ map f l
each f l ys n e g h =
    ext_get_or (f 0) ys (map f l) (omega (arith, length-map l f)) λ i k. h i (omega arith) ∙ sym (get_or-map f l i 0 (f 0) (omega arith))
