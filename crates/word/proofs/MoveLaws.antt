-- Bytes moved up within a list, the last first: in range and out of it. Assumes nothing.
use mathlib.Core.Path.{◌≡◌, sym, ap, ◌∙◌}
use mathlib.Core.List.{List, [], ◌∷◌, ◌++◌, append_assoc}
use Prim.Native.Nat.{ℕ, ◌+◌, ◌-◌, ◌≤◌, ◌<◌}
use lib.ListN.{length, get_or, set, take, drop, length-append}
use lib.Seq.{take-add, drop-cons, length-take-le}
use native.Mathlib.Omega.{arith}
use Rattle.word.specs.Pick.{pick_t, pick_f}
use Rattle.word.specs.Part.{part, over}
use Rattle.word.specs.At.{move_at}
use Rattle.word.proofs.PartLaws.{length_part, length_over, part_before, part_add, part_none, over_none, over_seam, set_over}
use Rattle.word.proofs.AtLaws.{fits_in_lem, fits_out}

-- ---- in range and out of it

module _ (s : List ℕ) (at n up : ℕ) where
  pub move_at_in : at + n + up ≤ length s → move_at s at n up ≡ over s (at + up) (part s at n)
  unfolding move_at
  move_at_in h = pick_t _ _ (fits_in_lem (length s) at n (omega arith)) ∙ pick_t _ _ (fits_in_lem (length s) (at + n) up h)

  pub move_at_out : length s < at + n → move_at s at n up ≡ s
  unfolding move_at
  move_at_out h = pick_f _ _ (fits_out (length s) at n h)

  pub move_at_high : at + n ≤ length s → length s < at + n + up → move_at s at n up ≡ s
  unfolding move_at
  move_at_high h k = pick_t _ _ (fits_in_lem (length s) at n h) ∙ pick_f _ _ (fits_out (length s) (at + n) up k)

-- ---- two writes side by side, the one behind first

module _ {A : Type 0} where
  ahead_is : (s : List A) (a : ℕ) (x y : List A) → take a s ++ (x ++ (y ++ drop (a + length x + length y) s)) ≡ over s a (x ++ y)
  unfolding over
  ahead_is s a x y = let l : a + length x + length y ≡ a + length (x ++ y) = simp length-append (omega arith) in rw l (simp append_assoc)

  cut_ahead : (s : List A) (a : ℕ) (x y : List A) → over s (a + length x) y ≡ take a s ++ (part s a (length x) ++ (y ++ drop (a + length x + length y) s))
  unfolding over part
  cut_ahead s a x y = rw (take-add a (length x) s) (simp append_assoc)

  pub over_ahead : (s : List A) (a : ℕ) (x y : List A) → a + length x + length y ≤ length s → over (over s (a + length x) y) a x ≡ over s a (x ++ y)
  over_ahead s a x y h =
      ap (λ (t : List A). over t a x) (cut_ahead s a x y)
      ∙ over_seam (take a s) (part s a (length x)) x (y ++ drop (a + length x + length y) s) a (length-take-le a s (omega arith)) (length_part s a (length x) (omega arith))
      ∙ ahead_is s a x y
