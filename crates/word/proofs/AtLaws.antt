-- Laws of numbers, copies and zeros at a place, for callers: in range and out of it, lengths, and what is read of what was
-- written. Each is said once, over the width. Assumes nothing.
use mathlib.Core.Path.{◌≡◌, refl, sym, ◌∙◌}
use mathlib.Core.Logic.{◌⊎◌, ⊎_elim}
use mathlib.Core.List.{List}
use mathlib.Core.Bool.{Bool, true, false}
use Prim.Native.Nat.{ℕ, ◌+◌, ◌/◌, ◌%◌, ◌^◌, ◌≤◌, ◌<◌}
use lib.ListN.{length}
use native.Mathlib.Nat.{one-le-pow}
use native.Mathlib.Omega.{arith}
use borrow.Author.Tests.{le-leb, lt-leb, leb-true, leb-false}
use Rattle.word.specs.Pick.{pick_t, pick_f, by_test}
use Rattle.word.specs.Part.{part, over}
use Rattle.word.specs.Num.{le, un, Bytes, zeros, all_zero}
use Rattle.word.specs.At.{fits_in, read_at, write_at, copy_at, clear_at, zero_at}
use Rattle.word.proofs.PartLaws.{length_part, length_over, part_over, part_before, part_behind, over_beside}
use Rattle.word.proofs.NumLaws.{length_le, un_le, un_small, le_append, length_zeros, bytes_part, all_zero_zeros, all_zero_true}

-- the range test
module _ (len at n : ℕ) where
  pub fits_in_lem : at + n ≤ len → fits_in len at n ≡ true
  unfolding fits_in
  fits_in_lem h = le-leb (at + n) len h

  pub fits_out : len < at + n → fits_in len at n ≡ false
  unfolding fits_in
  fits_out h = lt-leb (at + n) len h

  pub fits_true : fits_in len at n ≡ true → at + n ≤ len
  unfolding fits_in
  fits_true e = leb-true (at + n) len e

  pub fits_false : fits_in len at n ≡ false → len < at + n
  unfolding fits_in
  fits_false e = leb-false (at + n) len e

-- what an answer of `fits` says
module _ {f : Bool} (len at n : ℕ) (answer : f ≡ fits_in len at n) where
  pub fitted : f ≡ true → at + n ≤ len
  fitted e = fits_true len at n (sym answer ∙ e)

  pub unfitted : f ≡ false → len < at + n
  unfitted e = fits_false len at n (sym answer ∙ e)

-- reading
module _ (k : ℕ) (s : List ℕ) (at : ℕ) where
  pub read_at_in : at + k ≤ length s → read_at k s at ≡ un (part s at k)
  unfolding read_at
  read_at_in h = pick_t _ _ (fits_in_lem _ _ _ h)

  pub read_at_out : length s < at + k → read_at k s at ≡ 0
  unfolding read_at
  read_at_out h = pick_f _ _ (fits_out _ _ _ h)

  pub read_at_small : Bytes s → read_at k s at < 256 ^ k
  unfolding read_at
  read_at_small p =
      by_test (λ (v : ℕ). v < 256 ^ k) (fits_in (length s) at k)
      (λ e. rw (length_part s at k (fits_true _ _ _ e)) at (un_small (part s at k) (bytes_part s at k p)))
      (λ e. one-le-pow k 256 (omega arith))

-- what is read depends on the length and on the part that is read
pub read_at_same : (k : ℕ) (s t : List ℕ) (at : ℕ) → length s ≡ length t → part s at k ≡ part t at k → read_at k s at ≡ read_at k t at
unfolding read_at
read_at_same k s t at l e = rw (l, e)

-- writing
module _ (k : ℕ) (s : List ℕ) (at x : ℕ) where
  pub write_at_in : at + k ≤ length s → write_at k s at x ≡ over s at (le k x)
  unfolding write_at
  write_at_in h = pick_t _ _ (fits_in_lem _ _ _ h)

  pub write_at_out : length s < at + k → write_at k s at x ≡ s
  unfolding write_at
  write_at_out h = pick_f _ _ (fits_out _ _ _ h)

  length_over_le : at + k ≤ length s → length (over s at (le k x)) ≡ length s
  length_over_le h = length_over s at (le k x) (rw length_le h)

  pub length_write_at : length (write_at k s at x) ≡ length s
  unfolding write_at
  length_write_at = by_test (λ (t : List ℕ). length t ≡ length s) (fits_in (length s) at k) (λ e. length_over_le (fits_true _ _ _ e)) (λ e. refl)

  -- written, then read at the same place
  pub read_at_write_at : at + k ≤ length s → x < 256 ^ k → read_at k (write_at k s at x) at ≡ x
  read_at_write_at h small =
      rw (write_at_in h)
      (read_at_in k (over s at (le k x)) at (rw (length_over_le h) h) ∙ rw (part_over s at k (le k x) (omega arith) (length_le k x)) (un_le k x small))

  -- written, then read at a place apart
  pub read_at_apart : (j b : ℕ) → (at + k ≤ b) ⊎ (b + j ≤ at) → read_at j (write_at k s at x) b ≡ read_at j s b
  unfolding write_at
  read_at_apart j b apart =
      by_test (λ (t : List ℕ). read_at j t b ≡ read_at j s b) (fits_in (length s) at k)
      (λ e.
      let h = fits_true _ _ _ e in
      read_at_same j (over s at (le k x)) s b (length_over_le h)
      (⊎_elim (λ p. part_behind s at b j (le k x) (omega arith) (rw length_le p)) (λ p. part_before s at b j (le k x) (omega arith) p) apart))
      (λ e. refl)

-- two numbers written side by side are one of both widths
pub write_at_beside : (j k : ℕ) (s : List ℕ) (at x : ℕ) → at + (j + k) ≤ length s → x < 256 ^ (j + k)
    → write_at k (write_at j s at (x % 256 ^ j)) (at + j) (x / 256 ^ j) ≡ write_at (j + k) s at x
write_at_beside j k s at x h small =
    let m : ℕ = 256 ^ j in
    let low : List ℕ = le j (x % m) in
    let high : List ℕ = le k (x / m) in
    let ll = length_le j (x % m) in
    let lh = length_le k (x / m) in
    let e = rw ll at (over_beside s at low high (omega arith)) in
    rw (write_at_in j s at (x % m) (omega arith), write_at_in k (over s at low) (at + j) (x / m) (omega (arith, length_over_le j s at (x % m) (omega arith))), write_at_in (j + k) s at x h, ← le_append j k x small) e

-- copies and zeros
module _ (d : List ℕ) (at : ℕ) (s : List ℕ) (from n : ℕ) where
  pub copy_at_in : at + n ≤ length d → from + n ≤ length s → copy_at d at s from n ≡ over d at (part s from n)
  unfolding copy_at
  copy_at_in h g = pick_t _ _ (fits_in_lem _ _ _ h) ∙ pick_t _ _ (fits_in_lem _ _ _ g)

  pub copy_at_out : length d < at + n → copy_at d at s from n ≡ d
  unfolding copy_at
  copy_at_out h = pick_f _ _ (fits_out _ _ _ h)

  -- the source hasn't them
  pub copy_at_short : length s < from + n → copy_at d at s from n ≡ d
  unfolding copy_at
  copy_at_short h = by_test (λ (t : List ℕ). t ≡ d) (fits_in (length d) at n) (λ e. pick_f _ _ (fits_out _ _ _ h)) (λ e. refl)

  pub length_copy_at : length (copy_at d at s from n) ≡ length d
  unfolding copy_at
  length_copy_at =
      by_test (λ (t : List ℕ). length t ≡ length d) (fits_in (length d) at n)
      (λ e.
      by_test (λ (t : List ℕ). length t ≡ length d) (fits_in (length s) from n)
      (λ f. length_over d at (part s from n) (rw (length_part s from n (fits_true _ _ _ f)) (fits_true _ _ _ e)))
      (λ f. refl))
      (λ e. refl)

module _ (d : List ℕ) (at n : ℕ) where
  pub clear_at_in : at + n ≤ length d → clear_at d at n ≡ over d at (zeros n)
  unfolding clear_at
  clear_at_in h = pick_t _ _ (fits_in_lem _ _ _ h)

  pub clear_at_out : length d < at + n → clear_at d at n ≡ d
  unfolding clear_at
  clear_at_out h = pick_f _ _ (fits_out _ _ _ h)

  pub length_clear_at : length (clear_at d at n) ≡ length d
  unfolding clear_at
  length_clear_at =
      by_test (λ (t : List ℕ). length t ≡ length d) (fits_in (length d) at n)
      (λ e. length_over d at (zeros n) (rw length_zeros (fits_true _ _ _ e)))
      (λ e. refl)

module _ (s : List ℕ) (at n : ℕ) where
  pub zero_at_in : at + n ≤ length s → zero_at s at n ≡ all_zero (part s at n)
  unfolding zero_at
  zero_at_in h = pick_t _ _ (fits_in_lem _ _ _ h)

  pub zero_at_out : length s < at + n → zero_at s at n ≡ false
  unfolding zero_at
  zero_at_out h = pick_f _ _ (fits_out _ _ _ h)

  pub zero_at_is : at + n ≤ length s → part s at n ≡ zeros n → zero_at s at n ≡ true
  zero_at_is h e = zero_at_in h ∙ rw e (all_zero_zeros n)

  pub zero_at_true : zero_at s at n ≡ true → (at + n ≤ length s) × (part s at n ≡ zeros n)
  unfolding zero_at
  zero_at_true =
      by_test (λ (b : Bool). b ≡ true → (at + n ≤ length s) × (part s at n ≡ zeros n)) (fits_in (length s) at n)
      (λ e t. let h = fits_true _ _ _ e in (h, rw (length_part s at n h) at (all_zero_true (part s at n) t)))
      (λ e t. let z : ◌≡◌ {A = ℕ} 0 1 = cc in (omega arith, cc))
