-- What the functions of `word` answer and leave, over the width where there is one. What doesn't lie within the bytes
-- reads as 0, is not written, and is not all zero. Assumes nothing.
use Rattle.std.specs.Prelude.{List, Bool, false, ℕ, ◌+◌, length, leb}
use Rattle.word.specs.Pick.{pick}
use Rattle.word.specs.Part.{part, over}
use Rattle.word.specs.Num.{le, un, zeros, all_zero}

-- whether n bytes stand at `at` among len
unfoldable pub fits_in : ℕ → ℕ → ℕ → Bool
fits_in len at n = leb (at + n) len

-- the number of width k at `at`
unfoldable pub read_at : ℕ → List ℕ → ℕ → ℕ
read_at k s at = pick (fits_in (length s) at k) (un (part s at k)) 0

-- s with x written at `at` in k bytes
unfoldable pub write_at : ℕ → List ℕ → ℕ → ℕ → List ℕ
write_at k s at x = pick (fits_in (length s) at k) (over s at (le k x)) s

-- d with the n bytes of s from `from` on written at `at`
unfoldable pub copy_at : List ℕ → ℕ → List ℕ → ℕ → ℕ → List ℕ
copy_at d at s from n = pick (fits_in (length d) at n) (pick (fits_in (length s) from n) (over d at (part s from n)) d) d

-- s with its n bytes from `at` on written higher up too
unfoldable pub move_at : List ℕ → ℕ → ℕ → ℕ → List ℕ
move_at s at n up = pick (fits_in (length s) at n) (pick (fits_in (length s) (at + n) up) (over s (at + up) (part s at n)) s) s

unfoldable pub clear_at : List ℕ → ℕ → ℕ → List ℕ
clear_at d at n = pick (fits_in (length d) at n) (over d at (zeros n)) d

unfoldable pub zero_at : List ℕ → ℕ → ℕ → Bool
zero_at s at n = pick (fits_in (length s) at n) (all_zero (part s at n)) false
