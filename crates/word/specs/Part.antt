-- A part of a list of bytes, and a list with a part written over. Assumes nothing.
use Rattle.std.specs.Prelude.{List, ◌++◌, ℕ, ◌+◌, length, take, drop}

module _ {A : Type 0} where
  -- n from `from` on; cut at the end of s
  unfoldable pub part : List A → ℕ → ℕ → List A
  part s from n = take n (drop from s)

  -- s with b written from `from` on
  unfoldable pub over : List A → ℕ → List A → List A
  over s from b = take from s ++ (b ++ drop (from + length b) s)
