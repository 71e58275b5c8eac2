-- The number of an answer, by that of its refusals. Assumes nothing.
use Rattle.std.specs.Prelude.{ℕ, Result, Ok, Err}

-- "0 | done"
abbrev pub answer_number : {T E : Type 0} → (E → ℕ) → Result T E → ℕ
answer_number n (Ok _) = 0
answer_number n (Err e) = n e
