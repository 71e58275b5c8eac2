-- What a lookup and a step answer, with 01's numbers. Assumes nothing.
use Rattle.std.specs.Prelude.{ℕ, Option, Result}
use Rattle.node.specs.declared.Value.{Value}
use Rattle.iter.specs.declared.WalkError.{WalkError}
use Rattle.iter.specs.declared.WalkError.TheVariants.{NotStore, LongKey, Bad}

-- a value, none, or a refusal; "'Absent' is its own answer."
abbrev pub MaybeValue : Type 0
MaybeValue = Option Value

abbrev pub Answer : Type 0
Answer = Result MaybeValue WalkError

-- 01's numbers of the refusals; an answer that is none has 0
abbrev pub walk_error_number : WalkError → ℕ
walk_error_number NotStore = 1
walk_error_number LongKey = 4
walk_error_number Bad = 8
