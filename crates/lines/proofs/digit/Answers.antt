-- `lines::digit` meets its contract: by its arms. Assumes nothing.
use Rattle.lines.proofs.DigitLaws.{digit_1, digit_2, digit_3, digit_4, digit_5, digit_is, digit_not}
use native.Mathlib.Omega.{arith}
use Rattle.lines.proofs.digit.Goals as goal

pub returns-in-48-to-57 : goal.returns-in-48-to-57
returns-in-48-to-57 c = digit_is _ (omega arith) (digit_2 _ (omega arith) (omega arith))

pub returns-in-97-to-102 : goal.returns-in-97-to-102
returns-in-97-to-102 c = digit_is _ (omega arith) (digit_4 _ (omega arith) (omega arith))

pub returns-in_default : goal.returns-in_default
returns-in_default c = digit_not _ (digit_1 _ (omega arith))

pub returns-in_default-2 : goal.returns-in_default-2
returns-in_default-2 c = digit_not _ (digit_3 _ (omega arith) (omega arith))

pub returns-in_default-3 : goal.returns-in_default-3
returns-in_default-3 c = digit_not _ (digit_5 _ (omega arith))
