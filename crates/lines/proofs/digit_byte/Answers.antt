-- `lines::digit_byte` meets its contract: by its test. Assumes nothing.
use Rattle.lines.proofs.WriteLaws.{byte_1, byte_2}
use native.Mathlib.Omega.{arith}
use Rattle.lines.proofs.digit_byte.Goals as goal

pub returns-then-n-lt10 : goal.returns-then-n-lt10
returns-then-n-lt10 c = byte_1 _ (omega arith)

pub returns : goal.returns
returns c = byte_2 _ (omega arith)
