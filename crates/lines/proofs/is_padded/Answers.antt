-- `lines::is_padded` meets its contract: by its test. Assumes nothing.
use mathlib.Core.Path.{◌∙◌}
use borrow.Author.Tests.{lt-leb}
use Rattle.lines.proofs.DigitLaws.{padded_1, padded_2}
use native.Mathlib.Omega.{arith}
use Rattle.lines.proofs.is_padded.Goals as goal

pub returns-then-field-ge2 : goal.returns-then-field-ge2
returns-then-field-ge2 c = padded_2 _ (omega arith)

pub returns-else-field-ge2 : goal.returns-else-field-ge2
returns-else-field-ge2 c = lt-leb 2 _ (omega arith) ∙ padded_1 _ (omega arith)
