-- `lent::leave` meets its contract. Assumes nothing.
use mathlib.Core.Path.{refl}
use Rattle.lent.proofs.LentLaws.{leave_1, leave_2}
use Rattle.lent.proofs.leave.Goals as goal

pub returns-then-number-eq0 : goal.returns-then-number-eq0
returns-then-number-eq0 c = leave_1 _ c.if-number-eq0.true c.kind_of.ensures c.length.ensures refl

pub returns-else-number-eq0 : goal.returns-else-number-eq0
returns-else-number-eq0 c = leave_2 _ c.if-number-eq0.false
