-- `codec::ends_at` meets its contract. Assumes nothing.
use Rattle.codec.proofs.StrictCode.{ends_1, ends_2, ends_3}
use Rattle.codec.proofs.ends_at.Goals as goal

pub returns-then-is_low : goal.returns-then-is_low
returns-then-is_low c = rw c.in-ZeroValue.is (ends_1 _ _ c.is_low.ensures c.if-is_low.true)

pub returns-else-is_low : goal.returns-else-is_low
returns-else-is_low c = rw c.in-ZeroValue.is (ends_2 _ _ c.is_low.ensures c.if-is_low.false)

pub returns-in_default : goal.returns-in_default
returns-in_default c = ends_3 _ _ _ c.in_default.not-ZeroValue
