-- `lines::digits` meets its contract: by the power of ten that the number reaches. Assumes nothing.
use Rattle.lines.proofs.WriteLaws.{digits_few, digits_many}
use native.Mathlib.Omega.{arith}
use Rattle.lines.proofs.digits.Goals as goal

pub returns-in-Some : goal.returns-in-Some
returns-in-Some c = let h = c.in-Some.ensures in (digits_many _ _ h.power_le h.next_power_gt (omega arith), omega arith)

pub returns-in-None : goal.returns-in-None
returns-in-None c = (digits_few _ (omega (arith, c.in-None.ensures)), omega arith)
