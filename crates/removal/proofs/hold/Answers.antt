-- `removal::hold` meets its contract. Assumes nothing.
use Rattle.std.proofs.Common.{arith}
use Rattle.slots.proofs.CodeLaws.{some_number}
use Rattle.removal.proofs.RebalanceCode.{hold_none}
use Rattle.removal.proofs.hold.Goals as goal

pub returns-in_default : goal.returns-in_default
returns-in_default c = hold_none c.args.depth c.args.store.now c.args.child.0 (grind arith) c.slot_of.ensures c.in_default.is

pub returns : goal.returns
returns c = (grind arith, (some_number c.slot_of.ensures c.in-Some.is).0, grind arith)
