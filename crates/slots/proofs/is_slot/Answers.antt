-- `slots::is_slot` meets its contract. Assumes nothing.
use Rattle.std.proofs.Common.{arith}
use Rattle.word.specs.Pick.{pick}
use Rattle.slots.specs.Mirror.{is_slot}
use Rattle.slots.specs.Code.{slot_of, some_slot}
use Rattle.slots.proofs.is_slot.Goals as goal

pub returns : goal.returns
unfolding is_slot slot_of some_slot pick
returns c = grind arith
