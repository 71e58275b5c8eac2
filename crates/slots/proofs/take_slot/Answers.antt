-- `slots::take_slot` meets its contract. Assumes nothing.
use Rattle.std.proofs.Common.{arith}
use Rattle.word.specs.Pick.{pick}
use Rattle.slots.specs.Mirror.{take_slot, is_slot}
use Rattle.slots.specs.Code.{some_slot}
use Rattle.slots.proofs.take_slot.Goals as goal

pub returns-then-not-is_slot : goal.returns-then-not-is_slot
unfolding is_slot take_slot some_slot pick
returns-then-not-is_slot c = grind arith

pub returns : goal.returns
unfolding is_slot take_slot some_slot pick
returns c = grind arith
