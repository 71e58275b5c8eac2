-- `slots::slot_of` meets its contract. Assumes nothing.
use Rattle.std.proofs.Common.{arith}
use Rattle.word.specs.Pick.{pick}
use Rattle.slots.specs.Mirror.{is_slot}
use Rattle.slots.specs.Code.{slot_of, some_slot}
use Rattle.slots.proofs.slot_of.Goals as goal

pub returns-then-number-lt1 : goal.returns-then-number-lt1
unfolding slot_of some_slot is_slot pick
returns-then-number-lt1 c = grind arith

pub returns : goal.returns
unfolding slot_of some_slot is_slot pick
returns c = grind arith
