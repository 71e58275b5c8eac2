-- `slots::node_bytes` meets its contract. Assumes nothing.
use Rattle.std.proofs.Common.{arith}
use Rattle.word.specs.Pick.{pick}
use Rattle.word.specs.Part.{part}
use Rattle.slots.specs.Mirror.{is_slot, length_at, node_bytes, holds_node}
use Rattle.slots.specs.Code.{slot_of, some_slot, raw_in}
use Rattle.slots.proofs.node_bytes.Goals as goal

pub returns-in_default : goal.returns-in_default
unfolding is_slot slot_of some_slot holds_node raw_in pick
returns-in_default c = grind arith

pub returns-then-not-contains : goal.returns-then-not-contains
unfolding is_slot slot_of some_slot length_at holds_node raw_in pick
returns-then-not-contains c = grind arith

pub slice_bounds-result-end-2 : goal.slice_bounds-result-end-2
unfolding is_slot slot_of some_slot pick
slice_bounds-result-end-2 c = grind arith

pub returns : goal.returns
unfolding is_slot slot_of some_slot length_at node_bytes holds_node raw_in pick part
returns c = grind arith
