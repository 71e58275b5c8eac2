-- `slots::search_at` meets its contract. Assumes nothing.
use Rattle.std.proofs.Common.{arith}
use Rattle.word.specs.Pick.{pick}
use Rattle.word.specs.Part.{part}
use Rattle.slots.specs.Mirror.{is_slot, length_at, node_bytes, holds_node}
use Rattle.slots.specs.Code.{slot_of, some_slot, raw_in}
use Rattle.slots.proofs.SearchLaws.{search_at, nothing_seen}
use Rattle.slots.proofs.search_at.Goals as goal

pub returns-in_default : goal.returns-in_default
unfolding is_slot slot_of some_slot holds_node raw_in pick
returns-in_default c = nothing_seen _ _ _ _ _ (grind arith) c.start.ensures

pub returns-then-len-lt-LEAST_NODE : goal.returns-then-len-lt-LEAST_NODE
unfolding is_slot slot_of some_slot length_at holds_node raw_in pick
returns-then-len-lt-LEAST_NODE c = nothing_seen _ _ _ _ _ (grind arith) c.start-then-len-lt-LEAST_NODE.ensures

pub returns-then-len-gt-MOST_NODE : goal.returns-then-len-gt-MOST_NODE
unfolding is_slot slot_of some_slot length_at holds_node raw_in pick
returns-then-len-gt-MOST_NODE c = nothing_seen _ _ _ _ _ (grind arith) c.start-then-len-gt-MOST_NODE.ensures

pub slice_bounds-search-end : goal.slice_bounds-search-end
unfolding is_slot slot_of some_slot pick
slice_bounds-search-end c = grind arith

pub returns : goal.returns
unfolding is_slot slot_of some_slot length_at node_bytes holds_node raw_in pick part
returns c = search_at _ _ _ _ _ (grind arith) c.search.ensures
