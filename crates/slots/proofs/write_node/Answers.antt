-- `slots::write_node` meets its contract. Assumes nothing.
use Rattle.slots.proofs.CodeLaws.{slot_whole, node_small, write_1, write_2, write_3}
use native.Mathlib.Omega.{arith}
use Rattle.slots.proofs.write_node.Goals as goal

pub returns-then-not-is_slot : goal.returns-then-not-is_slot
returns-then-not-is_slot c = write_1 _ _ _ c.is_slot.ensures c.if-not-is_slot.true-raw

pub slice_bounds-write-end : goal.slice_bounds-write-end
slice_bounds-write-end c = omega (arith, (slot_whole _ _ c.is_slot.ensures c.if-not-is_slot.false-raw).within, c.start_of-at.ensures)

pub returns-in_default : goal.returns-in_default
returns-in_default c = write_2 _ _ _ c.is_slot.ensures c.if-not-is_slot.false-raw c.start_of-at.ensures c.write.ensures.0 c.write.ensures.1 c.in_default.is

pub overflow_cast-len : goal.overflow_cast-len
overflow_cast-len c = omega (arith, node_small _ _ _ c.is_slot.ensures c.if-not-is_slot.false-raw c.start_of-at.ensures c.write.ensures.0 c.write.ensures.1 c.in-Ok.is)

pub overflow_add-from-2 : goal.overflow_add-from-2
overflow_add-from-2 c = omega (arith, node_small _ _ _ c.is_slot.ensures c.if-not-is_slot.false-raw c.start_of-at.ensures c.write.ensures.0 c.write.ensures.1 c.in-Ok.is, c.start_of-at.ensures)

pub overflow_sub-len : goal.overflow_sub-len
overflow_sub-len c = omega (arith, node_small _ _ _ c.is_slot.ensures c.if-not-is_slot.false-raw c.start_of-at.ensures c.write.ensures.0 c.write.ensures.1 c.in-Ok.is)

pub returns : goal.returns
returns c = write_3 _ _ _ c.is_slot.ensures c.if-not-is_slot.false-raw c.start_of-at.ensures c.write.ensures.0 c.write.ensures.1 c.in-Ok.is c.write_u32.ensures c.clear.ensures
