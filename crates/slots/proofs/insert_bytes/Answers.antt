-- `slots::insert_bytes` meets its contract. Assumes nothing.
use Rattle.slots.proofs.CodeLaws.{slot_whole}
use Rattle.slots.proofs.SpliceLaws.{inserted_small, insert_bytes_1, insert_bytes_2, insert_bytes_3}
use native.Mathlib.Omega.{arith}
use Rattle.slots.proofs.insert_bytes.Goals as goal

pub returns-then-not-is_slot : goal.returns-then-not-is_slot
returns-then-not-is_slot c = insert_bytes_1 _ _ _ _ _ c.is_slot.ensures c.if-not-is_slot.true-raw

pub slice_bounds-splice-end : goal.slice_bounds-splice-end
slice_bounds-splice-end c = omega (arith, (slot_whole _ _ c.is_slot.ensures c.if-not-is_slot.false-raw).within, c.start_of-at.ensures)

pub returns-in_default : goal.returns-in_default
returns-in_default c = insert_bytes_2 _ _ _ _ _ c.is_slot.ensures c.if-not-is_slot.false-raw c.start_of-at.ensures c.read_u32-old.ensures c.splice.ensures.0 c.splice.ensures.1 c.in_default.is

pub overflow_cast-len : goal.overflow_cast-len
overflow_cast-len c = omega (arith, inserted_small _ _ _ _ _ c.is_slot.ensures c.if-not-is_slot.false-raw c.start_of-at.ensures c.read_u32-old.ensures c.splice.ensures.0 c.splice.ensures.1 c.in-Some.is)

pub overflow_add-from-2 : goal.overflow_add-from-2
overflow_add-from-2 c = omega (arith, inserted_small _ _ _ _ _ c.is_slot.ensures c.if-not-is_slot.false-raw c.start_of-at.ensures c.read_u32-old.ensures c.splice.ensures.0 c.splice.ensures.1 c.in-Some.is, c.start_of-at.ensures)

pub overflow_sub-len : goal.overflow_sub-len
overflow_sub-len c = omega (arith, inserted_small _ _ _ _ _ c.is_slot.ensures c.if-not-is_slot.false-raw c.start_of-at.ensures c.read_u32-old.ensures c.splice.ensures.0 c.splice.ensures.1 c.in-Some.is)

pub returns : goal.returns
returns c = insert_bytes_3 _ _ _ _ _ c.is_slot.ensures c.if-not-is_slot.false-raw c.start_of-at.ensures c.read_u32-old.ensures c.splice.ensures.0 c.splice.ensures.1 c.in-Some.is c.write_u32.ensures c.clear.ensures
