-- `insertion::split_full` meets its contract. That the child's number is below 2 ^ 64 is what owning it tells (`good`). Assumes nothing.
use Rattle.word.proofs.NumLaws.{bytes_of}
use mathlib.Core.Path.{refl, sym}
use Rattle.slots.proofs.CodeLaws.{reading_is, some_number, none_number}
use Rattle.insertion.proofs.InsertCode.{split_1, split_2}
use Rattle.insertion.proofs.SpliceCode.{split_none, split_full}
use native.Mathlib.Omega.{arith}
use Rattle.insertion.proofs.split_full.Goals as goal

pub returns-in_default : goal.returns-in_default
returns-in_default c = split_none _ _ _ _ c.args.right c.slot_of.ensures c.in_default.is

pub returns-in_default-take_slot : goal.returns-in_default-take_slot
returns-in_default-take_slot c = split_full _ _ _ _ c.args.right (bytes_of c.args.store.now (λ i h. omega (arith, c.slice_known-1.given i))) (reading_is _ _ c.node_bytes.ensures c.read_standard-reading.ensures) (some_number c.slot_of.ensures c.in-Some.is).0 c.new.ensures (split_1 _ _ _ _ _ _ c.split-both.ensures (sym (none_number c.take_slot.ensures.0 c.in_default-take_slot.is)) c.take_slot.ensures.1 refl)

pub returns : goal.returns
returns c = split_full _ _ _ _ c.args.right (bytes_of c.args.store.now (λ i h. omega (arith, c.slice_known-1.given i))) (reading_is _ _ c.node_bytes.ensures c.read_standard-reading.ensures) (some_number c.slot_of.ensures c.in-Some.is).0 c.new.ensures (split_2 _ _ _ _ _ _ c.split-both.ensures (some_number c.take_slot.ensures.0 c.in-Some-take_slot.is).0 c.take_slot.ensures.1 c.well_formed.1.1.1.1.1.0.1.1.0.1 (some_number c.take_slot.ensures.0 c.in-Some-take_slot.is).1 c.write_node.ensures c.write_node-2.ensures)
