-- `insertion::start` meets its contract. Assumes nothing.
use mathlib.Core.Path.{refl, sym}
use Rattle.slots.proofs.CodeLaws.{some_number, none_number}
use Rattle.insertion.proofs.InsertCode.{start_1, start_2, start_3}
use Rattle.insertion.proofs.start.Goals as goal

pub returns-then-root-ne0 : goal.returns-then-root-ne0
returns-then-root-ne0 c = start_1 _ c.root-root.ensures c.if-root-ne0.true

pub returns-in_default : goal.returns-in_default
returns-in_default c = start_2 _ c.root-root.ensures c.if-root-ne0.false (sym (none_number c.take_slot.ensures.0 c.in_default.is)) c.take_slot.ensures.1 refl

pub returns : goal.returns
returns c = start_3 _ c.root-root.ensures c.if-root-ne0.false (some_number c.take_slot.ensures.0 c.in-Some.is).0 c.take_slot.ensures.1 (some_number c.take_slot.ensures.0 c.in-Some.is).1 c.empty.ensures c.write_node.ensures c.set_root.ensures
