-- `insertion::new_root` meets its contract. That the children's numbers are below 2 ^ 64 is what owning `old` and `right` tells (`good`). Assumes nothing.
use mathlib.Core.Path.{refl, sym}
use Rattle.slots.proofs.CodeLaws.{some_number, none_number}
use Rattle.insertion.proofs.InsertCode.{root_1, root_2, root_3}
use native.Mathlib.Omega.{arith}
use Rattle.insertion.proofs.new_root.Goals as goal

pub returns-then-depth-gt6 : goal.returns-then-depth-gt6
returns-then-depth-gt6 c = root_1 c.args.store.now c.args.old c.args.depth c.args.sep c.args.right.0 c.if-depth-gt6.true

pub returns-in_default : goal.returns-in_default
returns-in_default c = root_2 c.args.store.now c.args.old c.args.depth c.args.sep c.args.right.0 c.if-depth-gt6.false (sym (none_number c.take_slot.ensures.0 c.in_default.is)) c.take_slot.ensures.1 refl

pub returns : goal.returns
returns c = root_3 c.args.store.now c.args.old c.args.depth c.args.sep c.args.right.0 c.if-depth-gt6.false (some_number c.take_slot.ensures.0 c.in-Some.is).0 c.take_slot.ensures.1 c.well_formed.1.0.1.1.0.1 (omega (arith, c.well_formed.1.1.1.1.0.1.1.0.1)) (some_number c.take_slot.ensures.0 c.in-Some.is).1 c.empty.ensures c.set_child.ensures c.insert_at-node.ensures c.write_node.ensures c.set_root.ensures
