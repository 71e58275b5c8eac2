-- `node::edit::enter_behind` meets its contract. Assumes nothing.
use Rattle.node.proofs.ArrayLaws.{entered_behind}
use Rattle.node.proofs.edit.enter_behind.Goals as goal

pub returns : goal.returns
returns g c = let e = c.copy_from_slice.ensures.after in rw e (entered_behind _ _ c.requires c.copy_within.ensures.after)
