-- `node::edit::enter_front` meets its contract. Assumes nothing.
use Rattle.node.proofs.ArrayLaws.{entered_front}
use Rattle.node.proofs.edit.enter_front.Goals as goal

pub returns : goal.returns
returns g c = let e = c.copy_from_slice.ensures.after in rw e (entered_front _ _ c.requires c.copy_within.ensures.after)
