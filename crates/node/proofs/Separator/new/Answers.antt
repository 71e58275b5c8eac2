-- `node::Separator::new` meets its contract. Assumes nothing.
use Rattle.node.proofs.EditCode.{new_separator}
use Rattle.node.proofs.Separator.new.Goals as goal

pub returns : goal.returns
returns c = new_separator _ _ c.min-len.ensures c.copy.ensures
