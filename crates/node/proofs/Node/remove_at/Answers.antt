-- `node::Node::remove_at` meets its contract. Assumes nothing.
use Rattle.node.proofs.EditCode.{remove_at_1, remove_at_2}
use Rattle.node.proofs.Node.remove_at.Goals as goal

pub returns-then-self-i : goal.returns-then-self-i
returns-then-self-i c = remove_at_1 _ _ c.if-self-i.true

pub returns : goal.returns
returns c = remove_at_2 _ _ c.if-self-i.false c.remove_from.ensures
