-- `node::Node::empty` meets its contract. Assumes nothing.
use Rattle.node.proofs.EditCode.{empty_node}
use Rattle.node.proofs.Node.empty.Goals as goal

pub returns : goal.returns
returns c = empty_node
