-- `node::Node::separator` meets its contract. Assumes nothing.
use Rattle.node.proofs.EditCode.{separator_1, separator_2}
use Rattle.node.proofs.Node.separator.Goals as goal

pub returns-then-i-gt7 : goal.returns-then-i-gt7
returns-then-i-gt7 c = separator_1 _ _ c.if-i-gt7.true

pub returns : goal.returns
returns c = separator_2 c.args.self _ c.if-i-gt7.false c.copy_from_slice.ensures.after
