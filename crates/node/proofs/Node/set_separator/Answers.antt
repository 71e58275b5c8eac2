-- `node::Node::set_separator` meets its contract. Assumes nothing.
use borrow.Author.Rules.{rules}
use Rattle.node.proofs.EditCode.{set_separator_1, set_separator_2}
use Rattle.node.proofs.Node.set_separator.Goals as goal

pub returns-then-i-lt8 : goal.returns-then-i-lt8
returns-then-i-lt8 c = set_separator_1 c.args.self _ c.args.sep (search rules) c.if-i-lt8.true c.copy_from_slice.ensures.after

pub returns-else-i-lt8 : goal.returns-else-i-lt8
returns-else-i-lt8 c = set_separator_2 _ _ _ c.if-i-lt8.false
