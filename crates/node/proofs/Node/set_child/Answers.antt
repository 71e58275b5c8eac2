-- `node::Node::set_child` meets its contract. Assumes nothing.
use Rattle.node.proofs.EditCode.{length_under, child_1, child_2}
use borrow.Author.Rules.{rules}
use Rattle.node.proofs.Node.set_child.Goals as goal

pub returns-then-i-lt9 : goal.returns-then-i-lt9
returns-then-i-lt9 c = child_1 _ _ _

pub returns-else-i-lt9 : goal.returns-else-i-lt9
returns-else-i-lt9 c = child_2 c.args.self _ _ (search (rules, length_under)) c.if-i-lt9.false
