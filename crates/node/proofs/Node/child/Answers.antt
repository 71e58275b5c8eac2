-- `node::Node::child` meets its contract. Assumes nothing.
use Rattle.node.proofs.EditCode.{length_under, no_child}
use borrow.Author.Rules.{rules}
use Rattle.node.proofs.Node.child.Goals as goal

pub returns-then-i-gt8 : goal.returns-then-i-gt8
returns-then-i-gt8 c = no_child c.args.self _ (search (rules, length_under)) c.if-i-gt8.true
