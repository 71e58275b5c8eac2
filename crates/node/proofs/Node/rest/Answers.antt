-- `node::Node::rest` meets its contract. Assumes nothing.
use borrow.Author.Rules.{rules}
use Rattle.node.proofs.EditCode.{length_under, rest_1, rest_2}
use Rattle.node.proofs.Node.rest.Goals as goal

pub returns-then-m-le8 : goal.returns-then-m-le8
returns-then-m-le8 c = rest_2 c.args.self (search (rules, length_under), search (rules, length_under), search rules, search rules) _ c.if-m-le8.true c.enter_behind.ensures c.enter_behind-then-m-le8.ensures c.enter_behind-then-m-le8-2.ensures c.enter_behind-then-m-le8-3.ensures c.saturating_sub.ensures

pub returns-else-m-le8 : goal.returns-else-m-le8
returns-else-m-le8 c = rest_1 _ _ c.if-m-le8.false
