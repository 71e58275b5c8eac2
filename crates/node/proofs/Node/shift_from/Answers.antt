-- `node::Node::shift_from` meets its contract. Assumes nothing.
use borrow.Author.Rules.{rules}
use Rattle.node.proofs.EditCode.{length_under, shift_1, shift_2}
use Rattle.node.proofs.Node.shift_from.Goals as goal

pub returns-then-self-lt8 : goal.returns-then-self-lt8
returns-then-self-lt8 c = shift_2 c.args.self _ _ _ _ (search (rules, length_under), search (rules, length_under), search rules, search rules) c.if-self-lt8.true c.open.ensures c.open-then-self-lt8.ensures c.open-then-self-lt8-2.ensures c.open_keys.ensures

pub returns-else-self-lt8 : goal.returns-else-self-lt8
returns-else-self-lt8 c = shift_1 _ _ _ _ _ c.if-self-lt8.false
