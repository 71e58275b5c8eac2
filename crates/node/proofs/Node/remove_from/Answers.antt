-- `node::Node::remove_from` meets its contract. Assumes nothing.
use borrow.Author.Rules.{rules}
use Rattle.node.proofs.EditCode.{length_under, remove_1, remove_2}
use Rattle.node.proofs.Node.remove_from.Goals as goal

pub returns-then-self-gt0 : goal.returns-then-self-gt0
returns-then-self-gt0 c = remove_2 c.args.self _ _ (search (rules, length_under), search (rules, length_under), search rules, search rules) c.if-self-gt0.true c.close.ensures c.close-then-self-gt0.ensures c.close-then-self-gt0-2.ensures c.close_keys.ensures

pub returns-else-self-gt0 : goal.returns-else-self-gt0
returns-else-self-gt0 c = remove_1 _ _ _ c.if-self-gt0.false
