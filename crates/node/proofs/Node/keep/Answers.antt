-- `node::Node::keep` meets its contract. Assumes nothing.
use borrow.Author.Rules.{rules}
use Rattle.node.proofs.EditCode.{length_under, keep_1, keep_2}
use Rattle.node.proofs.Node.keep.Goals as goal

pub returns-then-m-le8 : goal.returns-then-m-le8
returns-then-m-le8 c = keep_2 c.args.self (search (rules, length_under), search (rules, length_under), search rules, search rules) _ c.if-m-le8.true (c.fill.ensures.after (λ y h. h)) (c.fill-then-m-le8.ensures.after (λ y h. h)) (c.fill-then-m-le8-2.ensures.after (λ y h. h)) (c.fill-then-m-le8-3.ensures.after (λ y h. h))

pub returns-else-m-le8 : goal.returns-else-m-le8
returns-else-m-le8 c = keep_1 _ _ c.if-m-le8.false
