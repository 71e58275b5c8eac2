-- `node::edit::open_keys` meets its contract. Assumes nothing.
use borrow.Author.Rules.{rules}
use Rattle.node.proofs.EditCode.{opened_keys, opened_past}
use Rattle.node.proofs.edit.open_keys.Goals as goal

pub returns-then-i-lt8 : goal.returns-then-i-lt8
returns-then-i-lt8 c = opened_keys _ _ (search rules) _ c.if-i-lt8.true c.enter_front.ensures

pub returns-else-i-lt8 : goal.returns-else-i-lt8
returns-else-i-lt8 c = opened_past _ _ (search rules) _ c.if-i-lt8.false
