-- `node::edit::close_keys` meets its contract. Assumes nothing.
use borrow.Author.Rules.{rules}
use Rattle.node.proofs.EditCode.{closed_keys, closed_past}
use Rattle.node.proofs.edit.close_keys.Goals as goal

pub returns-then-i-lt8 : goal.returns-then-i-lt8
returns-then-i-lt8 c = closed_keys _ _ (search rules) c.if-i-lt8.true c.enter_behind.ensures

pub returns-else-i-lt8 : goal.returns-else-i-lt8
returns-else-i-lt8 c = closed_past _ _ (search rules) c.if-i-lt8.false
