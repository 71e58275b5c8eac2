-- `removal::borrow_left` meets its contract. Assumes nothing.
use Rattle.removal.proofs.RemoveCode.{borrow_left_1, borrow_left_2}
use Rattle.removal.proofs.borrow_left.Goals as goal

pub returns-then-n-lt1 : goal.returns-then-n-lt1
returns-then-n-lt1 c = borrow_left_1 _ _ _ _ _ c.if-n-lt1.true

pub returns : goal.returns
returns c = borrow_left_2 _ _ _ _ _ c.if-n-lt1.false c.separator-moved.ensures c.child-child.ensures c.separator-down.ensures c.remove_at.ensures c.write_node.ensures c.push_front.ensures c.write_node-2.ensures c.set_separator.ensures c.close.ensures
