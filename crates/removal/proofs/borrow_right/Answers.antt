-- `removal::borrow_right` meets its contract. Assumes nothing.
use Rattle.removal.proofs.RemoveCode.{borrow_right_1, borrow_right_2}
use Rattle.removal.proofs.borrow_right.Goals as goal

pub returns-then-right-lt1 : goal.returns-then-right-lt1
returns-then-right-lt1 c = borrow_right_1 _ _ _ _ _ c.if-right-lt1.true

pub returns : goal.returns
returns c = borrow_right_2 _ _ _ _ _ c.if-right-lt1.false c.separator-moved.ensures c.child-child.ensures c.separator-down.ensures c.insert_at.ensures c.write_node.ensures c.pop_front.ensures c.write_node-2.ensures c.set_separator.ensures c.close.ensures
