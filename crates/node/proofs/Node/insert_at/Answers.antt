-- `node::Node::insert_at` meets its contract. Assumes nothing.
use Rattle.node.proofs.EditCode.{insert_1, insert_2, insert_3}
use Rattle.node.proofs.Node.insert_at.Goals as goal

pub returns-then-count-i : goal.returns-then-count-i
returns-then-count-i c = insert_1 _ _ _ _ c.if-count-i.true

pub returns-then-count-gt7 : goal.returns-then-count-gt7
returns-then-count-gt7 c = insert_2 _ _ _ _ c.if-count-i.false c.if-count-gt7.true

pub returns : goal.returns
returns c = insert_3 _ _ _ _ c.if-count-i.false c.shift_from.ensures
