-- `node::Node::split` meets its contract. Assumes nothing.
use Rattle.node.proofs.EditCode.{split_1, split_2, split_3}
use Rattle.node.proofs.Node.split.Goals as goal

pub returns-then-at-lt4 : goal.returns-then-at-lt4
returns-then-at-lt4 c = split_1 _ _ _ _ c.if-at-lt4.true c.keep.ensures c.insert_at-self.ensures c.separator-middle.ensures c.rest-right.ensures

pub returns-then-at-gt4 : goal.returns-then-at-gt4
returns-then-at-gt4 c = split_2 _ _ _ _ c.if-at-lt4.false c.if-at-gt4.true c.keep-self.ensures c.separator-middle-then-at-gt4.ensures c.rest.ensures c.insert_at-right.ensures

pub returns : goal.returns
returns c = split_3 _ _ _ _ c.if-at-lt4.false c.if-at-gt4.false c.keep-self-2.ensures c.rest-2.ensures c.set_child-right.ensures
