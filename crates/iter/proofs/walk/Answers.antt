-- `iter::walk` meets its contract. Assumes nothing.
use Rattle.iter.proofs.CodeLaws.{walk_1, walk_2, walk_3}
use Rattle.iter.proofs.walk.Goals as goal

pub returns-then-root-eq0 : goal.returns-then-root-eq0
returns-then-root-eq0 c = walk_1 _ _ _ _ _ c.root-root.ensures c.if-root-eq0.true

pub returns-in-None : goal.returns-in-None
returns-in-None c = walk_2 _ _ _ _ _ c.root-root.ensures c.if-root-eq0.false c.in-None.is

pub returns-in-Some : goal.returns-in-Some
returns-in-Some c = walk_3 _ _ _ _ _ c.root-root.ensures c.if-root-eq0.false c.in-Some.is c.depth.ensures c.walk_down.ensures
