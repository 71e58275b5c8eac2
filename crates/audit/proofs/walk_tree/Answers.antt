-- `audit::walk_tree` meets its contract. Assumes nothing.
use Rattle.audit.proofs.WholeCode.{tree_1}
use Rattle.audit.proofs.walk_tree.Goals as goal

pub returns : goal.returns
returns c = tree_1 _ _ c.root-root.ensures c.depth-depth.ensures c.if-root-eq0.false _ _ c.if-depth-gt-MOST_DEPTH.false c.root_least.ensures c.visit.ensures c.is_ok.ensures.value
