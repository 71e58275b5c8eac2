-- `btree::records::set_key` meets its contract. Assumes nothing.
use Rattle.btree.proofs.RunCode.{set_lem}
use Rattle.btree.proofs.records.set_key.Goals as goal

pub returns : goal.returns
returns c = set_lem _ _ c.root-root.ensures c.depth-depth.ensures _ _ _ _ _ _ c.change-outcome.ensures c.grow.ensures c.finish.ensures
