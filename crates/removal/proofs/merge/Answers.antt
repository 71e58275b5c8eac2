-- `removal::merge` meets its contract. Assumes nothing.
use Rattle.removal.proofs.RemoveCode.{merge_1}
use Rattle.removal.proofs.merge.Goals as goal

pub returns : goal.returns
returns c = merge_1 _ _ _ _ _ c.separator-down.ensures c.free_slot.ensures c.join.ensures c.write_node.ensures c.remove_at.ensures c.close.ensures
