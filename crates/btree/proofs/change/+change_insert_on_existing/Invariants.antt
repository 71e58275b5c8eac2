-- `btree::change::change`, `insert` and `on_existing`, which call each other, meet their contracts: the depth falls. Assumes nothing.
use Prim.Native.Nat.{◌+◌, ◌*◌}
use Rattle.btree.proofs.change.+change_insert_on_existing.Given as goal

abbrev pub decreases-change : goal.decreases-change
decreases-change l = l.depth * 2 + 1

abbrev pub decreases-insert : goal.decreases-insert
decreases-insert l = l.depth * 2

abbrev pub decreases-on_existing : goal.decreases-on_existing
decreases-on_existing l = l.depth * 2
