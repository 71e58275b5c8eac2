-- `btree::change::remove_last` meets its contract. Assumes nothing.
use Rattle.btree.proofs.change.+remove_last.Given as goal

abbrev pub decreases-remove_last : goal.decreases-remove_last
decreases-remove_last l = l.depth
