-- `btree::change::settle` meets its contract. Assumes nothing.
use Rattle.btree.proofs.ChangeCode.{settle_1, settle_2, settle_3}
use Rattle.btree.proofs.change.settle.Goals as goal

pub returns-in-Plain : goal.returns-in-Plain
returns-in-Plain c = settle_1 _ _ _ _ _ c.in-Plain.is

pub returns-in-Split : goal.returns-in-Split
returns-in-Split c = settle_2 _ _ _ _ _ c.in-Split.is c.insert_node.ensures

pub returns-in-Low : goal.returns-in-Low
returns-in-Low c = settle_3 _ _ _ _ _ c.in-Low.is c.rebalance.ensures
