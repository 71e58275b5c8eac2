-- `btree::records::remove_key` meets its contract. Assumes nothing.
use Rattle.btree.proofs.RunCode.{remove_1, remove_2, remove_3, remove_4}
use Rattle.std.proofs.lemmas.Result.{err_from_is_err_and}
use Rattle.btree.proofs.records.remove_key.Goals as goal

pub returns-in_err-came : goal.returns-in_err-came
returns-in_err-came c = let p = err_from_is_err_and c.from_residual.result c.from_residual.ensures.1 in rw (p.1, p.2) (remove_1 _ _ c.root-root.ensures c.depth-depth.ensures _ c.in_err-came.ensures)

pub returns-in-Plain : goal.returns-in-Plain
returns-in-Plain c = remove_2 _ _ c.root-root.ensures c.depth-depth.ensures _ _ c.in_ok-came.ensures c.in-Plain.is

pub returns-in-Split : goal.returns-in-Split
returns-in-Split c = remove_3 _ _ c.root-root.ensures c.depth-depth.ensures _ _ c.in_ok-came.ensures _ _ c.in-Split.is

pub returns-in-Low : goal.returns-in-Low
returns-in-Low c = remove_4 _ _ c.root-root.ensures c.depth-depth.ensures _ _ c.in_ok-came.ensures _ _ _ c.in-Low.is c.shrink.ensures c.finish.ensures
