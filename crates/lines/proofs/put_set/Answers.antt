-- `lines::put_set` meets its contract: a law for each way through it. Assumes nothing.
use Rattle.lines.proofs.PutLaws.{set_1, set_2, set_3}
use Rattle.lines.proofs.put_set.Goals as goal

pub returns-in_err-t : goal.returns-in_err-t
returns-in_err-t c = rw c.from_residual.ensures (set_1 _ c.find.ensures _ _ _ c.in_err-t.was)

pub returns-in_err-value : goal.returns-in_err-value
returns-in_err-value c = rw c.from_residual-in_err-value.ensures (set_2 _ c.find.ensures c.in_ok-t.was c.decimal.ensures _ _ _ c.in_err-value.was)

pub returns : goal.returns
returns c = set_3 _ c.find.ensures c.in_ok-t.was c.decimal.ensures _ _ _ _ _ c.in_ok-value.was c.put.ensures
