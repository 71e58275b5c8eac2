-- `iter::spot_for` meets its contract. Assumes nothing.
use Rattle.std.proofs.lemmas.Result.{err_from_is_err_and}
use Rattle.iter.proofs.CodeLaws.{check_fits, spot_for_1, spot_for_2}
use Rattle.iter.proofs.spot_for.Goals as goal

pub returns-in_err-check : goal.returns-in_err-check
returns-in_err-check c = let p = err_from_is_err_and c.from_residual.result c.from_residual.ensures.1 in rw (p.1, p.2) (spot_for_1 _ _ _ _ c.length-len.ensures c.check.ensures c.in_err-check.was)

pub shared_ref_as_front-walk : goal.shared_ref_as_front-walk
shared_ref_as_front-walk c = check_fits _ _ c.check.ensures c.in_ok-check.was

pub returns : goal.returns
returns c = spot_for_2 _ _ _ _ c.length-len.ensures c.check.ensures c.in_ok-check.was c.walk.ensures
