-- `removal::with_right` meets its contract. Assumes nothing.
use Rattle.outcome.proofs.Refused.{is_refused}
use Rattle.removal.proofs.RebalanceCode.{with_right_1, with_right_2, with_right_3, with_right_4}
use native.Mathlib.Omega.{arith}
use Rattle.removal.proofs.with_right.Goals as goal

pub returns-then-at-gt7 : goal.returns-then-at-gt7
returns-then-at-gt7 c = with_right_1 _ _ _ _ _ _ c.if-at-gt7.true

pub returns-in_err-right : goal.returns-in_err-right
returns-in_err-right c = rw (is_refused c.from_residual.result c.from_residual.ensures.0) (with_right_2 _ _ _ _ _ c.child-child.ensures c.in_err-right.ensures)

pub returns-then-right-gt4 : goal.returns-then-right-gt4
returns-then-right-gt4 c = with_right_3 _ _ _ _ _ _ (λ i h. omega (arith, c.slice_known-1.given i)) c.child-child.ensures c.in_ok-right.ensures _ _ c.if-right-gt4.true c.borrow_right.ensures

pub returns : goal.returns
returns c = with_right_4 _ _ _ _ _ _ (λ i h. omega (arith, c.slice_known-1.given i)) c.child-child.ensures c.in_ok-right.ensures _ _ c.if-right-gt4.false c.merge.ensures
