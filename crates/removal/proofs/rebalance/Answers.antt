-- `removal::rebalance` meets its contract. Assumes nothing.
use Rattle.outcome.proofs.Refused.{is_refused}
use Rattle.removal.proofs.RebalanceCode.{rebalance_1, rebalance_2, rebalance_3, rebalance_4, rebalance_5, rebalance_6, rebalance_7, rebalance_8}
use native.Mathlib.Omega.{arith}
use Rattle.removal.proofs.rebalance.Goals as goal

pub returns-then-depth-eq0 : goal.returns-then-depth-eq0
returns-then-depth-eq0 c = rebalance_1 _ _ _ _ c.if-depth-eq0.true

pub returns-in_err-over : goal.returns-in_err-over
returns-in_err-over c = rw (is_refused c.from_residual.result c.from_residual.ensures.0) (rebalance_2 _ _ _ _ c.in_err-over.ensures)

pub returns-in_err-low : goal.returns-in_err-low
returns-in_err-low c = rw (is_refused c.from_residual-in_err-low.result c.from_residual-in_err-low.ensures.0) (rebalance_3 _ _ _ _ c.if-depth-eq0.false c.in_ok-over.ensures (λ i h. omega (arith, c.slice_known-1.given i)) c.min-at.ensures c.child.ensures c.in_err-low.ensures)

pub returns-then-low-gt3 : goal.returns-then-low-gt3
returns-then-low-gt3 c = rebalance_4 _ _ _ _ c.if-depth-eq0.false c.in_ok-over.ensures (λ i h. omega (arith, c.slice_known-1.given i)) c.min-at.ensures c.child.ensures c.in_ok-low.ensures c.if-low-gt3.true

pub returns-then-count-lt1 : goal.returns-then-count-lt1
returns-then-count-lt1 c = rebalance_5 _ _ _ _ c.if-depth-eq0.false c.in_ok-over.ensures (λ i h. omega (arith, c.slice_known-1.given i)) c.min-at.ensures c.child.ensures c.in_ok-low.ensures c.if-low-gt3.false c.if-count-lt1.true

pub returns-then-at-eq0 : goal.returns-then-at-eq0
returns-then-at-eq0 c = rebalance_6 _ _ _ _ _ _ _ _ c.if-depth-eq0.false c.in_ok-over.ensures (λ i h. omega (arith, c.slice_known-1.given i)) c.min-at.ensures c.child.ensures c.in_ok-low.ensures c.if-low-gt3.false c.if-count-lt1.false c.if-at-eq0.true c.with_right.ensures

pub returns-in_err-left : goal.returns-in_err-left
returns-in_err-left c = rw (is_refused c.from_residual-in_err-left.result c.from_residual-in_err-left.ensures.0) (rebalance_7 _ _ _ _ c.if-depth-eq0.false c.in_ok-over.ensures (λ i h. omega (arith, c.slice_known-1.given i)) c.min-at.ensures c.child.ensures c.in_ok-low.ensures c.if-low-gt3.false c.if-at-eq0.false c.child-2.ensures c.in_err-left.ensures)

pub returns : goal.returns
returns c = rebalance_8 _ _ _ _ _ _ _ _ c.if-depth-eq0.false c.in_ok-over.ensures (λ i h. omega (arith, c.slice_known-1.given i)) c.min-at.ensures c.child.ensures c.in_ok-low.ensures c.if-low-gt3.false _ c.if-at-eq0.false c.child-2.ensures c.in_ok-left.ensures c.with_left.ensures
