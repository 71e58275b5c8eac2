-- `removal::shrink` meets its contract. Assumes nothing.
use Rattle.outcome.proofs.Refused.{is_refused}
use Rattle.removal.proofs.OneNodeCode.{shrink_1, shrink_2, shrink_3, shrink_4}
use native.Mathlib.Omega.{arith}
use Rattle.removal.proofs.shrink.Goals as goal

pub returns-then-depth-eq0 : goal.returns-then-depth-eq0
returns-then-depth-eq0 c = shrink_1 _ _ _ c.if-depth-eq0.true

pub returns-in_err-root : goal.returns-in_err-root
returns-in_err-root c = rw (is_refused c.from_residual.result c.from_residual.ensures.0) (shrink_2 _ _ _ c.if-depth-eq0.false c.in_err-root.ensures)

pub returns-then-root-gt0 : goal.returns-then-root-gt0
returns-then-root-gt0 c = shrink_3 _ _ _ c.if-depth-eq0.false c.in_ok-root.ensures (λ i h. omega (arith, c.slice_known-1.given i)) c.if-root-gt0.true

pub returns : goal.returns
returns c = shrink_4 _ _ _ c.if-depth-eq0.false c.in_ok-root.ensures (λ i h. omega (arith, c.slice_known-1.given i)) c.if-root-gt0.false c.child-child.ensures c.free_slot.ensures c.set_root.ensures
