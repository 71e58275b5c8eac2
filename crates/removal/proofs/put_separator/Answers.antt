-- `removal::put_separator` meets its contract. Assumes nothing.
use Rattle.outcome.proofs.Refused.{is_refused}
use Rattle.removal.proofs.OneNodeCode.{put_separator_1, put_separator_2, put_separator_3}
use native.Mathlib.Omega.{arith}
use Rattle.removal.proofs.put_separator.Goals as goal

pub returns-in_err-over : goal.returns-in_err-over
returns-in_err-over c = rw (is_refused c.from_residual.result c.from_residual.ensures.0) (put_separator_1 _ _ _ _ _ c.in_err-over.ensures)

pub returns-then-at-over : goal.returns-then-at-over
returns-then-at-over c = put_separator_2 _ _ _ _ _ c.in_ok-over.ensures (λ i h. omega (arith, c.slice_known-1.given i)) c.if-at-over.true c.set_separator.ensures c.write_node.ensures

pub returns : goal.returns
returns c = put_separator_3 _ _ _ _ _ c.in_ok-over.ensures (λ i h. omega (arith, c.slice_known-1.given i)) c.if-at-over.false c.write_node-2.ensures
