-- `removal::remove_end` meets its contract. Assumes nothing.
use Rattle.removal.proofs.OneNodeCode.{remove_end_1, remove_end_2, remove_end_3}
use native.Mathlib.Omega.{arith}
use Rattle.removal.proofs.remove_end.Goals as goal

pub returns-in_err-leaf : goal.returns-in_err-leaf
returns-in_err-leaf c = remove_end_1 _ _ c.in_err-leaf.ensures _

pub returns-then-n-lt1 : goal.returns-then-n-lt1
returns-then-n-lt1 c = remove_end_2 _ _ c.in_ok-leaf.ensures (λ i h. omega (arith, c.slice_known-1.given i)) c.if-n-lt1.true

pub returns : goal.returns
returns c = remove_end_3 _ _ c.in_ok-leaf.ensures (λ i h. omega (arith, c.slice_known-1.given i)) c.if-n-lt1.false c.separator-sep.ensures c.remove_at.ensures c.close-came.ensures
