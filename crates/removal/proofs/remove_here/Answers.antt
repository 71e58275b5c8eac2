-- `removal::remove_here` meets its contract. Assumes nothing.
use Rattle.removal.proofs.OneNodeCode.{remove_here_1, remove_here_2}
use native.Mathlib.Omega.{arith}
use Rattle.removal.proofs.remove_here.Goals as goal

pub returns-in_err-leaf : goal.returns-in_err-leaf
returns-in_err-leaf c = remove_here_1 _ _ c.in_err-leaf.ensures _ _

pub returns : goal.returns
returns c = remove_here_2 _ _ c.in_ok-leaf.ensures (λ i h. omega (arith, c.slice_known-1.given i)) _ c.remove_at.ensures c.close.ensures
