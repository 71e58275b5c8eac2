-- `slots::has_size` meets its contract. Assumes nothing.
use Rattle.std.proofs.Common.{arith}
use Rattle.slots.specs.Code.{has_size}
use Rattle.slots.proofs.has_size.Goals as goal

pub returns-then-contains : goal.returns-then-contains
unfolding has_size
returns-then-contains c = grind arith

pub returns-else-contains : goal.returns-else-contains
unfolding has_size
returns-else-contains c = grind arith
