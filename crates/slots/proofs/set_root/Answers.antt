-- `slots::set_root` meets its contract. Assumes nothing.
use Rattle.std.proofs.Common.{arith}
use Rattle.slots.specs.Mirror.{set_root}
use Rattle.slots.proofs.set_root.Goals as goal

pub returns : goal.returns
unfolding set_root
returns c = grind arith
