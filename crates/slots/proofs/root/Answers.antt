-- `slots::root` meets its contract. Assumes nothing.
use Rattle.slots.specs.Layout.{root_of}
use Rattle.slots.proofs.root.Goals as goal

pub returns : goal.returns
unfolding root_of
returns c = c.read_u64.ensures
