-- `slots::count` meets its contract. Assumes nothing.
use Rattle.slots.specs.Layout.{count_of}
use Rattle.slots.proofs.count.Goals as goal

pub returns : goal.returns
unfolding count_of
returns c = c.read_u32.ensures
