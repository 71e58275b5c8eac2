-- `slots::first_free` meets its contract. Assumes nothing.
use Rattle.slots.specs.Layout.{first_of}
use Rattle.slots.proofs.first_free.Goals as goal

pub returns : goal.returns
unfolding first_of
returns c = c.read_u32.ensures
