-- `slots::depth` meets its contract. Assumes nothing.
use Rattle.slots.specs.Layout.{depth_of}
use Rattle.slots.proofs.depth.Goals as goal

pub returns : goal.returns
unfolding depth_of
returns c = c.read_u32.ensures
