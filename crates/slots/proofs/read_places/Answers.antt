-- `slots::read_places` meets its contract. Assumes nothing.
use Rattle.std.proofs.Common.{arith}
use Rattle.slots.specs.Code.{bytes_in, places_in}
use Rattle.slots.proofs.read_places.Goals as goal

pub returns : goal.returns
unfolding bytes_in places_in
returns c = grind arith
