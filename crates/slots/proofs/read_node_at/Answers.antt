-- `slots::read_node_at` meets its contract. Assumes nothing.
use Rattle.std.proofs.Common.{arith}
use Rattle.word.specs.Pick.{pick}
use Rattle.slots.specs.Code.{bytes_in, reading_in, reading_at}
use Rattle.slots.proofs.read_node_at.Goals as goal

pub returns-then-not-fits_depth : goal.returns-then-not-fits_depth
unfolding bytes_in reading_in reading_at pick
returns-then-not-fits_depth c = grind arith

pub returns : goal.returns
unfolding bytes_in reading_in reading_at pick
returns c = grind arith
