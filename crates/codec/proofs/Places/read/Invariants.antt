-- `codec::Places::read` meets its contract. The loop: what is left to scan, filled in behind what was read, makes the whole. Assumes nothing.
use Rattle.codec.proofs.FillLaws.{Left}
use Rattle.codec.proofs.Places.read.Given as goal

abbrev pub invariant-loop-i : goal.invariant-loop-i
invariant-loop-i l = Left l.s l.places l.at l.i
