-- `codec::strict_end` meets its contract. The loop: what is left to read says how the whole ends. Assumes nothing.
use Rattle.codec.proofs.StrictCode.{LeftOver}
use Rattle.codec.proofs.strict_end.Given as goal

abbrev pub invariant-loop : goal.invariant-loop
invariant-loop l = LeftOver l.s l.at l.counter
