-- `lines::unhex` meets its contract. The loop: i bytes of the key stand at their place. Assumes nothing.
use Rattle.lines.proofs.HexLaws.{Unhexed}
use Rattle.lines.proofs.unhex.Given as goal

abbrev pub invariant-loop-i : goal.invariant-loop-i
invariant-loop-i l = Unhexed l.field l.initial.dst l.at l.i l.dst
