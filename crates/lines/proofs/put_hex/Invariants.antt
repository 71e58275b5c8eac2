-- `lines::put_hex` meets its contract. The loop: i bytes stand in hex. Assumes nothing.
use Rattle.lines.proofs.WriteLaws.{Hexed}
use Rattle.lines.proofs.put_hex.Given as goal

abbrev pub invariant-loop-i : goal.invariant-loop-i
invariant-loop-i l = Hexed l.initial.dst l.key l.i l.dst
