-- `lines::put_decimal` meets its contract. The loop: the last digits stand at their place. Assumes nothing.
use Rattle.lines.proofs.WriteLaws.{Standing}
use Rattle.lines.proofs.put_decimal.Given as goal

abbrev pub invariant-loop-i : goal.invariant-loop-i
invariant-loop-i l = Standing l.initial.dst l.at l.value l.v l.i l.dst
