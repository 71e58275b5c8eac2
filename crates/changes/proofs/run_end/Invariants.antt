-- `changes::run_end` meets its contract. The loop: what is left of the run decides. Assumes nothing.
use Rattle.changes.proofs.RunAtLaws.{RunLeft}
use Rattle.changes.proofs.run_end.Given as goal

abbrev pub invariant-loop-size : goal.invariant-loop-size
invariant-loop-size l = RunLeft l.records l.at l.from l.len l.last l.next l.size
