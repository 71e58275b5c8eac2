-- `changes::check` meets its contract. The loop: what is left to check decides. Assumes nothing.
use Rattle.changes.proofs.CheckLaws.{Left}
use Rattle.changes.proofs.check.Given as goal

abbrev pub invariant-loop : goal.invariant-loop
invariant-loop l = Left l.records l.at l.before l.len l.counter
