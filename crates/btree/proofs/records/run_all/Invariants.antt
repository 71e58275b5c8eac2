-- `btree::records::run_all` meets its contract. Assumes nothing.
use mathlib.Core.Path.{◌≡◌}
use Prim.Native.Nat.{◌*◌, ◌^◌, ◌≤◌}
use Rattle.std.specs.Prelude.{Ok}
use Rattle.changes.specs.Records.{check_of}
use Rattle.btree.proofs.RunsCode.{RunsLeft}
use Rattle.btree.proofs.records.run_all.Given as goal

abbrev pub invariant-loop : goal.invariant-loop
invariant-loop l = (l.applied ≤ l.counter * 2 ^ 32) × (check_of l.records ≡ Ok tt → RunsLeft l.records l.initial.store l.store l.at l.applied l.counter)
