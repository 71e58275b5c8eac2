-- `insertion::slots_needed` meets its contract. The loop: the nodes from here down, with the row of full ones so far, decide. Assumes nothing.
use Prim.Native.Nat.{◌+◌, ◌≤◌}
use Rattle.insertion.proofs.InsertCode.{NeedLeft}
use Rattle.insertion.proofs.slots_needed.Given as goal

abbrev pub invariant-loop-depth : goal.invariant-loop-depth
invariant-loop-depth l = (l.run + l.depth ≤ l.top + 1) × NeedLeft l.store l.key l.top l.depth l.child.0 l.run
