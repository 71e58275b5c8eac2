-- `audit::walk_chain` meets its contract. The loop: i slots are walked, the rest of the chain decides. Assumes nothing.
use Prim.Native.Nat.{◌<◌, ◌^◌}
use Rattle.audit.proofs.ChainCode.{ChainLeft}
use Rattle.audit.proofs.walk_chain.Given as goal

abbrev pub invariant-loop-i : goal.invariant-loop-i
invariant-loop-i l = (l.slot < 2 ^ 32) × ChainLeft l.store l.marks l.count l.i l.slot
