-- `codec::write` meets its contract. The loop: the first i separators stand in standard form at the front. Assumes nothing.
use Prim.Native.Nat.{◌≤◌}
use mathlib.Core.Path.{◌≡◌}
use lib.ListN.{length}
use Rattle.codec.proofs.WriteLaws.{Measured, WriteLeft}
use Rattle.codec.proofs.write.Given as goal

abbrev pub invariant-loop-i : goal.invariant-loop-i
invariant-loop-i l = record {
  room : l.len ≤ length l.initial.dst;
  fine : Measured l.node l.len;
  left : WriteLeft l.node l.initial.dst l.dst l.at l.i;
  keys : length l.node.keys ≡ 2304;
}
