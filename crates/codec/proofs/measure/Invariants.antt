-- `codec::measure` meets its contract. The loop: the lengths that are left are added to those added already. Assumes nothing.
use Prim.Native.Nat.{ℕ, ◌+◌, ◌*◌, ◌≤◌, ◌<◌, ◌-◌}
use mathlib.Core.Path.{◌≡◌}
use lib.ListN.{drop, get_or}
use Rattle.codec.specs.Mirror.{width_first}
use Rattle.codec.proofs.measure.Given as goal

abbrev pub invariant-loop-i : goal.invariant-loop-i
invariant-loop-i l = record {
  few : l.node.count ≤ 8;
  small : l.len ≤ 8 + 309 * l.i;
  short : (j : ℕ) → j < l.node.count → get_or l.node.lens j 0 ≤ 288;
  left : width_first 8 l.node.count l.node.lens ≡ width_first l.len (l.node.count - l.i) (drop l.i l.node.lens);
}
