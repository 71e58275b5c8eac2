-- `word::is_zero` meets its contract. The loop: the largest of the bytes so far is 0 exactly if all of them are. Assumes nothing.
use mathlib.Core.Path.{◌≡◌}
use Prim.Native.Nat.{◌≤◌}
use lib.ListN.{take}
use lib.Dec.{eqb}
use Rattle.word.specs.Num.{all_zero}
use Rattle.word.proofs.is_zero.Given as goal

abbrev pub invariant-loop-b : goal.invariant-loop-b
invariant-loop-b l = (l.b-index ≤ l.b-index-end) × (eqb l.most 0 ≡ all_zero (take l.b-index l.b-items))
