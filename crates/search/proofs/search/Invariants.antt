-- `search::search` meets its contract. The loop: what is left to scan, walked behind what was seen, makes the whole. Assumes nothing.
use Prim.Native.Nat.{◌-◌}
use Rattle.search.proofs.SearchCode.{Going}
use Rattle.search.proofs.search.Given as goal

abbrev pub invariant-loop-sight : goal.invariant-loop-sight
invariant-loop-sight l = Going l.turn l.leaf l.s l.key l.sight l.at

abbrev pub decreases-loop-sight : goal.decreases-loop-sight
decreases-loop-sight l = 8 - l.sight.count
