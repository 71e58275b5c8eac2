-- `search::Sight::go_on` meets its contract. The loop: what is handed back of the rest is so of the whole. Assumes nothing.
use Prim.Native.Nat.{◌-◌}
use Rattle.search.specs.declared.Sight.{Sight}
use Rattle.search.specs.Search.{GoesOn}
use Rattle.search.proofs.Sight.go_on.Given as goal

abbrev pub invariant-loop-sight : goal.invariant-loop-sight
invariant-loop-sight l = (r : Sight) → GoesOn l.leaf l.s l.sight l.at r → GoesOn l.leaf l.s l.initial.sight l.initial.at r

abbrev pub decreases-loop-sight : goal.decreases-loop-sight
decreases-loop-sight l = 8 - l.sight.count
