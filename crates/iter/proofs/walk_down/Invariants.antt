-- `iter::walk_down` meets its contract. The loop: what is left of the walk makes the whole. Assumes nothing.
use Prim.Native.Nat.{suc}
use Rattle.iter.specs.Mirror.{walk_down}
use Rattle.iter.proofs.CodeLaws.{WalkLeft}
use Rattle.iter.proofs.walk_down.Given as goal

abbrev pub invariant-loop-level : goal.invariant-loop-level
invariant-loop-level l = WalkLeft l.turn l.aim l.key l.store (walk_down l.turn l.aim l.key (suc l.initial.level) l.store l.initial.at l.initial.last) l.level l.at l.last
