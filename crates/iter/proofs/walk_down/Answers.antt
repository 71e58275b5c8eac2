use mathlib.Core.Path.{refl}
use native.Mathlib.Omega.{arith}
use Rattle.iter.proofs.CodeLaws.{down_1, down_2, down_3, down_4}
use Rattle.iter.proofs.walk_down.Goals as goal

pub loop-level-init : goal.loop-level-init
loop-level-init c = refl

pub returns-then-not-sight : goal.returns-then-not-sight
returns-then-not-sight c = down_1 _ _ _ _ _ _ _ _ c.loop-level.invariant c.search_at-sight.ensures c.if-not-sight.true

pub returns-then-stops : goal.returns-then-stops
returns-then-stops c = down_2 _ _ _ _ _ _ _ _ c.loop-level.invariant c.search_at-sight.ensures c.if-not-sight.false c.stops.ensures c.if-stops.true c.here.ensures

pub loop-level-preserved : goal.loop-level-preserved
loop-level-preserved c = down_4 _ _ _ _ _ _ _ _ c.loop-level.invariant c.search_at-sight.ensures c.if-not-sight.false c.stops.ensures c.if-stops.false c.taken-last.ensures (λ z. omega (arith, z))

pub returns-else-stops : goal.returns-else-stops
returns-else-stops c = down_3 _ _ _ _ _ _ _ _ c.loop-level.invariant c.search_at-sight.ensures c.if-not-sight.false c.stops.ensures c.if-stops.false c.taken-last.ensures (omega arith)
