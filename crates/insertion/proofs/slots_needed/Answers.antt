use Rattle.insertion.proofs.InsertCode.{need_start, needed_refused, needed_found, needed_few, needed_full, needed_whole, needed_part}
use native.Mathlib.Omega.{arith}
use Rattle.insertion.proofs.slots_needed.Goals.{else-sight-lt8, then-sight-lt8}
use Rattle.insertion.proofs.slots_needed.Goals as goal

pub loop-depth-init : goal.loop-depth-init
loop-depth-init c = (omega arith, need_start _ _ c.depth-top.ensures c.root-child.ensures)

pub returns-then-not-sight : goal.returns-then-not-sight
returns-then-not-sight c = needed_refused _ _ _ _ _ _ c.loop-depth.invariant.1 c.loop-depth-test.true c.search_at-sight.ensures c.if-not-sight.true

pub returns-then-sight : goal.returns-then-sight
returns-then-sight c = needed_found _ _ _ _ _ _ c.loop-depth.invariant.1 c.loop-depth-test.true c.search_at-sight.ensures c.if-not-sight.false c.if-sight.true

pub loop-depth-preserved : goal.loop-depth-preserved
loop-depth-preserved c = elim c.if-sight-lt8.branch [ then-sight-lt8 w ↦ rw w.run-is (omega (arith, c.loop-depth.invariant.0, c.loop-depth-test.true), needed_few _ _ _ _ _ _ c.loop-depth.invariant.1 c.loop-depth-test.true c.search_at-sight.ensures c.if-not-sight.false c.if-sight.false w.if-sight-lt8.true) | else-sight-lt8 w ↦ rw w.run-is (omega (arith, c.loop-depth.invariant.0, c.loop-depth-test.true), needed_full _ _ _ _ _ _ c.loop-depth.invariant.1 c.loop-depth-test.true c.search_at-sight.ensures c.if-not-sight.false c.if-sight.false w.if-sight-lt8.false) ]

pub returns-then-run-top : goal.returns-then-run-top
returns-then-run-top c = needed_whole _ _ _ _ _ _ c.loop-depth.invariant.1 c.loop-depth-test.false c.if-run-top.true

pub returns : goal.returns
returns c = needed_part _ _ _ _ _ _ c.loop-depth.invariant.1 c.loop-depth-test.false c.if-run-top.false
