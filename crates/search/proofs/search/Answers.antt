use Rattle.word.proofs.AtLaws.{fitted}
use Rattle.codec.proofs.ScanLaws.{head_within}
use Rattle.search.proofs.SearchCode.{going_start, going_short, going_misfit, going_whole, going_end, going_low, going_turn, going_behind, going_last}
use native.Mathlib.Omega.{arith}
use Rattle.search.proofs.search.Goals as goal

pub loop-sight-init : goal.loop-sight-init
loop-sight-init c = going_start _ _ _ _ c.start-sight.ensures

pub returns-then-not-fits : goal.returns-then-not-fits
returns-then-not-fits c = going_short _ _ _ _ _ _ c.loop-sight.invariant c.loop-sight-test.true c.fits.ensures c.if-not-fits.true-raw c.spoilt.ensures

pub returns-then-is_misfit : goal.returns-then-is_misfit
returns-then-is_misfit c = going_misfit _ _ _ _ _ _ c.loop-sight.invariant c.loop-sight-test.true c.fits.ensures c.if-not-fits.false-raw c.read_u64.ensures c.is_misfit.ensures c.if-is_misfit.true c.spoilt-then-is_misfit.ensures

pub overflow_add-at : goal.overflow_add-at
overflow_add-at c = omega (arith, fitted _ _ _ c.fits.ensures c.if-not-fits.false)

pub returns-then-at-s : goal.returns-then-at-s
returns-then-at-s c = going_whole _ _ _ _ _ _ c.loop-sight.invariant c.loop-sight-test.true c.fits.ensures c.if-not-fits.false-raw c.read_u64.ensures c.is_misfit.ensures c.if-is_misfit.false c.if-at-s.true

pub returns-in_default : goal.returns-in_default
returns-in_default c = going_end _ _ _ _ _ _ c.loop-sight.invariant c.loop-sight-test.true c.fits.ensures c.if-not-fits.false-raw c.read_u64.ensures c.is_misfit.ensures c.if-is_misfit.false c.if-at-s.false c.read_separator.ensures c.in_default.is c.spoilt-in_default.ensures

pub returns-then-not-head : goal.returns-then-not-head
returns-then-not-head c = going_low _ _ _ _ _ _ c.loop-sight.invariant c.loop-sight-test.true c.fits.ensures c.if-not-fits.false-raw c.read_u64.ensures c.is_misfit.ensures c.if-is_misfit.false c.if-at-s.false c.read_separator.ensures c.in-Ok.is c.if-not-head.true c.spoilt-then-not-head.ensures

pub overflow_add-at-in-loop-sight : goal.overflow_add-at-in-loop-sight
overflow_add-at-in-loop-sight c = omega (arith, head_within _ _ c.read_separator.ensures c.in-Ok.is, c.well_formed.0.0)

pub returns-then-not-passes : goal.returns-then-not-passes
returns-then-not-passes c = going_turn _ _ _ _ _ _ c.loop-sight.invariant c.loop-sight-test.true c.fits.ensures c.if-not-fits.false-raw c.read_u64.ensures c.is_misfit.ensures c.if-is_misfit.false c.if-at-s.false c.read_separator.ensures c.in-Ok.is c.if-not-head.false c.compare_part-order.ensures c.passes.ensures c.if-not-passes.true-raw c.meets.ensures c.turn_at-there.ensures c.go_on.ensures

pub loop-sight-preserved : goal.loop-sight-preserved
loop-sight-preserved c = going_behind _ _ _ _ _ _ c.loop-sight.invariant c.loop-sight-test.true c.fits.ensures c.if-not-fits.false-raw c.read_u64.ensures c.is_misfit.ensures c.if-is_misfit.false c.if-at-s.false c.read_separator.ensures c.in-Ok.is c.if-not-head.false c.compare_part-order.ensures c.passes.ensures c.if-not-passes.false-raw c.go_behind-sight.ensures

pub returns : goal.returns
returns c = going_last _ _ _ _ _ _ c.loop-sight.invariant c.loop-sight-test.false c.end_last.ensures
