use Rattle.word.proofs.AtLaws.{fitted}
use Rattle.codec.proofs.ScanLaws.{head_within}
use Rattle.search.proofs.SearchCode.{on_short, on_misfit, on_whole, on_end, on_low, on_spot, on_last}
use native.Mathlib.Omega.{arith}
use Rattle.search.proofs.Sight.go_on.Goals as goal

pub returns-then-not-fits : goal.returns-then-not-fits
returns-then-not-fits c = c.loop-sight.invariant _ (on_short _ _ _ _ c.loop-sight-test.true c.fits.ensures c.if-not-fits.true-raw c.spoilt.ensures)

pub returns-then-is_misfit : goal.returns-then-is_misfit
returns-then-is_misfit c = c.loop-sight.invariant _ (on_misfit _ _ _ _ c.loop-sight-test.true c.fits.ensures c.if-not-fits.false-raw c.read_u64.ensures c.is_misfit.ensures c.if-is_misfit.true c.spoilt-then-is_misfit.ensures)

pub overflow_add-at : goal.overflow_add-at
overflow_add-at c = omega (arith, fitted _ _ _ c.fits.ensures c.if-not-fits.false)

pub returns-then-at-s : goal.returns-then-at-s
returns-then-at-s c = c.loop-sight.invariant _ (on_whole _ _ _ _ c.loop-sight-test.true c.fits.ensures c.if-not-fits.false-raw c.read_u64.ensures c.is_misfit.ensures c.if-is_misfit.false c.if-at-s.true)

pub returns-in_default : goal.returns-in_default
returns-in_default c = c.loop-sight.invariant _ (on_end _ _ _ _ c.loop-sight-test.true c.fits.ensures c.if-not-fits.false-raw c.read_u64.ensures c.is_misfit.ensures c.if-is_misfit.false c.if-at-s.false c.read_separator.ensures c.in_default.is c.spoilt-in_default.ensures)

pub returns-then-not-head : goal.returns-then-not-head
returns-then-not-head c = c.loop-sight.invariant _ (on_low _ _ _ _ c.loop-sight-test.true c.fits.ensures c.if-not-fits.false-raw c.read_u64.ensures c.is_misfit.ensures c.if-is_misfit.false c.if-at-s.false c.read_separator.ensures c.in-Ok.is c.if-not-head.true c.spoilt-then-not-head.ensures)

pub overflow_add-at-in-loop-sight : goal.overflow_add-at-in-loop-sight
overflow_add-at-in-loop-sight c = omega (arith, head_within _ _ c.read_separator.ensures c.in-Ok.is, c.well_formed.1.0)

pub loop-sight-preserved : goal.loop-sight-preserved
loop-sight-preserved c = λ r q. c.loop-sight.invariant r (on_spot _ _ _ _ c.loop-sight-test.true c.fits.ensures c.if-not-fits.false-raw c.read_u64.ensures c.is_misfit.ensures c.if-is_misfit.false c.if-at-s.false c.read_separator.ensures r c.in-Ok.is c.if-not-head.false q)

pub returns : goal.returns
returns c = c.loop-sight.invariant _ (on_last _ _ _ _ c.loop-sight-test.false c.end_last.ensures)
