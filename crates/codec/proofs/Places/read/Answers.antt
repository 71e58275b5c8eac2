use mathlib.Core.Path.{refl}
use Rattle.word.proofs.AtLaws.{fitted}
use Rattle.codec.proofs.ScanLaws.{head_within}
use Rattle.codec.proofs.FillLaws.{read_start, read_short, read_whole, read_ended, read_turn, last_short, last_whole, last_ignored}
use native.Mathlib.Omega.{arith}
use Rattle.codec.proofs.Places.read.Goals as goal

pub loop-i-init : goal.loop-i-init
loop-i-init c = read_start _ c.empty-places.ensures

pub returns-then-not-fits : goal.returns-then-not-fits
returns-then-not-fits c = read_short _ _ _ _ c.loop-i.invariant c.loop-i-test.true c.fits.ensures c.if-not-fits.true-raw c.ended.ensures

pub overflow_add-at : goal.overflow_add-at
overflow_add-at c = omega (arith, fitted _ _ _ c.fits.ensures c.if-not-fits.false)

pub returns-then-at-s : goal.returns-then-at-s
returns-then-at-s c = read_whole _ _ _ _ c.loop-i.invariant c.loop-i-test.true c.fits.ensures c.if-not-fits.false-raw c.read_u64.ensures c.if-at-s.true c.ended-then-at-s.ensures

pub returns-in-Err : goal.returns-in-Err
returns-in-Err c = read_ended _ _ _ _ c.loop-i.invariant c.loop-i-test.true c.fits.ensures c.if-not-fits.false-raw c.read_u64.ensures c.if-at-s.false c.read_separator.ensures c.in-Err.is c.ended-in-Err.ensures

pub overflow_add-at-in-Ok : goal.overflow_add-at-in-Ok
overflow_add-at-in-Ok c = omega (arith, head_within _ _ c.read_separator.ensures c.in-Ok.is)

pub loop-i-preserved : goal.loop-i-preserved
loop-i-preserved c = read_turn _ _ _ _ c.loop-i.invariant c.loop-i-test.true c.fits.ensures c.if-not-fits.false-raw c.read_u64.ensures c.if-at-s.false c.read_separator.ensures c.in-Ok.is refl

pub returns-then-not-fits-2 : goal.returns-then-not-fits-2
returns-then-not-fits-2 c = last_short _ _ _ _ c.loop-i.invariant c.loop-i-test.false c.loop-i.auto.i-end c.fits-2.ensures c.if-not-fits-2.true-raw c.ended-then-not-fits-2.ensures

pub overflow_add-at-2 : goal.overflow_add-at-2
overflow_add-at-2 c = omega (arith, fitted _ _ _ c.fits-2.ensures c.if-not-fits-2.false)

pub returns-then-at-s-2 : goal.returns-then-at-s-2
returns-then-at-s-2 c = last_whole _ _ _ _ c.loop-i.invariant c.loop-i-test.false c.loop-i.auto.i-end c.fits-2.ensures c.if-not-fits-2.false-raw c.read_u64-2.ensures c.if-at-s-2.true c.ended-then-at-s-2.ensures

pub returns : goal.returns
returns c = last_ignored _ _ _ _ c.loop-i.invariant c.loop-i-test.false c.loop-i.auto.i-end c.fits-2.ensures c.if-not-fits-2.false-raw c.read_u64-2.ensures c.if-at-s-2.false c.ended-2.ensures
