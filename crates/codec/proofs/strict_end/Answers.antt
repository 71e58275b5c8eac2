use Rattle.word.proofs.AtLaws.{fitted}
use Rattle.codec.proofs.ScanLaws.{head_within}
use Rattle.codec.proofs.StrictCode.{strict_start, strict_short, strict_whole, strict_ends, strict_low, strict_turn, strict_last}
use native.Mathlib.Omega.{arith}
use Rattle.codec.proofs.strict_end.Goals as goal

pub loop-init : goal.loop-init
loop-init c = strict_start _

pub returns-then-not-fits : goal.returns-then-not-fits
returns-then-not-fits c = strict_short _ _ _ c.loop.invariant c.loop-test.true c.fits.ensures c.if-not-fits.true-raw

pub overflow_add-at : goal.overflow_add-at
overflow_add-at c = omega (arith, fitted _ _ _ c.fits.ensures c.if-not-fits.false)

pub returns-then-at-s : goal.returns-then-at-s
returns-then-at-s c = strict_whole _ _ _ c.loop.invariant c.loop-test.true c.fits.ensures c.if-not-fits.false-raw c.if-at-s.true

pub returns-in-Err : goal.returns-in-Err
returns-in-Err c = strict_ends _ _ _ c.loop.invariant c.loop-test.true c.fits.ensures c.if-not-fits.false-raw c.if-at-s.false c.read_separator.ensures c.in-Err.is c.ends_at.ensures

pub returns-then-not-head : goal.returns-then-not-head
returns-then-not-head c = strict_low _ _ _ c.loop.invariant c.loop-test.true c.fits.ensures c.if-not-fits.false-raw c.if-at-s.false c.read_separator.ensures c.in-Ok.is c.if-not-head.true

pub overflow_add-at-in-Ok : goal.overflow_add-at-in-Ok
overflow_add-at-in-Ok c = omega (arith, head_within _ _ c.read_separator.ensures c.in-Ok.is)

pub loop-preserved : goal.loop-preserved
loop-preserved c = strict_turn _ _ _ c.loop.invariant c.loop-test.true c.fits.ensures c.if-not-fits.false-raw c.if-at-s.false c.read_separator.ensures c.in-Ok.is c.if-not-head.false

pub returns : goal.returns
returns c = strict_last _ _ _ c.loop.invariant c.loop-test.false c.loop.auto.counter-end c.last_child.ensures
