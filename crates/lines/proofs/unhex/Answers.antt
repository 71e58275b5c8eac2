use mathlib.Core.Path.{refl}
use lib.ListN.{length}
use Rattle.word.proofs.AtLaws.{fitted}
use Rattle.changes.proofs.RecordLaws.{impossible}
use Rattle.lines.proofs.DigitLaws.{digit_some, digit_none}
use Rattle.lines.proofs.HexLaws.{unhex_1, unhex_2, unhex_3, unhex_4, unhex_5, unhex_start, unhex_turn}
use native.Mathlib.Omega.{arith}
use Rattle.lines.proofs.unhex.Goals as goal

pub returns-then-field-ne0 : goal.returns-then-field-ne0
returns-then-field-ne0 c = (unhex_1 _ _ _ c.if-field-ne0.true, λ t. impossible t)

pub returns-then-not-fits : goal.returns-then-not-fits
returns-then-not-fits c = (unhex_2 _ _ _ c.fits.ensures c.if-not-fits.true-raw, λ t. impossible t)

pub loop-i-init : goal.loop-i-init
loop-i-init c = unhex_start _ _ _

pub returns-in_err-high : goal.returns-in_err-high
returns-in_err-high c = rw c.from_residual.ensures (unhex_3 _ _ _ _ c.loop-i.invariant (omega arith) refl refl (digit_none _ c.digit.ensures c.in_err-high.was), λ t. impossible t)

pub returns-in_err-low : goal.returns-in_err-low
returns-in_err-low c = rw c.from_residual-in_err-low.ensures (unhex_4 _ _ _ _ c.loop-i.invariant (omega arith) refl refl (digit_none _ c.digit-in-loop-i.ensures c.in_err-low.was), λ t. impossible t)

pub overflow_mul-dst : goal.overflow_mul-dst
overflow_mul-dst c = omega (arith, (digit_some _ c.digit.ensures c.in_ok-high.was).1)

pub overflow_add-dst : goal.overflow_add-dst
overflow_add-dst c = omega (arith, (digit_some _ c.digit.ensures c.in_ok-high.was).1, (digit_some _ c.digit-in-loop-i.ensures c.in_ok-low.was).1)

pub overflow_add-dst-in-loop-i : goal.overflow_add-dst-in-loop-i
overflow_add-dst-in-loop-i c = omega (arith, fitted (length c.args.dst.now) c.args.at _ c.fits.ensures c.if-not-fits.false)

pub bounds-dst-at : goal.bounds-dst-at
bounds-dst-at c = omega (arith, fitted (length c.args.dst.now) c.args.at _ c.fits.ensures c.if-not-fits.false)

pub loop-i-preserved : goal.loop-i-preserved
loop-i-preserved c = unhex_turn _ _ _ _ c.loop-i.invariant (omega arith) (digit_some _ c.digit.ensures c.in_ok-high.was).0 (digit_some _ c.digit-in-loop-i.ensures c.in_ok-low.was).0 (digit_some _ c.digit.ensures c.in_ok-high.was).1 (digit_some _ c.digit-in-loop-i.ensures c.in_ok-low.was).1 (fitted (length c.args.dst.now) c.args.at _ c.fits.ensures c.if-not-fits.false)

pub returns : goal.returns
returns c = let w = unhex_5 _ _ _ _ c.loop-i.invariant (omega arith) (omega arith) c.fits.ensures c.if-not-fits.false-raw in (w.0, λ t. w.1)
