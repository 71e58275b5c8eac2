use Rattle.word.proofs.AtLaws.{fitted}
use Rattle.lines.proofs.WriteLaws.{decimal_out, stand_start, stand_turn, stand_end}
use native.Mathlib.Omega.{arith}
use Rattle.lines.proofs.put_decimal.Goals as goal

pub returns-then-not-fits : goal.returns-then-not-fits
returns-then-not-fits c = decimal_out _ _ _ c.digits-n.ensures.0 c.fits.ensures c.if-not-fits.true-raw

pub loop-i-init : goal.loop-i-init
loop-i-init c = stand_start _ _ _ c.digits-n.ensures.0

pub overflow_add-dst-in-loop-i : goal.overflow_add-dst-in-loop-i
overflow_add-dst-in-loop-i c = omega (arith, fitted _ _ _ c.fits.ensures c.if-not-fits.false)

pub bounds-dst-at : goal.bounds-dst-at
bounds-dst-at c = omega (arith, fitted _ _ _ c.fits.ensures c.if-not-fits.false)

pub loop-i-preserved : goal.loop-i-preserved
loop-i-preserved c = stand_turn _ _ _ _ _ c.loop-i.invariant (omega (arith, c.digits-n.ensures.0, fitted _ _ _ c.fits.ensures c.if-not-fits.false)) (omega arith) (omega arith)

pub returns : goal.returns
returns c = stand_end _ _ _ _ _ c.loop-i.invariant (omega (arith, c.digits-n.ensures.0, fitted _ _ _ c.fits.ensures c.if-not-fits.false)) (omega arith)
