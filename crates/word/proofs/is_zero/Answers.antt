use mathlib.Core.Path.{sym}
use native.Mathlib.Omega.{arith}
use Rattle.word.proofs.AtLaws.{fitted, unfitted, zero_at_out}
use Rattle.word.proofs.CodeLaws.{zero_start, zero_turn, zero_end}
use Rattle.word.proofs.is_zero.Goals as goal

pub returns-then-not-fits : goal.returns-then-not-fits
returns-then-not-fits c = sym (zero_at_out _ _ _ (unfitted _ _ _ c.fits.ensures c.if-not-fits.true))

pub overflow_add-b-items : goal.overflow_add-b-items
overflow_add-b-items c = omega (arith, fitted _ _ _ c.fits.ensures c.if-not-fits.false)

pub slice_bounds-b-items-end : goal.slice_bounds-b-items-end
slice_bounds-b-items-end c = fitted _ _ _ c.fits.ensures c.if-not-fits.false

pub loop-b-init : goal.loop-b-init
loop-b-init c = (omega arith, zero_start c.args.s.now)

pub loop-b-preserved : goal.loop-b-preserved
loop-b-preserved c = (omega arith, zero_turn _ c.loop-b.b-index c.loop-b.most _ (omega arith) c.loop-b.invariant.1 c.max-most.ensures)

pub returns : goal.returns
returns c = zero_end _ _ _ _ c.loop-b.b-index (fitted _ _ _ c.fits.ensures c.if-not-fits.false) (omega arith) c.loop-b.invariant.1
