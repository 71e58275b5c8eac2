-- `word::clear` meets its contract. Assumes nothing.
use mathlib.Core.Path.{sym}
use native.Mathlib.Omega.{arith}
use Rattle.word.proofs.AtLaws.{fitted, unfitted, clear_at_out}
use Rattle.word.proofs.CodeLaws.{clear_in}
use Rattle.word.proofs.clear.Goals as goal

pub returns-then-not-fits : goal.returns-then-not-fits
returns-then-not-fits c = sym (clear_at_out _ _ _ (unfitted _ _ _ c.fits.ensures c.if-not-fits.true))

pub overflow_add-at : goal.overflow_add-at
overflow_add-at c = omega (arith, fitted _ _ _ c.fits.ensures c.if-not-fits.false)

pub slice_bounds-fill-end : goal.slice_bounds-fill-end
slice_bounds-fill-end c = fitted _ _ _ c.fits.ensures c.if-not-fits.false

pub returns : goal.returns
returns c = clear_in _ _ _ (fitted _ _ _ c.fits.ensures c.if-not-fits.false) (c.fill.ensures.after (λ y h. h))
