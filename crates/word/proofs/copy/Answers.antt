-- `word::copy` meets its contract. Assumes nothing.
use mathlib.Core.Path.{sym}
use native.Mathlib.Omega.{arith}
use Rattle.word.proofs.AtLaws.{fitted, unfitted, copy_at_out, copy_at_short}
use Rattle.word.proofs.CodeLaws.{copy_in}
use Rattle.word.proofs.copy.Goals as goal

pub returns-then-not-fits : goal.returns-then-not-fits
returns-then-not-fits c = sym (copy_at_out _ _ _ _ _ (unfitted _ _ _ c.fits.ensures c.if-not-fits.true))

pub returns-then-not-fits-2 : goal.returns-then-not-fits-2
returns-then-not-fits-2 c = sym (copy_at_short _ _ _ _ _ (unfitted _ _ _ c.fits-2.ensures c.if-not-fits-2.true))

pub overflow_add-at : goal.overflow_add-at
overflow_add-at c = omega (arith, fitted _ _ _ c.fits.ensures c.if-not-fits.false)

pub slice_bounds-copy_from_slice-end : goal.slice_bounds-copy_from_slice-end
slice_bounds-copy_from_slice-end c = fitted _ _ _ c.fits.ensures c.if-not-fits.false

pub overflow_add-from : goal.overflow_add-from
overflow_add-from c = omega (arith, fitted _ _ _ c.fits-2.ensures c.if-not-fits-2.false)

pub slice_bounds-copy_from_slice-end-2 : goal.slice_bounds-copy_from_slice-end-2
slice_bounds-copy_from_slice-end-2 c = fitted _ _ _ c.fits-2.ensures c.if-not-fits-2.false

pub returns : goal.returns
returns c = copy_in _ _ _ _ _ (fitted _ _ _ c.fits.ensures c.if-not-fits.false) (fitted _ _ _ c.fits-2.ensures c.if-not-fits-2.false) c.copy_from_slice.ensures.after
