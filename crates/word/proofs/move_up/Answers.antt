-- `word::move_up` meets its contract. Assumes nothing.
use mathlib.Core.Path.{sym, ◌∙◌}
use native.Mathlib.Omega.{arith}
use Rattle.word.proofs.AtLaws.{fitted, unfitted}
use Rattle.word.proofs.MoveLaws.{move_at_out, move_at_high}
use Rattle.word.proofs.CodeLaws.{move_in}
use Rattle.word.proofs.move_up.Goals as goal

pub returns-then-not-fits : goal.returns-then-not-fits
returns-then-not-fits c = sym (move_at_out _ _ _ _ (unfitted _ _ _ c.fits.ensures c.if-not-fits.true))

pub overflow_add-at : goal.overflow_add-at
overflow_add-at c = omega (arith, fitted _ _ _ c.fits.ensures c.if-not-fits.false)

pub returns-then-not-fits-2 : goal.returns-then-not-fits-2
returns-then-not-fits-2 c = sym (move_at_high _ _ _ _ (fitted _ _ _ c.fits.ensures c.if-not-fits.false) (unfitted _ _ _ c.fits-2.ensures c.if-not-fits-2.true))

pub overflow_add-at-2 : goal.overflow_add-at-2
overflow_add-at-2 c = omega (arith, fitted _ _ _ c.fits.ensures c.if-not-fits.false)

pub overflow_add-at-3 : goal.overflow_add-at-3
overflow_add-at-3 c = omega (arith, fitted _ _ _ c.fits-2.ensures c.if-not-fits-2.false)

pub copy_within-requires-clause-in_bounds : goal.copy_within-requires-clause-in_bounds
copy_within-requires-clause-in_bounds c = omega (arith, fitted _ _ _ c.fits-2.ensures c.if-not-fits-2.false)

pub copy_within-requires-clause-dest_in_bounds : goal.copy_within-requires-clause-dest_in_bounds
copy_within-requires-clause-dest_in_bounds c = omega (arith, fitted _ _ _ c.fits-2.ensures c.if-not-fits-2.false)

pub returns : goal.returns
returns c = c.copy_within.ensures.after ∙ move_in _ _ _ _ (fitted _ _ _ c.fits-2.ensures c.if-not-fits-2.false)
