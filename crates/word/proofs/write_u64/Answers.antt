-- `word::write_u64` meets its contract. Assumes nothing.
use mathlib.Core.Path.{sym, ◌∙◌}
use native.Mathlib.Omega.{arith}
use Rattle.word.proofs.AtLaws.{fitted, unfitted, write_at_out}
use Rattle.word.proofs.CodeLaws.{write_in}
use Rattle.word.proofs.write_u64.Goals as goal

pub overflow_add-at : goal.overflow_add-at
overflow_add-at c = omega (arith, fitted _ _ _ c.fits.ensures c.if-fits.true)

pub slice_bounds-copy_from_slice-end : goal.slice_bounds-copy_from_slice-end
slice_bounds-copy_from_slice-end c = fitted _ _ _ c.fits.ensures c.if-fits.true

pub returns-then-fits : goal.returns-then-fits
returns-then-fits c = write_in 7 _ _ c.args.x (fitted _ _ _ c.fits.ensures c.if-fits.true) (c.copy_from_slice.ensures.after ∙ c.to_le_bytes.ensures) (omega arith)

pub returns-else-fits : goal.returns-else-fits
returns-else-fits c = sym (write_at_out _ _ _ _ (unfitted _ _ _ c.fits.ensures c.if-fits.false))
