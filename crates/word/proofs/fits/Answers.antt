-- `word::fits` meets its contract. Assumes nothing.
use mathlib.Core.Path.{sym}
use native.Mathlib.Omega.{arith}
use Rattle.word.proofs.AtLaws.{fits_in_lem, fits_out}
use Rattle.word.proofs.fits.Goals as goal

pub returns-then-len-at : goal.returns-then-len-at
returns-then-len-at c = sym (fits_out _ _ _ (omega arith))

pub returns-then-len-at-2 : goal.returns-then-len-at-2
returns-then-len-at-2 c = sym (fits_out _ _ _ (omega arith))

pub returns : goal.returns
returns c = sym (fits_in_lem _ _ _ (omega arith))
