-- `word::read_u32` meets its contract. Assumes nothing.
use mathlib.Core.Path.{sym}
use native.Mathlib.Omega.{arith}
use Rattle.word.proofs.AtLaws.{fitted, unfitted, read_at_out}
use Rattle.word.proofs.CodeLaws.{read_in}
use Rattle.word.proofs.read_u32.Goals as goal

pub returns-then-not-fits : goal.returns-then-not-fits
returns-then-not-fits c = sym (read_at_out _ _ _ (unfitted _ _ _ c.fits.ensures c.if-not-fits.true))

pub bytes_at-requires : goal.bytes_at-requires
bytes_at-requires c = (omega arith, fitted _ _ _ c.fits.ensures c.if-not-fits.false)

pub returns : goal.returns
returns c = read_in 3 _ _ (fitted _ _ _ c.fits.ensures c.if-not-fits.false) c.bytes_at.ensures c.from_le_bytes.ensures
