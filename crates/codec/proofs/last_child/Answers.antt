-- `codec::last_child` meets its contract. Assumes nothing.
use Rattle.word.proofs.AtLaws.{fitted}
use Rattle.codec.proofs.StrictCode.{last_short, last_whole, last_behind}
use native.Mathlib.Omega.{arith}
use Rattle.codec.proofs.last_child.Goals as goal

pub returns-then-not-fits : goal.returns-then-not-fits
returns-then-not-fits c = last_short _ _ c.fits.ensures c.if-not-fits.true-raw

pub overflow_add-end : goal.overflow_add-end
overflow_add-end c = omega (arith, fitted _ _ _ c.fits.ensures c.if-not-fits.false)

pub returns-then-end-s : goal.returns-then-end-s
returns-then-end-s c = last_whole _ _ c.fits.ensures c.if-not-fits.false-raw c.if-end-s.true

pub returns : goal.returns
returns c = last_behind _ _ c.fits.ensures c.if-not-fits.false-raw c.if-end-s.false
