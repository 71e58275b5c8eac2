-- `codec::is_low` meets its contract. Assumes nothing.
use Rattle.word.proofs.AtLaws.{fitted}
use Rattle.codec.proofs.StrictCode.{low_1, low_2, low_3}
use native.Mathlib.Omega.{arith}
use Rattle.codec.proofs.is_low.Goals as goal

pub returns-then-not-fits : goal.returns-then-not-fits
returns-then-not-fits c = low_1 _ _ c.fits.ensures c.if-not-fits.true-raw

pub overflow_add-at : goal.overflow_add-at
overflow_add-at c = omega (arith, fitted _ _ _ c.fits.ensures c.if-not-fits.false)

pub bounds-s-at : goal.bounds-s-at
bounds-s-at c = omega (arith, fitted _ _ _ c.fits.ensures c.if-not-fits.false)

pub returns-then-s-at-ge255 : goal.returns-then-s-at-ge255
returns-then-s-at-ge255 c = low_3 _ _ c.fits.ensures c.if-not-fits.false-raw c.if-s-at-ge255.true c.read_u32.ensures

pub returns-else-s-at-ge255 : goal.returns-else-s-at-ge255
returns-else-s-at-ge255 c = low_2 _ _ c.fits.ensures c.if-not-fits.false-raw c.if-s-at-ge255.false
