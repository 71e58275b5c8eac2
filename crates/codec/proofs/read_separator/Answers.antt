-- `codec::read_separator` meets its contract. Assumes nothing.
use mathlib.Core.Path.{refl}
use Rattle.word.proofs.AtLaws.{fitted}
use Rattle.codec.proofs.ReadLaws.{head_1, head_2, head_3, head_4}
use native.Mathlib.Omega.{arith}
use Rattle.codec.proofs.read_separator.Goals as goal

pub returns-then-not-fits : goal.returns-then-not-fits
returns-then-not-fits c = head_1 _ _ c.fits.ensures c.if-not-fits.true-raw

pub overflow_add-size : goal.overflow_add-size
overflow_add-size c = omega (arith, fitted _ _ _ c.fits.ensures c.if-not-fits.false)

pub bounds-s-at : goal.bounds-s-at
bounds-s-at c = omega (arith, fitted _ _ _ c.fits.ensures c.if-not-fits.false)

pub overflow_add-at : goal.overflow_add-at
overflow_add-at c = omega (arith, fitted _ _ _ c.fits.ensures c.if-not-fits.false)

pub returns-then-size-lt255 : goal.returns-then-size-lt255
returns-then-size-lt255 c = head_2 _ _ c.fits.ensures c.if-not-fits.false-raw c.read_u64-value.ensures c.if-size-lt255.true c.read_key.ensures

pub returns-then-not-fits-2 : goal.returns-then-not-fits-2
returns-then-not-fits-2 c = head_3 _ _ c.fits.ensures c.if-not-fits.false-raw c.read_u64-value.ensures c.if-size-lt255.false c.fits-2.ensures c.if-not-fits-2.true-raw

pub returns : goal.returns
returns c = head_4 _ _ c.fits.ensures c.if-not-fits.false-raw c.read_u64-value.ensures c.if-size-lt255.false c.fits-2.ensures c.if-not-fits-2.false-raw c.read_u32-len.ensures refl c.read_key-2.ensures
