-- `codec::write_separator` meets its contract. Assumes nothing.
use Rattle.codec.proofs.WriteLaws.{sep_room, sep_room_long, put_1, put_2, put_3, put_4}
use native.Mathlib.Omega.{arith}
use Rattle.codec.proofs.write_separator.Goals as goal

pub returns-then-len-gt288 : goal.returns-then-len-gt288
returns-then-len-gt288 c = put_1 _ _ _ _ _ _ c.requires c.if-len-gt288.true

pub returns-then-not-fits : goal.returns-then-not-fits
returns-then-not-fits c = put_2 _ _ _ _ _ _ c.requires c.if-len-gt288.false c.sep_length.ensures c.fits.ensures c.if-not-fits.true-raw

pub overflow_add-dst : goal.overflow_add-dst
overflow_add-dst c = omega (arith, sep_room _ _ _ c.sep_length.ensures c.fits.ensures c.if-not-fits.false-raw)

pub bounds-dst-at : goal.bounds-dst-at
bounds-dst-at c = omega (arith, sep_room _ _ _ c.sep_length.ensures c.fits.ensures c.if-not-fits.false-raw)

pub overflow_add-at : goal.overflow_add-at
overflow_add-at c = omega (arith, sep_room _ _ _ c.sep_length.ensures c.fits.ensures c.if-not-fits.false-raw)

pub overflow_add-dst-else-len-lt255 : goal.overflow_add-dst-else-len-lt255
overflow_add-dst-else-len-lt255 c = omega (arith, sep_room_long _ _ _ c.sep_length.ensures c.fits.ensures c.if-not-fits.false-raw c.if-len-lt255.false)

pub bounds-dst-at-else-len-lt255 : goal.bounds-dst-at-else-len-lt255
bounds-dst-at-else-len-lt255 c = omega (arith, sep_room_long _ _ _ c.sep_length.ensures c.fits.ensures c.if-not-fits.false-raw c.if-len-lt255.false)

pub overflow_add-at-else-len-lt255 : goal.overflow_add-at-else-len-lt255
overflow_add-at-else-len-lt255 c = omega (arith, sep_room_long _ _ _ c.sep_length.ensures c.fits.ensures c.if-not-fits.false-raw c.if-len-lt255.false)

pub overflow_add-at-else-len-lt255-2 : goal.overflow_add-at-else-len-lt255-2
overflow_add-at-else-len-lt255-2 c = omega (arith, sep_room_long _ _ _ c.sep_length.ensures c.fits.ensures c.if-not-fits.false-raw c.if-len-lt255.false)

pub returns-then-len-lt255 : goal.returns-then-len-lt255
returns-then-len-lt255 c = put_3 _ _ _ _ _ _ c.requires c.if-len-gt288.false c.sep_length.ensures c.fits.ensures c.if-not-fits.false-raw c.write_u64.ensures c.if-len-lt255.true c.copy.ensures

pub returns-else-len-lt255 : goal.returns-else-len-lt255
returns-else-len-lt255 c = put_4 _ _ _ _ _ _ c.requires c.if-len-gt288.false c.sep_length.ensures c.fits.ensures c.if-not-fits.false-raw c.write_u64.ensures c.if-len-lt255.false c.write_u32.ensures c.copy-else-len-lt255.ensures
