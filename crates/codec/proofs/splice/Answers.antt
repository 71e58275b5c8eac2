-- `codec::splice` meets its contract. Assumes nothing.
use mathlib.Core.Path.{◌∙◌}
use Rattle.word.proofs.PartLaws.{part_whole}
use Rattle.word.proofs.AtLaws.{fitted}
use Rattle.codec.proofs.EncodeLaws.{sep_bound}
use Rattle.codec.proofs.SpliceLaws.{splice_1, splice_2, splice_3, splice_4}
use native.Mathlib.Omega.{arith}
use Rattle.codec.proofs.splice.Goals as goal

pub returns-then-size-gt288 : goal.returns-then-size-gt288
returns-then-size-gt288 c = splice_1 _ _ _ _ _ c.if-size-gt288.true

pub overflow_add-more : goal.overflow_add-more
overflow_add-more c = omega (arith, sep_bound _ c.sep_length-width.ensures c.if-size-gt288.false)

pub returns-then-not-fits : goal.returns-then-not-fits
returns-then-not-fits c = splice_2 _ _ _ _ _ c.if-size-gt288.false c.sep_length-width.ensures c.fits.ensures c.if-not-fits.true-raw

pub returns-then-len-at : goal.returns-then-len-at
returns-then-len-at c = splice_3 _ _ _ _ _ c.if-size-gt288.false c.sep_length-width.ensures c.fits.ensures c.if-not-fits.false-raw c.if-len-at.true

pub overflow_add-at : goal.overflow_add-at
overflow_add-at c = omega (arith, fitted _ _ _ c.fits.ensures c.if-not-fits.false)

pub overflow_add-result : goal.overflow_add-result
overflow_add-result c = omega (arith, fitted _ _ _ c.fits.ensures c.if-not-fits.false)

pub returns : goal.returns
returns c = splice_4 _ _ _ _ _ c.if-size-gt288.false c.sep_length-width.ensures c.fits.ensures c.if-not-fits.false-raw c.if-len-at.false c.move_up.ensures (c.write_separator.ensures ∙ rw part_whole) c.write_u64.ensures
