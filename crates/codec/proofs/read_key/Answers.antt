-- `codec::read_key` meets its contract. Assumes nothing.
use Rattle.codec.proofs.ReadLaws.{key_1, key_2, key_3, key_4}
use Rattle.codec.proofs.read_key.Goals as goal

pub returns-then-not-fits : goal.returns-then-not-fits
returns-then-not-fits c = key_1 _ _ _ _ _ c.fits.ensures c.if-not-fits.true-raw

pub returns-then-value-eq0 : goal.returns-then-value-eq0
returns-then-value-eq0 c = key_2 _ _ _ _ _ c.fits.ensures c.if-not-fits.false-raw c.if-value-eq0.true

pub returns-then-len-gt288 : goal.returns-then-len-gt288
returns-then-len-gt288 c = key_3 _ _ _ _ _ c.fits.ensures c.if-not-fits.false-raw c.if-value-eq0.false c.if-len-gt288.true

pub returns : goal.returns
returns c = key_4 _ _ _ _ _ c.fits.ensures c.if-not-fits.false-raw c.if-value-eq0.false c.if-len-gt288.false
