-- `codec::read_standard` meets its contract. Assumes nothing.
use Rattle.codec.specs.Layout.{reading_of}
use Rattle.codec.proofs.StrictCode.{of_none, of_all}
use Rattle.codec.proofs.read_standard.Goals as goal

pub returns-then-not-places : goal.returns-then-not-places
returns-then-not-places c = of_none _ c.read-places.ensures reading_of c.if-not-places.true c.none.ensures

pub returns : goal.returns
returns c = of_all _ c.read-places.ensures reading_of c.if-not-places.false c.with_keys.ensures
