-- `insertion::place_of` meets its contract: that the sum doesn't run over is in what it asks (`pre`). Assumes nothing.
use Rattle.insertion.proofs.SpliceCode.{place_first, place_next}
use Rattle.insertion.proofs.place_of.Goals as goal

pub returns-then-i-eq0 : goal.returns-then-i-eq0
returns-then-i-eq0 c = place_first c.args.places.now c.args.i.0 c.if-i-eq0.true

pub returns : goal.returns
returns c = place_next c.args.places.now c.args.i.0 c.if-i-eq0.false
