-- `insertion::insert_node` meets its contract. Assumes nothing.
use Rattle.insertion.proofs.SpliceCode.{place_fits, insert_1, insert_2}
use Rattle.insertion.proofs.insert_node.Goals.{Start}
use Rattle.insertion.proofs.insert_node.Goals as goal

pub returns-then-not-takes : goal.returns-then-not-takes
returns-then-not-takes c = insert_1 _ _ _ _ c.args.sep c.args.right c.read_places-places.ensures c.takes.ensures c.if-not-takes.true-raw

pub place_of-place-requires : goal.place_of-place-requires
place_of-place-requires c = place_fits _ _ _ _ _ c.read_places-places.ensures c.takes.ensures c.if-not-takes.false-raw

pub returns : goal.returns
returns c = insert_2 _ _ _ _ c.args.sep c.args.right c.read_places-places.ensures c.takes.ensures c.if-not-takes.false-raw c.place_of-place.ensures c.take_in.ensures
