-- `insertion::insert_leaf` meets its contract. That the value is below 2 ^ 64 is what owning it tells (`good`). Assumes nothing.
use Rattle.word.proofs.NumLaws.{bytes_of}
use Rattle.insertion.proofs.SpliceCode.{place_fits, leaf_1, leaf_2}
use native.Mathlib.Omega.{arith}
use Rattle.insertion.proofs.insert_leaf.Goals as goal

pub returns-then-not-takes : goal.returns-then-not-takes
returns-then-not-takes c = leaf_1 _ _ _ c.args.key.now c.args.value c.read_places-places.ensures c.takes.ensures c.if-not-takes.true-raw

pub place_of-place-requires : goal.place_of-place-requires
place_of-place-requires c = place_fits _ _ _ _ _ c.read_places-places.ensures c.takes.ensures c.if-not-takes.false-raw

pub returns : goal.returns
returns c = leaf_2 _ _ _ _ c.args.value c.read_places-places.ensures c.takes.ensures (bytes_of c.args.key.now (λ i h. omega (arith, c.type_inv.key i))) c.well_formed.1.1.1.1.0.1.1.0.1 c.if-not-takes.false-raw c.place_of-place.ensures c.take_in.ensures
