-- `insertion::set_value` meets its contract. That the value is below 2 ^ 64 is what owning it tells (`good`). Assumes nothing.
use Rattle.word.proofs.NumLaws.{bytes_of}
use Rattle.slots.proofs.CodeLaws.{some_number}
use Rattle.insertion.proofs.SpliceCode.{value_place, value_1, value_none, value_2}
use native.Mathlib.Omega.{arith}
use Rattle.insertion.proofs.set_value.Goals as goal

pub returns-then-not-has_separator : goal.returns-then-not-has_separator
returns-then-not-has_separator c = value_1 _ _ _ _ c.args.value c.read_places-places.ensures c.has_separator.ensures c.if-not-has_separator.true-raw

pub place_of-place-requires : goal.place_of-place-requires
place_of-place-requires c = value_place _ _ _ _ c.args.value c.read_places-places.ensures c.has_separator.ensures c.if-not-has_separator.false-raw

pub returns-in_default : goal.returns-in_default
returns-in_default c = value_none _ _ _ _ c.args.value c.read_places-places.ensures c.has_separator.ensures c.if-not-has_separator.false-raw c.slot_of.ensures c.in_default.is

pub returns : goal.returns
returns c = value_2 _ _ _ _ c.args.value c.read_places-places.ensures c.has_separator.ensures c.if-not-has_separator.false-raw c.place_of-place.ensures (bytes_of c.args.store.now (λ i h. omega (arith, c.slice_known-1.given i))) c.well_formed.1.1.1.1.0.1.1.0.1 (some_number c.slot_of.ensures c.in-Some.is).0 c.write_value.ensures
