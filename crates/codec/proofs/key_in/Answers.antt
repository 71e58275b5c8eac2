-- `codec::key_in` meets its contract: the part lies within the bytes, since a key that was found does. Assumes nothing.
use mathlib.Core.Path.{refl}
use Rattle.codec.proofs.ReadLaws.{count_few, ends_within, key_part, no_key}
use native.Mathlib.Omega.{arith}
use Rattle.codec.proofs.key_in.Goals as goal

pub offset_bounds-places-i : goal.offset_bounds-places-i
offset_bounds-places-i c = omega (arith, count_few _ c.requires)

pub bounds-places-i : goal.bounds-places-i
bounds-places-i c = omega (arith, count_few _ c.requires)

pub offset_bounds-places-i-then-i-places : goal.offset_bounds-places-i-then-i-places
offset_bounds-places-i-then-i-places c = omega (arith, count_few _ c.requires)

pub bounds-places-i-then-i-places : goal.bounds-places-i-then-i-places
bounds-places-i-then-i-places c = omega (arith, count_few _ c.requires)

pub overflow_add-end : goal.overflow_add-end
overflow_add-end c = omega (arith, ends_within _ c.requires c.args.index.0)

pub slice_bounds-result-end : goal.slice_bounds-result-end
slice_bounds-result-end c = omega (arith, ends_within _ c.requires c.args.index.0)

pub returns-then-i-places : goal.returns-then-i-places
returns-then-i-places c = key_part _ c.requires _ refl

pub returns : goal.returns
returns c = no_key _ c.requires _ c.if-i-places.false
