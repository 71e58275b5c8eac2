-- `codec::with_keys` meets its contract. The loop: the keys that are left, copied behind those copied already, make the whole. Assumes nothing.
use Prim.Native.Nat.{◌≤◌, ◌-◌}
use mathlib.Core.Path.{◌≡◌}
use lib.ListN.{replicate}
use Rattle.codec.specs.Layout.{places_of}
use Rattle.codec.specs.Mirror.{copied}
use Rattle.codec.proofs.ReadLaws.{made_of}
use Rattle.codec.proofs.with_keys.Given as goal

abbrev pub invariant-loop-i : goal.invariant-loop-i
invariant-loop-i l = record {
  few : l.places.count ≤ 8;
  read : l.places ≡ places_of l.s;
  made : l.reading ≡ made_of l.places l.reading.node.keys;
  left : copied l.s l.places (replicate 2304 0) 0 l.places.count ≡ copied l.s l.places l.reading.node.keys l.i (l.places.count - l.i);
}
