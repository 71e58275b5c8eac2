-- `codec::key_strict` meets its contract. Assumes nothing.
-- the key of a separator that b has, as a part of s
use mathlib.Core.List.{List}
use Prim.Native.Nat.{ℕ}
use Rattle.word.specs.Part.{part}
use Rattle.codec.specs.Layout.{key_place}
use Rattle.codec.proofs.StrictCode.{of_none, of_all, no_key}
use Rattle.codec.proofs.key_strict.Goals as goal

abbrev keyIn : List ℕ → ℕ → List ℕ → List ℕ
keyIn s i b = part s (key_place b i).start (key_place b i).len

pub returns-then-not-places : goal.returns-then-not-places
returns-then-not-places c = of_none _ c.read-places.ensures (keyIn _ _) c.if-not-places.true (no_key _ _)

pub returns : goal.returns
returns c = of_all _ c.read-places.ensures (keyIn _ _) c.if-not-places.false c.key_in.ensures
