-- What the code learns of a node from one walk along its bytes, where it goes down to the last child. Where it goes down to a
-- key, ReadSight says it. Assumes nothing.
use mathlib.Core.Path.{◌≡◌, refl, ap, ◌∙◌}
use mathlib.Core.List.{List}
use mathlib.Core.Bool.{false, not}
use Prim.Native.Nat.{ℕ}
use lib.ListN.{length, get_or}
use Rattle.word.specs.Key.{Key}
use Rattle.tree.specs.Tree.{at, always}
use Rattle.codec.specs.declared.position.Found.{Found}
use Rattle.codec.specs.Codec.{is_accepted}
use Rattle.node.specs.Chain.{child_of}
use Rattle.slots.specs.Code.{bytes_in, node_in, places_at}
use Rattle.search.specs.declared.Turn.TheVariants.{Last}
use Rattle.search.specs.declared.Sight.{Sight}
use Rattle.search.specs.Search.{Sees}
use Rattle.slots.specs.Search.{SawAt}
use Rattle.outcome.proofs.ReadPlaces.{last_index, last_child_lem}
use Rattle.outcome.proofs.ReadSight.{sight_tested, sight_sees}

module _ (s : List ℕ) (d x : ℕ) (k : Key) {v : Sight} (saw : SawAt Last d s x k v) (good : not v.good ≡ false) where
  sees : Sees Last (places_at d s x) (bytes_in s x) k v
  sees = sight_sees Last s d x k saw good

  tested : v.good ≡ is_accepted (places_at d s x).ending
  tested = sight_tested Last s d x k saw

  pub sight_last_index : v.count ≡ length (at always (node_in s x)).lft
  sight_last_index = sees.count_is ∙ last_index s d x refl tested good

  pub sight_last_child : v.child.0 ≡ (at always (node_in s x)).mid
  sight_last_child =
      last_child_lem s d x refl tested good
      (sees.child_is ∙ ap (λ (f : Found). get_or (places_at d s x).children f.index.0 (child_of 0)) sees.found_is)
