-- What the code learns of a node on the way down, where it walks along the node's bytes once: of what is seen the same as
-- ReadPlaces says of the places. Assumes nothing.
use mathlib.Core.Path.{◌≡◌, refl, ◌∙◌}
use mathlib.Core.List.{List}
use mathlib.Core.Bool.{true, false, not}
use mathlib.Core.Option.{none, some}
use Prim.Native.Nat.{ℕ}
use lib.ListN.{length}
use borrow.Author.Tests.{not-false}
use Rattle.word.specs.Key.{Key}
use Rattle.tree.specs.Tree.{at, below}
use Rattle.codec.specs.Codec.{is_accepted}
use Rattle.slots.specs.Code.{bytes_in, rest_in, node_in, places_at, read_node_at}
use Rattle.search.specs.declared.Turn.{Turn}
use Rattle.search.specs.declared.Turn.TheVariants.{NotBelow}
use Rattle.search.specs.declared.Sight.{Sight}
use Rattle.search.specs.Search.{Sees}
use Rattle.slots.specs.Search.{SawAt, SeesAt}
use Rattle.slots.proofs.SearchLaws.{sees_at}
use Rattle.outcome.specs.Mirror.{is_next}
use Rattle.outcome.proofs.ReadPlaces.{not_read, was_read, count_read, at_is, index_is, child_is}

module _ (t : Turn) (s : List ℕ) (d x : ℕ) (k : Key) {v : Sight} (saw : SawAt t d s x k v) where
  seen : SeesAt t d s x k v
  seen = sees_at t d s x k saw

  -- what the laws of ReadPlaces ask for, of the places themselves
  pub sight_tested : v.good ≡ is_accepted (places_at d s x).ending
  sight_tested = seen.good_is

  pub sight_refused : not v.good ≡ true → read_node_at d s x ≡ none
  sight_refused h = not_read s d x refl sight_tested h

  module _ (good : not v.good ≡ false) where
    pub sight_sees : Sees t (places_at d s x) (bytes_in s x) k v
    sight_sees = seen.sees (not-false v.good good)

    pub sight_read : read_node_at d s x ≡ some (node_in s x)
    sight_read = was_read s d x refl sight_tested good

    pub sight_count : v.count ≡ length (rest_in s x)
    sight_count = sight_sees.count_is ∙ count_read s d x refl sight_tested good

-- where a key belongs
module _ (s : List ℕ) (d x : ℕ) (k : Key) {v : Sight} (saw : SawAt NotBelow d s x k v) (good : not v.good ≡ false) where
  sees : Sees NotBelow (places_at d s x) (bytes_in s x) k v
  sees = sight_sees NotBelow s d x k saw good

  tested : v.good ≡ is_accepted (places_at d s x).ending
  tested = sight_tested NotBelow s d x k saw

  pub sight_at_lem : v.found.at ≡ is_next k (at (below k) (node_in s x)).rgt
  sight_at_lem = at_is s d x refl tested good k refl sees.found_is

  pub sight_index : v.found.index.0 ≡ length (at (below k) (node_in s x)).lft
  sight_index = index_is s d x refl tested good k refl sees.found_is

  pub sight_child : v.child.0 ≡ (at (below k) (node_in s x)).mid
  sight_child = child_is s d x refl tested good k refl sees.found_is sees.child_is
