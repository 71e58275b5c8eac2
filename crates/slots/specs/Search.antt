-- What a walk for a key sees in a slot: the contract of `search_at` cites it, and callers use it by the places there, as
-- proofs/SearchLaws.antt has it. Assumes nothing.
use Rattle.std.specs.Prelude.{◌≡◌, List, true, ℕ, eqb}
use Rattle.word.specs.Key.{Key}
use Rattle.search.specs.declared.Turn.{Turn}
use Rattle.search.specs.declared.Sight.{Sight}
use Rattle.codec.specs.Codec.{is_accepted}
use Rattle.search.specs.Search.{sight_of, Sees}
use Rattle.slots.specs.Code.{raw_in, bytes_in, places_at}

-- a node at depth 0 is a leaf
unfoldable pub sight_at : Turn → ℕ → List ℕ → ℕ → Key → Sight
sight_at t d s x k = sight_of t (eqb d 0) (raw_in s x) k

-- what `search_at` hands back: good exactly where sight_at is, and then all of it
pub record SawAt (t : Turn) (d : ℕ) (s : List ℕ) (x : ℕ) (k : Key) (v : Sight) : Type 0 where
  pub good_is : v.good ≡ (sight_at t d s x k).good
  pub all_is : v.good ≡ true → v ≡ sight_at t d s x k

-- what is seen in a slot: good exactly where its places are not refused at this depth
pub record SeesAt (t : Turn) (d : ℕ) (s : List ℕ) (x : ℕ) (k : Key) (v : Sight) : Type 0 where
  pub good_is : v.good ≡ is_accepted (places_at d s x).ending
  pub sees : v.good ≡ true → Sees t (places_at d s x) (bytes_in s x) k v
