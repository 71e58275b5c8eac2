-- What a walk along node bytes sees, by what is scanned of them: the contract of `search` cites it. On the places of the bytes it
-- is `turn_at` and what stands there, which is what callers use: proofs/SearchLaws.antt. Assumes nothing.
use Rattle.std.specs.Prelude.{◌≡◌, List, [], ◌∷◌, map, Bool, true, false, ◌&&◌, not, ℕ, ◌+◌, ◌-◌, ◌≤◌, ◌<◌, get_or, take, eqb, ltb}
use Rattle.word.specs.Pick.{pick}
use Rattle.word.specs.Key.{Key, cmp, order_of}
use Rattle.word.specs.Part.{part}
use Rattle.std.specs.Ordering.{is_eq}
use Rattle.std.specs.declared.cmp.Ordering.{Ordering}
use Rattle.std.specs.declared.cmp.Ordering.TheVariants.{Less, Equal, Greater}
use Rattle.node.specs.declared.Child.{Child}
use Rattle.codec.specs.declared.Places.{Places}
use Rattle.codec.specs.declared.position.Found.{Found}
use Rattle.search.specs.declared.Turn.{Turn}
use Rattle.search.specs.declared.Turn.TheVariants.{First, NotBelow, Above, Last}
use Rattle.search.specs.declared.Spot.{Spot}
use Rattle.search.specs.declared.Sight.{Sight}
use Rattle.codec.specs.Codec as codec
use Rattle.codec.specs.Codec.{Scan, scan_from}
use Rattle.node.specs.Chain.{child_of, value_of}
use Rattle.codec.specs.Layout.{any_of, is_whole}
use Rattle.codec.specs.Position.{found, goes_on, position_of}

-- ---- one separator, one child

-- the same two as numbers: a walk goes on behind a separator where the rank is not below the bar
abbrev pub bar_of : Turn → ℕ
bar_of First = 3
bar_of NotBelow = 2
bar_of Above = 1
bar_of Last = 0

abbrev pub rank_of : Ordering → ℕ
rank_of Less = 0
rank_of Equal = 1
rank_of Greater = 2

-- whether the walk goes on behind a separator, to whose key the walk's has this order
abbrev pub passes : Turn → Ordering → Bool
passes First o = false
passes NotBelow o = goes_on false o
passes Above o = goes_on true o
passes Last o = true

-- whether the separator where it turns has the key
abbrev pub meets : Turn → Ordering → Bool
meets First o = false
meets NotBelow o = is_eq o
meets Above o = is_eq o
meets Last o = false

-- "children that fit its depth (none at 0; separators plus one above)": one that is there in a leaf, or is missing above
abbrev pub misfits : Bool → Child → Bool
misfits true c = not (eqb c.0 0)
misfits false c = eqb c.0 0

abbrev pub no_spot : Spot
no_spot = record { start = 0; len = 0; value = value_of 0 }

-- before the first child; or of bytes that the strict reading refuses
abbrev pub empty_sight : Bool → Sight
empty_sight b = record { good = b; turned = false; count = 0; found = found 0 false; child = child_of 0; here = no_spot; before = no_spot }

abbrev pub with_child : Sight → Child → Sight
with_child v c = record { good = v.good; turned = v.turned; count = v.count; found = v.found; child = c; here = v.here; before = v.before }

-- a child: that of the walk until it has turned
unfoldable pub met_child : Sight → Child → Sight
met_child v c = pick v.turned v (with_child v c)

-- a separator x: only counted, passed, or where the walk turns
abbrev pub counted : Sight → Sight
counted v = record { good = v.good; turned = v.turned; count = v.count + 1; found = v.found; child = v.child; here = v.here; before = v.before }

abbrev pub behind_spot : Sight → Spot → Sight
behind_spot v x = record { good = v.good; turned = v.turned; count = v.count + 1; found = found (v.count + 1) false; child = v.child; here = v.here; before = x }

abbrev pub at_spot : Sight → Spot → Bool → Sight
at_spot v x b = record { good = v.good; turned = true; count = v.count + 1; found = found v.count b; child = v.child; here = x; before = v.before }

-- the walk's key has the order o to that of x
unfoldable pub met_spot : Turn → Sight → Spot → Ordering → Sight
met_spot t v x o = pick v.turned (counted v) (pick (passes t o) (behind_spot v x) (at_spot v x (meets t o)))

-- ---- the walk along what is scanned

abbrev pub spot_of : codec.Spot → Spot
spot_of x = record { start = x.start; len = x.len; value = value_of x.value }

abbrev pub order_with : List ℕ → Key → codec.Spot → Ordering
order_with s k x = order_of (cmp k (part s x.start x.len))

module _ (t : Turn) (s : List ℕ) (k : Key) where
  unfoldable pub along : Sight → ℕ → List (codec.Spot × ℕ) → Sight
  along v c [] = met_child v (child_of c)
  along v c (x ∷ r) = along (met_spot t (met_child v (child_of c)) (spot_of x.0) (order_with s k x.0)) x.1 r

-- whether no child of what is scanned misfits
unfoldable pub fits_kind : Bool → Scan → Bool
fits_kind leaf r = not (any_of (misfits leaf) (child_of r.first ∷ map (λ (x : codec.Spot × ℕ). child_of x.1) r.rest))

-- what is seen of what is scanned, behind what was seen so far
unfoldable pub sight_in : Turn → Bool → List ℕ → Key → Sight → Scan → Sight
sight_in t leaf s k v r = pick (is_whole r && fits_kind leaf r) (along t s k v r.first r.rest) (empty_sight false)

unfoldable pub sight_of : Turn → Bool → List ℕ → Key → Sight
sight_of t leaf s k = sight_in t leaf s k (empty_sight true) (scan_from s 8 0)

-- what `search` hands back: good exactly where sight_of is, and then all of it
pub record Saw (t : Turn) (leaf : Bool) (s : List ℕ) (k : Key) (v : Sight) : Type 0 where
  pub good_is : v.good ≡ (sight_of t leaf s k).good
  pub all_is : v.good ≡ true → v ≡ sight_of t leaf s k

-- ---- what the parts of `search` hand back, behind a sight v of what stands before

-- with no separator to come, whatever the walk is for
abbrev pub SeesLast : Bool → List ℕ → Sight → ℕ → Sight → Type 0
SeesLast leaf s v at r = (t : Turn) (k : Key) → sight_of t leaf s k ≡ sight_in t leaf s k v (scan_from s 0 at) → Saw t leaf s k r

-- once the walk has turned, whatever it is for
abbrev pub GoesOn : Bool → List ℕ → Sight → ℕ → Sight → Type 0
GoesOn leaf s v at r =
    (t : Turn) (k : Key) → v.turned ≡ true → v.count ≤ 8 → sight_of t leaf s k ≡ sight_in t leaf s k v (scan_from s (8 - v.count) at) → Saw t leaf s k r

-- ---- the same by places

-- the index where a walk turns among the places of bytes b, and whether the separator there has the key
abbrev pub turn_at : Turn → Places → List ℕ → Key → Found
turn_at First p b k = found 0 false
turn_at NotBelow p b k = position_of p b k false
turn_at Above p b k = position_of p b k true
turn_at Last p b k = found p.count false

abbrev pub spot_in : Places → ℕ → Spot
spot_in p i = record { start = get_or p.starts i 0; len = get_or p.lens i 0; value = get_or p.values i (value_of 0) }

-- whether the children of places fit: those of the first count + 1
unfoldable pub fits_places : Bool → Places → Bool
fits_places leaf p = not (any_of (misfits leaf) (take (p.count + 1) p.children))

-- what a good sight v says of the places p of bytes b
pub record Sees (t : Turn) (p : Places) (b : List ℕ) (k : Key) (v : Sight) : Type 0 where
  pub count_is : v.count ≡ p.count
  pub found_is : v.found ≡ turn_at t p b k
  pub child_is : v.child ≡ get_or p.children v.found.index.0 (child_of 0)
  pub turned_is : v.turned ≡ ltb v.found.index.0 p.count
  pub here_is : v.turned ≡ true → v.here ≡ spot_in p v.found.index.0
  pub before_is : 0 < v.found.index.0 → v.before ≡ spot_in p (v.found.index.0 - 1)
