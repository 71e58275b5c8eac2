-- `position`: the index of a key among a node's separators, and what the search does on any places. Assumes nothing.
use Rattle.std.specs.Prelude.{List, [], ◌∷◌, Bool, true, false, cond, ℕ, zero, suc, ◌+◌, get_or, drop, leb}
use Rattle.word.specs.Pick.{pick}
use Rattle.word.specs.Key.{Key, cmp, order_of}
use Rattle.std.specs.Ordering.{is_eq}
use Rattle.std.specs.declared.cmp.Ordering.{Ordering}
use Rattle.std.specs.declared.cmp.Ordering.TheVariants.{Less, Equal, Greater}
use Rattle.word.specs.Part.{part}
use Rattle.tree.specs.Map.{Sep}
use Rattle.tree.specs.Tree.{below, same}
use Rattle.tree.specs.Walk.{not_above}
use Rattle.node.specs.Chain.{Step}
use Rattle.codec.specs.declared.Places.{Places}
use Rattle.codec.specs.declared.position.Found.{Found}

-- ---- "`position` compares separators from index 0."

module _ {A C : Type 0} where
  -- how many separators in front p holds of
  abbrev pub leading : (Sep A → Bool) → List (Sep A × C) → ℕ
  leading p [] = 0
  leading p (x ∷ r) = cond (p x.0) (suc (leading p r)) 0

  abbrev pub is_next : Key → List (Sep A × C) → Bool
  is_next k [] = false
  is_next k (x ∷ r) = same k x.0

-- the first index whose key is not below k, and whether it is k
unfoldable pub found_in : Key → List Step → Found
found_in k r = record { index = record { 0 = leading (below k) r }; at = is_next k (drop (leading (below k) r) r) }

-- the first index whose key is above k
unfoldable pub found_past : Key → List Step → Found
found_past k r = record { index = record { 0 = leading (not_above k) r }; at = false }

-- ---- on any places and bytes

abbrev pub found : ℕ → Bool → Found
found i b = record { index = record { 0 = i }; at = b }

-- whether the search goes on behind a key, to which k has this order
abbrev pub goes_on : Bool → Ordering → Bool
goes_on past Less = false
goes_on past Equal = past
goes_on past Greater = true

-- the order of k and the key at index i
unfoldable pub order_at : Places → List ℕ → Key → ℕ → Ordering
order_at p s k i = order_of (cmp k (part s (get_or p.starts i 0) (get_or p.lens i 0)))

-- the search from index i on, n indexes left
unfoldable pub position_from : Places → List ℕ → Key → Bool → ℕ → ℕ → Found
position_from p s k past i zero = found 8 false
position_from p s k past i (suc n) =
    pick (leb p.count i) (found i false)
    (pick (goes_on past (order_at p s k i)) (position_from p s k past (i + 1) n) (found i (is_eq (order_at p s k i))))

unfoldable pub position_of : Places → List ℕ → Key → Bool → Found
position_of p s k past = position_from p s k past 0 8
