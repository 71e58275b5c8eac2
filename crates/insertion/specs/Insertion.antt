-- What a node is asked before it is changed among its slot's bytes, and what is promised of a separator put into it, split or
-- not. Assumes nothing.
use Rattle.std.specs.Prelude.{◌≡◌, List, Bool, true, ◌&&◌, ℕ, ◌+◌, ◌≤◌, ◌<◌, get_or, leb, ltb}
use Rattle.tree.specs.Map.{Sep}
use Rattle.codec.specs.declared.Places.{Places}
use Rattle.node.specs.Chain.{longest_key, Fit}
use Rattle.codec.specs.Codec.{is_accepted}
use Rattle.codec.specs.Splice.{splice_at}
use Rattle.slots.specs.Limits.{most_node}
use Rattle.slots.specs.Code.{places_in, reading_in, node_in, fits_depth}
use Rattle.outcome.specs.Mirror.{place_m, inserted_at}
use Rattle.outcome.specs.Outcome.{Outcome, Makes}

-- whether the places are those of a node of depth d: refused bytes have no child, so they pass the child test of a leaf
abbrev pub is_node_of : ℕ → Places → Bool
is_node_of d p = fits_depth d p.count p.children && is_accepted p.ending

-- whether that node takes a separator with a key of n bytes at index i
abbrev pub takes_at : Places → ℕ → ℕ → ℕ → Bool
takes_at p d i n = leb i p.count && (leb n longest_key && is_node_of d p)

-- whether that node has a separator at index i
abbrev pub has_at : Places → ℕ → ℕ → Bool
has_at p d i = ltb i p.count && is_node_of d p

-- keys end within a node
abbrev pub EndWithin : Places → Type 0
EndWithin p = (j : ℕ) → get_or p.starts j 0 + get_or p.lens j 0 ≤ most_node

-- a full node, with the separator e and the child b at index i
abbrev pub SplitsFull : List ℕ → ℕ → ℕ → Sep ℕ → ℕ → Outcome → List ℕ → Type 0
SplitsFull s x i e b r t =
    is_accepted (reading_in s x).ending ≡ true → 7 < (places_in s x).count → i ≤ (places_in s x).count → Fit e
    → Makes (place_m s (inserted_at i e b (node_in s x))) r t

-- the same of a node that is full or not, with n separators, whose index i begins at a place
abbrev pub TakesIn : List ℕ → ℕ → ℕ → ℕ → ℕ → Sep ℕ → ℕ → Outcome → List ℕ → Type 0
TakesIn s x n i place e b r t =
    is_accepted (reading_in s x).ending ≡ true → n ≡ (places_in s x).count → i ≤ (places_in s x).count → place ≡ splice_at (places_in s x) i → Fit e
    → Makes (place_m s (inserted_at i e b (node_in s x))) r t
