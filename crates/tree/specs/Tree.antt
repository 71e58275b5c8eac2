-- A B-tree of order 8 whose nodes are labelled with slot numbers. `A` is what a separator carries beside its key.
-- The depth is in the type, so all leaves are equally deep. A node is a chain child, separator, child, .., child, kept as
-- its first child and then pairs of a separator and the child right of it, so there is one more child than separators.
-- "A leaf writes 0 for every child": below a leaf stands `tt`, so that a leaf is a node like any other. Assumes nothing.
use Rattle.std.specs.Prelude.{List, [], ◌∷◌, ◌++◌, Bool, true, false, cond, ℕ, zero, suc}
use Rattle.std.proofs.Math.Dec.{compare_is_eq}
use Rattle.word.specs.Key.{Key, cmp, is_lt}
use Rattle.tree.specs.Map.{Sep}

pub record Node (A C : Type 0) : Type 0 where
  pub slot : ℕ
  pub first : C
  pub rest : List (Sep A × C)

-- a child of a node of height d: nothing below a leaf, a node otherwise
abbrev pub Kid : Type 0 → ℕ → Type 0
Kid A zero = Unit {0}
Kid A (suc d) = Node A (Kid A d)

-- a tree of depth d: "depth 0" is a leaf alone
abbrev pub Tree : Type 0 → ℕ → Type 0
Tree A d = Kid A (suc d)

-- ---- a chain read in order: each separator by g, each child by f

module _ {A C D : Type 0} where
  abbrev pub read_rest : (Sep A → List D) → (C → List D) → List (Sep A × C) → List D
  read_rest g f [] = []
  read_rest g f (x ∷ r) = g x.0 ++ (f x.1 ++ read_rest g f r)

  -- the left part of a zipper, whose nearest pair stands first
  abbrev pub read_left : (Sep A → List D) → (C → List D) → List (C × Sep A) → List D
  read_left g f [] = []
  read_left g f (x ∷ l) = read_left g f l ++ (f x.0 ++ g x.1)

  abbrev pub read : (Sep A → List D) → (C → List D) → Node A C → List D
  read g f n = f n.first ++ read_rest g f n.rest

abbrev pub only : {A : Type 0} → A → List A
only s = s ∷ []

abbrev pub none_of : {A D : Type 0} → A → List D
none_of s = []

module _ (A : Type 0) where
  -- "the whole tree read in order"
  abbrev pub entries : (d : ℕ) → Kid A d → List (Sep A)
  entries zero t = []
  entries (suc d) n = read only (entries d) n

  -- the slots that are reached, a node's before its children's
  abbrev pub slots : (d : ℕ) → Kid A d → List ℕ
  slots zero t = []
  slots (suc d) n = n.slot ∷ read none_of (slots d) n

-- ---- the zipper: a child of a node with what stands left and right of it, the nearest first

pub record Zip (A C : Type 0) : Type 0 where
  pub lft : List (C × Sep A)
  pub mid : C
  pub rgt : List (Sep A × C)

module _ {A C : Type 0} where
  -- "`position` compares separators from index 0": go right while p holds of the next separator. The index is lft's length.
  abbrev pub seek : (Sep A → Bool) → List (C × Sep A) → C → List (Sep A × C) → Zip A C
  seek p l c [] = record { lft = l; mid = c; rgt = [] }
  seek p l c (x ∷ r) = cond (p x.0) (seek p ((c, x.0) ∷ l) x.1 r) (record { lft = l; mid = c; rgt = x ∷ r })

  abbrev pub at : (Sep A → Bool) → Node A C → Zip A C
  at p n = seek p [] n.first n.rest

  -- the node again, with slot s
  abbrev pub plug : ℕ → List (C × Sep A) → C → List (Sep A × C) → Node A C
  plug s [] c r = record { slot = s; first = c; rest = r }
  plug s (x ∷ l) c r = plug s l x.0 ((x.1, c) ∷ r)

  -- two neighbours and the separator between them as one node, in the left one's slot
  abbrev pub join : Node A C → Sep A → Node A C → Node A C
  join a s b = record { slot = a.slot; first = a.first; rest = a.rest ++ ((s, b.first) ∷ b.rest) }

-- how a separator stands to a key
module _ {A : Type 0} where
  abbrev pub below : Key → Sep A → Bool
  below k s = is_lt (cmp s.key k)

  abbrev pub same : Key → Sep A → Bool
  same k s = compare_is_eq (cmp k s.key)

  abbrev pub always : Sep A → Bool
  always s = true

  abbrev pub never : Sep A → Bool
  never s = false
