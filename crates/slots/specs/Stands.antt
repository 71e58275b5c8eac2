-- The bytes of a store and the state of crate `tree` that they stand for; what the audit asks of bytes. Assumes nothing.
use Rattle.std.specs.Prelude.{◌≡◌, List, [], ◌∷◌, ℕ, zero, suc, ◌+◌, ◌*◌, ◌≤◌, length}
use Rattle.tree.specs.Map.{Sep}
use Rattle.tree.specs.Tree.{Node, Kid}
use Rattle.tree.specs.Free.{first_free}
use Rattle.tree.specs.State.{State, AllRight, Store, bare, rooted, GoodStore}
use Rattle.node.specs.Chain.{Writable}
use Rattle.slots.specs.Limits.{header_size, slot_size, most_slots}
use Rattle.slots.specs.Layout.{header, used, idle, head_of, slot_at}

-- the slot of a child; "a leaf writes 0 for every child"
abbrev pub label : (d : ℕ) → Kid ℕ d → ℕ
label zero t = 0
label (suc d) n = n.slot

module _ {A C D : Type 0} (f : C → D) where
  abbrev pub map_right : List (Sep A × C) → List (Sep A × D)
  map_right [] = []
  map_right (x ∷ r) = (x.0, f x.1) ∷ map_right r

  abbrev pub map_node : Node A C → Node A D
  map_node n = record { slot = n.slot; first = f n.first; rest = map_right n.rest }

-- the node stands in its slot: "every reached node is in standard form", "zeros included"
pub record InSlot (s : List ℕ) (m : Node ℕ ℕ) : Type 0 where
  pub fine : Writable m.first m.rest
  pub bytes : slot_at s m.slot ≡ used m.first m.rest

-- each node of the tree stands in its slot: "a node at depth 0 has only zero children, one above it has one more child than
-- separators"
abbrev pub Holds : List ℕ → (d : ℕ) → Kid ℕ d → Type 0
Holds s zero t = Unit {0}
Holds s (suc d) n = InSlot s (map_node (label d) n) × Holds s d n.first × AllRight (Holds s d) n.rest

-- each free slot names the next, the last 0: "and ends"
abbrev pub Links : List ℕ → List ℕ → Type 0
Links s [] = Unit {0}
Links s (x ∷ fs) = (slot_at s x ≡ idle (first_free fs)) × Links s fs

-- a store of n slots whose header has the first of fs behind the root and the depth, and whose free chain is fs
pub record Based (n root depth : ℕ) (s fs : List ℕ) : Type 0 where
  pub size : length s ≡ header_size + slot_size * n
  pub head : head_of s ≡ header root depth n (first_free fs)
  pub links : Links s fs

-- a store with a root
pub record StandsTree (n : ℕ) (s : List ℕ) (t : State ℕ) : Type 0 where
  pub base : Based n t.root.slot t.depth s t.free
  pub tree : Holds s (suc t.depth) t.root

-- "with no root, depth is 0 and all slots are free"
abbrev pub Stands : ℕ → List ℕ → Store ℕ → Type 0
Stands n s (bare fs) = Based n 0 0 s fs
Stands n s (rooted t) = StandsTree n s t

-- what the audit asks: the bytes are those of a good state of a store of 1 to 65,535 slots
pub record Audited (s : List ℕ) : Type 0 where
  pub count : ℕ
  pub least : 1 ≤ count
  pub most : count ≤ most_slots
  pub store : Store ℕ
  pub stands : Stands count s store
  pub good : GoodStore count store
