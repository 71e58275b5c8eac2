-- A whole store as a tree and its free slots, with and without a root; set and dereference on it; the audit's facts. Assumes nothing.
use Rattle.std.specs.Prelude.{◌≡◌, List, [], ◌∷◌, cond, ℕ, zero, suc, ◌+◌, ◌≤◌, length}
use Rattle.word.specs.Key.{Key}
use Rattle.tree.specs.Map.{Sep, Rising}
use Rattle.tree.specs.Tree.{Node, Kid, Tree, entries, slots}
use Rattle.tree.specs.Free.{occurs, in_store, first_free, later_free, FreePolicy, give_all, slots_from}
use Rattle.tree.specs.Lookup.{look, is_some}
use Rattle.tree.specs.Set.{Parts, one, two, Placed, set, way, full_run}
use Rattle.tree.specs.Remove.{Removed, dereference}

-- a store with a root
pub record State (A : Type 0) : Type 0 where
  pub depth : ℕ
  pub root : Tree A depth
  pub free : List ℕ

module _ {A : Type 0} where
  abbrev pub state_entries : State A → List (Sep A)
  state_entries t = entries A (suc t.depth) t.root

  abbrev pub used_slots : State A → List ℕ
  used_slots t = slots A (suc t.depth) t.root

-- ---- set and dereference

module _ (A : Type 0) where
  -- "the right halves take slots from the leaf up, the new root last"
  abbrev pub grow : (d : ℕ) → List ℕ → Parts A (Tree A d) → State A
  grow d fs (one n) = record { depth = d; root = n; free = fs }
  grow d fs (two a x b) = record { depth = suc d; root = record { slot = first_free fs; first = a; rest = (x, b) ∷ [] }; free = later_free fs }

  -- "A root left with no separator and a child 0 is freed and replaced by it." r is what the root holds.
  abbrev pub shrink : FreePolicy → (d : ℕ) → Tree A d → List (Sep A × Kid A d) → List ℕ → State A
  shrink g zero n r fs = record { depth = zero; root = n; free = fs }
  shrink g (suc d) n [] fs = record { depth = d; root = n.first; free = g.give n.slot fs }
  shrink g (suc d) n (x ∷ r) fs = record { depth = suc d; root = n; free = fs }

module _ {A : Type 0} where
  abbrev pub set_state : Sep A → State A → State A
  set_state e t = let o : Placed A (Tree A t.depth) = set A e (suc t.depth) t.root t.free in grow A t.depth o.free o.parts

  abbrev pub dereference_state : FreePolicy → Key → State A → State A
  dereference_state g k t =
      let o : Removed (Tree A t.depth) = dereference A k (suc t.depth) t.root in
      shrink A g t.depth o.tree o.tree.rest (give_all g o.freed t.free)

  -- "A set of an absent key needs as many slots as there are full nodes in an unbroken run from the leaf upward, one more if
  -- that run takes in the root."
  abbrev pub slots_needed : Key → State A → ℕ
  slots_needed k t = cond (is_some (look A k (suc t.depth) t.root)) 0 (full_run (way A k (suc t.depth) t.root))

-- ---- the audit's facts

module _ {A C : Type 0} (P : C → Type 0) where
  abbrev pub AllRight : List (Sep A × C) → Type 0
  AllRight [] = Unit {0}
  AllRight (x ∷ r) = P x.1 × AllRight r

  -- lo to 8 separators, and P of each child
  pub record Fits (lo : ℕ) (n : Node A C) : Type 0 where
    pub least : lo ≤ length n.rest
    pub most : length n.rest ≤ 8
    pub kid : P n.first
    pub kids : AllRight n.rest

-- "every node but the root has 4 to 8 separators"
abbrev pub Shaped : (A : Type 0) (d : ℕ) → Kid A d → Type 0
Shaped A zero t = Unit {0}
Shaped A (suc d) n = Fits (Shaped A d) 4 n

-- "the root 0 to 8 and at least 1 where depth is above 0"
abbrev pub root_least : ℕ → ℕ
root_least zero = 0
root_least (suc d) = 1

module _ {A : Type 0} where
  -- a store of n slots: "keys strictly increase over the whole tree read in order"; the counts of separators; "no slot is
  -- reached twice .. and the free chain holds exactly the slots not reached, .. each once". All leaves are equally deep by the
  -- tree's type, and "depth is at most 7" follows (proofs/Depth.antt).
  pub record Good (n : ℕ) (t : State A) : Type 0 where
    pub rising : Rising (state_entries t)
    pub shape : Fits (Shaped A t.depth) (root_least t.depth) t.root
    pub once : (x : ℕ) → occurs x (used_slots t) + occurs x t.free ≡ in_store n x

-- ---- with and without a root

-- "with no root, .. all slots are free": then there are only those
pub data Store (A : Type 0) : Type 0 where
  bare : List ℕ → Store A
  rooted : State A → Store A

module _ {A : Type 0} where
  abbrev pub store_entries : Store A → List (Sep A)
  store_entries (bare fs) = []
  store_entries (rooted t) = state_entries t

  abbrev pub GoodStore : ℕ → Store A → Type 0
  GoodStore n (bare fs) = (x : ℕ) → occurs x fs ≡ in_store n x
  GoodStore n (rooted t) = Good n t

  -- "Formatting takes a count .. and chains 1, 2, ... in order."
  abbrev pub formatted : ℕ → Store A
  formatted n = bare (slots_from 1 n)

  -- "With no root, an accepted batch, even an empty one, first writes an empty root."
  abbrev pub with_root : Store A → State A
  with_root (bare fs) = record { depth = 0; root = record { slot = first_free fs; first = tt; rest = [] }; free = later_free fs }
  with_root (rooted t) = t
