-- The tree that the bytes of a store hold, read from the root down, and its entries: total on bytes. Assumes nothing.
use Rattle.std.specs.Prelude.{List, [], ◌∷◌, Bool, true, false, cond, ◌&&◌, ℕ, zero, suc, eqb}
use Rattle.std.proofs.Math.Option.{Option, none, some}
use Rattle.tree.specs.Map.{Sep}
use Rattle.tree.specs.Tree.{Node, Kid, entries}
use Rattle.node.specs.Chain.{Step}
use Rattle.slots.specs.Layout.{used, slot_at, root_of, depth_of}
use Rattle.slots.specs.Mirror.{read_node}

abbrev pub same_bytes : List ℕ → List ℕ → Bool
same_bytes [] [] = true
same_bytes [] (b ∷ t) = false
same_bytes (a ∷ s) [] = false
same_bytes (a ∷ s) (b ∷ t) = eqb a b && same_bytes s t

-- only a node that fills its slot as the writer leaves it: length, standard form, zeros
abbrev pub as_written : List ℕ → Option (Node ℕ ℕ) → Option (Node ℕ ℕ)
as_written b none = none
as_written b (some m) = cond (same_bytes b (used m.first m.rest)) (some m) none

module _ {C : Type 0} where
  abbrev pub step_o : Sep ℕ → Option C → Option (List (Sep ℕ × C)) → Option (List (Sep ℕ × C))
  step_o e none none = none
  step_o e none (some r) = none
  step_o e (some c) none = none
  step_o e (some c) (some r) = some ((e, c) ∷ r)

  abbrev pub node_o : ℕ → Option C → Option (List (Sep ℕ × C)) → Option (Node ℕ C)
  node_o x none none = none
  node_o x none (some r) = none
  node_o x (some c) none = none
  node_o x (some c) (some r) = some (record { slot = x; first = c; rest = r })

  abbrev pub steps_o : (ℕ → Option C) → List Step → Option (List (Sep ℕ × C))
  steps_o f [] = some []
  steps_o f (x ∷ r) = step_o x.0 (f x.1) (steps_o f r)

  abbrev pub on_read : (ℕ → Option C) → Option (Node ℕ ℕ) → Option (Node ℕ C)
  on_read f none = none
  on_read f (some m) = node_o m.slot (f m.first) (steps_o f m.rest)

abbrev pub leaf_o : Bool → Option (Unit {0})
leaf_o true = some tt
leaf_o false = none

-- the tree of height d in slot x, if there is one
abbrev pub build : (d : ℕ) → List ℕ → ℕ → Option (Kid ℕ d)
build zero s x = leaf_o (eqb x 0)
build (suc d) s x = on_read (build d s) (as_written (slot_at s x) (read_node s x))

abbrev pub entries_o : (d : ℕ) → Option (Kid ℕ d) → Option (List (Sep ℕ))
entries_o d none = none
entries_o d (some t) = some (entries ℕ d t)

-- the entries of a store: those of the tree that its bytes hold, none of them without a root; `none` where they hold no tree
unfoldable pub entries_of : List ℕ → Option (List (Sep ℕ))
entries_of s = cond (eqb (root_of s) 0) (some []) (entries_o (suc (depth_of s)) (build (suc (depth_of s)) s (root_of s)))
