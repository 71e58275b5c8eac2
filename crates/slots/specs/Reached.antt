-- The slots reached from the root, told on the bytes alone, without a tree. Assumes nothing.
use Rattle.std.specs.Prelude.{List, [], ◌∷◌, cond, ℕ, zero, suc, eqb}
use Rattle.std.proofs.Math.Option.{Option, none, some}
use Rattle.tree.specs.Tree.{Node, read, none_of}
use Rattle.slots.specs.Layout.{root_of, depth_of}
use Rattle.slots.specs.Mirror.{read_node}

-- what f reaches from the children of a node that could be read
abbrev pub below : (ℕ → List ℕ) → Option (Node ℕ ℕ) → List ℕ
below f none = []
below f (some m) = read none_of f m

-- the slots reached in d levels of nodes from slot x down, each as often as it is reached; at depth 0 no child is followed
abbrev pub reached_from : ℕ → List ℕ → ℕ → List ℕ
reached_from zero s x = []
reached_from (suc d) s x = x ∷ below (reached_from d s) (read_node s x)

-- "reached slots": from the root; none without one
unfoldable pub reached : List ℕ → List ℕ
reached s = cond (eqb (root_of s) 0) [] (reached_from (suc (depth_of s)) s (root_of s))
