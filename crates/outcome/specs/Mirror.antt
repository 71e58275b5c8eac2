-- What `insert` and what it calls do to the bytes of any store, with a node's contents as a chain: a proof device. A node is
-- read on the way down, and read again where it is edited, since the call below has written meanwhile. The depth is one above
-- the code's, so that a leaf is a node like any other: below it the separator itself comes back. Assumes nothing.
use Rattle.std.specs.Prelude.{List, [], ◌∷◌, ◌++◌, Bool, false, cond, ℕ, zero, suc, length, take, drop, leb, eqb}
use Rattle.std.proofs.Math.Option.{Option, none, some}
use Rattle.word.specs.Key.{Key}
use Rattle.tree.specs.Map.{Sep}
use Rattle.tree.specs.Tree.{Node, Zip, at, below, same}
use Rattle.node.specs.Chain.{Step}
use Rattle.slots.specs.Limits.{most_depth}
use Rattle.slots.specs.Layout.{root_of, depth_of}
use Rattle.slots.specs.Mirror.{write_node, Took, take_slot, set_root}
use Rattle.slots.specs.Code.{read_node_at}

-- what came of a set below: the bytes are bad; done; or a separator to take in, and the slot right of it
pub data Came : Type 0 where
  bad : Came
  plain : Came
  split : Sep ℕ → ℕ → Came

pub record Ran : Type 0 where
  pub out : Came
  pub store : List ℕ

-- ---- a node with one separator more is written, or split: the right half's slot is taken, the left half written, then the right

abbrev pub first_four : Node ℕ ℕ → Node ℕ ℕ
first_four m = record { slot = m.slot; first = m.first; rest = take 4 m.rest }

abbrev pub in_two : Node ℕ ℕ → Step → List Step → Took → Ran
in_two m x r t = cond (eqb t.slot 0) (record { out = bad; store = t.store })
    (record { out = split x.0 t.slot; store = write_node (write_node t.store (first_four m)) (record { slot = t.slot; first = x.1; rest = r }) })

unfoldable pub split_m : List ℕ → Node ℕ ℕ → List Step → Ran
split_m s m [] = record { out = bad; store = s }
split_m s m (x ∷ r) = in_two m x r (take_slot s)

unfoldable pub place_m : List ℕ → Node ℕ ℕ → Ran
place_m s m = cond (leb (length m.rest) 8) (record { out = plain; store = write_node s m }) (split_m s m (drop 4 m.rest))

-- the separator y and the child b right of it at index i of the node that stands in slot x
abbrev pub inserted_at : ℕ → Sep ℕ → ℕ → Node ℕ ℕ → Node ℕ ℕ
inserted_at i y b m = record { slot = m.slot; first = m.first; rest = take i m.rest ++ ((y, b) ∷ drop i m.rest) }

abbrev pub insert_on : List ℕ → ℕ → Sep ℕ → ℕ → Option (Node ℕ ℕ) → Ran
insert_on s i y b none = record { out = bad; store = s }
insert_on s i y b (some m) = cond (leb i (length m.rest)) (place_m s (inserted_at i y b m)) (record { out = bad; store = s })

unfoldable pub insert_node_m : ℕ → List ℕ → ℕ → ℕ → Sep ℕ → ℕ → Ran
insert_node_m d s x i y b = insert_on s i y b (read_node_at d s x)

abbrev pub settled : ℕ → ℕ → ℕ → List ℕ → Came → Ran
settled d x i s bad = record { out = bad; store = s }
settled d x i s plain = record { out = plain; store = s }
settled d x i s (split y b) = insert_node_m d s x i y b

abbrev pub settle_m : ℕ → ℕ → ℕ → Ran → Ran
settle_m d x i g = settled d x i g.store g.out

-- ---- a set

-- another value at index i of the node m, where the separators from there on are these
abbrev pub revalue_m : ℕ → ℕ → List ℕ → Node ℕ ℕ → List Step → Ran
revalue_m i v s m [] = record { out = bad; store = s }
revalue_m i v s m (y ∷ r) = record { out = plain; store = write_node s (record { slot = m.slot; first = m.first; rest = take i m.rest ++ ((record { key = y.0.key; val = v }, y.1) ∷ r) }) }

abbrev pub set_value_m : ℕ → ℕ → ℕ → List ℕ → Option (Node ℕ ℕ) → Ran
set_value_m i v x s none = record { out = bad; store = s }
set_value_m i v x s (some m) = revalue_m i v s m (drop i m.rest)

abbrev pub is_next : Key → List Step → Bool
is_next k [] = false
is_next k (y ∷ r) = same k y.0

-- at the node of depth d in slot x: z is where the key belongs in it
abbrev pub insert_here : (ℕ → Ran) → Sep ℕ → ℕ → List ℕ → ℕ → Zip ℕ ℕ → Ran
insert_here rec e d s x z = cond (is_next e.key z.rgt) (set_value_m (length z.lft) e.val x s (read_node_at d s x)) (settle_m d x (length z.lft) (rec z.mid))

abbrev pub on_node : (ℕ → Ran) → Sep ℕ → ℕ → List ℕ → ℕ → Option (Node ℕ ℕ) → Ran
on_node rec e d s x none = record { out = bad; store = s }
on_node rec e d s x (some m) = insert_here rec e d s x (at (below e.key) m)

abbrev pub insert_m : Sep ℕ → (d : ℕ) → List ℕ → ℕ → Ran
insert_m e zero s x = record { out = split e 0; store = s }
insert_m e (suc d) s x = on_node (λ c. insert_m e d s c) e d s x (read_node_at d s x)

-- ---- the root

-- a root above the two halves of the old one
abbrev pub new_root : ℕ → ℕ → Sep ℕ → ℕ → Took → Ran
new_root old d y b t = cond (eqb t.slot 0) (record { out = bad; store = t.store })
    (record { out = plain; store = set_root (write_node t.store (record { slot = t.slot; first = old; rest = (y, b) ∷ [] })) t.slot (suc d) })

abbrev pub grow_m : ℕ → ℕ → List ℕ → Came → Ran
grow_m old d s bad = record { out = bad; store = s }
grow_m old d s plain = record { out = plain; store = s }
grow_m old d s (split y b) = cond (leb most_depth d) (record { out = bad; store = s }) (new_root old d y b (take_slot s))

unfoldable pub set_m : List ℕ → Sep ℕ → Ran
set_m s e = let g : Ran = insert_m e (suc (depth_of s)) s (root_of s) in grow_m (root_of s) (depth_of s) g.store g.out
