-- What `on_existing`, `remove_last`, `rebalance` and what they call do to the bytes of any store: a proof device, as Mirror.
-- Assumes nothing.
use Rattle.std.specs.Prelude.{List, [], ◌∷◌, ◌++◌, Bool, true, false, cond, ℕ, zero, suc, length, leb, ltb}
use Rattle.std.proofs.Math.Option.{Option, none, some}
use Rattle.word.specs.Key.{Key}
use Rattle.tree.specs.Map.{Sep}
use Rattle.tree.specs.Tree.{Node, Zip, at, below, always, plug, join}
use Rattle.tree.specs.Remove.{unsnoc}
use Rattle.node.specs.Chain.{Step}
use Rattle.slots.specs.Layout.{root_of, depth_of}
use Rattle.slots.specs.Mirror.{write_node, free_slot, set_root}
use Rattle.slots.specs.Code.{read_node_at}
use Rattle.outcome.specs.Mirror.{is_next}

-- what came of a removal below: low if under 4 separators are left
pub data Fell : Type 0 where
  bad : Fell
  fine : Fell
  low : Fell

pub record Lost : Type 0 where
  pub out : Fell
  pub store : List ℕ

abbrev pub flag : Bool → Fell
flag true = low
flag false = fine

abbrev pub badly : List ℕ → Lost
badly s = record { out = bad; store = s }

-- the node itself is written last
abbrev pub close_m : List ℕ → Node ℕ ℕ → Lost
close_m s m = record { out = flag (ltb (length m.rest) 4); store = write_node s m }

-- ---- "Below 4 in a child": the node has slot x; its child c stands between l and r

-- a's last goes up, and the one between down to c
abbrev pub borrow_last_m : List ℕ → ℕ → List (ℕ × Sep ℕ) → Node ℕ ℕ → List Step → Sep ℕ → Node ℕ ℕ → List Step → Lost
borrow_last_m s x l a [] y c r = badly s
borrow_last_m s x l a (q ∷ qs) y c r =
    let u = unsnoc q qs in
    close_m (write_node (write_node s (record { slot = a.slot; first = a.first; rest = u.0 })) (record { slot = c.slot; first = u.1.1; rest = (y, c.first) ∷ c.rest }))
    (plug x l a.slot ((u.1.0, c.slot) ∷ r))

-- b's first goes up, and the one between down to c
abbrev pub borrow_first_m : List ℕ → ℕ → List (ℕ × Sep ℕ) → Node ℕ ℕ → Sep ℕ → Node ℕ ℕ → List Step → List Step → Lost
borrow_first_m s x l c y b [] r = badly s
borrow_first_m s x l c y b (q ∷ qs) r =
    close_m (write_node (write_node s (record { slot = c.slot; first = c.first; rest = c.rest ++ ((y, b.first) ∷ []) })) (record { slot = b.slot; first = q.1; rest = qs }))
    (plug x l c.slot ((q.0, b.slot) ∷ r))

-- the right slot is freed, the joined node written, then the node
abbrev pub merge_m : List ℕ → ℕ → List (ℕ × Sep ℕ) → Node ℕ ℕ → Sep ℕ → Node ℕ ℕ → List Step → Lost
merge_m s x l a y b r = close_m (write_node (free_slot s b.slot) (join a y b)) (plug x l a.slot r)

module _ (d : ℕ) (s : List ℕ) (x : ℕ) where
  abbrev pub with_right : List (ℕ × Sep ℕ) → Node ℕ ℕ → Sep ℕ → List Step → Option (Node ℕ ℕ) → Lost
  with_right l c y r none = badly s
  with_right l c y r (some b) = cond (leb 5 (length b.rest)) (borrow_first_m s x l c y b b.rest r) (merge_m s x l c y b r)

  -- a is the left sibling, read before
  abbrev pub last_child : List (ℕ × Sep ℕ) → Node ℕ ℕ → Sep ℕ → Node ℕ ℕ → List Step → Lost
  last_child l a y c [] = merge_m s x l a y c []
  last_child l a y c (z ∷ r) = with_right ((a.slot, y) ∷ l) c z.0 r (read_node_at d s z.1)

  abbrev pub with_left : List (ℕ × Sep ℕ) → Sep ℕ → Node ℕ ℕ → List Step → Option (Node ℕ ℕ) → Lost
  with_left l y c r none = badly s
  with_left l y c r (some a) = cond (leb 5 (length a.rest)) (borrow_last_m s x l a a.rest y c r) (last_child l a y c r)

  abbrev pub first_child : Node ℕ ℕ → List Step → Lost
  first_child c [] = badly s
  first_child c (z ∷ r) = with_right [] c z.0 r (read_node_at d s z.1)

  -- a child that holds 4 or more isn't low, and the code has no room to mend it
  abbrev pub around : List (ℕ × Sep ℕ) → List Step → Option (Node ℕ ℕ) → Lost
  around l r none = badly s
  around [] r (some c) = cond (leb 4 (length c.rest)) (badly s) (first_child c r)
  around (a ∷ l) r (some c) = cond (leb 4 (length c.rest)) (badly s) (with_left l a.1 c r (read_node_at d s a.0))

-- the child at index i, with what stands left and right of it
abbrev pub zip_to : ℕ → List (ℕ × Sep ℕ) → ℕ → List Step → Zip ℕ ℕ
zip_to zero l c r = record { lft = l; mid = c; rgt = r }
zip_to (suc i) l c [] = record { lft = l; mid = c; rgt = [] }
zip_to (suc i) l c (y ∷ r) = zip_to i ((c, y.0) ∷ l) y.1 r

abbrev pub zip_at : ℕ → Node ℕ ℕ → Zip ℕ ℕ
zip_at i m = zip_to i [] m.first m.rest

abbrev pub rebalance_zip : ℕ → List ℕ → ℕ → Zip ℕ ℕ → Lost
rebalance_zip zero s x z = badly s
rebalance_zip (suc d) s x z = around d s x z.lft z.rgt (read_node_at d s z.mid)

abbrev pub rebalance_on : ℕ → List ℕ → ℕ → ℕ → Option (Node ℕ ℕ) → Lost
rebalance_on d s x i none = badly s
rebalance_on d s x i (some m) = rebalance_zip d s x (zip_at i m)

-- the node of depth d in slot x, whose child at index i is low
unfoldable pub rebalance_m : ℕ → List ℕ → ℕ → ℕ → Lost
rebalance_m d s x i = rebalance_on d s x i (read_node_at d s x)

abbrev pub settled_low : ℕ → ℕ → ℕ → List ℕ → Fell → Lost
settled_low d x i s bad = badly s
settled_low d x i s fine = record { out = fine; store = s }
settled_low d x i s low = rebalance_m d s x i

-- ---- the largest entry

pub data Last : Type 0 where
  nothing : Last
  broken : List ℕ → Last
  last : Sep ℕ → Lost → Last

-- a leaf's last separator, and the child behind it
abbrev pub last_here : List ℕ → ℕ → List (ℕ × Sep ℕ) → List Step → Last
last_here s x [] r = broken s
last_here s x (y ∷ l) r = last y.1 (close_m s (plug x l y.0 r))

-- in the node of depth d in slot x, at its last child, of which this came
abbrev pub last_at_m : ℕ → List ℕ → ℕ → Zip ℕ ℕ → Last → Last
last_at_m d s x z (broken t) = broken t
last_at_m d s x z (last y g) = last y (settled_low d x (length z.lft) g.store g.out)
last_at_m d s x z nothing = last_here s x z.lft z.rgt

abbrev pub last_on : (ℕ → Last) → ℕ → List ℕ → ℕ → Option (Node ℕ ℕ) → Last
last_on rec d s x none = broken s
last_on rec d s x (some m) = let z : Zip ℕ ℕ = at always m in last_at_m d s x z (rec z.mid)

abbrev pub remove_last_m : (d : ℕ) → List ℕ → ℕ → Last
remove_last_m zero s x = nothing
remove_last_m (suc d) s x = last_on (λ c. remove_last_m d s c) d s x (read_node_at d s x)

-- ---- a dereference

-- the separator at index i replaced by w, in the node as it stands now
abbrev pub replaced_at : ℕ → Sep ℕ → List Step → List Step
replaced_at zero w [] = []
replaced_at zero w (y ∷ r) = (w, y.1) ∷ r
replaced_at (suc i) w [] = []
replaced_at (suc i) w (y ∷ r) = y ∷ replaced_at i w r

abbrev pub replace_on : ℕ → ℕ → ℕ → Sep ℕ → Fell → List ℕ → Option (Node ℕ ℕ) → Lost
replace_on d x i w o s none = badly s
replace_on d x i w o s (some m) = settled_low d x i (write_node s (record { slot = m.slot; first = m.first; rest = replaced_at i w m.rest })) o

-- the same after a removal below that may have gone wrong
abbrev pub replace_m : ℕ → ℕ → ℕ → Sep ℕ → Fell → List ℕ → Lost
replace_m d x i w bad s = badly s
replace_m d x i w fine s = replace_on d x i w fine s (read_node_at d s x)
replace_m d x i w low s = replace_on d x i w low s (read_node_at d s x)

-- a leaf without the separator in front of r
abbrev pub without_next : ℕ → List (ℕ × Sep ℕ) → ℕ → List Step → Node ℕ ℕ
without_next x l c [] = plug x l c []
without_next x l c (y ∷ r) = plug x l y.1 r

-- the separator in front of z's right goes; o is what its left child gave
abbrev pub taken_m : ℕ → List ℕ → ℕ → Zip ℕ ℕ → Last → Lost
taken_m d s x z (broken t) = badly t
taken_m d s x z (last w g) = replace_m d x (length z.lft) w g.out g.store
taken_m d s x z nothing = close_m s (without_next x z.lft z.mid z.rgt)

abbrev pub remove_here : (ℕ → Lost) → (ℕ → Last) → Key → ℕ → List ℕ → ℕ → Zip ℕ ℕ → Lost
remove_here rec lst k d s x z =
    let g : Lost = rec z.mid in
    cond (is_next k z.rgt) (taken_m d s x z (lst z.mid)) (settled_low d x (length z.lft) g.store g.out)

abbrev pub remove_on : (ℕ → Lost) → (ℕ → Last) → Key → ℕ → List ℕ → ℕ → Option (Node ℕ ℕ) → Lost
remove_on rec lst k d s x none = badly s
remove_on rec lst k d s x (some m) = remove_here rec lst k d s x (at (below k) m)

abbrev pub remove_m : Key → (d : ℕ) → List ℕ → ℕ → Lost
remove_m k zero s x = record { out = fine; store = s }
remove_m k (suc d) s x = remove_on (λ c. remove_m k d s c) (λ c. remove_last_m d s c) k d s x (read_node_at d s x)

-- ---- the root

-- a root that has no separator left gives way to its child
abbrev pub give_way : ℕ → List ℕ → ℕ → List Step → Node ℕ ℕ → Lost
give_way d s old [] m = record { out = fine; store = set_root (free_slot s old) m.first d }
give_way d s old (x ∷ r) m = record { out = fine; store = s }

abbrev pub shrink_on : ℕ → List ℕ → ℕ → Option (Node ℕ ℕ) → Lost
shrink_on d s old none = badly s
shrink_on d s old (some m) = give_way d s old m.rest m

abbrev pub shrink_m : ℕ → ℕ → List ℕ → Fell → Lost
shrink_m old d s bad = badly s
shrink_m old d s fine = record { out = fine; store = s }
shrink_m old zero s low = record { out = fine; store = s }
shrink_m old (suc d) s low = shrink_on d s old (read_node_at (suc d) s old)

unfoldable pub remove_key_m : List ℕ → Key → Lost
remove_key_m s k = let g : Lost = remove_m k (suc (depth_of s)) s (root_of s) in shrink_m (root_of s) (depth_of s) g.store g.out
