-- A dereference: the entry goes, in an inner node the largest of the left child takes its place, and on the way back each
-- child that holds fewer than 4 borrows or merges. Assumes nothing.
use Rattle.std.specs.Prelude.{List, [], ◌∷◌, ◌++◌, cond, ℕ, zero, suc, length, leb}
use Rattle.word.specs.Key.{Key}
use Rattle.tree.specs.Map.{Sep}
use Rattle.tree.specs.Tree.{Node, Kid, Tree, Zip, at, below, same, always, plug, join}

-- what is left, and the slots that became free, the latest first
pub record Removed (C : Type 0) : Type 0 where
  pub tree : C
  pub freed : List ℕ

-- the list x ∷ r without its last, and its last
abbrev pub unsnoc : {X : Type 0} → X → List X → List X × X
unsnoc x [] = ([], x)
unsnoc x (y ∷ r) = let q = unsnoc y r in (x ∷ q.0, q.1)

-- ---- "Below 4 in a child". The node has slot s; its child c stands between l and r.

module _ {A C : Type 0} where
  -- "borrow its last": a's last separator goes up, the separator x between a and c comes down to c's front
  abbrev pub borrow_last : ℕ → List (Node A C × Sep A) → Node A C → Sep A → List (Sep A × C) → Node A C → List (Sep A × Node A C) → Node A (Node A C)
  borrow_last s l a x [] c r = plug s ((a, x) ∷ l) c r
  borrow_last s l a x (y ∷ q) c r =
      let u = unsnoc y q in
      plug s ((record { slot = a.slot; first = a.first; rest = u.0 }, u.1.0) ∷ l)
      (record { slot = c.slot; first = u.1.1; rest = (x, c.first) ∷ c.rest }) r

  -- "borrow its first": b's first separator goes up, the separator x between c and b comes down to c's end
  abbrev pub borrow_first : ℕ → List (Node A C × Sep A) → Node A C → Sep A → Node A C → List (Sep A × C) → List (Sep A × Node A C) → Node A (Node A C)
  borrow_first s l c x b [] r = plug s l c ((x, b) ∷ r)
  borrow_first s l c x b (y ∷ q) r =
      plug s l (record { slot = c.slot; first = c.first; rest = c.rest ++ ((x, b.first) ∷ []) })
      ((y.0, record { slot = b.slot; first = y.1; rest = q }) ∷ r)

  -- "else if the right does, borrow its first; else merge with the right sibling, or with the left if there is no right.
  -- The right slot of the pair is freed."
  abbrev pub try_right : ℕ → List (Node A C × Sep A) → Node A C → List (Sep A × Node A C) → Removed (Node A (Node A C))
  try_right s l c (y ∷ r) = cond (leb 5 (length y.1.rest))
      (record { tree = borrow_first s l c y.0 y.1 y.1.rest r; freed = [] })
      (record { tree = plug s l (join c y.0 y.1) r; freed = y.1.slot ∷ [] })
  try_right s (x ∷ l) c [] = record { tree = plug s l (join x.0 x.1 c) []; freed = c.slot ∷ [] }
  try_right s [] c [] = record { tree = plug s [] c []; freed = [] }

  -- "if the left sibling holds 5 or more, borrow its last"
  abbrev pub try_left : ℕ → List (Node A C × Sep A) → Node A C → List (Sep A × Node A C) → Removed (Node A (Node A C))
  try_left s [] c r = try_right s [] c r
  try_left s (x ∷ l) c r = cond (leb 5 (length x.0.rest))
      (record { tree = borrow_last s l x.0 x.1 x.0.rest c r; freed = [] })
      (try_right s (x ∷ l) c r)

  abbrev pub rebalance : ℕ → List (Node A C × Sep A) → Node A C → List (Sep A × Node A C) → Removed (Node A (Node A C))
  rebalance s l c r = cond (leb 4 (length c.rest)) (record { tree = plug s l c r; freed = [] }) (try_left s l c r)

module _ (A : Type 0) where
  -- below a leaf there is nothing to balance
  abbrev pub rebalance_kid : (d : ℕ) → ℕ → List (Kid A d × Sep A) → Kid A d → List (Sep A × Kid A d) → Removed (Tree A d)
  rebalance_kid zero s l c r = record { tree = plug s l c r; freed = [] }
  rebalance_kid (suc d) s l c r = rebalance s l c r

  -- the child's own frees came before
  abbrev pub settle : (d : ℕ) → ℕ → List (Kid A d × Sep A) → Removed (Kid A d) → List (Sep A × Kid A d) → Removed (Tree A d)
  settle d s l c r = let o : Removed (Tree A d) = rebalance_kid d s l c.tree r in record { tree = o.tree; freed = o.freed ++ c.freed }

-- ---- the largest entry

pub data Largest (A C : Type 0) : Type 0 where
  nothing : Largest A C
  largest : Sep A → Removed C → Largest A C

module _ (A : Type 0) where
  abbrev pub largest_at : (d : ℕ) → ℕ → List (Kid A d × Sep A) → List (Sep A × Kid A d) → Largest A (Kid A d) → Largest A (Tree A d)
  largest_at d s l r (largest y c) = largest y (settle A d s l c r)
  largest_at d s (x ∷ l) r nothing = largest x.1 (record { tree = plug s l x.0 r; freed = [] })
  largest_at d s [] r nothing = nothing

  -- "Taking the largest key goes down by itself until depth is 0": along the last children
  abbrev pub take_largest : (d : ℕ) → Kid A d → Largest A (Kid A d)
  take_largest zero t = nothing
  take_largest (suc d) n = let z : Zip A (Kid A d) = at always n in largest_at d n.slot z.lft z.rgt (take_largest d z.mid)

  -- ---- the dereference of k

  -- "Dereference, present: removed; in an inner node the largest key of the left child takes its place." x is k's separator
  -- with the child right of it; its left child gives its largest, if it has one.
  abbrev pub remove_here : (d : ℕ) → ℕ → List (Kid A d × Sep A) → Sep A × Kid A d → List (Sep A × Kid A d) → Largest A (Kid A d) → Removed (Tree A d)
  remove_here d s l x r nothing = record { tree = plug s l x.1 r; freed = [] }
  remove_here d s l x r (largest y c) = settle A d s l c ((y, x.1) ∷ r)

  -- o is what the dereference makes of the child c
  abbrev pub remove_at : Key → (d : ℕ) → ℕ → List (Kid A d × Sep A) → Kid A d → List (Sep A × Kid A d) → Removed (Kid A d) → Removed (Tree A d)
  remove_at k d s l c [] o = settle A d s l o []
  remove_at k d s l c (x ∷ r) o = cond (same k x.0) (remove_here d s l x r (take_largest d c)) (settle A d s l o (x ∷ r))

  -- "Absent: nothing."
  abbrev pub dereference : Key → (d : ℕ) → Kid A d → Removed (Kid A d)
  dereference k zero t = record { tree = t; freed = [] }
  dereference k (suc d) n =
      let z : Zip A (Kid A d) = at (below k) n in
      remove_at k d n.slot z.lft z.mid z.rgt (dereference k d z.mid)
