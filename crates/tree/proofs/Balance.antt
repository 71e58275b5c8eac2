-- "Below 4 in a child": which sibling lends or merges, each case as one equation. Assumes nothing.
use mathlib.Core.Path.{◌≡◌, refl, ap}
use mathlib.Core.List.{List, [], ◌∷◌, ◌++◌}
use lib.ListN.{length}
use borrow.Author.Tests.{le-leb, lt-leb}
use Prim.Native.Nat.{ℕ, suc, ◌≤◌, ◌<◌}
use Rattle.tree.specs.Map.{Sep}
use Rattle.tree.specs.Tree.{Node, plug, join}
use Rattle.tree.specs.Remove.{unsnoc, borrow_last, borrow_first, try_right, try_left, rebalance}

pub unsnoc_append : {X : Type 0} (x : X) (r : List X) → (unsnoc x r).0 ++ ((unsnoc x r).1 ∷ []) ≡ x ∷ r
unsnoc_append x [] = refl
unsnoc_append x (y ∷ r) = rw (unsnoc_append y r)

pub unsnoc_length : {X : Type 0} (x : X) (r : List X) → length (unsnoc x r).0 ≡ length r
unsnoc_length x [] = refl
unsnoc_length x (y ∷ r) = ap suc (unsnoc_length y r)

module _ {A C : Type 0} where
  -- the left sibling, if there is one, holds fewer than 5
  abbrev pub LeftCannot : List (Node A C × Sep A) → Type 0
  LeftCannot [] = Unit {0}
  LeftCannot (x ∷ l) = length x.0.rest < 5

  left_passes : (s : ℕ) (l : List (Node A C × Sep A)) (c : Node A C) (r : List (Sep A × Node A C)) → LeftCannot l → try_left s l c r ≡ try_right s l c r
  left_passes s [] c r h = refl
  left_passes s (x ∷ l) c r h = rw (lt-leb 5 (length x.0.rest) h)

  module _ (s : ℕ) (c : Node A C) (low : length c.rest < 4) where
    -- "if the left sibling holds 5 or more, borrow its last"
    pub borrows_left : (l : List (Node A C × Sep A)) (a : Node A C) (x : Sep A) (r : List (Sep A × Node A C)) → 5 ≤ length a.rest
        → rebalance s ((a, x) ∷ l) c r ≡ record { tree = borrow_last s l a x a.rest c r; freed = [] }
    borrows_left l a x r h = rw (lt-leb 4 (length c.rest) low, le-leb 5 (length a.rest) h)

    -- "else if the right does, borrow its first"
    pub borrows_right : (l : List (Node A C × Sep A)) (x : Sep A) (b : Node A C) (r : List (Sep A × Node A C)) → LeftCannot l → 5 ≤ length b.rest
        → rebalance s l c ((x, b) ∷ r) ≡ record { tree = borrow_first s l c x b b.rest r; freed = [] }
    borrows_right l x b r g h = rw (lt-leb 4 (length c.rest) low, left_passes s l c ((x, b) ∷ r) g, le-leb 5 (length b.rest) h)

    -- "else merge with the right sibling .. The right slot of the pair is freed."
    pub merges_right : (l : List (Node A C × Sep A)) (x : Sep A) (b : Node A C) (r : List (Sep A × Node A C)) → LeftCannot l → length b.rest < 5
        → rebalance s l c ((x, b) ∷ r) ≡ record { tree = plug s l (join c x b) r; freed = b.slot ∷ [] }
    merges_right l x b r g h = rw (lt-leb 4 (length c.rest) low, left_passes s l c ((x, b) ∷ r) g, lt-leb 5 (length b.rest) h)

    -- "or with the left if there is no right"
    pub merges_left : (l : List (Node A C × Sep A)) (a : Node A C) (x : Sep A) → length a.rest < 5
        → rebalance s ((a, x) ∷ l) c [] ≡ record { tree = plug s l (join a x c) []; freed = c.slot ∷ [] }
    merges_left l a x h = rw (lt-leb 4 (length c.rest) low, lt-leb 5 (length a.rest) h)

  -- what borrowing does to the two siblings
  pub last_goes_up : (s : ℕ) (l : List (Node A C × Sep A)) (a : Node A C) (x : Sep A) (q : List (Sep A × C)) (y : Sep A) (k : C) (c : Node A C) (r : List (Sep A × Node A C))
      → borrow_last s l a x (q ++ ((y, k) ∷ [])) c r
      ≡ plug s ((record { slot = a.slot; first = a.first; rest = q }, y) ∷ l) (record { slot = c.slot; first = k; rest = (x, c.first) ∷ c.rest }) r
  last_goes_up s l a x q y k c r = go q
    where
      last_of_lem : (z : Sep A × C) (q : List (Sep A × C)) → unsnoc z (q ++ ((y, k) ∷ [])) ≡ (z ∷ q, (y, k))
      last_of_lem z [] = refl
      last_of_lem z (w ∷ q) = rw (last_of_lem w q)

      go : (q : List (Sep A × C)) → borrow_last s l a x (q ++ ((y, k) ∷ [])) c r
          ≡ plug s ((record { slot = a.slot; first = a.first; rest = q }, y) ∷ l) (record { slot = c.slot; first = k; rest = (x, c.first) ∷ c.rest }) r
      go [] = refl
      go (z ∷ q) = rw (last_of_lem z q)

  pub first_goes_up : (s : ℕ) (l : List (Node A C × Sep A)) (c : Node A C) (x : Sep A) (b : Node A C) (y : Sep A) (k : C) (q : List (Sep A × C)) (r : List (Sep A × Node A C))
      → borrow_first s l c x b ((y, k) ∷ q) r
      ≡ plug s l (record { slot = c.slot; first = c.first; rest = c.rest ++ ((x, b.first) ∷ []) }) ((y, record { slot = b.slot; first = k; rest = q }) ∷ r)
  first_goes_up s l c x b y k q r = refl
