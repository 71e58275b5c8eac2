-- A set, and how many slots it needs. Assumes nothing.
use Rattle.std.specs.Prelude.{List, [], ◌∷◌, ◌++◌, cond, ℕ, zero, suc, length, take, drop, leb}
use Rattle.word.specs.Key.{Key}
use Rattle.tree.specs.Map.{Sep}
use Rattle.tree.specs.Tree.{Node, Kid, Zip, at, below, same, plug}
use Rattle.tree.specs.Free.{first_free, later_free}

-- a tree, or two with the promoted separator between them
pub data Parts (A C : Type 0) : Type 0 where
  one : C → Parts A C
  two : C → Sep A → C → Parts A C

-- what a set makes of a tree, and the slots that are still free
pub record Placed (A C : Type 0) : Type 0 where
  pub parts : Parts A C
  pub free : List ℕ

module _ {A C : Type 0} where
  -- "A node holding 8 splits: inserting at index 4 promotes the new separator, below 4 promotes old index 3, above 4 old
  -- index 4. Both halves hold 4." Said of the node with the new separator in its place, which holds 9: the first four, the
  -- fifth, the last four (proofs/Split.antt has the three cases). x ∷ r is what stands from index 4 on.
  -- "A split root's slot stays the left half", as any split node's does; the right half takes a slot.
  abbrev pub split_at4 : Node A C → List (Sep A × C) → List ℕ → Placed A (Node A C)
  split_at4 n [] fs = record { parts = one n; free = fs }
  split_at4 n (x ∷ r) fs = record {
    parts = two (record { slot = n.slot; first = n.first; rest = take 4 n.rest }) x.0 (record { slot = first_free fs; first = x.1; rest = r });
    free = later_free fs;
  }

  -- a node that holds 8 or fewer stays as it is
  abbrev pub split_over8 : Node A C → List ℕ → Placed A (Node A C)
  split_over8 n fs = cond (leb (length n.rest) 8) (record { parts = one n; free = fs }) (split_at4 n (drop 4 n.rest) fs)

  -- "A promoted separator goes into the parent the same way."
  abbrev pub graft : ℕ → List (C × Sep A) → List (Sep A × C) → Parts A C → Node A C
  graft s l r (one c) = plug s l c r
  graft s l r (two a x b) = plug s l a ((x, b) ∷ r)

  -- A node with slot s, and the child c between l and r where the key belongs. rec is the set in the child; what it leaves free
  -- the node may take: "the right halves take slots from the leaf up".
  abbrev pub set_below : (C → Placed A C) → ℕ → List (C × Sep A) → C → List (Sep A × C) → Placed A (Node A C)
  set_below rec s l c r = let o : Placed A C = rec c in split_over8 (graft s l r o.parts) o.free

  -- "Set, present: value replaced", if the next separator's key is the key.
  abbrev pub set_here : (C → Placed A C) → Sep A → ℕ → List (C × Sep A) → C → List (Sep A × C) → List ℕ → Placed A (Node A C)
  set_here rec e s l c [] fs = set_below rec s l c []
  set_here rec e s l c (x ∷ r) fs = cond (same e.key x.0) (record { parts = one (plug s l c ((e, x.1) ∷ r)); free = fs }) (set_below rec s l c (x ∷ r))

module _ (A : Type 0) where
  -- "Set, absent: into the leaf": from below a leaf the entry comes up as a promoted separator does, so that a leaf takes it in
  -- as any node takes in a promoted one.
  abbrev pub set : Sep A → (d : ℕ) → Kid A d → List ℕ → Placed A (Kid A d)
  set e zero t fs = record { parts = two tt e tt; free = fs }
  set e (suc d) n fs =
      let z : Zip A (Kid A d) = at (below e.key) n in
      set_here (λ c. set e d c fs) e n.slot z.lft z.mid z.rgt fs

  -- ---- the slots that a set of an absent key needs

  -- how many separators each node on the way to k's leaf holds, the leaf's first
  abbrev pub way : Key → (d : ℕ) → Kid A d → List ℕ
  way k zero t = []
  way k (suc d) n = way k d (at (below k) n).mid ++ (length n.rest ∷ [])

-- "as many slots as there are full nodes in an unbroken run from the leaf upward, one more if that run takes in the root":
-- past the root, the list's end, the run is one longer
abbrev pub full_run : List ℕ → ℕ
full_run [] = 1
full_run (m ∷ ms) = cond (leb 8 m) (suc (full_run ms)) 0
