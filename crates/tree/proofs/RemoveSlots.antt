-- A dereference frees exactly the slots that it no longer uses. Assumes nothing.
use mathlib.Core.Path.{◌≡◌, refl, sym, ap, ◌∙◌}
use mathlib.Core.List.{List, [], ◌∷◌, ◌++◌}
use mathlib.Core.Bool.{Bool}
use lib.ListN.{length}
use lib.Dec.{leb, eqb}
use native.Mathlib.Omega.{arith}
use Prim.Native.Nat.{ℕ, zero, suc, ◌+◌}
use Rattle.word.specs.Key.{Key}
use Rattle.tree.specs.Map.{Sep}
use Rattle.tree.specs.Tree.{Node, Kid, Tree, Zip, read_rest, read_left, none_of, slots, plug, at, below, same, always, join}
use Rattle.tree.specs.Free.{bit, occurs}
use Rattle.tree.specs.Remove.{Removed, unsnoc, borrow_last, borrow_first, try_right, try_left, rebalance, rebalance_kid, settle, Largest, nothing, largest, largest_at, take_largest, remove_here, remove_at, dereference}
use Rattle.tree.specs.State.{Fits, Shaped}
use Rattle.tree.proofs.Cases.{by_cond}
use Rattle.tree.proofs.Zipper.{read_rest_append, plug_read, seek_read, plug_slot, at_all}
use Rattle.tree.proofs.Slots.{occurs_append}
use Rattle.tree.proofs.SetSlots.{own_slots}
use Rattle.tree.proofs.Balance.{unsnoc_append}
use Rattle.tree.proofs.RemoveShape.{LargestShaped, largest_shaped}

module _ {A C : Type 0} (x : ℕ) (f : C → List ℕ) where
  -- how often x is a slot of the node with slot s that the zipper makes
  abbrev pub occurs_zip : ℕ → List (C × Sep A) → C → List (Sep A × C) → ℕ
  occurs_zip s l c r = bit (eqb x s) + (occurs x (read_left none_of f l) + (occurs x (f c) + occurs x (read_rest none_of f r)))

  pub plug_occurs : (s : ℕ) (l : List (C × Sep A)) (c : C) (r : List (Sep A × C)) → occurs x (own_slots f (plug s l c r)) ≡ occurs_zip s l c r
  plug_occurs s l c r = rw (plug_slot s l c r, plug_read none_of f s l c r) (simp occurs_append)

  rest_occurs : (r q : List (Sep A × C)) → occurs x (read_rest none_of f (r ++ q)) ≡ occurs x (read_rest none_of f r) + occurs x (read_rest none_of f q)
  rest_occurs r q = rw (read_rest_append none_of f r q) (occurs_append x (read_rest none_of f r) (read_rest none_of f q))

  join_occurs : (a : Node A C) (s : Sep A) (b : Node A C) → occurs x (own_slots f (join a s b)) + bit (eqb x b.slot) ≡ occurs x (own_slots f a) + occurs x (own_slots f b)
  join_occurs a s b = let w = rest_occurs a.rest ((s, b.first) ∷ b.rest) in simp occurs_append (omega (arith, simp occurs_append at w))

-- ---- balancing

module _ {A C : Type 0} (x : ℕ) (f : C → List ℕ) where
  borrow_last_occurs : (s : ℕ) (l : List (Node A C × Sep A)) (a : Node A C) (y : Sep A) (q : List (Sep A × C)) (c : Node A C) (r : List (Sep A × Node A C)) → q ≡ a.rest
      → occurs x (own_slots (own_slots f) (borrow_last s l a y q c r)) ≡ occurs_zip x (own_slots f) s ((a, y) ∷ l) c r
  borrow_last_occurs s l a y [] c r e = plug_occurs x (own_slots f) s ((a, y) ∷ l) c r
  borrow_last_occurs s l a y (p ∷ q) c r e =
      let u = unsnoc p q in
      let w = ap (λ (i : List (Sep A × C)). occurs x (read_rest none_of f i)) (sym e ∙ sym (unsnoc_append p q)) ∙ rest_occurs x f u.0 (u.1 ∷ []) in
      plug_occurs x (own_slots f) s ((record { slot = a.slot; first = a.first; rest = u.0 }, u.1.0) ∷ l)
      (record { slot = c.slot; first = u.1.1; rest = (y, c.first) ∷ c.rest }) r
      ∙ simp occurs_append (omega (arith, simp occurs_append at w))

  borrow_first_occurs : (s : ℕ) (l : List (Node A C × Sep A)) (c : Node A C) (y : Sep A) (b : Node A C) (q : List (Sep A × C)) (r : List (Sep A × Node A C)) → q ≡ b.rest
      → occurs x (own_slots (own_slots f) (borrow_first s l c y b q r)) ≡ occurs_zip x (own_slots f) s l c ((y, b) ∷ r)
  borrow_first_occurs s l c y b [] r e = plug_occurs x (own_slots f) s l c ((y, b) ∷ r)
  borrow_first_occurs s l c y b (p ∷ q) r e =
      let w = ap (λ (i : List (Sep A × C)). occurs x (read_rest none_of f i)) e in
      let v = rest_occurs x f c.rest ((y, b.first) ∷ []) in
      plug_occurs x (own_slots f) s l (record { slot = c.slot; first = c.first; rest = c.rest ++ ((y, b.first) ∷ []) })
      ((p.0, record { slot = b.slot; first = p.1; rest = q }) ∷ r)
      ∙ simp occurs_append (omega (arith, simp occurs_append at w, simp occurs_append at v))

  -- the slots of the tree and the freed ones are the zipper's
  abbrev KeepsSlots : ℕ → List (Node A C × Sep A) → Node A C → List (Sep A × Node A C) → Removed (Node A (Node A C)) → Type 0
  KeepsSlots s l c r o = occurs x (own_slots (own_slots f) o.tree) + occurs x o.freed ≡ occurs_zip x (own_slots f) s l c r

  try_right_occurs : (s : ℕ) (l : List (Node A C × Sep A)) (c : Node A C) (r : List (Sep A × Node A C)) → KeepsSlots s l c r (try_right s l c r)
  try_right_occurs s [] c [] = simp occurs_append (omega arith)
  try_right_occurs s (y ∷ l) c [] =
      let p = plug_occurs x (own_slots f) s l (join y.0 y.1 c) [] in
      let j = join_occurs x f y.0 y.1 c in
      simp occurs_append (omega (arith, simp occurs_append at p, simp occurs_append at j))
  try_right_occurs s l c (y ∷ r) = by_cond (KeepsSlots s l c (y ∷ r)) (leb 5 (length y.1.rest))
      (λ e. let p = borrow_first_occurs s l c y.0 y.1 y.1.rest r refl in omega arith)
      (λ e.
      let p = plug_occurs x (own_slots f) s l (join c y.0 y.1) r in
      let j = join_occurs x f c y.0 y.1 in
      simp occurs_append (omega (arith, simp occurs_append at p, simp occurs_append at j)))

  try_left_occurs : (s : ℕ) (l : List (Node A C × Sep A)) (c : Node A C) (r : List (Sep A × Node A C)) → KeepsSlots s l c r (try_left s l c r)
  try_left_occurs s [] c r = try_right_occurs s [] c r
  try_left_occurs s (y ∷ l) c r = by_cond (KeepsSlots s (y ∷ l) c r) (leb 5 (length y.0.rest))
      (λ e. let p = borrow_last_occurs s l y.0 y.1 y.0.rest c r refl in omega arith) (λ e. try_right_occurs s (y ∷ l) c r)

  rebalance_occurs : (s : ℕ) (l : List (Node A C × Sep A)) (c : Node A C) (r : List (Sep A × Node A C)) → KeepsSlots s l c r (rebalance s l c r)
  rebalance_occurs s l c r = by_cond (KeepsSlots s l c r) (leb 4 (length c.rest))
      (λ e. let p = plug_occurs x (own_slots f) s l c r in omega arith) (λ e. try_left_occurs s l c r)

-- ---- the largest entry, and the dereference

module _ (A : Type 0) (x : ℕ) where
  abbrev pub occurs_in : (d : ℕ) → Kid A d → ℕ
  occurs_in d t = occurs x (slots A d t)

  rebalance_kid_occurs : (d s : ℕ) (l : List (Kid A d × Sep A)) (c : Kid A d) (r : List (Sep A × Kid A d))
      → occurs_in (suc d) (rebalance_kid A d s l c r).tree + occurs x (rebalance_kid A d s l c r).freed ≡ occurs_zip x (slots A d) s l c r
  rebalance_kid_occurs zero s l c r = omega (arith, plug_occurs x (slots A zero) s l c r)
  rebalance_kid_occurs (suc d) s l c r = rebalance_occurs x (slots A d) s l c r

  pub settle_occurs : (d s : ℕ) (l : List (Kid A d × Sep A)) (c : Removed (Kid A d)) (r : List (Sep A × Kid A d))
      → occurs_in (suc d) (settle A d s l c r).tree + occurs x (settle A d s l c r).freed ≡ occurs_zip x (slots A d) s l c.tree r + occurs x c.freed
  settle_occurs d s l c r = omega (arith, rebalance_kid_occurs d s l c.tree r, occurs_append x (rebalance_kid A d s l c.tree r).freed c.freed)

  abbrev LargestKeeps : (d : ℕ) → ℕ → Largest A (Kid A d) → Type 0
  LargestKeeps d m nothing = m ≡ 0
  LargestKeeps d m (largest y c) = occurs_in d c.tree + occurs x c.freed ≡ m

  largest_at_occurs : (d s : ℕ) (l : List (Kid A d × Sep A)) (c : Kid A d) (r : List (Sep A × Kid A d)) (o : Largest A (Kid A d)) → LargestShaped A (suc d) (largest_at A d s l r o)
      → LargestKeeps d (occurs_in d c) o → LargestKeeps (suc d) (occurs_zip x (slots A d) s l c r) (largest_at A d s l r o)
  largest_at_occurs d s [] c r nothing hl h = absurd hl
  largest_at_occurs d s (y ∷ l) c r nothing hl h = let p = plug_occurs x (slots A d) s l y.0 r in simp occurs_append (omega (arith, simp occurs_append at p))
  largest_at_occurs d s l c r (largest y t) hl h = omega (arith, settle_occurs d s l t r)

  zip_occurs : (p : Sep A → Bool) (d : ℕ) (n : Tree A d) → let z : Zip A (Kid A d) = at p n in occurs_zip x (slots A d) n.slot z.lft z.mid z.rgt ≡ occurs_in (suc d) n
  zip_occurs p d n = let w = ap (occurs x) (seek_read none_of (slots A d) p [] n.first n.rest) in simp occurs_append (omega (arith, simp occurs_append at w))

  pub largest_occurs : (d : ℕ) (t : Kid A d) → Shaped A d t → LargestKeeps d (occurs_in d t) (take_largest A d t)
  largest_occurs zero t h = refl
  largest_occurs (suc d) n h =
      let z : Zip A (Kid A d) = at always n in
      let a = at_all (Shaped A d) always 4 n h in
      rw (← zip_occurs always d n)
      (largest_at_occurs d n.slot z.lft z.mid z.rgt (take_largest A d z.mid) (largest_shaped A (suc d) n h) (largest_occurs d z.mid a.here))

  here_occurs : (d s : ℕ) (l : List (Kid A d × Sep A)) (c : Kid A d) (y : Sep A × Kid A d) (r : List (Sep A × Kid A d)) (o : Largest A (Kid A d)) → LargestKeeps d (occurs_in d c) o
      → occurs_in (suc d) (remove_here A d s l y r o).tree + occurs x (remove_here A d s l y r o).freed ≡ occurs_zip x (slots A d) s l c (y ∷ r)
  here_occurs d s l c y r nothing h = let p = plug_occurs x (slots A d) s l y.1 r in simp occurs_append (omega (arith, simp occurs_append at p))
  here_occurs d s l c y r (largest w t) h = omega (arith, settle_occurs d s l t ((w, y.1) ∷ r))

  remove_at_occurs : (k : Key) (d s : ℕ) (l : List (Kid A d × Sep A)) (c : Kid A d) (r : List (Sep A × Kid A d)) (o : Removed (Kid A d)) → Shaped A d c
      → occurs_in d o.tree + occurs x o.freed ≡ occurs_in d c → occurs_in (suc d) (remove_at A k d s l c r o).tree + occurs x (remove_at A k d s l c r o).freed ≡ occurs_zip x (slots A d) s l c r
  remove_at_occurs k d s l c [] o hc h = omega (arith, settle_occurs d s l o [])
  remove_at_occurs k d s l c (y ∷ r) o hc h = by_cond (λ (u : Removed (Tree A d)). occurs_in (suc d) u.tree + occurs x u.freed ≡ occurs_zip x (slots A d) s l c (y ∷ r)) (same k y.0)
      (λ p. here_occurs d s l c y r (take_largest A d c) (largest_occurs d c hc)) (λ p. omega (arith, settle_occurs d s l o (y ∷ r)))

  -- of any node whose children are in shape, the root too
  dereference_step : (k : Key) (d lo : ℕ) (n : Tree A d) → Fits (Shaped A d) lo n
      → ((c : Kid A d) → Shaped A d c → occurs_in d (dereference A k d c).tree + occurs x (dereference A k d c).freed ≡ occurs_in d c)
      → occurs_in (suc d) (dereference A k (suc d) n).tree + occurs x (dereference A k (suc d) n).freed ≡ occurs_in (suc d) n
  dereference_step k d lo n h ih =
      let z : Zip A (Kid A d) = at (below k) n in
      let a = at_all (Shaped A d) (below k) lo n h in
      remove_at_occurs k d n.slot z.lft z.mid z.rgt (dereference A k d z.mid) a.here (ih z.mid a.here) ∙ zip_occurs (below k) d n

  kid_occurs : (k : Key) (d : ℕ) (t : Kid A d) → Shaped A d t → occurs_in d (dereference A k d t).tree + occurs x (dereference A k d t).freed ≡ occurs_in d t
  kid_occurs k zero t h = refl
  kid_occurs k (suc d) n h = dereference_step k d 4 n h (λ c hc. kid_occurs k d c hc)

  pub dereference_occurs : (k : Key) (d lo : ℕ) (n : Tree A d) → Fits (Shaped A d) lo n
      → occurs_in (suc d) (dereference A k (suc d) n).tree + occurs x (dereference A k (suc d) n).freed ≡ occurs_in (suc d) n
  dereference_occurs k d lo n h = dereference_step k d lo n h (λ c hc. kid_occurs k d c hc)
