-- A dereference takes its entry out of the tree's entries; balancing changes nothing that is read in order. Assumes nothing.
use mathlib.Core.Path.{◌≡◌, refl, sym, ap, ◌∙◌}
use mathlib.Core.List.{List, [], ◌∷◌, ◌++◌, append_assoc, append-nil}
use mathlib.Core.Bool.{true}
use lib.ListN.{length}
use lib.Dec.{leb}
use Prim.Native.Nat.{ℕ, zero, suc}
use Rattle.word.specs.Key.{Key, cmp}
use Rattle.tree.specs.Map.{Sep, remove, Rising}
use Rattle.tree.specs.Tree.{Node, Kid, Tree, Zip, read_rest, read_left, read, only, entries, at, below, same, always, join}
use Rattle.tree.specs.Remove.{Removed, unsnoc, borrow_last, borrow_first, try_right, try_left, rebalance, settle, Largest, nothing, largest, largest_at, take_largest, remove_here, remove_at, dereference}
use Rattle.tree.proofs.Cases.{by_cond, is_eq, is_above_lem}
use Rattle.tree.proofs.MapLaws.{HeadAbove, replace_mid, replace_here, rising_mid}
use Rattle.tree.proofs.Zipper.{read_rest_append, read_zip, plug_read, seek_read, join_read, Before, After, seek_edge, seek_always, left_below}
use Rattle.tree.proofs.Balance.{unsnoc_append}

-- ---- balancing

module _ {A C D : Type 0} (g : Sep A → List D) (f : C → List D) where
  borrow_last_read : (s : ℕ) (l : List (Node A C × Sep A)) (a : Node A C) (x : Sep A) (q : List (Sep A × C)) (c : Node A C) (r : List (Sep A × Node A C)) → q ≡ a.rest
      → read g (read g f) (borrow_last s l a x q c r) ≡ read_zip g (read g f) ((a, x) ∷ l) c r
  borrow_last_read s l a x [] c r e = plug_read g (read g f) s ((a, x) ∷ l) c r
  borrow_last_read s l a x (y ∷ q) c r e =
      let u = unsnoc y q in
      let w = ap (read_rest g f) (sym e) ∙ ap (read_rest g f) (sym (unsnoc_append y q)) ∙ read_rest_append g f u.0 (u.1 ∷ []) in
      plug_read g (read g f) s ((record { slot = a.slot; first = a.first; rest = u.0 }, u.1.0) ∷ l)
      (record { slot = c.slot; first = u.1.1; rest = (x, c.first) ∷ c.rest }) r
      ∙ rw w (simp (append_assoc, append-nil))

  borrow_first_read : (s : ℕ) (l : List (Node A C × Sep A)) (c : Node A C) (x : Sep A) (b : Node A C) (q : List (Sep A × C)) (r : List (Sep A × Node A C)) → q ≡ b.rest
      → read g (read g f) (borrow_first s l c x b q r) ≡ read_zip g (read g f) l c ((x, b) ∷ r)
  borrow_first_read s l c x b [] r e = plug_read g (read g f) s l c ((x, b) ∷ r)
  borrow_first_read s l c x b (y ∷ q) r e =
      plug_read g (read g f) s l (record { slot = c.slot; first = c.first; rest = c.rest ++ ((x, b.first) ∷ []) })
      ((y.0, record { slot = b.slot; first = y.1; rest = q }) ∷ r)
      ∙ rw (read_rest_append g f c.rest ((x, b.first) ∷ []), ← e) (simp (append_assoc, append-nil))

  abbrev ReadsAs : List (Node A C × Sep A) → Node A C → List (Sep A × Node A C) → Removed (Node A (Node A C)) → Type 0
  ReadsAs l c r o = read g (read g f) o.tree ≡ read_zip g (read g f) l c r

  try_right_read : (s : ℕ) (l : List (Node A C × Sep A)) (c : Node A C) (r : List (Sep A × Node A C)) → ReadsAs l c r (try_right s l c r)
  try_right_read s [] c [] = refl
  try_right_read s (x ∷ l) c [] = plug_read g (read g f) s l (join x.0 x.1 c) [] ∙ rw (join_read g f x.0 x.1 c) (simp append_assoc)
  try_right_read s l c (y ∷ r) = by_cond (ReadsAs l c (y ∷ r)) (leb 5 (length y.1.rest))
      (λ e. borrow_first_read s l c y.0 y.1 y.1.rest r refl)
      (λ e. plug_read g (read g f) s l (join c y.0 y.1) r ∙ rw (join_read g f c y.0 y.1) (simp append_assoc))

  try_left_read : (s : ℕ) (l : List (Node A C × Sep A)) (c : Node A C) (r : List (Sep A × Node A C)) → ReadsAs l c r (try_left s l c r)
  try_left_read s [] c r = try_right_read s [] c r
  try_left_read s (x ∷ l) c r = by_cond (ReadsAs (x ∷ l) c r) (leb 5 (length x.0.rest))
      (λ e. borrow_last_read s l x.0 x.1 x.0.rest c r refl) (λ e. try_right_read s (x ∷ l) c r)

  rebalance_read : (s : ℕ) (l : List (Node A C × Sep A)) (c : Node A C) (r : List (Sep A × Node A C)) → ReadsAs l c r (rebalance s l c r)
  rebalance_read s l c r = by_cond (ReadsAs l c r) (leb 4 (length c.rest)) (λ e. plug_read g (read g f) s l c r) (λ e. try_left_read s l c r)

module _ (A : Type 0) where
  settle_entries : (d s : ℕ) (l : List (Kid A d × Sep A)) (c : Removed (Kid A d)) (r : List (Sep A × Kid A d))
      → entries A (suc d) (settle A d s l c r).tree ≡ read_zip only (entries A d) l c.tree r
  settle_entries zero s l c r = plug_read only (entries A zero) s l c.tree r
  settle_entries (suc d) s l c r = rebalance_read only (entries A d) s l c.tree r

  -- ---- the largest entry

  abbrev pub LargestRead : (d : ℕ) → List (Sep A) → Largest A (Kid A d) → Type 0
  LargestRead d es nothing = es ≡ []
  LargestRead d es (largest y c) = es ≡ entries A d c.tree ++ (y ∷ [])

  largest_at_entries : (d s : ℕ) (l : List (Kid A d × Sep A)) (c : Kid A d) (o : Largest A (Kid A d)) → LargestRead d (entries A d c) o
      → LargestRead (suc d) (read_zip only (entries A d) l c []) (largest_at A d s l [] o)
  largest_at_entries d s [] c nothing h = rw h
  largest_at_entries d s (x ∷ l) c nothing h = rw (h, plug_read only (entries A d) s l x.0 []) (simp (append_assoc, append-nil))
  largest_at_entries d s l c (largest y t) h = rw (h, settle_entries d s l t []) (simp (append_assoc, append-nil))

  pub largest_entries : (d : ℕ) (t : Kid A d) → LargestRead d (entries A d t) (take_largest A d t)
  largest_entries zero t = refl
  largest_entries (suc d) n =
      let z : Zip A (Kid A d) = at always n in
      let last = seek_always [] n.first n.rest in
      let whole = rw last at (seek_read only (entries A d) always [] n.first n.rest) in
      rw (last, ← whole) (largest_at_entries d n.slot z.lft z.mid (take_largest A d z.mid) (largest_entries d z.mid))

  -- ---- the dereference

  -- the separator goes, and its left child's largest takes its place
  replaced_entries : (d s : ℕ) (l : List (Kid A d × Sep A)) (c : Kid A d) (x : Sep A × Kid A d) (r : List (Sep A × Kid A d)) (o : Largest A (Kid A d))
      → LargestRead d (entries A d c) o → entries A (suc d) (remove_here A d s l x r o).tree ≡ read_left only (entries A d) l ++ (entries A d c ++ (entries A d x.1 ++ read_rest only (entries A d) r))
  replaced_entries d s l c x r nothing h = plug_read only (entries A d) s l x.1 r ∙ rw h
  replaced_entries d s l c x r (largest y t) h = settle_entries d s l t ((y, x.1) ∷ r) ∙ rw h (simp append_assoc)

  module _ (k : Key) (d s : ℕ) (l : List (Kid A d × Sep A)) (c : Kid A d) where
    here_entries : (x : Sep A × Kid A d) (r : List (Sep A × Kid A d)) → Rising (read_zip only (entries A d) l c (x ∷ r)) → same k x.0 ≡ true
        → entries A (suc d) (remove_here A d s l x r (take_largest A d c)).tree ≡ remove k (read_zip only (entries A d) l c (x ∷ r))
    here_entries x r i p =
        let f : Kid A d → List (Sep A) = entries A d in
        let ys : List (Sep A) = f x.1 ++ read_rest only f r in
        replaced_entries d s l c x r (take_largest A d c) (largest_entries d c)
        ∙ sym (ap (remove k) (sym (append_assoc (read_left only f l) (f c) (x.0 ∷ ys)))
        ∙ replace_here k [] x.0 (read_left only f l ++ f c) ys (is_eq (cmp k x.0.key) p) (rw append_assoc i) ∙ append_assoc (read_left only f l) (f c) ys)

    below_entries : (r : List (Sep A × Kid A d)) (o : Removed (Kid A d)) → (Rising (entries A d c) → entries A d o.tree ≡ remove k (entries A d c))
        → Before (below k) l → HeadAbove k (read_rest only (entries A d) r) → Rising (read_zip only (entries A d) l c r)
        → entries A (suc d) (settle A d s l o r).tree ≡ remove k (read_zip only (entries A d) l c r)
    below_entries r o ih b a h =
        let f : Kid A d → List (Sep A) = entries A d in
        settle_entries d s l o r
        ∙ rw (ih (rising_mid (read_left only f l) (f c) (read_rest only f r) h)) (sym (replace_mid k [] (read_left only f l) (f c) (read_rest only f r) (left_below f k l (f c ++ read_rest only f r) b h) a))

    remove_at_entries : (r : List (Sep A × Kid A d)) (o : Removed (Kid A d)) → (Rising (entries A d c) → entries A d o.tree ≡ remove k (entries A d c))
        → Before (below k) l → After (below k) r → Rising (read_zip only (entries A d) l c r) → entries A (suc d) (remove_at A k d s l c r o).tree ≡ remove k (read_zip only (entries A d) l c r)
    remove_at_entries [] o ih b a h = below_entries [] o ih b tt h
    remove_at_entries (x ∷ r) o ih b a h = by_cond (λ (u : Removed (Tree A d)). entries A (suc d) u.tree ≡ remove k (read_zip only (entries A d) l c (x ∷ r))) (same k x.0)
        (λ p. here_entries x r h p) (λ p. below_entries (x ∷ r) o ih b (is_above_lem k x.0 a p) h)

  pub dereference_entries : (k : Key) (d : ℕ) (t : Kid A d) → Rising (entries A d t) → entries A d (dereference A k d t).tree ≡ remove k (entries A d t)
  dereference_entries k zero t h = refl
  dereference_entries k (suc d) n h =
      let z : Zip A (Kid A d) = at (below k) n in
      let edge = seek_edge (below k) [] n.first n.rest tt in
      let whole = seek_read only (entries A d) (below k) [] n.first n.rest in
      remove_at_entries k d n.slot z.lft z.mid z.rgt (dereference A k d z.mid) (dereference_entries k d z.mid) edge.0 edge.1 (rw whole h)
      ∙ ap (remove k) whole
