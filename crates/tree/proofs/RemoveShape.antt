-- A dereference keeps every node's count of separators: a child is left with 3 at least, and balancing mends that. Assumes nothing.
use mathlib.Core.Path.{◌≡◌, refl, ap}
use mathlib.Core.List.{List, [], ◌∷◌, ◌++◌}
use lib.ListN.{length, length-append}
use lib.Dec.{leb}
use native.Mathlib.Omega.{arith}
use borrow.Author.Tests.{leb-true, leb-false}
use Prim.Native.Nat.{ℕ, zero, suc, pred, ◌+◌, ◌≤◌, ◌<◌}
use Rattle.word.specs.Key.{Key}
use Rattle.tree.specs.Map.{Sep}
use Rattle.tree.specs.Tree.{Node, Kid, Tree, Zip, at, below, same, always, join}
use Rattle.tree.specs.Remove.{Removed, unsnoc, borrow_last, borrow_first, try_right, try_left, rebalance, settle, Largest, nothing, largest, largest_at, take_largest, remove_here, remove_at, dereference}
use Rattle.tree.specs.State.{AllRight, Fits, Shaped, root_least}
use Rattle.tree.proofs.Cases.{by_cond}
use Rattle.tree.proofs.Zipper.{seek_length, seek_always, AllLeft, AllZip, at_all, append_all, plug_fits}
use Rattle.tree.proofs.Balance.{unsnoc_length, LeftCannot}

-- what a dereference may leave of a child: one separator fewer
abbrev pub ShortShaped : (A : Type 0) (d : ℕ) → Kid A d → Type 0
ShortShaped A zero t = Unit {0}
ShortShaped A (suc d) n = Fits (Shaped A d) 3 n

pub root_least_le : (d : ℕ) → root_least d ≤ 1
root_least_le zero = omega arith
root_least_le (suc d) = omega arith

-- ---- balancing: lo is the least that the node may hold before it, and one less the least after it

module _ {A C : Type 0} (P : C → Type 0) where
  unsnoc_all : (x : Sep A × C) (r : List (Sep A × C)) → P x.1 → AllRight P r → AllRight P (unsnoc x r).0 × P (unsnoc x r).1.1
  unsnoc_all x [] h k = (tt, h)
  unsnoc_all x (y ∷ r) h k = let q = unsnoc_all y r k.0 k.1 in ((h, q.0), q.1)

  join_fits : (a : Node A C) (x : Sep A) (b : Node A C) (i j : ℕ) → Fits P i a → Fits P j b → 4 ≤ suc (i + j) → length a.rest + length b.rest ≤ 7 → Fits P 4 (join a x b)
  join_fits a x b i j ha hb h m = record {
    least = simp length-append (omega (arith, ha.least, hb.least));
    most = simp length-append (omega arith);
    kid = ha.kid;
    kids = append_all P a.rest ((x, b.first) ∷ b.rest) ha.kids (hb.kid, hb.kids);
  }

  -- c is the child that holds 3
  module _ (lo s : ℕ) (l : List (Node A C × Sep A)) (c : Node A C) (hc : Fits P 3 c) (low : length c.rest < 4) where
    borrow_last_fits : (a : Node A C) (x : Sep A) (q : List (Sep A × C)) (r : List (Sep A × Node A C)) → AllLeft (Fits P 4) l → q ≡ a.rest → 5 ≤ length a.rest → Fits P 4 a
        → AllRight (Fits P 4) r → lo ≤ suc (length l + length r) → suc (length l + length r) ≤ 8 → Fits (Fits P 4) lo (borrow_last s l a x q c r)
    borrow_last_fits a x [] r hl e k ha hr h m = let z = ap length e in absurd (omega arith)
    borrow_last_fits a x (y ∷ q) r hl e k ha hr h m =
        let u = unsnoc y q in
        let ks = rw (← e) at ha.kids in
        let w = unsnoc_all y q ks.0 ks.1 in
        let n = unsnoc_length y q in
        let z = ap length e in
        let a8 = ha.most in
        let c3 = hc.least in
        plug_fits (Fits P 4) lo s ((record { slot = a.slot; first = a.first; rest = u.0 }, u.1.0) ∷ l)
        (record { slot = c.slot; first = u.1.1; rest = (x, c.first) ∷ c.rest }) r
        (record { least = omega arith; most = omega arith; kid = ha.kid; kids = w.0 }, hl)
        (record { least = omega arith; most = omega arith; kid = w.1; kids = (hc.kid, hc.kids) })
        hr (omega arith) (omega arith)

    borrow_first_fits : (x : Sep A) (b : Node A C) (q : List (Sep A × C)) (r : List (Sep A × Node A C)) → AllLeft (Fits P 4) l → q ≡ b.rest → 5 ≤ length b.rest → Fits P 4 b
        → AllRight (Fits P 4) r → lo ≤ suc (length l + length r) → suc (length l + length r) ≤ 8 → Fits (Fits P 4) lo (borrow_first s l c x b q r)
    borrow_first_fits x b [] r hl e k hb hr h m = let z = ap length e in absurd (omega arith)
    borrow_first_fits x b (y ∷ q) r hl e k hb hr h m =
        let ks = rw (← e) at hb.kids in
        let z = ap length e in
        let b8 = hb.most in
        let c3 = hc.least in
        plug_fits (Fits P 4) lo s l (record { slot = c.slot; first = c.first; rest = c.rest ++ ((x, b.first) ∷ []) })
        ((y.0, record { slot = b.slot; first = y.1; rest = q }) ∷ r) hl
        (record {
          least = simp length-append (omega arith);
          most = simp length-append (omega arith);
          kid = hc.kid;
          kids = append_all P c.rest ((x, b.first) ∷ []) hc.kids (hb.kid, tt);
        })
        (record { least = omega arith; most = omega arith; kid = ks.0; kids = ks.1 }, hr) (omega arith) (omega arith)

  abbrev BalancedTo : ℕ → Removed (Node A (Node A C)) → Type 0
  BalancedTo lo o = Fits (Fits P 4) (pred lo) o.tree

  try_right_fits : (lo s : ℕ) (l : List (Node A C × Sep A)) (c : Node A C) (r : List (Sep A × Node A C)) → Fits P 3 c → length c.rest < 4 → AllLeft (Fits P 4) l → AllRight (Fits P 4) r
      → LeftCannot l → 1 ≤ length l + length r → lo ≤ length l + length r → length l + length r ≤ 8 → BalancedTo lo (try_right s l c r)
  try_right_fits lo s [] c [] hc c3 hl hr g k h m = absurd (omega arith)
  try_right_fits lo s (x ∷ l) c [] hc c3 hl hr g k h m =
      plug_fits (Fits P 4) (pred lo) s l (join x.0 x.1 c) [] hl.1 (join_fits x.0 x.1 c 4 3 hl.0 hc (omega arith) (omega arith)) tt (omega arith) (omega arith)
  try_right_fits lo s l c (y ∷ r) hc c3 hl hr g k h m = by_cond (BalancedTo lo) (leb 5 (length y.1.rest))
      (λ e. borrow_first_fits (pred lo) s l c hc c3 y.0 y.1 y.1.rest r hl refl (leb-true 5 (length y.1.rest) e) hr.0 hr.1 (omega arith) (omega arith))
      (λ e.
      let b4 = leb-false 5 (length y.1.rest) e in
      plug_fits (Fits P 4) (pred lo) s l (join c y.0 y.1) r hl (join_fits c y.0 y.1 3 4 hc hr.0 (omega arith) (omega arith)) hr.1 (omega arith) (omega arith))

  try_left_fits : (lo s : ℕ) (l : List (Node A C × Sep A)) (c : Node A C) (r : List (Sep A × Node A C)) → Fits P 3 c → length c.rest < 4 → AllLeft (Fits P 4) l → AllRight (Fits P 4) r
      → 1 ≤ length l + length r → lo ≤ length l + length r → length l + length r ≤ 8 → BalancedTo lo (try_left s l c r)
  try_left_fits lo s [] c r hc c3 hl hr k h m = try_right_fits lo s [] c r hc c3 tt hr tt k h m
  try_left_fits lo s (x ∷ l) c r hc c3 hl hr k h m = by_cond (BalancedTo lo) (leb 5 (length x.0.rest))
      (λ e. borrow_last_fits (pred lo) s l c hc c3 x.0 x.1 x.0.rest r hl.1 refl (leb-true 5 (length x.0.rest) e) hl.0 hr (omega arith) (omega arith))
      (λ e. try_right_fits lo s (x ∷ l) c r hc c3 hl hr (leb-false 5 (length x.0.rest) e) k h m)

  rebalance_fits : (lo s : ℕ) (l : List (Node A C × Sep A)) (c : Node A C) (r : List (Sep A × Node A C)) → Fits P 3 c → AllLeft (Fits P 4) l → AllRight (Fits P 4) r
      → 1 ≤ length l + length r → lo ≤ length l + length r → length l + length r ≤ 8 → BalancedTo lo (rebalance s l c r)
  rebalance_fits lo s l c r hc hl hr k h m = by_cond (BalancedTo lo) (leb 4 (length c.rest))
      (λ e. plug_fits (Fits P 4) (pred lo) s l c r hl (record { least = leb-true 4 (length c.rest) e; most = hc.most; kid = hc.kid; kids = hc.kids }) hr (omega arith) (omega arith))
      (λ e. try_left_fits lo s l c r hc (leb-false 4 (length c.rest) e) hl hr k h m)

-- ---- the largest entry, and the dereference

module _ (A : Type 0) where
  settle_fits : (d lo s : ℕ) (l : List (Kid A d × Sep A)) (c : Removed (Kid A d)) (r : List (Sep A × Kid A d)) → ShortShaped A d c.tree → AllLeft (Shaped A d) l → AllRight (Shaped A d) r
      → root_least d ≤ length l + length r → lo ≤ length l + length r → length l + length r ≤ 8 → Fits (Shaped A d) (pred lo) (settle A d s l c r).tree
  settle_fits zero lo s l c r hc hl hr k h m = plug_fits (Shaped A zero) (pred lo) s l c.tree r hl tt hr (omega arith) m
  settle_fits (suc d) lo s l c r hc hl hr k h m = rebalance_fits (Shaped A d) lo s l c.tree r hc hl hr k h m

  -- below a leaf alone there is no largest entry
  abbrev pub IsZero : ℕ → Type 0
  IsZero zero = Unit {0}
  IsZero (suc d) = ⊥

  abbrev pub LargestShaped : (d : ℕ) → Largest A (Kid A d) → Type 0
  LargestShaped d nothing = IsZero d
  LargestShaped d (largest y c) = ShortShaped A d c.tree

  largest_at_shaped : (d s : ℕ) (l : List (Kid A d × Sep A)) (r : List (Sep A × Kid A d)) (o : Largest A (Kid A d)) → AllLeft (Shaped A d) l → AllRight (Shaped A d) r → LargestShaped d o
      → r ≡ [] → 4 ≤ length l + length r → length l + length r ≤ 8 → LargestShaped (suc d) (largest_at A d s l r o)
  largest_at_shaped d s [] r nothing hl hr ho e h m = let z = ap length e in omega arith
  largest_at_shaped d s (x ∷ l) r nothing hl hr ho e h m = plug_fits (Shaped A d) 3 s l x.0 r hl.1 hl.0 hr (omega arith) (omega arith)
  largest_at_shaped d s l r (largest y c) hl hr ho e h m = settle_fits d 4 s l c r ho hl hr (omega (arith, root_least_le d)) h m

  pub largest_shaped : (d : ℕ) (t : Kid A d) → Shaped A d t → LargestShaped d (take_largest A d t)
  largest_shaped zero t h = tt
  largest_shaped (suc d) n h =
      let z : Zip A (Kid A d) = at always n in
      let a = at_all (Shaped A d) always 4 n h in
      let q = seek_length always [] n.first n.rest in
      let h1 = h.least in
      let h2 = h.most in
      largest_at_shaped d n.slot z.lft z.rgt (take_largest A d z.mid) a.lefts a.rights (largest_shaped d z.mid a.here)
      (seek_always [] n.first n.rest) (omega arith) (omega arith)

  here_fits : (d lo s : ℕ) (l : List (Kid A d × Sep A)) (x : Sep A × Kid A d) (r : List (Sep A × Kid A d)) (o : Largest A (Kid A d)) → AllLeft (Shaped A d) l → AllRight (Shaped A d) (x ∷ r)
      → LargestShaped d o → lo ≤ suc (length l + length r) → suc (length l + length r) ≤ 8 → Fits (Shaped A d) (pred lo) (remove_here A d s l x r o).tree
  here_fits d lo s l x r nothing hl hr ho h m = plug_fits (Shaped A d) (pred lo) s l x.1 r hl hr.0 hr.1 (omega arith) (omega arith)
  here_fits d lo s l x r (largest y c) hl hr ho h m =
      settle_fits d lo s l c ((y, x.1) ∷ r) ho hl hr (omega (arith, root_least_le d)) (omega arith) (omega arith)

  remove_at_fits : (k : Key) (d lo s : ℕ) (l : List (Kid A d × Sep A)) (c : Kid A d) (r : List (Sep A × Kid A d)) (o : Removed (Kid A d)) → AllZip (Shaped A d) l c r
      → ShortShaped A d o.tree → root_least d ≤ length l + length r → lo ≤ length l + length r → length l + length r ≤ 8 → Fits (Shaped A d) (pred lo) (remove_at A k d s l c r o).tree
  remove_at_fits k d lo s l c [] o z ho g h m = settle_fits d lo s l o [] ho z.lefts tt g h m
  remove_at_fits k d lo s l c (x ∷ r) o z ho g h m = by_cond (λ (u : Removed (Tree A d)). Fits (Shaped A d) (pred lo) u.tree) (same k x.0)
      (λ p. here_fits d lo s l x r (take_largest A d c) z.lefts z.rights (largest_shaped d c z.here) (omega arith) (omega arith))
      (λ p. settle_fits d lo s l o (x ∷ r) ho z.lefts z.rights g h m)

  dereference_step : (k : Key) (d lo : ℕ) (n : Tree A d) → root_least d ≤ length n.rest → Fits (Shaped A d) lo n → ((c : Kid A d) → Shaped A d c → ShortShaped A d (dereference A k d c).tree)
      → Fits (Shaped A d) (pred lo) (dereference A k (suc d) n).tree
  dereference_step k d lo n g h ih =
      let z : Zip A (Kid A d) = at (below k) n in
      let a = at_all (Shaped A d) (below k) lo n h in
      let q = seek_length (below k) [] n.first n.rest in
      let h1 = h.least in
      let h2 = h.most in
      remove_at_fits k d lo n.slot z.lft z.mid z.rgt (dereference A k d z.mid) a (ih z.mid a.here) (omega arith) (omega arith) (omega arith)

  pub dereference_shaped : (k : Key) (d : ℕ) (t : Kid A d) → Shaped A d t → ShortShaped A d (dereference A k d t).tree
  dereference_shaped k zero t h = tt
  dereference_shaped k (suc d) n h = dereference_step k d 4 n (omega (arith, root_least_le d, h.least)) h (λ c hc. dereference_shaped k d c hc)

  pub dereference_root : (k : Key) (d lo : ℕ) (n : Tree A d) → root_least d ≤ length n.rest → Fits (Shaped A d) lo n → Fits (Shaped A d) (pred lo) (dereference A k (suc d) n).tree
  dereference_root k d lo n g h = dereference_step k d lo n g h (λ c hc. dereference_shaped k d c hc)
