-- A set keeps every node's count of separators. Assumes nothing.
use mathlib.Core.Path.{◌≡◌}
use mathlib.Core.List.{List, [], ◌∷◌}
use lib.ListN.{length, take, drop, length-take, length-drop}
use lib.Dec.{leb}
use native.Mathlib.Omega.{arith}
use borrow.Author.Tests.{leb-true, leb-false}
use Prim.Native.Nat.{ℕ, zero, suc, ◌+◌, ◌≤◌}
use Rattle.tree.specs.Map.{Sep}
use Rattle.tree.specs.Tree.{Node, Kid, Tree, Zip, plug, at, below, same}
use Rattle.tree.specs.Set.{Parts, one, two, Placed, split_at4, split_over8, graft, set_here, set}
use Rattle.tree.specs.State.{AllRight, Fits, Shaped}
use Rattle.tree.proofs.Cases.{by_cond}
use Rattle.tree.proofs.Zipper.{seek_length, AllLeft, AllZip, at_all, plug_fits, plug_all, plug_length}

module _ {A C : Type 0} (P : C → Type 0) where
  pub take_all : (i : ℕ) (r : List (Sep A × C)) → AllRight P r → AllRight P (take i r)
  take_all zero r h = tt
  take_all (suc i) [] h = tt
  take_all (suc i) (x ∷ r) h = (h.0, take_all i r h.1)

  pub drop_all : (i : ℕ) (r : List (Sep A × C)) → AllRight P r → AllRight P (drop i r)
  drop_all zero r h = h
  drop_all (suc i) [] h = tt
  drop_all (suc i) (x ∷ r) h = drop_all i r h.1

  -- what a set leaves: a node of lo or more, or two of 4
  abbrev pub PartsFit : (lo : ℕ) → Parts A (Node A C) → Type 0
  PartsFit lo (one n) = Fits P lo n
  PartsFit lo (two a x b) = Fits P 4 a × Fits P 4 b

  abbrev pub AllParts : Parts A C → Type 0
  AllParts (one c) = P c
  AllParts (two a x b) = P a × P b

  -- "Both halves hold 4."
  split_fits : (lo : ℕ) (n : Node A C) (x : List (Sep A × C)) (fs : List ℕ) → length n.rest ≡ 9 → length x ≡ 5 → P n.first → AllRight P n.rest → AllRight P x
      → PartsFit lo (split_at4 n x fs).parts
  split_fits lo n [] fs e q k ks kx = absurd (omega arith)
  split_fits lo n (x ∷ r) fs e q k ks kx = (
    record {
      least = simp length-take (omega arith);
      most = simp length-take (omega arith);
      kid = k;
      kids = take_all 4 n.rest ks;
    },
    record { least = omega arith; most = omega arith; kid = kx.0; kids = kx.1 },
  )

  split_over8_fits : (lo : ℕ) (n : Node A C) (fs : List ℕ) → lo ≤ length n.rest → length n.rest ≤ 9 → P n.first → AllRight P n.rest → PartsFit lo (split_over8 n fs).parts
  split_over8_fits lo n fs h m k ks = by_cond (λ (o : Placed A (Node A C)). PartsFit lo o.parts) (leb (length n.rest) 8)
      (λ e. record { least = h; most = leb-true (length n.rest) 8 e; kid = k; kids = ks })
      (λ e.
      let big = leb-false (length n.rest) 8 e in
      split_fits lo n (drop 4 n.rest) fs (omega arith) (simp length-drop (omega arith)) k ks (drop_all 4 n.rest ks))

  module _ (lo s : ℕ) (l : List (C × Sep A)) where
    graft_fits : (r : List (Sep A × C)) (o : Parts A C) (fs : List ℕ) → lo ≤ length l + length r → length l + length r ≤ 8
        → AllLeft P l → AllRight P r → AllParts o → PartsFit lo (split_over8 (graft s l r o) fs).parts
    graft_fits r (one c) fs h m hl hr ho =
        let a = plug_all P s l c r hl ho hr in
        let n = plug_length s l c r in
        split_over8_fits lo (plug s l c r) fs (omega arith) (omega arith) a.0 a.1
    graft_fits r (two c x b) fs h m hl hr ho =
        let a = plug_all P s l c ((x, b) ∷ r) hl ho.0 (ho.1, hr) in
        let n = plug_length s l c ((x, b) ∷ r) in
        split_over8_fits lo (plug s l c ((x, b) ∷ r)) fs (omega arith) (omega arith) a.0 a.1

    here_fits : (rec : C → Placed A C) (e : Sep A) (c : C) (r : List (Sep A × C)) (fs : List ℕ)
        → lo ≤ length l + length r → length l + length r ≤ 8 → AllZip P l c r → AllParts (rec c).parts → PartsFit lo (set_here rec e s l c r fs).parts
    here_fits rec e c [] fs h m z ho = graft_fits [] (rec c).parts (rec c).free h m z.lefts tt ho
    here_fits rec e c (x ∷ r) fs h m z ho = by_cond (λ (o : Placed A (Node A C)). PartsFit lo o.parts) (same e.key x.0)
        (λ p. plug_fits P lo s l c ((e, x.1) ∷ r) z.lefts z.here z.rights (omega arith) (omega arith))
        (λ p. graft_fits (x ∷ r) (rec c).parts (rec c).free h m z.lefts z.rights ho)

module _ {A : Type 0} (e : Sep A) where
  set_step : (d lo : ℕ) (n : Tree A d) (fs : List ℕ) → Fits (Shaped A d) lo n
      → ((c : Kid A d) → Shaped A d c → AllParts (Shaped A d) (set A e d c fs).parts) → PartsFit (Shaped A d) lo (set A e (suc d) n fs).parts
  set_step d lo n fs h ih =
      let z : Zip A (Kid A d) = at (below e.key) n in
      let a = at_all (Shaped A d) (below e.key) lo n h in
      let q = seek_length (below e.key) [] n.first n.rest in
      let h1 = h.least in
      let h2 = h.most in
      here_fits (Shaped A d) lo n.slot z.lft (λ c. set A e d c fs) e z.mid z.rgt fs (omega arith) (omega arith) a (ih z.mid a.here)

  all_of_fit : (d : ℕ) (o : Parts A (Tree A d)) → PartsFit (Shaped A d) 4 o → AllParts (Shaped A (suc d)) o
  all_of_fit d (one n) q = q
  all_of_fit d (two a x b) q = q

  pub set_shaped : (d : ℕ) (t : Kid A d) (fs : List ℕ) → Shaped A d t → AllParts (Shaped A d) (set A e d t fs).parts
  set_shaped zero t fs h = (tt, tt)
  set_shaped (suc d) n fs h = all_of_fit d (set A e (suc d) n fs).parts (set_step d 4 n fs h (λ c hc. set_shaped d c fs hc))

  pub set_root_fits : (d lo : ℕ) (n : Tree A d) (fs : List ℕ) → Fits (Shaped A d) lo n → PartsFit (Shaped A d) lo (set A e (suc d) n fs).parts
  set_root_fits d lo n fs h = set_step d lo n fs h (λ c hc. set_shaped d c fs hc)
