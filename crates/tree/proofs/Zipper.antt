-- A node's chain and its zipper: what is read in order, how many separators there are, what holds of each child, and where a
-- zipper stands. Assumes nothing.
use mathlib.Core.Path.{◌≡◌, refl, ◌∙◌}
use mathlib.Core.List.{List, [], ◌∷◌, ◌++◌, append_assoc}
use mathlib.Core.Bool.{Bool, true, false, cond}
use lib.ListN.{length}
use native.Mathlib.Omega.{arith}
use Prim.Native.Nat.{ℕ, suc, ◌+◌, ◌≤◌}
use Rattle.word.specs.Key.{Key, cmp, Lt}
use Rattle.tree.specs.Map.{Sep, AllBelow, Rising}
use Rattle.tree.specs.Tree.{Node, Zip, read_rest, read_left, read, only, seek, plug, at, join, below, always}
use Rattle.tree.specs.Set.{Parts, one, two, graft}
use Rattle.tree.specs.State.{AllRight, Fits}
use Rattle.tree.proofs.Cases.{by_cond, is_lt_lem}
use Rattle.tree.proofs.MapLaws.{rising_before, below_up}

-- ---- what is read in order

module _ {A C D : Type 0} (g : Sep A → List D) (f : C → List D) where
  pub read_rest_append : (r q : List (Sep A × C)) → read_rest g f (r ++ q) ≡ read_rest g f r ++ read_rest g f q
  read_rest_append [] q = refl
  read_rest_append (x ∷ r) q = rw (read_rest_append r q) (simp append_assoc)

  abbrev pub read_zip : List (C × Sep A) → C → List (Sep A × C) → List D
  read_zip l c r = read_left g f l ++ (f c ++ read_rest g f r)

  pub plug_read : (s : ℕ) (l : List (C × Sep A)) (c : C) (r : List (Sep A × C)) → read g f (plug s l c r) ≡ read_zip l c r
  plug_read s [] c r = refl
  plug_read s (x ∷ l) c r = plug_read s l x.0 ((x.1, c) ∷ r) ∙ simp append_assoc

  pub seek_read : (p : Sep A → Bool) (l : List (C × Sep A)) (c : C) (r : List (Sep A × C))
      → let z : Zip A C = seek p l c r in read_zip z.lft z.mid z.rgt ≡ read_zip l c r
  seek_read p l c [] = refl
  seek_read p l c (x ∷ r) = by_cond (λ (z : Zip A C). read_zip z.lft z.mid z.rgt ≡ read_zip l c (x ∷ r)) (p x.0)
      (λ e. seek_read p ((c, x.0) ∷ l) x.1 r ∙ simp append_assoc) (λ e. refl)

  pub join_read : (a : Node A C) (s : Sep A) (b : Node A C) → read g f (join a s b) ≡ read g f a ++ (g s ++ read g f b)
  join_read a s b = rw (read_rest_append a.rest ((s, b.first) ∷ b.rest)) (simp append_assoc)

  abbrev pub read_parts : Parts A C → List D
  read_parts (one c) = f c
  read_parts (two a s b) = f a ++ (g s ++ f b)

  pub graft_read : (s : ℕ) (l : List (C × Sep A)) (r : List (Sep A × C)) (o : Parts A C)
      → read g f (graft s l r o) ≡ read_left g f l ++ (read_parts o ++ read_rest g f r)
  graft_read s l r (one c) = plug_read s l c r
  graft_read s l r (two a x b) = plug_read s l a ((x, b) ∷ r) ∙ simp append_assoc

-- ---- slot, and count of separators

module _ {A C : Type 0} where
  pub plug_slot : (s : ℕ) (l : List (C × Sep A)) (c : C) (r : List (Sep A × C)) → (plug s l c r).slot ≡ s
  plug_slot s [] c r = refl
  plug_slot s (x ∷ l) c r = plug_slot s l x.0 ((x.1, c) ∷ r)

  pub graft_slot : (s : ℕ) (l : List (C × Sep A)) (r : List (Sep A × C)) (o : Parts A C) → (graft s l r o).slot ≡ s
  graft_slot s l r (one c) = plug_slot s l c r
  graft_slot s l r (two a x b) = plug_slot s l a ((x, b) ∷ r)

  pub plug_length : (s : ℕ) (l : List (C × Sep A)) (c : C) (r : List (Sep A × C)) → length (plug s l c r).rest ≡ length l + length r
  plug_length s [] c r = omega arith
  plug_length s (x ∷ l) c r = omega (arith, plug_length s l x.0 ((x.1, c) ∷ r))

  pub seek_length : (p : Sep A → Bool) (l : List (C × Sep A)) (c : C) (r : List (Sep A × C))
      → let z : Zip A C = seek p l c r in length z.lft + length z.rgt ≡ length l + length r
  seek_length p l c [] = refl
  seek_length p l c (x ∷ r) = by_cond (λ (z : Zip A C). length z.lft + length z.rgt ≡ length l + suc (length r)) (p x.0)
      (λ e. omega (arith, seek_length p ((c, x.0) ∷ l) x.1 r)) (λ e. refl)

-- ---- where a zipper stands: p of the separator before, not of the one after

module _ {A C : Type 0} (p : Sep A → Bool) where
  abbrev pub Before : List (C × Sep A) → Type 0
  Before [] = Unit {0}
  Before (x ∷ l) = p x.1 ≡ true

  abbrev pub After : List (Sep A × C) → Type 0
  After [] = Unit {0}
  After (x ∷ l) = p x.0 ≡ false

  pub seek_edge : (l : List (C × Sep A)) (c : C) (r : List (Sep A × C)) → Before l
      → let z : Zip A C = seek p l c r in Before z.lft × After z.rgt
  seek_edge l c [] h = (h, tt)
  seek_edge l c (x ∷ r) h = by_cond (λ (z : Zip A C). Before z.lft × After z.rgt) (p x.0)
      (λ e. seek_edge ((c, x.0) ∷ l) x.1 r e) (λ e. (h, e))

  -- put back it is the node that it came from
  pub seek_plug : (s : ℕ) (l : List (C × Sep A)) (c : C) (r : List (Sep A × C))
      → let z : Zip A C = seek p l c r in plug s z.lft z.mid z.rgt ≡ plug s l c r
  seek_plug s l c [] = refl
  seek_plug s l c (x ∷ r) = by_cond (λ (z : Zip A C). plug s z.lft z.mid z.rgt ≡ plug s l c (x ∷ r)) (p x.0)
      (λ e. seek_plug s ((c, x.0) ∷ l) x.1 r) (λ e. refl)

  -- its index: how many separators in front p holds of
  abbrev pub position : List (Sep A × C) → ℕ
  position [] = 0
  position (x ∷ r) = cond (p x.0) (suc (position r)) 0

  pub seek_position : (l : List (C × Sep A)) (c : C) (r : List (Sep A × C)) → length (seek p l c r).lft ≡ length l + position r
  seek_position l c [] = omega arith
  seek_position l c (x ∷ r) = by_cond (λ (z : Zip A C). length z.lft ≡ length l + position (x ∷ r)) (p x.0)
      (λ e. rw e (omega (arith, seek_position ((c, x.0) ∷ l) x.1 r))) (λ e. rw e (omega arith))

-- at the last child nothing stands right of it
module _ {A C : Type 0} where
  pub seek_always : (l : List (C × Sep A)) (c : C) (r : List (Sep A × C)) → (seek always l c r).rgt ≡ []
  seek_always l c [] = refl
  seek_always l c (x ∷ r) = seek_always ((c, x.0) ∷ l) x.1 r

-- what stands left of where k belongs is below k
module _ {A C : Type 0} (f : C → List (Sep A)) where
  below_snoc : (xs : List (Sep A)) (s : Sep A) (k : Key) → AllBelow xs k → Lt s.key k → AllBelow (xs ++ (s ∷ [])) k
  below_snoc [] s k h g = (g, tt)
  below_snoc (x ∷ xs) s k h g = (h.0, below_snoc xs s k h.1 g)

  pub left_below : (k : Key) (l : List (C × Sep A)) (y : List (Sep A)) → Before (below k) l → Rising (read_left only f l ++ y) → AllBelow (read_left only f l) k
  left_below k [] y b h = tt
  left_below k (x ∷ l) y b h =
      let xs : List (Sep A) = read_left only f l ++ f x.0 in
      let s : Sep A = x.1 in
      let lt : Lt s.key k = is_lt_lem (cmp s.key k) b in
      let e : read_left only f (x ∷ l) ++ y ≡ xs ++ s ∷ y = simp append_assoc in
      rw (← append_assoc) (below_snoc xs s k (below_up xs s.key k lt (rising_before xs y s (rw e at h))) lt)

-- ---- what holds of each child

module _ {A C : Type 0} (P : C → Type 0) where
  abbrev pub AllLeft : List (C × Sep A) → Type 0
  AllLeft [] = Unit {0}
  AllLeft (x ∷ l) = P x.0 × AllLeft l

  pub record AllZip (l : List (C × Sep A)) (c : C) (r : List (Sep A × C)) : Type 0 where
    pub lefts : AllLeft l
    pub here : P c
    pub rights : AllRight P r

  pub plug_all : (s : ℕ) (l : List (C × Sep A)) (c : C) (r : List (Sep A × C)) → AllLeft l → P c → AllRight P r
      → P (plug s l c r).first × AllRight P (plug s l c r).rest
  plug_all s [] c r hl hc hr = (hc, hr)
  plug_all s (x ∷ l) c r hl hc hr = plug_all s l x.0 ((x.1, c) ∷ r) hl.1 hl.0 (hc, hr)

  pub seek_all : (p : Sep A → Bool) (l : List (C × Sep A)) (c : C) (r : List (Sep A × C)) → AllLeft l → P c → AllRight P r
      → let z : Zip A C = seek p l c r in AllZip z.lft z.mid z.rgt
  seek_all p l c [] hl hc hr = record { lefts = hl; here = hc; rights = tt }
  seek_all p l c (x ∷ r) hl hc hr = by_cond (λ (z : Zip A C). AllZip z.lft z.mid z.rgt) (p x.0)
      (λ e. seek_all p ((c, x.0) ∷ l) x.1 r (hc, hl) hr.0 hr.1) (λ e. record { lefts = hl; here = hc; rights = hr })

  pub at_all : (p : Sep A → Bool) (lo : ℕ) (n : Node A C) → Fits P lo n → let z : Zip A C = at p n in AllZip z.lft z.mid z.rgt
  at_all p lo n h = seek_all p [] n.first n.rest tt h.kid h.kids

  pub append_all : (r q : List (Sep A × C)) → AllRight P r → AllRight P q → AllRight P (r ++ q)
  append_all [] q h k = k
  append_all (x ∷ r) q h k = (h.0, append_all r q h.1 k)

  pub plug_fits : (lo s : ℕ) (l : List (C × Sep A)) (c : C) (r : List (Sep A × C)) → AllLeft l → P c → AllRight P r
      → lo ≤ length l + length r → length l + length r ≤ 8 → Fits P lo (plug s l c r)
  plug_fits lo s l c r hl hc hr h m =
      let a = plug_all s l c r hl hc hr in
      let n = plug_length s l c r in
      record { least = omega arith; most = omega arith; kid = a.0; kids = a.1 }
