-- A map over the children of a node commutes with every step of the tree: with a zipper plugged and sought, with parts of the
-- chain, with neighbours joined. And what can be written, along a zipper. Assumes nothing.
use mathlib.Core.Path.{◌≡◌, refl, sym, ap, subst}
use mathlib.Core.List.{List, [], ◌∷◌, ◌++◌}
use mathlib.Core.Bool.{Bool, false}
use Prim.Native.Nat.{ℕ, zero, suc, ◌^◌, ◌<◌}
use lib.ListN.{length, take, drop}
use Rattle.word.specs.Key.{Key}
use Rattle.tree.specs.Map.{Sep}
use Rattle.tree.specs.Tree.{Node, Zip, seek, plug, at, join, same}
use Rattle.tree.specs.Remove.{unsnoc}
use Rattle.tree.specs.State.{AllRight}
use Rattle.tree.proofs.Cases.{by_bool}
use Rattle.node.specs.Chain.{Step, Fit, FitAll}
use Rattle.slots.specs.Stands.{map_right, map_node}
use Rattle.outcome.specs.Mirror.{is_next}

-- ---- a map over children

module _ {A C D : Type 0} (f : C → D) where
  abbrev pub map_left : List (C × Sep A) → List (D × Sep A)
  map_left [] = []
  map_left (x ∷ l) = (f x.0, x.1) ∷ map_left l

  abbrev pub map_zip : Zip A C → Zip A D
  map_zip z = record { lft = map_left z.lft; mid = f z.mid; rgt = map_right f z.rgt }

  pub length_map_left : (l : List (C × Sep A)) → length (map_left l) ≡ length l
  length_map_left [] = refl
  length_map_left (x ∷ l) = ap suc (length_map_left l)

  pub plug_map : (s : ℕ) (l : List (C × Sep A)) (c : C) (r : List (Sep A × C)) → map_node f (plug s l c r) ≡ plug s (map_left l) (f c) (map_right f r)
  plug_map s [] c r = refl
  plug_map s (x ∷ l) c r = plug_map s l x.0 ((x.1, c) ∷ r)

  pub seek_map : (p : Sep A → Bool) (l : List (C × Sep A)) (c : C) (r : List (Sep A × C)) → seek p (map_left l) (f c) (map_right f r) ≡ map_zip (seek p l c r)
  seek_map p l c [] = refl
  seek_map p l c (x ∷ r) = by_bool (p x.0) (λ e. rw e (seek_map p ((c, x.0) ∷ l) x.1 r)) (λ e. rw e)

  pub at_map : (p : Sep A → Bool) (m : Node A C) → at p (map_node f m) ≡ map_zip (at p m)
  at_map p m = seek_map p [] m.first m.rest

  pub take_map : (i : ℕ) (r : List (Sep A × C)) → take i (map_right f r) ≡ map_right f (take i r)
  take_map zero r = refl
  take_map (suc i) [] = refl
  take_map (suc i) (x ∷ r) = ap (λ (t : List (Sep A × D)). (x.0, f x.1) ∷ t) (take_map i r)

  pub drop_map : (i : ℕ) (r : List (Sep A × C)) → drop i (map_right f r) ≡ map_right f (drop i r)
  drop_map zero r = refl
  drop_map (suc i) [] = refl
  drop_map (suc i) (x ∷ r) = drop_map i r

  pub append_map : (r q : List (Sep A × C)) → map_right f (r ++ q) ≡ map_right f r ++ map_right f q
  append_map [] q = refl
  append_map (x ∷ r) q = ap (λ (t : List (Sep A × D)). (x.0, f x.1) ∷ t) (append_map r q)

  pub join_map : (a : Node A C) (y : Sep A) (b : Node A C) → map_node f (join a y b) ≡ join (map_node f a) y (map_node f b)
  join_map a y b = λ i. record { slot = a.slot; first = f a.first; rest = append_map a.rest ((y, b.first) ∷ b.rest) i }

  pub unsnoc_map : (x : Sep A × C) (r : List (Sep A × C)) → unsnoc (x.0, f x.1) (map_right f r) ≡ (map_right f (unsnoc x r).0, ((unsnoc x r).1.0, f (unsnoc x r).1.1))
  unsnoc_map x [] = refl
  unsnoc_map x (y ∷ r) = ap (λ (u : List (Sep A × D) × (Sep A × D)). ((x.0, f x.1) ∷ u.0, u.1)) (unsnoc_map y r)

-- whether the next separator is the key's own
abbrev pub next_is : {A C : Type 0} → Key → List (Sep A × C) → Bool
next_is k [] = false
next_is k (y ∷ r) = same k y.0

pub is_next_map : {C : Type 0} (f : C → ℕ) (k : Key) (r : List (Sep ℕ × C)) → is_next k (map_right f r) ≡ next_is k r
is_next_map f k [] = refl
is_next_map f k (y ∷ r) = refl

-- ---- what can be written, along a zipper

abbrev pub FitLeft : List (ℕ × Sep ℕ) → Type 0
FitLeft [] = Unit {0}
FitLeft (x ∷ l) = (x.0 < 2 ^ 64) × Fit x.1 × FitLeft l

pub record FitZip (l : List (ℕ × Sep ℕ)) (c : ℕ) (r : List Step) : Type 0 where
  pub lefts : FitLeft l
  pub here : c < 2 ^ 64
  pub rights : FitAll r

-- a chain, first child included
abbrev pub FitNode : Node ℕ ℕ → Type 0
FitNode m = (m.first < 2 ^ 64) × FitAll m.rest

-- plugged together it can be written exactly if its parts can
pub plug_fit : (s : ℕ) (l : List (ℕ × Sep ℕ)) (c : ℕ) (r : List Step) → FitZip l c r → FitNode (plug s l c r)
plug_fit s [] c r z = (z.here, z.rights)
plug_fit s (x ∷ l) c r z = plug_fit s l x.0 ((x.1, c) ∷ r) (record { lefts = z.lefts.2; here = z.lefts.0; rights = (z.lefts.1, z.here, z.rights) })

pub plug_fit_map : {C : Type 0} (f : C → ℕ) (s : ℕ) (l : List (C × Sep ℕ)) (c : C) (r : List (Sep ℕ × C)) → FitZip (map_left f l) (f c) (map_right f r) → FitNode (map_node f (plug s l c r))
plug_fit_map f s l c r z = subst FitNode (sym (plug_map f s l c r)) (plug_fit s (map_left f l) (f c) (map_right f r) z)

pub fit_plug : (s : ℕ) (l : List (ℕ × Sep ℕ)) (c : ℕ) (r : List Step) → FitNode (plug s l c r) → FitZip l c r
fit_plug s [] c r h = record { lefts = tt; here = h.0; rights = h.1 }
fit_plug s (x ∷ l) c r h =
    let z = fit_plug s l x.0 ((x.1, c) ∷ r) h in
    record { lefts = (z.here, z.rights.0, z.lefts); here = z.rights.1; rights = z.rights.2 }

pub fit_take : (i : ℕ) (r : List Step) → FitAll r → FitAll (take i r)
fit_take zero r h = tt
fit_take (suc i) [] h = tt
fit_take (suc i) (x ∷ r) h = (h.0, h.1, fit_take i r h.2)

pub fit_drop : (i : ℕ) (r : List Step) → FitAll r → FitAll (drop i r)
fit_drop zero r h = h
fit_drop (suc i) [] h = tt
fit_drop (suc i) (x ∷ r) h = fit_drop i r h.2

pub fit_append : (r q : List Step) → FitAll r → FitAll q → FitAll (r ++ q)
fit_append [] q h g = g
fit_append (x ∷ r) q h g = (h.0, h.1, fit_append r q h.2 g)

pub fit_first : (r q : List Step) → FitAll (r ++ q) → FitAll r
fit_first [] q h = tt
fit_first (x ∷ r) q h = (h.0, h.1, fit_first r q h.2)

pub fit_last : (r q : List Step) → FitAll (r ++ q) → FitAll q
fit_last [] q h = h
fit_last (x ∷ r) q h = fit_last r q h.2

-- ---- and the same of what holds of each child (put together: tree's append_all)

module _ {A C : Type 0} (P : C → Type 0) where
  pub all_first : (r q : List (Sep A × C)) → AllRight P (r ++ q) → AllRight P r
  all_first [] q h = tt
  all_first (x ∷ r) q h = (h.0, all_first r q h.1)

  pub all_last : (r q : List (Sep A × C)) → AllRight P (r ++ q) → AllRight P q
  all_last [] q h = h
  all_last (x ∷ r) q h = all_last r q h.1
