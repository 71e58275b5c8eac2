-- What is read from the root down is the tree that the bytes hold, and every tree that they hold is what is read; so the entries
-- of a store are those of any good state that it stands for. Assumes nothing.
use mathlib.Core.Path.{◌≡◌, refl, sym, subst}
use mathlib.Core.List.{List, [], ◌∷◌}
use mathlib.Core.Bool.{Bool, true, false}
use mathlib.Core.Option.{Option, none, some}
use Prim.Native.Nat.{ℕ, zero, suc, ◌+◌, ◌^◌, ◌≤◌, ◌<◌}
use lib.Dec.{eqb}
use native.Mathlib.Omega.{arith}
use borrow.Author.Tests.{eqb-true, eq-eqb, ne_eqb}
use Rattle.word.specs.Num.{Bytes}
use Rattle.word.specs.Pick.{by_test}
use Rattle.word.proofs.NumLaws.{bytes_part}
use Rattle.tree.specs.Map.{Sep}
use Rattle.tree.specs.Tree.{Node, Kid, read_rest, read, none_of, slots}
use Rattle.tree.specs.State.{State, AllRight, state_entries, Good, Store, bare, rooted, store_entries, GoodStore}
use Rattle.tree.proofs.Cases.{by_cond, by_bool}
use Rattle.tree.proofs.Slots.{occurs_append}
use Rattle.tree.proofs.Depth.{depth_limit}
use Rattle.node.specs.Chain.{Step, Writable}
use Rattle.codec.specs.Codec.{is_accepted, scan, Decoded, decode}
use Rattle.codec.specs.Strict.{is_strict, strict_end, strict_of}
use Rattle.codec.proofs.Theorems.{scan_writable}
use Rattle.slots.specs.Layout.{slot_at, used, start, root_of, depth_of}
use Rattle.slots.specs.Mirror.{length_at, node_bytes, holds_node, read_of, read_node}
use Rattle.slots.specs.Stands.{label, map_right, map_node, InSlot, Holds, Based, StandsTree, Stands}
use Rattle.slots.specs.Entries.{same_bytes, as_written, step_o, node_o, steps_o, on_read, leaf_o, build, entries_of}
use Rattle.slots.proofs.StoreLaws.{based_root, based_depth}
use Rattle.slots.proofs.Framing.{Within, first_within, read_tree}

pub same_bytes_true : (a b : List ℕ) → same_bytes a b ≡ true → a ≡ b
same_bytes_true [] [] h = refl
same_bytes_true [] (y ∷ t) h = cc
same_bytes_true (x ∷ s) [] h = cc
same_bytes_true (x ∷ s) (y ∷ t) h =
    by_bool (eqb x y) (λ e. let ih = same_bytes_true s t (rw e at h) in let w = eqb-true x y e in cc) (λ e. cc (rw e at h))

pub same_bytes_refl : (a : List ℕ) → same_bytes a a ≡ true
same_bytes_refl [] = refl
same_bytes_refl (x ∷ s) = rw (eq-eqb x x refl) (same_bytes_refl s)

-- ---- sound: what is read stands there

-- P of what is there
abbrev pub IfSome : {C : Type 0} → (C → Type 0) → Option C → Type 0
IfSome P none = Unit {0}
IfSome P (some c) = P c

-- a node that can be written, in slot x
pub record FineAt (x : ℕ) (m : Node ℕ ℕ) : Type 0 where
  pub fine : Writable m.first m.rest
  pub slot : m.slot ≡ x

pub read_writable : (s : List ℕ) (x : ℕ) → Bytes s → IfSome (FineAt x) (read_node s x)
unfolding read_node strict_of decode node_bytes
read_writable s x h =
    by_cond (IfSome (FineAt x)) (holds_node s x)
    (λ q.
    by_test (λ (o : Decoded). IfSome (FineAt x) (read_of x o)) (is_strict (strict_end (node_bytes s x)).ending)
    (λ f.
    by_test (λ (o : Decoded). IfSome (FineAt x) (read_of x o)) (is_accepted (scan (node_bytes s x)).ending)
    (λ e. record { fine = scan_writable (node_bytes s x) (bytes_part s (start x + 4) (length_at s x) h); slot = refl })
    (λ e. tt))
    (λ f. tt))
    (λ q. tt)

-- a node in its slot, which is x
pub record StandsAt (s : List ℕ) (x : ℕ) (m : Node ℕ ℕ) : Type 0 where
  pub in_slot : InSlot s m
  pub slot : m.slot ≡ x

pub read_stands : (s : List ℕ) (x : ℕ) → Bytes s → IfSome (StandsAt s x) (as_written (slot_at s x) (read_node s x))
read_stands s x h = go (read_node s x) (read_writable s x h)
  where
    go : (o : Option (Node ℕ ℕ)) → IfSome (FineAt x) o → IfSome (StandsAt s x) (as_written (slot_at s x) o)
    go none f = tt
    go (some m) f =
        by_cond (IfSome (StandsAt s x)) (same_bytes (slot_at s x) (used m.first m.rest))
        (λ q. record { in_slot = record { fine = f.fine; bytes = rw f.slot (same_bytes_true (slot_at s x) (used m.first m.rest) q) }; slot = f.slot })
        (λ q. tt)

-- a tree that the bytes hold, its root in slot x
pub record HeldAt (s : List ℕ) (d x : ℕ) (t : Kid ℕ d) : Type 0 where
  pub holds : Holds s d t
  pub slot : label d t ≡ x

-- trees that the bytes hold behind separators, their roots in the slots of r
record StepsHeld (s : List ℕ) (d : ℕ) (r : List Step) (q : List (Sep ℕ × Kid ℕ d)) : Type 0 where
  holds : AllRight (Holds s d) q
  steps : map_right (label d) q ≡ r

module _ (s : List ℕ) (bs : Bytes s) where
  steps_held : (d : ℕ) → ((x : ℕ) → IfSome (HeldAt s d x) (build d s x)) → (r : List Step) → IfSome (StepsHeld s d r) (steps_o (build d s) r)
  steps_held d ih [] = record { holds = tt; steps = refl }
  steps_held d ih (x ∷ r) = go (build d s x.1) (ih x.1) (steps_o (build d s) r) (steps_held d ih r)
    where
      go : (o : Option (Kid ℕ d)) → IfSome (HeldAt s d x.1) o → (q : Option (List (Sep ℕ × Kid ℕ d))) → IfSome (StepsHeld s d r) q → IfSome (StepsHeld s d (x ∷ r)) (step_o x.0 o q)
      go none f none g = tt
      go none f (some q) g = tt
      go (some c) f none g = tt
      go (some c) f (some q) g = record { holds = (f.holds, g.holds); steps = rw (f.slot, g.steps) }

  pub build_holds : (d x : ℕ) → IfSome (HeldAt s d x) (build d s x)
  build_holds zero x = go (eqb x 0) refl
    where
      go : (b : Bool) → eqb x 0 ≡ b → IfSome (HeldAt s zero x) (leaf_o b)
      go true e = record { holds = tt; slot = sym (eqb-true x 0 e) }
      go false e = tt
  build_holds (suc d) x = go (as_written (slot_at s x) (read_node s x)) (read_stands s x bs) (build_holds d)
    where
      node_lem : (m : Node ℕ ℕ) → StandsAt s x m → (o : Option (Kid ℕ d)) → IfSome (HeldAt s d m.first) o → (q : Option (List (Sep ℕ × Kid ℕ d)))
          → IfSome (StepsHeld s d m.rest) q → IfSome (HeldAt s (suc d) x) (node_o m.slot o q)
      node_lem m p none f none g = tt
      node_lem m p none f (some q) g = tt
      node_lem m p (some c) f none g = tt
      node_lem m p (some c) f (some q) g =
          let e : m ≡ map_node (label d) (record { slot = m.slot; first = c; rest = q }) = λ i. record { slot = m.slot; first = sym f.slot i; rest = sym g.steps i } in
          record { holds = (subst (InSlot s) e p.in_slot, f.holds, g.holds); slot = p.slot }

      go : (o : Option (Node ℕ ℕ)) → IfSome (StandsAt s x) o → ((x : ℕ) → IfSome (HeldAt s d x) (build d s x)) → IfSome (HeldAt s (suc d) x) (on_read (build d s) o)
      go none f ih = tt
      go (some m) f ih = node_lem m f (build d s m.first) (ih m.first) (steps_o (build d s) m.rest) (steps_held d ih m.rest)

-- ---- complete: a tree that the bytes hold is read

module _ (n root depth : ℕ) (small : n < 2 ^ 32) (s fs : List ℕ) (b : Based n root depth s fs) where
  steps_build : (d : ℕ) → ((t : Kid ℕ d) → Holds s d t → Within n (slots ℕ d t) → build d s (label d t) ≡ some t)
      → (q : List (Sep ℕ × Kid ℕ d)) → AllRight (Holds s d) q → Within n (read_rest none_of (slots ℕ d) q) → steps_o (build d s) (map_right (label d) q) ≡ some q
  steps_build d ih [] h a = refl
  steps_build d ih (y ∷ q) h a =
      rw (ih y.1 h.0 (λ x. omega (arith, simp occurs_append at (a x))), steps_build d ih q h.1 (λ x. omega (arith, simp occurs_append at (a x))))

  pub holds_build : (d : ℕ) (t : Kid ℕ d) → Holds s d t → Within n (slots ℕ d t) → build d s (label d t) ≡ some t
  holds_build zero t h a = refl
  holds_build (suc d) t h a = rw (
    read_tree n root depth small s fs d t b h a,
    h.0.bytes,
    same_bytes_refl (used (label d t.first) (map_right (label d) t.rest)),
    holds_build d t.first h.1 (λ x. omega (arith, simp occurs_append at (a x))),
    steps_build d (holds_build d) t.rest h.2 (λ x. omega (arith, simp occurs_append at (a x))),
  )

-- ---- the entries of a store

-- what the header of a store with a root says
pub record RootRead (n : ℕ) (s : List ℕ) (t : State ℕ) : Type 0 where
  pub root : root_of s ≡ t.root.slot
  pub depth : depth_of s ≡ t.depth
  pub least : 1 ≤ t.root.slot
  pub most : t.root.slot ≤ n

pub root_read : (n : ℕ) (s : List ℕ) (t : State ℕ) → n < 2 ^ 32 → StandsTree n s t → Good n t → RootRead n s t
root_read n s t small st gd =
    let i = first_within n t.root.slot (read none_of (slots ℕ t.depth) t.root) (omega (arith, gd.once t.root.slot)) in
    let deep = depth_limit 31 n t gd (omega arith) in
    record {
      root = based_root n t.root.slot t.depth s t.free st.base (omega (arith, i.1));
      depth = based_depth n t.root.slot t.depth s t.free st.base (omega arith);
      least = i.0;
      most = i.1;
    }

tree_entries : (n : ℕ) (s : List ℕ) (t : State ℕ) → n < 2 ^ 32 → StandsTree n s t → Good n t → entries_of s ≡ some (state_entries t)
unfolding entries_of
tree_entries n s t small st gd =
    let d = t.depth in
    let r = root_read n s t small st gd in
    rw (
      r.root,
      r.depth,
      ne_eqb t.root.slot 0 (omega (arith, r.least)),
      holds_build n t.root.slot d small s t.free st.base (suc d) t.root st.tree (λ x. omega (arith, gd.once x)),
    )

bare_entries : (n : ℕ) (s fs : List ℕ) → Based n 0 0 s fs → entries_of s ≡ some []
unfolding entries_of
bare_entries n s fs b = rw (based_root n 0 0 s fs b (omega arith))

pub entries_are : (n : ℕ) (s : List ℕ) (st : Store ℕ) → n < 2 ^ 32 → Stands n s st → GoodStore n st → entries_of s ≡ some (store_entries st)
entries_are n s (bare fs) small h g = bare_entries n s fs h
entries_are n s (rooted t) small h g = tree_entries n s t small h g
