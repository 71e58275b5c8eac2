-- Framing: what a write elsewhere keeps, by counting how often a slot occurs. With it the laws of the store as laws of a based
-- store: a node written, a slot taken, a slot freed, the root set. Assumes nothing.
use mathlib.Core.Path.{◌≡◌, refl, ap, ◌∙◌}
use mathlib.Core.List.{List, [], ◌∷◌, ◌++◌}
use mathlib.Core.Option.{some}
use Prim.Native.Nat.{ℕ, zero, suc, ◌+◌, ◌^◌, ◌≤◌, ◌<◌}
use lib.ListN.{length}
use lib.Dec.{leb, eqb}
use native.Mathlib.Omega.{arith}
use borrow.Author.Tests.{leb-true, leb-false, eqb-true, eq-eqb}
use Rattle.tree.specs.Map.{Sep}
use Rattle.tree.specs.Tree.{Node, Kid, Tree, read_rest, read_left, read, none_of, slots}
use Rattle.tree.specs.Free.{bit, occurs, in_store, first_free}
use Rattle.tree.specs.State.{AllRight}
use Rattle.tree.proofs.Cases.{by_bool}
use Rattle.tree.proofs.Zipper.{AllLeft}
use Rattle.tree.proofs.Slots.{occurs_append, in_store_lem, in_store_le}
use Rattle.node.specs.Chain.{Writable}
use Rattle.slots.specs.Layout.{slot_at}
use Rattle.slots.specs.Mirror.{read_node, write_node, take_slot, free_slot, set_root}
use Rattle.slots.specs.Stands.{label, map_right, map_node, InSlot, Holds, Links, Based}
use Rattle.slots.proofs.StoreLaws.{based_slot, read_back, write_wrote, take_headed, free_wrote, root_headed}

-- ---- counting

pub occurs_itself : (x : ℕ) → bit (eqb x x) ≡ 1
occurs_itself x = rw (eq-eqb x x refl)

-- slots of a store of n, each at most once
abbrev pub Within : ℕ → List ℕ → Type 0
Within n us = (x : ℕ) → occurs x us ≤ in_store n x

-- the first of them is a slot of the store
pub first_within : (n x : ℕ) (us : List ℕ) → occurs x (x ∷ us) ≤ in_store n x → (1 ≤ x) × (x ≤ n)
first_within n x us h = in_store_lem n x (omega (arith, occurs_itself x))

pub first_free_within_lem : (n : ℕ) (fs : List ℕ) → Within n fs → first_free fs ≤ n
first_free_within_lem n [] h = omega arith
first_free_within_lem n (y ∷ fs) h = (first_within n y fs (h y)).1

pub apart : (x y : ℕ) → bit (eqb x y) ≡ 0 → x ≡ y → ⊥
apart x y h e = let k = rw (eq-eqb x y e) at h in omega arith

-- P of each number that stands in a list
abbrev pub Each : (ℕ → Type 0) → List ℕ → Type 0
Each P us = (x : ℕ) → 1 ≤ occurs x us → P x

module _ (P : ℕ → Type 0) where
  pub each_none : Each P []
  each_none x q = absurd (omega arith)

  pub each_cons : (y : ℕ) (us : List ℕ) → P y → Each P us → Each P (y ∷ us)
  each_cons y us e f x h = by_bool (eqb x y) (λ q. rw (eqb-true x y q) e) (λ q. f x (omega (arith, rw q at h)))

  pub each_append : (us vs : List ℕ) → Each P us → Each P vs → Each P (us ++ vs)
  each_append us vs f g x h =
      by_bool (leb 1 (occurs x us)) (λ q. f x (leb-true 1 (occurs x us) q)) (λ q. g x (omega (arith, leb-false 1 (occurs x us) q, occurs_append x us vs)))

-- P of each slot of a tree: of a node's own, and of those below it
module _ (P : ℕ → Type 0) {C : Type 0} (f : C → List ℕ) (Q : C → Type 0) (step : (c : C) → Q c → Each P (f c)) where
  pub each_rest : (r : List (Sep ℕ × C)) → AllRight Q r → Each P (read_rest none_of f r)
  each_rest [] h = each_none P
  each_rest (x ∷ r) h = each_append P (f x.1) (read_rest none_of f r) (step x.1 h.0) (each_rest r h.1)

  pub each_node : (n : Node ℕ C) → P n.slot → Q n.first → AllRight Q n.rest → Each P (n.slot ∷ read none_of f n)
  each_node n p h r = each_cons P n.slot (read none_of f n) p (each_append P (f n.first) (read_rest none_of f n.rest) (step n.first h) (each_rest n.rest r))

-- ---- the frame

-- t has the slots us as s has them
abbrev pub Kept : List ℕ → List ℕ → List ℕ → Type 0
Kept s t us = Each (λ (x : ℕ). slot_at t x ≡ slot_at s x) us

module _ (s t : List ℕ) where
  pub links_frame : (fs : List ℕ) → Kept s t fs → Links s fs → Links t fs
  links_frame [] k h = tt
  links_frame (x ∷ fs) k h = (k x (rw (occurs_itself x) (omega arith)) ∙ h.0, links_frame fs (λ y q. k y (omega arith)) h.1)

  module _ {C : Type 0} (f : C → List ℕ) (P Q : C → Type 0) (step : (c : C) → Kept s t (f c) → P c → Q c) where
    pub right_frame : (r : List (Sep ℕ × C)) → Kept s t (read_rest none_of f r) → AllRight P r → AllRight Q r
    right_frame [] k h = tt
    right_frame (x ∷ r) k h = (
      step x.1 (λ y q. k y (simp occurs_append (omega arith))) h.0,
      right_frame r (λ y q. k y (simp occurs_append (omega arith))) h.1,
    )

    pub left_frame : (l : List (C × Sep ℕ)) → Kept s t (read_left none_of f l) → AllLeft P l → AllLeft Q l
    left_frame [] k h = tt
    left_frame (x ∷ l) k h = (
      step x.0 (λ y q. k y (simp occurs_append (omega arith))) h.0,
      left_frame l (λ y q. k y (simp occurs_append (omega arith))) h.1,
    )

  -- writing outside a tree's slots keeps the tree
  pub holds_frame : (d : ℕ) (c : Kid ℕ d) → Kept s t (slots ℕ d c) → Holds s d c → Holds t d c
  holds_frame zero c k h = tt
  holds_frame (suc d) c k h = (
    record { fine = h.0.fine; bytes = k c.slot (rw (occurs_itself c.slot) (omega arith)) ∙ h.0.bytes },
    holds_frame d c.first (λ y q. k y (simp occurs_append (omega arith))) h.1,
    right_frame (slots ℕ d) (Holds s d) (Holds t d) (λ k. holds_frame d k) c.rest (λ y q. k y (simp occurs_append (omega arith))) h.2,
  )

-- ---- a node whose children are in their slots, and that can be written into its own

pub record Ready (s : List ℕ) (d : ℕ) (m : Tree ℕ d) : Type 0 where
  pub first : Holds s d m.first
  pub rest : AllRight (Holds s d) m.rest
  pub fine : Writable (label d m.first) (map_right (label d) m.rest)

pub ready_frame : (s t : List ℕ) (d : ℕ) (m : Tree ℕ d) → Kept s t (read none_of (slots ℕ d) m) → Ready s d m → Ready t d m
ready_frame s t d m k h = record {
  first = holds_frame s t d m.first (λ x q. k x (simp occurs_append (omega arith))) h.first;
  rest = right_frame s t (slots ℕ d) (Holds s d) (Holds t d) (λ c. holds_frame s t d c) m.rest (λ x q. k x (simp occurs_append (omega arith))) h.rest;
  fine = h.fine;
}

pub length_map_right : {A C D : Type 0} (f : C → D) (r : List (Sep A × C)) → length (map_right f r) ≡ length r
length_map_right f [] = refl
length_map_right f (x ∷ r) = ap suc (length_map_right f r)

-- ---- the store's laws for a based store

-- only slot x may differ
abbrev pub OnlyAt : List ℕ → List ℕ → ℕ → Type 0
OnlyAt s t x = (y : ℕ) → bit (eqb y x) ≡ 0 → slot_at t y ≡ slot_at s y

module _ (n root depth : ℕ) where
  -- a node was written
  pub record NodePut (s t fs : List ℕ) (m : Node ℕ ℕ) : Type 0 where
    pub base : Based n root depth t fs
    pub here : InSlot t m
    pub other : OnlyAt s t m.slot

  -- and with the tree below it
  pub record TreePut (s t fs : List ℕ) (d : ℕ) (m : Tree ℕ d) : Type 0 where
    pub base : Based n root depth t fs
    pub tree : Holds t (suc d) m
    pub other : OnlyAt s t m.slot

  -- the first free slot went out of the chain
  pub record SlotTaken (s : List ℕ) (x : ℕ) (fs : List ℕ) : Type 0 where
    pub slot : (take_slot s).slot ≡ x
    pub base : Based n root depth (take_slot s).store fs
    pub slots : (y : ℕ) → slot_at (take_slot s).store y ≡ slot_at s y
    pub least : 1 ≤ x

  -- a slot became the first of the chain
  pub record SlotFreed (s fs : List ℕ) (x : ℕ) : Type 0 where
    pub base : Based n root depth (free_slot s x) (x ∷ fs)
    pub other : OnlyAt s (free_slot s x) x

  -- the root and the depth are new, and nothing else
  pub record RootSet (s t fs : List ℕ) : Type 0 where
    pub base : Based n root depth t fs
    pub slots : (y : ℕ) → slot_at t y ≡ slot_at s y

module _ (n root depth : ℕ) (small : n < 2 ^ 32) (s : List ℕ) where
  -- the slot written is not one of the chain's
  pub put_node : (fs : List ℕ) (m : Node ℕ ℕ) → Based n root depth s fs → Writable m.first m.rest → Within n (m.slot ∷ fs)
      → NodePut n root depth s (write_node s m) fs m
  put_node fs m b f a =
      let i = first_within n m.slot fs (a m.slot) in
      let w = write_wrote s m (based_slot n root depth s fs b small m.slot i.0 i.1) f in
      let keep : OnlyAt s (write_node s m) m.slot = λ x z. w.other x (apart x m.slot z) in
      record {
        base = record {
          size = w.size ∙ b.size;
          head = w.head ∙ b.head;
          links = links_frame s (write_node s m) fs (λ x k. keep x (omega (arith, a x, in_store_le n x))) b.links;
        };
        here = record { fine = f; bytes = w.here };
        other = keep;
      }

  pub put_tree : (fs : List ℕ) (d : ℕ) (m : Tree ℕ d) → Based n root depth s fs → Ready s d m → ((x : ℕ) → occurs x (slots ℕ (suc d) m) + occurs x fs ≤ in_store n x)
      → TreePut n root depth s (write_node s (map_node (label d) m)) fs d m
  put_tree fs d m b k a =
      let t : List ℕ = write_node s (map_node (label d) m) in
      let w = put_node fs (map_node (label d) m) b k.fine (λ x. omega (arith, a x)) in
      let r = ready_frame s t d m (λ x q. w.other x (omega (arith, a x, in_store_le n x))) k in
      record { base = w.base; tree = (w.here, r.first, r.rest); other = w.other }

  pub take_slot_lem : (x : ℕ) (fs : List ℕ) → Based n root depth s (x ∷ fs) → Within n (x ∷ fs) → SlotTaken n root depth s x fs
  take_slot_lem x fs b a =
      let i = first_within n x fs (a x) in
      let w = take_headed n root depth s x fs b small i.0 i.1 (first_free_within_lem n fs (λ y. omega (arith, a y))) in
      record {
        slot = w.0;
        base = record { size = w.1.size ∙ b.size; head = w.1.head; links = links_frame s (take_slot s).store fs (λ y k. w.1.slots y) b.links.1 };
        slots = w.1.slots;
        least = i.0;
      }

  pub free_slot_lem : (fs : List ℕ) (x : ℕ) → Based n root depth s fs → Within n (x ∷ fs) → SlotFreed n root depth s fs x
  free_slot_lem fs x b a =
      let i = first_within n x fs (a x) in
      let w = free_wrote n root depth s fs b small x i.0 i.1 (first_free_within_lem n fs (λ y. omega (arith, a y))) in
      let keep : OnlyAt s (free_slot s x) x = λ y z. w.other y (apart y x z) in
      record {
        base = record {
          size = w.size ∙ b.size;
          head = w.head;
          links = (w.here, links_frame s (free_slot s x) fs (λ y q. keep y (omega (arith, a y, in_store_le n y))) b.links);
        };
        other = keep;
      }

  pub set_root_lem : (fs : List ℕ) (x d : ℕ) → Based n root depth s fs → RootSet n x d s (set_root s x d) fs
  set_root_lem fs x d b =
      let w = root_headed n root depth s fs b x d in
      record { base = record { size = w.size ∙ b.size; head = w.head; links = links_frame s (set_root s x d) fs (λ y q. w.slots y) b.links }; slots = w.slots }

  -- a node of a tree that the store holds is read from its slot
  pub read_tree : (fs : List ℕ) (d : ℕ) (m : Tree ℕ d) → Based n root depth s fs → Holds s (suc d) m → Within n (slots ℕ (suc d) m)
      → read_node s m.slot ≡ some (map_node (label d) m)
  read_tree fs d m b h a =
      let i = first_within n m.slot (read none_of (slots ℕ d) m) (a m.slot) in
      read_back s (map_node (label d) m) (based_slot n root depth s fs b small m.slot i.0 i.1) h.0
