-- What holds of every node reached from the root, told on the bytes alone, without a tree; and what an audited store has there.
-- Assumes nothing.
use mathlib.Core.Path.{◌≡◌, refl, sym, ap, subst, ◌∙◌}
use mathlib.Core.Logic.{◌⊎◌, inl, inr}
use mathlib.Core.List.{List, [], ◌∷◌}
use mathlib.Core.Bool.{true}
use mathlib.Core.Option.{Option, none, some}
use Prim.Native.Nat.{ℕ, zero, suc, ◌+◌, ◌^◌, ◌≤◌, ◌<◌}
use lib.ListN.{length}
use lib.Dec.{leb}
use native.Mathlib.Omega.{arith}
use borrow.Author.Tests.{le-leb, leb-true, leb-false, ne_eqb}
use Rattle.tree.specs.Map.{Sep}
use Rattle.tree.specs.Tree.{Node, Kid, Tree, read_rest, read, none_of, slots}
use Rattle.tree.specs.Free.{occurs, in_store, first_free}
use Rattle.tree.specs.State.{AllRight, Fits, Shaped, root_least, Store, bare, rooted, GoodStore}
use Rattle.tree.proofs.Cases.{by_bool}
use Rattle.tree.proofs.Slots.{occurs_append}
use Rattle.tree.proofs.RemoveShape.{root_least_le}
use Rattle.node.specs.Chain.{Step, Writable}
use Rattle.codec.specs.Codec.{encode, Standard}
use Rattle.codec.proofs.Theorems.{standard_length, standard_most}
use Rattle.slots.specs.Limits.{least_node, most_node}
use Rattle.slots.specs.Layout.{used, idle, slot_at, root_of, depth_of, count_of}
use Rattle.slots.specs.Mirror.{is_slot, node_bytes, read_node}
use Rattle.slots.specs.Stands.{label, map_right, map_node, InSlot, Holds, Links, Based, Stands, Audited}
use Rattle.slots.specs.Reached.{reached_from, reached}
use Rattle.slots.proofs.StoreLaws.{based_slot, read_bytes}
use Rattle.slots.proofs.Framing.{Within, first_within, first_free_within_lem, Each, each_none, each_cons, each_node, length_map_right, read_tree}
use Rattle.slots.proofs.Building.{root_read}
use Rattle.slots.proofs.AuditedLaws.{store_root, store_depth, store_used, store_free, stands_based, good_once, good_bare, audited_count, audited_root, audited_depth}

-- ---- reached nodes

-- Q of the children of a node that could be read
abbrev pub EveryBelow : (ℕ → Type 0) → Option (Node ℕ ℕ) → Type 0
EveryBelow Q none = Unit {0}
EveryBelow Q (some m) = Q m.first × AllRight Q m.rest

module _ (P : ℕ → ℕ → Type 0) where
  -- P of the depth and the slot of every node reached
  abbrev pub EveryFrom : ℕ → List ℕ → ℕ → Type 0
  EveryFrom zero s x = Unit {0}
  EveryFrom (suc d) s x = P d x × EveryBelow (EveryFrom d s) (read_node s x)

  abbrev pub Every : List ℕ → Type 0
  Every s = (root_of s ≡ 0 → ⊥) → EveryFrom (suc (depth_of s)) s (root_of s)

right_map : {C : Type 0} (A B : C → Type 0) → ((c : C) → A c → B c) → (r : List (Sep ℕ × C)) → AllRight A r → AllRight B r
right_map A B g [] h = tt
right_map A B g (x ∷ r) h = (g x.1 h.0, right_map A B g r h.1)

module _ (P Q : ℕ → ℕ → Type 0) (f : (d x : ℕ) → P d x → Q d x) where
  every_from_map : (d : ℕ) (s : List ℕ) (x : ℕ) → EveryFrom P d s x → EveryFrom Q d s x
  every_from_map zero s x h = tt
  every_from_map (suc d) s x h = (f d x h.0, go (read_node s x) h.1 (every_from_map d s))
    where
      go : (o : Option (Node ℕ ℕ)) → EveryBelow (EveryFrom P d s) o → ((c : ℕ) → EveryFrom P d s c → EveryFrom Q d s c) → EveryBelow (EveryFrom Q d s) o
      go none h g = tt
      go (some m) h g = (g m.first h.0, right_map (EveryFrom P d s) (EveryFrom Q d s) g m.rest h.1)

  pub every_map : (s : List ℕ) → Every P s → Every Q s
  every_map s h ne = every_from_map (suc (depth_of s)) s (root_of s) (h ne)

-- ---- a slot's layout

-- "A used slot: u32 node length (8 to 2,480), the node, zeros."
pub record UsedSlot (s : List ℕ) (x : ℕ) : Type 0 where
  pub first : ℕ
  pub rest : List Step
  pub fine : Writable first rest
  pub least : least_node ≤ length (encode first rest)
  pub most : length (encode first rest) ≤ most_node
  pub bytes : slot_at s x ≡ used first rest

-- "A free slot: u32 0, u32 next free slot (0 last), zeros."
pub record FreeSlot (s : List ℕ) (x : ℕ) : Type 0 where
  pub next : ℕ
  pub within : next ≤ count_of s
  pub bytes : slot_at s x ≡ idle next

used_slot : (s : List ℕ) (m : Node ℕ ℕ) → InSlot s m → UsedSlot s m.slot
used_slot s m h = record {
  first = m.first;
  rest = m.rest;
  fine = h.fine;
  least = omega (arith, standard_length m.first m.rest);
  most = standard_most m.first m.rest h.fine;
  bytes = h.bytes;
}

module _ (s : List ℕ) where
  holds_used : (d : ℕ) (t : Kid ℕ d) → Holds s d t → Each (UsedSlot s) (slots ℕ d t)
  holds_used zero t h = each_none (UsedSlot s)
  holds_used (suc d) t h = each_node (UsedSlot s) (slots ℕ d) (Holds s d) (holds_used d) t (used_slot s (map_node (label d) t) h.0) h.1 h.2

  links_free : (fs : List ℕ) → Within (count_of s) fs → Links s fs → Each (FreeSlot s) fs
  links_free [] a h = each_none (FreeSlot s)
  links_free (x ∷ fs) a h =
      let later : Within (count_of s) fs = λ y. omega (arith, a y) in
      each_cons (FreeSlot s) x fs (record { next = first_free fs; within = first_free_within_lem (count_of s) fs later; bytes = h.0 }) (links_free fs later h.1)

  store_used_lem : (n : ℕ) (st : Store ℕ) → Stands n s st → Each (UsedSlot s) (store_used st)
  store_used_lem n (bare fs) h = each_none (UsedSlot s)
  store_used_lem n (rooted t) h = holds_used (suc t.depth) t.root h.tree

-- ---- what an audited store has there

-- the children of a node at depth d of a store of n slots: "a node at depth 0 has only zero children", above it they are slots
abbrev pub ChildAt : ℕ → ℕ → ℕ → Type 0
ChildAt n zero c = c ≡ 0
ChildAt n (suc d) c = (1 ≤ c) × (c ≤ n)

-- at depth d in slot x a node can be read; it fills the slot as the writer leaves it, its children are 0 or slots as its depth
-- wants, and it has as many separators as it must
pub record NodeAt (s : List ℕ) (d x : ℕ) : Type 0 where
  pub node : Node ℕ ℕ
  pub is_slot : is_slot s x ≡ true
  pub is_read : read_node s x ≡ some node
  pub here : node.slot ≡ x
  pub stands : InSlot s node
  pub first : ChildAt (count_of s) d node.first
  pub rest : AllRight (ChildAt (count_of s) d) node.rest
  pub inner : (x ≡ root_of s → ⊥) → 4 ≤ length node.rest
  pub least : root_least d ≤ length node.rest
  pub most : length node.rest ≤ 8

module _ (n root depth : ℕ) (small : n < 2 ^ 32) (s fs : List ℕ) (b : Based n root depth s fs) where
  rest_reached : (d : ℕ) → ((t : Kid ℕ d) → Holds s d t → Within n (slots ℕ d t) → reached_from d s (label d t) ≡ slots ℕ d t)
      → (r : List (Sep ℕ × Kid ℕ d)) → AllRight (Holds s d) r → Within n (read_rest none_of (slots ℕ d) r) → read_rest none_of (reached_from d s) (map_right (label d) r) ≡ read_rest none_of (slots ℕ d) r
  rest_reached d ih [] h a = refl
  rest_reached d ih (y ∷ r) h a =
      rw (ih y.1 h.0 (λ x. omega (arith, simp occurs_append at (a x))), rest_reached d ih r h.1 (λ x. omega (arith, simp occurs_append at (a x))))

  reached_tree : (d : ℕ) (t : Kid ℕ d) → Holds s d t → Within n (slots ℕ d t) → reached_from d s (label d t) ≡ slots ℕ d t
  reached_tree zero t h a = refl
  reached_tree (suc d) t h a = rw (
    read_tree n root depth small s fs d t b h a,
    reached_tree d t.first h.1 (λ x. omega (arith, simp occurs_append at (a x))),
    rest_reached d (reached_tree d) t.rest h.2 (λ x. omega (arith, simp occurs_append at (a x))),
  )

  child_at_lem : (d : ℕ) (t : Kid ℕ d) → Within n (slots ℕ d t) → ChildAt n d (label d t)
  child_at_lem zero t a = refl
  child_at_lem (suc d) t a = first_within n t.slot (read none_of (slots ℕ d) t) (a t.slot)

  children_at : (d : ℕ) (r : List (Sep ℕ × Kid ℕ d)) → Within n (read_rest none_of (slots ℕ d) r) → AllRight (ChildAt n d) (map_right (label d) r)
  children_at d [] a = tt
  children_at d (y ∷ r) a = (child_at_lem d y.1 (λ x. omega (arith, simp occurs_append at (a x))), children_at d r (λ x. omega (arith, simp occurs_append at (a x))))

  module _ (is : count_of s ≡ n) where
    node_at : (lo d : ℕ) (t : Tree ℕ d) → Holds s (suc d) t → Within n (slots ℕ (suc d) t) → Fits (Shaped ℕ d) lo t → root_least d ≤ lo → ((t.slot ≡ root_of s → ⊥) → 4 ≤ lo) → NodeAt s d t.slot
    node_at lo d t h a f g four =
        let l = length_map_right (label d) t.rest in
        let least = f.least in
        let most = f.most in
        let i = first_within n t.slot (read none_of (slots ℕ d) t) (a t.slot) in
        record {
          node = map_node (label d) t;
          is_slot = based_slot n root depth s fs b small t.slot i.0 i.1;
          is_read = read_tree n root depth small s fs d t b h a;
          here = refl;
          stands = h.0;
          first = rw is (child_at_lem d t.first (λ x. omega (arith, simp occurs_append at (a x))));
          rest = rw is (children_at d t.rest (λ x. omega (arith, simp occurs_append at (a x))));
          inner = λ ne. omega (arith, four ne);
          least = omega arith;
          most = omega arith;
        }

    rest_every : (d : ℕ) → ((t : Kid ℕ d) → Holds s d t → Within n (slots ℕ d t) → Shaped ℕ d t → EveryFrom (NodeAt s) d s (label d t))
        → (r : List (Sep ℕ × Kid ℕ d)) → AllRight (Holds s d) r → Within n (read_rest none_of (slots ℕ d) r) → AllRight (Shaped ℕ d) r → AllRight (EveryFrom (NodeAt s) d s) (map_right (label d) r)
    rest_every d ih [] h a f = tt
    rest_every d ih (y ∷ r) h a f = (
      ih y.1 h.0 (λ x. omega (arith, simp occurs_append at (a x))) f.0,
      rest_every d ih r h.1 (λ x. omega (arith, simp occurs_append at (a x))) f.1,
    )

    below_every : (lo d : ℕ) → ((t : Kid ℕ d) → Holds s d t → Within n (slots ℕ d t) → Shaped ℕ d t → EveryFrom (NodeAt s) d s (label d t))
        → (t : Tree ℕ d) → Holds s (suc d) t → Within n (slots ℕ (suc d) t) → Fits (Shaped ℕ d) lo t → EveryBelow (EveryFrom (NodeAt s) d s) (read_node s t.slot)
    below_every lo d ih t h a f = rw (read_tree n root depth small s fs d t b h a) (
      ih t.first h.1 (λ x. omega (arith, simp occurs_append at (a x))) f.kid,
      rest_every d ih t.rest h.2 (λ x. omega (arith, simp occurs_append at (a x))) f.kids,
    )

    every_node : (d : ℕ) (t : Kid ℕ d) → Holds s d t → Within n (slots ℕ d t) → Shaped ℕ d t → EveryFrom (NodeAt s) d s (label d t)
    every_node zero t h a f = tt
    every_node (suc d) t h a f = (node_at 4 d t h a f (omega (arith, root_least_le d)) (λ ne. omega arith), below_every 4 d (every_node d) t h a f)

module _ (s : List ℕ) where
  store_reached : (n : ℕ) (st : Store ℕ) → n < 2 ^ 32 → Stands n s st → GoodStore n st → root_of s ≡ store_root st → depth_of s ≡ store_depth st → reached s ≡ store_used st
  unfolding reached
  store_reached n (bare fs) small h g r d = rw r
  store_reached n (rooted t) small h g r d =
      let i = root_read n s t small h g in
      rw (r, d, ne_eqb t.root.slot 0 (omega (arith, i.least)))
      (reached_tree n t.root.slot t.depth small s t.free h.base (suc t.depth) t.root h.tree (λ x. omega (arith, g.once x)))

  store_every : (n : ℕ) (st : Store ℕ) → n < 2 ^ 32 → count_of s ≡ n → Stands n s st → GoodStore n st → root_of s ≡ store_root st → depth_of s ≡ store_depth st → Every (NodeAt s) s
  store_every n (bare fs) small is h g r d ne = absurd (ne r)
  store_every n (rooted t) small is h g r d ne =
      let a : Within n (slots ℕ (suc t.depth) t.root) = λ x. omega (arith, g.once x) in
      subst (λ (k : ℕ). EveryFrom (NodeAt s) (suc k) s (root_of s)) (sym d)
      (subst (EveryFrom (NodeAt s) (suc t.depth) s) (sym r) (
        node_at n t.root.slot t.depth small s t.free h.base is (root_least t.depth) t.depth t.root h.tree a g.shape (omega arith) (λ no. absurd (no (sym r))),
        below_every n t.root.slot t.depth small s t.free h.base is (root_least t.depth) t.depth
            (every_node n t.root.slot t.depth small s t.free h.base is t.depth) t.root h.tree a g.shape,
      ))

module _ (s : List ℕ) (h : Audited s) where
  pub audited_reached : reached s ≡ store_used h.store
  audited_reached = let m = h.most in store_reached s h.count h.store (omega arith) h.stands h.good (audited_root s h) (audited_depth s h)

  pub audited_every : Every (NodeAt s) s
  audited_every = let m = h.most in store_every s h.count h.store (omega arith) (audited_count s h) h.stands h.good (audited_root s h) (audited_depth s h)

  -- every slot of the store once, reached or free
  pub audited_once : (x : ℕ) → occurs x (reached s) + occurs x (store_free h.store) ≡ in_store (count_of s) x
  audited_once x = rw (audited_reached, audited_count s h) (good_once h.count h.store h.good x)

  pub audited_used : Each (UsedSlot s) (reached s)
  audited_used = rw audited_reached (store_used_lem s h.count h.store h.stands)

  pub audited_links : Links s (store_free h.store)
  audited_links = (stands_based h.count s h.store h.stands).links

  pub audited_free : Each (FreeSlot s) (store_free h.store)
  audited_free = links_free s (store_free h.store) (λ x. omega (arith, audited_once x)) audited_links

  pub audited_layout : (x : ℕ) → 1 ≤ x → x ≤ count_of s → UsedSlot s x ⊎ FreeSlot s x
  audited_layout x lo hi =
      let e = rw (le-leb 1 x lo, le-leb x (count_of s) hi) at (audited_once x) in
      by_bool (leb 1 (occurs x (reached s)))
      (λ q. inl (audited_used x (leb-true 1 (occurs x (reached s)) q)))
      (λ q. inr (audited_free x (omega (arith, leb-false 1 (occurs x (reached s)) q))))

  -- without a root
  pub bare_depth : root_of s ≡ 0 → depth_of s ≡ 0
  bare_depth e = audited_depth s h ∙ (good_bare h.count h.store h.good (sym (audited_root s h) ∙ e)).0

  pub bare_all : root_of s ≡ 0 → (x : ℕ) → 1 ≤ x → x ≤ count_of s → 1 ≤ occurs x (store_free h.store)
  bare_all e x lo hi =
      let w = rw (le-leb 1 x lo, le-leb x (count_of s) hi, audited_reached, (good_bare h.count h.store h.good (sym (audited_root s h) ∙ e)).1) at (audited_once x) in
      omega arith

-- ---- NodeAt in parts, one for a condition

abbrev pub StandardNode : List ℕ → ℕ → ℕ → Type 0
StandardNode s d x = Standard (node_bytes s x)

abbrev pub ChildrenFit : List ℕ → ℕ → ℕ → Type 0
ChildrenFit s d x = (m : Node ℕ ℕ) × (read_node s x ≡ some m) × ChildAt (count_of s) d m.first × AllRight (ChildAt (count_of s) d) m.rest

abbrev pub SeparatorsFit : List ℕ → ℕ → ℕ → Type 0
SeparatorsFit s d x = (m : Node ℕ ℕ) × (read_node s x ≡ some m) × ((x ≡ root_of s → ⊥) → 4 ≤ length m.rest) × (root_least d ≤ length m.rest) × (length m.rest ≤ 8)

pub node_standard : (s : List ℕ) (d x : ℕ) → NodeAt s d x → StandardNode s d x
node_standard s d x n = record {
  first = n.node.first;
  rest = n.node.rest;
  fine = n.stands.fine;
  bytes = ap (node_bytes s) (sym n.here) ∙ read_bytes s n.node (ap (is_slot s) n.here ∙ n.is_slot) n.stands;
}
