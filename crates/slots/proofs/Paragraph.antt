-- 01's audit paragraph as one record over the bytes alone, without a tree: a store is audited exactly if it holds of it. Assumes
-- nothing.
use mathlib.Core.Path.{◌≡◌, refl, sym, ap, subst, ◌∙◌}
use mathlib.Core.List.{List, [], ◌∷◌}
use mathlib.Core.Bool.{true}
use mathlib.Core.Option.{some}
use Prim.Native.Nat.{ℕ, zero, suc, ◌+◌, ◌≤◌}
use lib.ListN.{length}
use lib.Dec.{eqb}
use native.Mathlib.Omega.{arith}
use borrow.Author.Tests.{eqb-true, eqb-false, ne_eqb, eq-eqb}
use Rattle.word.specs.Num.{Bytes}
use Rattle.tree.specs.Map.{Sep, Rising}
use Rattle.tree.specs.Tree.{Node, Kid, Tree, read_rest, read, none_of, slots, entries}
use Rattle.tree.specs.Free.{bit, occurs, in_store, first_free}
use Rattle.tree.specs.State.{AllRight, Fits, Shaped, root_least, Store, bare, rooted, GoodStore}
use Rattle.tree.proofs.Cases.{by_bool}
use Rattle.tree.proofs.Slots.{occurs_append, in_store_le}
use Rattle.slots.specs.Limits.{most_depth}
use Rattle.slots.specs.Layout.{header, root_of, depth_of, count_of, first_of, is_store}
use Rattle.slots.specs.Stands.{label, map_right, map_node, InSlot, Holds, Links, Based, Stands, Audited}
use Rattle.slots.specs.Entries.{build, entries_of, entries_o}
use Rattle.slots.specs.Reached.{reached_from, reached}
use Rattle.slots.proofs.HeaderLaws.{Sized, sized_lem, header_is}
use Rattle.slots.proofs.Framing.{occurs_itself, length_map_right}
use Rattle.slots.proofs.Building.{holds_build}
use Rattle.slots.proofs.AuditedLaws.{store_free, audited_store, audited_shallow, audited_keys, audited_first}
use Rattle.slots.proofs.Reached.{EveryBelow, EveryFrom, Every, ChildAt, NodeAt, audited_every, audited_once, audited_links, bare_depth}

pub record Passes (s : List ℕ) : Type 0 where
  -- no refusal 1
  pub store : is_store s ≡ true
  -- "with no root, depth is 0"; "With a root, depth is at most 7"
  pub bare : root_of s ≡ 0 → depth_of s ≡ 0
  pub shallow : depth_of s ≤ most_depth
  -- "every reached node is in standard form", its slot's layout and its children and separators as they have to be
  pub nodes : Every (NodeAt s) s
  -- "keys strictly increase over the whole tree read in order"
  pub rising : (es : List (Sep ℕ)) → entries_of s ≡ some es → Rising es
  -- "the free chain holds exactly the slots not reached, each free and each once, and ends"; "no slot is reached twice", and no
  -- number names a slot beyond the count
  pub chain : List ℕ
  pub first : first_of s ≡ first_free chain
  pub links : Links s chain
  pub once : (x : ℕ) → occurs x (reached s) + occurs x chain ≡ in_store (count_of s) x

pub audited_passes : (s : List ℕ) → Audited s → Passes s
audited_passes s h = record {
  store = audited_store s h;
  bare = bare_depth s h;
  shallow = audited_shallow s h;
  nodes = audited_every s h;
  rising = audited_keys s h;
  chain = store_free h.store;
  first = audited_first s h;
  links = audited_links s h;
  once = audited_once s h;
}

-- ---- and back: a tree grows out of the nodes that are reached

-- no node below is the root once more
abbrev Rootless : List ℕ → List ℕ → Type 0
Rootless s us = occurs (root_of s) us ≡ 0

record Grown (s : List ℕ) (d x : ℕ) : Type 0 where
  tree : Kid ℕ d
  holds : Holds s d tree
  slot : label d tree ≡ x
  reaches : slots ℕ d tree ≡ reached_from d s x
  shaped : Rootless s (slots ℕ d tree) → Shaped ℕ d tree

record GrownRest (s : List ℕ) (d : ℕ) (r : List (Sep ℕ × ℕ)) : Type 0 where
  kids : List (Sep ℕ × Kid ℕ d)
  holds : AllRight (Holds s d) kids
  slot : map_right (label d) kids ≡ r
  reaches : read_rest none_of (slots ℕ d) kids ≡ read_rest none_of (reached_from d s) r
  shaped : Rootless s (read_rest none_of (slots ℕ d) kids) → AllRight (Shaped ℕ d) kids

record GrownNode (s : List ℕ) (d x : ℕ) : Type 0 where
  tree : Tree ℕ d
  holds : Holds s (suc d) tree
  slot : tree.slot ≡ x
  reaches : slots ℕ (suc d) tree ≡ reached_from (suc d) s x
  fits : (lo : ℕ) → lo ≤ length tree.rest → Rootless s (read none_of (slots ℕ d) tree) → Fits (Shaped ℕ d) lo tree
  inner : (x ≡ root_of s → ⊥) → 4 ≤ length tree.rest
  least : root_least d ≤ length tree.rest

module _ (s : List ℕ) where
  grow_rest : (d : ℕ) → ((x : ℕ) → ChildAt (count_of s) d x → EveryFrom (NodeAt s) d s x → Grown s d x)
      → (r : List (Sep ℕ × ℕ)) → AllRight (ChildAt (count_of s) d) r → AllRight (EveryFrom (NodeAt s) d s) r → GrownRest s d r
  grow_rest d ih [] c h = record { kids = []; holds = tt; slot = refl; reaches = refl; shaped = λ z. tt }
  grow_rest d ih (y ∷ r) c h =
      let g = ih y.1 c.0 h.0 in
      let k = grow_rest d ih r c.1 h.1 in
      record {
        kids = (y.0, g.tree) ∷ k.kids;
        holds = (g.holds, k.holds);
        slot = rw (g.slot, k.slot);
        reaches = rw (g.reaches, k.reaches);
        shaped = λ z. let w = occurs_append (root_of s) (slots ℕ d g.tree) (read_rest none_of (slots ℕ d) k.kids) in (g.shaped (omega arith), k.shaped (omega arith));
      }

  join_node : (d x : ℕ) (n : NodeAt s d x) → Grown s d n.node.first → GrownRest s d n.node.rest → GrownNode s d x
  join_node d x n g k =
      let m : Node ℕ ℕ = n.node in
      let t : Tree ℕ d = record { slot = x; first = g.tree; rest = k.kids } in
      let is : m ≡ map_node (label d) t = λ i. record { slot = n.here i; first = sym g.slot i; rest = sym k.slot i } in
      let l : length k.kids ≡ length m.rest = sym (length_map_right (label d) k.kids) ∙ ap (λ (r : List (Sep ℕ × ℕ)). length r) k.slot in
      record {
        tree = t;
        holds = (subst (InSlot s) is n.stands, g.holds, k.holds);
        slot = refl;
        reaches = rw (n.is_read, g.reaches, k.reaches);
        fits = λ lo le z.
            let w = occurs_append (root_of s) (slots ℕ d g.tree) (read_rest none_of (slots ℕ d) k.kids) in
            record { least = le; most = omega (arith, n.most); kid = g.shaped (omega arith); kids = k.shaped (omega arith) };
        inner = λ ne. omega (arith, n.inner ne);
        least = omega (arith, n.least);
      }

  grow_node : (d x : ℕ) → ((c : ℕ) → ChildAt (count_of s) d c → EveryFrom (NodeAt s) d s c → Grown s d c) → EveryFrom (NodeAt s) (suc d) s x → GrownNode s d x
  grow_node d x ih h =
      let n : NodeAt s d x = h.0 in
      let b : EveryBelow (EveryFrom (NodeAt s) d s) (some n.node) = subst (EveryBelow (EveryFrom (NodeAt s) d s)) n.is_read h.1 in
      join_node d x n (ih n.node.first n.first b.0) (grow_rest d ih n.node.rest n.rest b.1)

  grow_lem : (d x : ℕ) → ChildAt (count_of s) d x → EveryFrom (NodeAt s) d s x → Grown s d x
  grow_lem zero x c h = record { tree = tt; holds = tt; slot = sym c; reaches = refl; shaped = λ z. tt }
  grow_lem (suc d) x c h =
      let g = grow_node d x (grow_lem d) h in
      record {
        tree = g.tree;
        holds = g.holds;
        slot = g.slot;
        reaches = g.reaches;
        shaped = λ z. g.fits 4 (g.inner (λ e. other d g.tree z (g.slot ∙ e))) (omega (arith, z));
      }
    where
      other : (d : ℕ) (t : Tree ℕ d) → Rootless s (slots ℕ (suc d) t) → t.slot ≡ root_of s → ⊥
      other d t z e = let w = eq-eqb (root_of s) t.slot (sym e) in let v = rw w at z in omega arith

  -- the whole store
  module _ (bs : Bytes s) (h : Passes s) where
    z : Sized s
    z = sized_lem s h.store

    base_lem : Based (count_of s) (root_of s) (depth_of s) s h.chain
    base_lem = let l = z.size in record {
      size = z.size;
      head = header_is s bs (omega arith) z.zero ∙ ap (header (root_of s) (depth_of s) (count_of s)) h.first;
      links = h.links;
    }

    pass : (st : Store ℕ) → Stands (count_of s) s st → GoodStore (count_of s) st → Audited s
    pass st p g = record { count = count_of s; least = z.least; most = z.most; store = st; stands = p; good = g }

    pass_bare : root_of s ≡ 0 → Audited s
    unfolding reached
    pass_bare e =
        pass (bare h.chain) (subst (λ (d : ℕ). Based (count_of s) 0 d s h.chain) (h.bare e) (subst (λ (r : ℕ). Based (count_of s) r (depth_of s) s h.chain) e base_lem))
        (λ x. let w = rw e at (h.once x) in omega arith)

    pass_rooted : (root_of s ≡ 0 → ⊥) → Audited s
    unfolding reached entries_of
    pass_rooted ne =
        let d = depth_of s in
        let g = grow_node d (root_of s) (grow_lem d) (h.nodes ne) in
        let all : (x : ℕ) → occurs x (slots ℕ (suc d) g.tree) + occurs x h.chain ≡ in_store (count_of s) x = λ x. ap (λ (us : List ℕ). occurs x us + occurs x h.chain) g.reaches ∙ rw (ne_eqb (root_of s) 0 ne) at (h.once x) in
        let m = z.most in
        let built : build (suc d) s g.tree.slot ≡ some g.tree = holds_build (count_of s) (root_of s) d (omega arith) s h.chain base_lem (suc d) g.tree g.holds (λ x. omega (arith, all x)) in
        let is-root : bit (eqb (root_of s) g.tree.slot) ≡ 1 = ap (λ (r : ℕ). bit (eqb (root_of s) r)) g.slot ∙ occurs_itself (root_of s) in
        let alone : Rootless s (read none_of (slots ℕ d) g.tree) = omega (arith, all (root_of s), in_store_le (count_of s) (root_of s)) in
        pass (rooted (record { depth = d; root = g.tree; free = h.chain }))
        (record { base = subst (λ (r : ℕ). Based (count_of s) r d s h.chain) (sym g.slot) base_lem; tree = g.holds })
        (record {
          rising = h.rising (entries ℕ (suc d) g.tree) (rw (ne_eqb (root_of s) 0 ne) (ap (entries_o (suc d)) (ap (build (suc d) s) (sym g.slot) ∙ built)));
          shape = g.fits (root_least d) g.least alone;
          once = all;
        })

    pub passes_audited : Audited s
    passes_audited = by_bool (eqb (root_of s) 0) (λ e. pass_bare (eqb-true (root_of s) 0 e)) (λ e. pass_rooted (eqb-false (root_of s) 0 e))
