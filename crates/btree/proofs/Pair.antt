-- Two children side by side, written anew, or as one with the right one's slot freed, and then their node: the store holds what
-- that makes, in the same slots but the freed one. Assumes nothing.
use mathlib.Core.Path.{◌≡◌, sym, ◌∙◌}
use mathlib.Core.List.{List, [], ◌∷◌}
use Prim.Native.Nat.{ℕ, zero, suc, ◌+◌, ◌^◌, ◌≤◌, ◌<◌}
use lib.ListN.{length}
use lib.Dec.{ltb, eqb}
use native.Mathlib.Omega.{arith}
use borrow.Author.Tests.{ltb-true, ltb-false}
use Rattle.tree.specs.Map.{Sep}
use Rattle.tree.specs.Tree.{Kid, Tree, read_rest, read_left, read, none_of, slots, plug}
use Rattle.tree.specs.Free.{bit, occurs, stack, give_all}
use Rattle.tree.specs.Remove.{Removed}
use Rattle.tree.specs.State.{AllRight}
use Rattle.tree.proofs.Cases.{by_bool}
use Rattle.tree.proofs.Zipper.{AllLeft, AllZip, plug_all, plug_slot, plug_length}
use Rattle.tree.proofs.Slots.{in_store_le, give_all_occurs}
use Rattle.tree.proofs.RemoveSlots.{occurs_zip, plug_occurs}
use Rattle.node.specs.Chain.{Fit}
use Rattle.slots.specs.Layout.{slot_at}
use Rattle.slots.specs.Mirror.{write_node, free_slot}
use Rattle.slots.specs.Stands.{label, map_node, map_right, Holds, Based}
use Rattle.slots.proofs.Framing.{left_frame, right_frame, holds_frame, Ready, ready_frame, length_map_right, put_tree, free_slot_lem}
use Rattle.outcome.specs.RemoveMirror.{Fell, bad, fine, low, Lost, flag, close_m}
use Rattle.btree.proofs.Natural.{map_left, plug_map, FitZip, plug_fit_map}
use Rattle.btree.proofs.RemoveWalk.{right_occurs}
use Rattle.btree.proofs.AtChild.{Apart, AtChild, node_apart, node_count, node_fits}

-- ---- a step of a removal

-- what the flag says of the tree that is left; an untouched root may hold fewer than 4 and is fine
abbrev pub Tells : ℕ → (d : ℕ) → Kid ℕ d → Fell → Type 0
Tells lo d t bad = ⊥
Tells lo zero t fine = Unit {0}
Tells lo zero t low = ⊥
Tells lo (suc d) t fine = lo ≤ length t.rest
Tells lo (suc d) t low = length t.rest < 4

tells_flag : (lo d : ℕ) (t : Tree ℕ d) → lo ≤ 4 → Tells lo (suc d) t (flag (ltb (length t.rest) 4))
tells_flag lo d t h =
    by_bool (ltb (length t.rest) 4) (λ e. rw e (ltb-true (length t.rest) 4 e)) (λ e. rw e (omega (arith, ltb-false (length t.rest) 4 e)))

module _ (n root depth : ℕ) where
  -- what a step makes of the tree t in the store s with the free slots fs: o, told by the answer g. If that says fine, at least
  -- lo separators are left. "A freed slot becomes the first"; all slots but ws keep their bytes.
  pub record Less (ws : List ℕ) (lo d : ℕ) (s : List ℕ) (t : Kid ℕ d) (fs : List ℕ) (o : Removed (Kid ℕ d)) (g : Lost) : Type 0 where
    pub tells : Tells lo d o.tree g.out
    pub base : Based n root depth g.store (give_all stack o.freed fs)
    pub tree : Holds g.store d o.tree
    pub same : label d o.tree ≡ label d t
    pub count : (v : ℕ) → occurs v (slots ℕ d o.tree) + occurs v o.freed ≡ occurs v (slots ℕ d t)
    pub frame : (v : ℕ) → occurs v ws ≡ 0 → slot_at g.store v ≡ slot_at s v

  -- told of more slots
  pub wider : (ws zs : List ℕ) (lo d : ℕ) (s : List ℕ) (t : Kid ℕ d) (fs : List ℕ) (o : Removed (Kid ℕ d)) (g : Lost) → ((v : ℕ) → occurs v ws ≤ occurs v zs)
      → Less ws lo d s t fs o g → Less zs lo d s t fs o g
  wider ws zs lo d s t fs o g h q = record { tells = q.tells; base = q.base; tree = q.tree; same = q.same; count = q.count; frame = λ v e. q.frame v (omega (arith, h v)) }

-- ---- a node is put together and written

pub plug_ready : (s : List ℕ) (d x : ℕ) (l : List (Kid ℕ d × Sep ℕ)) (c : Kid ℕ d) (r : List (Sep ℕ × Kid ℕ d))
    → AllZip (Holds s d) l c r → FitZip (map_left (label d) l) (label d c) (map_right (label d) r) → length l + length r ≤ 8 → Ready s d (plug x l c r)
plug_ready s d x l c r k f len =
    let h = plug_all (Holds s d) x l c r k.lefts k.here k.rights in
    let g = plug_fit_map (label d) x l c r f in
    record {
      first = h.0;
      rest = h.1;
      fine = record { first = g.0; rest = g.1; most = omega (arith, length_map_right (label d) (plug x l c r).rest, plug_length x l c r) };
    }

module _ (n root depth : ℕ) (small : n < 2 ^ 32) where
  -- of the tree t in the store s the children that are left stand in u, with bk freed; their node is written last
  pub closed_lem : (ws : List ℕ) (lo d : ℕ) (s : List ℕ) (t : Tree ℕ d) (fs u bk : List ℕ) (x : ℕ) (l : List (Kid ℕ d × Sep ℕ)) (c : Kid ℕ d) (r : List (Sep ℕ × Kid ℕ d)) → lo ≤ 4
      → t.slot ≡ x → Apart n (suc d) t fs
      → Based n root depth u (give_all stack bk fs) → AllZip (Holds u d) l c r → FitZip (map_left (label d) l) (label d c) (map_right (label d) r) → length l + length r ≤ 8
      → ((v : ℕ) → occurs_zip v (slots ℕ d) x l c r + occurs v bk ≡ occurs v (slots ℕ (suc d) t))
      → ((v : ℕ) → bit (eqb v x) ≤ occurs v ws) → ((v : ℕ) → occurs v ws ≡ 0 → slot_at u v ≡ slot_at s v)
      → Less n root depth ws lo (suc d) s t fs (record { tree = plug x l c r; freed = bk }) (close_m u (plug x (map_left (label d) l) (label d c) (map_right (label d) r)))
  closed_lem ws lo d s t fs u bk x l c r h4 e once b k f len count own frame =
      let p : Tree ℕ d = plug x l c r in
      let here = plug_slot x l c r in
      let all : (v : ℕ) → occurs v (slots ℕ (suc d) p) + occurs v bk ≡ occurs v (slots ℕ (suc d) t) = λ v. omega (arith, count v, plug_occurs v (slots ℕ d) x l c r) in
      let w = put_tree n root depth small u (give_all stack bk fs) d p b (plug_ready u d x l c r k f len) (λ v. omega (arith, once v, all v, give_all_occurs stack v bk fs)) in
      rw (← plug_map (label d) x l c r) (record {
        tells = rw (length_map_right (label d) p.rest) (tells_flag lo d p h4);
        base = w.base;
        tree = w.tree;
        same = here ∙ sym e;
        count = all;
        frame = λ v q. w.other v (rw here (omega (arith, own v))) ∙ frame v q;
      })

  -- ---- the neighbours a and b below the node with slot x

  module _ (lo d : ℕ) (h4 : lo ≤ 4) (s fs : List ℕ) (x : ℕ) (l : List (Tree ℕ d × Sep ℕ)) (a : Tree ℕ d) (y : Sep ℕ) (b : Tree ℕ d) (r : List (Sep ℕ × Tree ℕ d))
      (z : AtChild n root depth (suc d) s fs x l a ((y, b) ∷ r)) where
    abbrev Written : Removed (Tree ℕ (suc d)) → Lost → Type 0
    Written o g = Less n root depth (x ∷ a.slot ∷ b.slot ∷ []) lo (suc (suc d)) s (plug x l a ((y, b) ∷ r)) fs o g

    -- how often a slot is used by the node, by each of the two with what is below it, and beside them
    parts : (v : ℕ) → occurs v (slots ℕ (suc (suc d)) (plug x l a ((y, b) ∷ r)))
        ≡ bit (eqb v x) + (occurs v (read_left none_of (slots ℕ (suc d)) l) + (occurs v (slots ℕ (suc d) a) + (occurs v (slots ℕ (suc d) b) + occurs v (read_rest none_of (slots ℕ (suc d)) r))))
    parts v = omega (arith, plug_occurs v (slots ℕ (suc d)) x l a ((y, b) ∷ r), right_occurs (slots ℕ (suc d)) v y b r)

    once : Apart n (suc (suc d)) (plug x l a ((y, b) ∷ r)) fs
    once = node_apart n root depth small (suc d) s fs x l a ((y, b) ∷ r) z

    -- what stands beside them is kept where only their two slots are written
    beside : (t : List ℕ) → ((v : ℕ) → bit (eqb v a.slot) ≡ 0 → bit (eqb v b.slot) ≡ 0 → slot_at t v ≡ slot_at s v)
        → AllLeft (Holds t (suc d)) l × AllRight (Holds t (suc d)) r
    beside t keep = (
      left_frame s t (slots ℕ (suc d)) (Holds s (suc d)) (Holds t (suc d)) (λ c. holds_frame s t (suc d) c) l
          (λ v q. keep v (omega (arith, once v, parts v, in_store_le n v)) (omega (arith, once v, parts v, in_store_le n v))) z.kids.lefts,
      right_frame s t (slots ℕ (suc d)) (Holds s (suc d)) (Holds t (suc d)) (λ c. holds_frame s t (suc d) c) r
          (λ v q. keep v (omega (arith, once v, parts v, in_store_le n v)) (omega (arith, once v, parts v, in_store_le n v))) z.kids.rights.1,
    )

    -- both written anew, then the node
    pub rewritten : (a2 b2 : Tree ℕ d) (w : Sep ℕ) → a2.slot ≡ a.slot → b2.slot ≡ b.slot → Fit w → Ready s d a2 → Ready s d b2
        → ((v : ℕ) → occurs v (read none_of (slots ℕ d) a2) + occurs v (read none_of (slots ℕ d) b2) ≡ occurs v (read none_of (slots ℕ d) a) + occurs v (read none_of (slots ℕ d) b))
        → Written (record { tree = plug x l a2 ((w, b2) ∷ r); freed = [] })
        (close_m (write_node (write_node s (map_node (label d) a2)) (map_node (label d) b2)) (plug x (map_left (label (suc d)) l) a2.slot ((w, b2.slot) ∷ map_right (label (suc d)) r)))
    rewritten a2 b2 w ea eb fw ra rb count =
        let s1 : List ℕ = write_node s (map_node (label d) a2) in
        let s2 : List ℕ = write_node s1 (map_node (label d) b2) in
        let f = node_fits n root depth small (suc d) s fs x l a ((y, b) ∷ r) z in
        let all : (v : ℕ) → bit (eqb v x) + (occurs v (read_left none_of (slots ℕ (suc d)) l) + (occurs v (slots ℕ (suc d) a2) + (occurs v (slots ℕ (suc d) b2) + occurs v (read_rest none_of (slots ℕ (suc d)) r))))
        ≡ occurs v (slots ℕ (suc (suc d)) (plug x l a ((y, b) ∷ r))) = λ v. rw (ea, eb) (omega (arith, parts v, count v)) in
        let w1 = put_tree n root depth small s fs d a2 z.base ra (λ v. omega (arith, once v, all v)) in
        let w2 = put_tree n root depth small s1 fs d b2 w1.base (ready_frame s s1 d b2 (λ v q. w1.other v (omega (arith, once v, all v, in_store_le n v))) rb) (λ v. omega (arith, once v, all v)) in
        let keep : (v : ℕ) → bit (eqb v a.slot) ≡ 0 → bit (eqb v b.slot) ≡ 0 → slot_at s2 v ≡ slot_at s v = λ v p q. w2.other v (rw eb q) ∙ w1.other v (rw ea p) in
        let o = beside s2 keep in
        closed_lem (x ∷ a.slot ∷ b.slot ∷ []) lo (suc d) s (plug x l a ((y, b) ∷ r)) fs s2 [] x l a2 ((w, b2) ∷ r) h4 (plug_slot x l a ((y, b) ∷ r)) once w2.base
        (record { lefts = o.0; here = holds_frame s1 s2 (suc d) a2 (λ v q. w2.other v (omega (arith, once v, all v, in_store_le n v))) w1.tree; rights = (w2.tree, o.1) })
        (record { lefts = f.lefts; here = rw ea f.here; rights = (fw, rw eb f.rights.1, f.rights.2) })
        (node_count n root depth small (suc d) s fs x l a ((y, b) ∷ r) z)
        (λ v. omega (arith, all v, right_occurs (slots ℕ (suc d)) v w b2 r))
        (λ v. omega arith) (λ v q. keep v (omega arith) (omega arith))

    -- b's slot freed, then a with all that b had, then the node
    pub merged : (j : Tree ℕ d) → j.slot ≡ a.slot → Ready s d j
        → ((v : ℕ) → occurs v (read none_of (slots ℕ d) j) ≡ occurs v (read none_of (slots ℕ d) a) + occurs v (read none_of (slots ℕ d) b))
        → Written (record { tree = plug x l j r; freed = b.slot ∷ [] })
        (close_m (write_node (free_slot s b.slot) (map_node (label d) j)) (plug x (map_left (label (suc d)) l) j.slot (map_right (label (suc d)) r)))
    merged j ej rj count =
        let gs : List ℕ = b.slot ∷ fs in
        let s1 : List ℕ = free_slot s b.slot in
        let s2 : List ℕ = write_node s1 (map_node (label d) j) in
        let f = node_fits n root depth small (suc d) s fs x l a ((y, b) ∷ r) z in
        let all : (v : ℕ) → bit (eqb v x) + (occurs v (read_left none_of (slots ℕ (suc d)) l) + (occurs v (slots ℕ (suc d) j) + occurs v (read_rest none_of (slots ℕ (suc d)) r))) + bit (eqb v b.slot)
        ≡ occurs v (slots ℕ (suc (suc d)) (plug x l a ((y, b) ∷ r))) = λ v. rw ej (omega (arith, parts v, count v)) in
        let w1 = free_slot_lem n root depth small s fs b.slot z.base (λ v. omega (arith, once v, all v)) in
        let w2 = put_tree n root depth small s1 gs d j w1.base (ready_frame s s1 d j (λ v q. w1.other v (omega (arith, once v, all v, in_store_le n v))) rj) (λ v. omega (arith, once v, all v)) in
        let keep : (v : ℕ) → bit (eqb v a.slot) ≡ 0 → bit (eqb v b.slot) ≡ 0 → slot_at s2 v ≡ slot_at s v = λ v p q. w2.other v (rw ej p) ∙ w1.other v q in
        let o = beside s2 keep in
        closed_lem (x ∷ a.slot ∷ b.slot ∷ []) lo (suc d) s (plug x l a ((y, b) ∷ r)) fs s2 (b.slot ∷ []) x l j r h4 (plug_slot x l a ((y, b) ∷ r)) once w2.base
        (record { lefts = o.0; here = w2.tree; rights = o.1 })
        (record { lefts = f.lefts; here = rw ej f.here; rights = f.rights.2 })
        (omega (arith, node_count n root depth small (suc d) s fs x l a ((y, b) ∷ r) z))
        (λ v. omega (arith, all v))
        (λ v. omega arith) (λ v q. keep v (omega arith) (omega arith))
