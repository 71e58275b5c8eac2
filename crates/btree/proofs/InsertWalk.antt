-- A set in a tree: the bytes that `insert` leaves hold the tree that crate `tree`'s `set` gives, slot for slot, and every slot
-- that is neither on the walk nor newly taken keeps its bytes. Assumes nothing.
use mathlib.Core.Path.{◌≡◌, refl, sym, ap, subst, ◌∙◌}
use mathlib.Core.List.{List, [], ◌∷◌}
use mathlib.Core.Bool.{Bool, true, cond}
use mathlib.Core.Option.{some}
use Prim.Native.Nat.{ℕ, zero, suc, ◌+◌, ◌^◌, ◌≤◌, ◌<◌}
use lib.ListN.{length, length-drop}
use lib.Dec.{leb}
use native.Mathlib.Omega.{arith}
use borrow.Author.Tests.{le-leb}
use Rattle.word.specs.Key.{Key, cmp}
use Rattle.word.proofs.KeyOrder.{cmp_eq}
use Rattle.tree.specs.Map.{Sep}
use Rattle.tree.specs.Tree.{Kid, Tree, Zip, read_rest, none_of, slots, plug, at, below, same}
use Rattle.tree.specs.Free.{occurs}
use Rattle.tree.specs.Set.{Parts, one, two, Placed, split_over8, graft, set_below, set_here, set}
use Rattle.tree.specs.State.{Fits, Shaped}
use Rattle.tree.proofs.Cases.{by_bool, by_cond, is_eq}
use Rattle.tree.proofs.Zipper.{read_parts, plug_slot, plug_length, seek_length, seek_plug, at_all}
use Rattle.tree.proofs.Slots.{occurs_append}
use Rattle.tree.proofs.SetSlots.{Need, upward, need_here, need, set_took, set_occurs, graft_room}
use Rattle.tree.proofs.RemoveSlots.{plug_occurs}
use Rattle.node.specs.Chain.{Step, Fit}
use Rattle.slots.specs.Mirror.{write_node}
use Rattle.slots.specs.Stands.{label, map_right, Holds, Based}
use Rattle.slots.specs.Code.{read_node_at}
use Rattle.outcome.specs.Mirror.{plain, Ran, place_m, insert_on, insert_node_m, settled, settle_m, set_value_m, insert_here, on_node, insert_m}
use Rattle.btree.proofs.Natural.{map_left, map_zip, at_map, next_is}
use Rattle.outcome.proofs.ZipIndex.{inserted_plug, revalued_plug}
use Rattle.btree.proofs.AtChild.{Apart, read_at_lem, AtChild, at_child, child_apart, node_holds, node_count, node_fits, node_read, at_after}
use Rattle.btree.proofs.Place.{Done, left_part, plug_written, plug_placed}

-- ---- the slots on the walk to a key, down to the node that has it, or the leaf

abbrev pub walk : Key → (d : ℕ) → Kid ℕ d → List ℕ
walk k zero t = []
walk k (suc d) m = let z : Zip ℕ (Kid ℕ d) = at (below k) m in m.slot ∷ cond (next_is k z.rgt) [] (walk k d z.mid)

-- they are slots of the tree
pub walk_within : (v : ℕ) (k : Key) (d : ℕ) (t : Kid ℕ d) → occurs v (walk k d t) ≤ occurs v (slots ℕ d t)
walk_within v k zero t = omega arith
walk_within v k (suc d) m =
    let z : Zip ℕ (Kid ℕ d) = at (below k) m in
    let e = ap (λ (t : Tree ℕ d). occurs v (slots ℕ (suc d) t)) (seek_plug (below k) m.slot [] m.first m.rest) in
    let w = plug_occurs v (slots ℕ d) m.slot z.lft z.mid z.rgt in
    by_cond (λ (ws : List ℕ). occurs v (m.slot ∷ ws) ≤ occurs v (slots ℕ (suc d) m)) (next_is k z.rgt) (λ p. omega arith) (λ p. omega (arith, walk_within v k d z.mid))

-- ---- one node, at a child c with l left and r right of it

-- a change of a store that itself came of a change
chained : {n root depth d x y e : ℕ} {ws us s fs : List ℕ} {o : Placed ℕ (Kid ℕ d)} {g : Ran} {p : Placed ℕ (Kid ℕ e)} {h : Ran}
    → Done n root depth ws x d s fs o g → Done n root depth us y e g.store o.free p h → (zs : List ℕ) → ((v : ℕ) → occurs v ws + occurs v us ≤ occurs v zs) → Done n root depth zs y e s fs p h
chained a b zs both = record {
  out = b.out;
  base = b.base;
  holds = b.holds;
  fit = b.fit;
  same = b.same;
  fewer = λ v. omega (arith, a.fewer v, b.fewer v);
  frame = λ v z k. b.frame v (omega (arith, both v)) (omega (arith, a.fewer v)) ∙ a.frame v (omega (arith, both v)) (omega (arith, b.fewer v));
}

-- the node is read again, and the separator put in by its index
put_in : (d : ℕ) (t : List ℕ) (x : ℕ) (l : List (ℕ × Sep ℕ)) (c : ℕ) (r : List Step) (y : Sep ℕ) (b : ℕ) → read_node_at d t x ≡ some (plug x l c r)
    → insert_node_m d t x (length l) y b ≡ place_m t (plug x l c ((y, b) ∷ r))
unfolding insert_node_m
put_in d t x l c r y b e =
    ap (insert_on t (length l) y b) e ∙ rw (le-leb (length l) (length (plug x l c r).rest) (omega (arith, plug_length x l c r))) (ap (place_m t) (inserted_plug x l c r y b))

module _ (n root depth : ℕ) (small : n < 2 ^ 32) (d : ℕ) (s fs : List ℕ) (x : ℕ) (l : List (Kid ℕ d × Sep ℕ)) (c : Kid ℕ d) where
  -- the next separator is the key's: its value is replaced
  replaced : (e : Sep ℕ) (y : Sep ℕ × Kid ℕ d) (q : List (Sep ℕ × Kid ℕ d)) → AtChild n root depth d s fs x l c (y ∷ q) → Fit e → same e.key y.0 ≡ true
      → Done n root depth (x ∷ []) x (suc d) s fs (record { parts = one (plug x l c ((e, y.1) ∷ q)); free = fs }) (set_value_m (length (map_left (label d) l)) e.val x s (read_node_at d s x))
  replaced e y q z fe is =
      let f = label d in
      let key : y.0.key ≡ e.key = sym (cmp_eq e.key y.0.key (is_eq (cmp e.key y.0.key) is)) in
      let fz = node_fits n root depth small d s fs x l c (y ∷ q) z in
      let written : set_value_m (length (map_left f l)) e.val x s (read_node_at d s x) ≡ record { out = plain; store = write_node s (plug x (map_left f l) (f c) ((e, f y.1) ∷ map_right f q)) } =
      ap (set_value_m (length (map_left f l)) e.val x s) (node_read n root depth small d s fs x l c (y ∷ q) z)
      ∙ revalued_plug x (map_left f l) (f c) e.val x s (y.0, f y.1) (map_right f q)
      ∙ ap (λ (k : Key). record { out = plain; store = write_node s (plug x (map_left f l) (f c) ((record { key = k; val = e.val }, f y.1) ∷ map_right f q)) }) key in
      subst (Done n root depth (x ∷ []) x (suc d) s fs (record { parts = one (plug x l c ((e, y.1) ∷ q)); free = fs })) (sym written)
      (plug_written n root depth small d s fs z.base x l c ((e, y.1) ∷ q) (record { lefts = z.kids.lefts; here = z.kids.here; rights = z.kids.rights })
      (record { lefts = fz.lefts; here = fz.here; rights = (fe, fz.rights.1, fz.rights.2) }) z.once (node_count n root depth small d s fs x l c (y ∷ q) z))

  -- what came of the child is taken in; ws are slots of the child
  module _ (r : List (Sep ℕ × Kid ℕ d)) (z : AtChild n root depth d s fs x l c r) (ws : List ℕ) (inside : (v : ℕ) → occurs v ws ≤ occurs v (slots ℕ d c)) where
    -- the node, with the left part for the child
    after_lem : (o : Placed ℕ (Kid ℕ d)) (g : Ran) → Done n root depth ws (label d c) d s fs o g → Holds g.store d (left_part o.parts)
        → ((v : ℕ) → occurs v (slots ℕ d (left_part o.parts)) + occurs v o.free ≤ occurs v (slots ℕ d c) + occurs v fs) → AtChild n root depth d g.store o.free x l (left_part o.parts) r
    after_lem o g q h w =
        at_after n root depth small d s fs x l c r z g.store o.free (left_part o.parts) q.base h q.same
        (λ v k. q.frame v (omega (arith, inside v)) (omega arith)) w

    settle_lem : (o : Parts ℕ (Kid ℕ d)) (gs : List ℕ) (g : Ran) → Done n root depth ws (label d c) d s fs (record { parts = o; free = gs }) g
        → ((v : ℕ) → occurs v (read_parts none_of (slots ℕ d) o) + occurs v gs ≡ occurs v (slots ℕ d c) + occurs v fs)
        → (8 < length (graft x l r o).rest → 0 < length gs)
        → Done n root depth (x ∷ ws) x (suc d) s fs (split_over8 (graft x l r o) gs) (settle_m d x (length (map_left (label d) l)) g)
    settle_lem (one k) gs g q w room =
        let u = after_lem (record { parts = one k; free = gs }) g q q.holds (λ v. omega (arith, w v)) in
        let few = node_count n root depth small d g.store gs x l k r u in
        rw (le-leb (length (plug x l k r).rest) 8 (omega (arith, plug_length x l k r)), q.out) (record {
          out = refl;
          base = q.base;
          holds = node_holds n root depth small d g.store gs x l k r u;
          fit = tt;
          same = plug_slot x l k r;
          fewer = q.fewer;
          frame = λ v a b. q.frame v (omega arith) b;
        })
    settle_lem (two k y j) gs g q w room =
        let f = label d in
        let t : List ℕ = g.store in
        let count : (v : ℕ) → occurs v (slots ℕ d k) + occurs v (slots ℕ d j) + occurs v gs ≡ occurs v (slots ℕ d c) + occurs v fs = λ v. omega (arith, simp occurs_append at (w v)) in
        let u = after_lem (record { parts = two k y j; free = gs }) g q q.holds.0 (λ v. omega (arith, count v)) in
        let fz = node_fits n root depth small d t gs x l k r u in
        let few = node_count n root depth small d t gs x l k r u in
        let taken : settle_m d x (length (map_left f l)) g ≡ place_m t (plug x (map_left f l) (f k) ((y, f j) ∷ map_right f r)) =
        ap (settled d x (length (map_left f l)) t) q.out ∙ put_in d t x (map_left f l) (f k) (map_right f r) y (f j) (node_read n root depth small d t gs x l k r u) in
        subst (Done n root depth (x ∷ ws) x (suc d) s fs (split_over8 (plug x l k ((y, j) ∷ r)) gs)) (sym taken)
        (chained q (plug_placed n root depth small d t gs q.base x l k ((y, j) ∷ r) (record { lefts = u.kids.lefts; here = u.kids.here; rights = (q.holds.1, u.kids.rights) })
        (record { lefts = fz.lefts; here = fz.here; rights = (q.fit.0, q.fit.1, fz.rights) })
        (λ v. omega (arith, z.once v, count v, occurs_append v (slots ℕ d j) (read_rest none_of (slots ℕ d) r))) (omega arith) room) (x ∷ ws) (λ v. omega arith))

-- ---- a set below a node

module _ (n root depth : ℕ) (small : n < 2 ^ 32) (e : Sep ℕ) (fe : Fit e) where
  -- what the store has before the set in a tree
  pub record SetReady (d : ℕ) (s fs : List ℕ) (t : Kid ℕ d) : Type 0 where
    pub base : Based n root depth s fs
    pub holds : Holds s d t
    pub apart : Apart n d t fs
    pub room : (need ℕ e.key d t).cost ≤ length fs

  -- and what after
  abbrev pub SetDone : (d : ℕ) (s fs : List ℕ) (t : Kid ℕ d) → Type 0
  SetDone d s fs t = Done n root depth (walk e.key d t) (label d t) d s fs (set ℕ e d t fs) (insert_m e d s (label d t))

  module _ (d : ℕ) (s fs : List ℕ) (x : ℕ) (l : List (Kid ℕ d × Sep ℕ)) (c : Kid ℕ d) (shape : Shaped ℕ d c) (ih : SetReady d s fs c → SetDone d s fs c) where
    -- m is how many separators the node holds
    taken_in : (m : ℕ) (r : List (Sep ℕ × Kid ℕ d)) → AtChild n root depth d s fs x l c r → length l + length r ≡ m → (upward (need ℕ e.key d c) (leb 8 m)).cost ≤ length fs
        → Done n root depth (x ∷ walk e.key d c) x (suc d) s fs (set_below (λ c. set ℕ e d c fs) x l c r) (settle_m d x (length (map_left (label d) l)) (insert_m e d s (label d c)))
    taken_in m r z len k =
        let q : Need = need ℕ e.key d c in
        let o : Placed ℕ (Kid ℕ d) = set ℕ e d c fs in
        let kc : q.cost ≤ length fs = omega (arith, k) in
        let t = set_took e d c fs shape in
        let few = node_count n root depth small d s fs x l c r z in
        settle_lem n root depth small d s fs x l c r z (walk e.key d c) (λ v. walk_within v e.key d c) o.parts o.free (insert_m e d s (label d c))
        (ih (record { base = z.base; holds = z.kids.here; apart = child_apart n root depth small d s fs x l c r z; room = kc }))
        (λ v. set_occurs v e d c fs shape kc)
        (λ g. let p = graft_room q fs x m l r o.parts len (omega arith) t.splits k g in rw (t.takes, length-drop) (omega arith))

    at_zip : (m : ℕ) (r : List (Sep ℕ × Kid ℕ d)) → AtChild n root depth d s fs x l c r → length l + length r ≡ m → (need_here e.key (need ℕ e.key d c) (leb 8 m) r).cost ≤ length fs
        → Done n root depth (x ∷ cond (next_is e.key r) [] (walk e.key d c)) x (suc d) s fs (set_here (λ c. set ℕ e d c fs) e x l c r fs)
        (insert_here (λ c. insert_m e d s c) e d s x (record { lft = map_left (label d) l; mid = label d c; rgt = map_right (label d) r }))
    at_zip m [] z len k = taken_in m [] z len k
    at_zip m (y ∷ r) z len k =
        by_bool (same e.key y.0) (λ p. rw p (replaced n root depth small d s fs x l c e y r z fe p)) (λ p. rw p (taken_in m (y ∷ r) z len (rw p at k)))

  insert_step : (d lo : ℕ) (s fs : List ℕ) (m : Tree ℕ d) → Fits (Shaped ℕ d) lo m → SetReady (suc d) s fs m → ((c : Kid ℕ d) → Shaped ℕ d c → SetReady d s fs c → SetDone d s fs c) → SetDone (suc d) s fs m
  insert_step d lo s fs m f b ih =
      let p : Sep ℕ → Bool = below e.key in
      let z : Zip ℕ (Kid ℕ d) = at p m in
      let shape = (at_all (Shaped ℕ d) p lo m f).here in
      let x : ℕ = m.slot in
      let rec : ℕ → Ran = λ (c : ℕ). insert_m e d s c in
      let here : insert_m e (suc d) s x ≡ insert_here rec e d s x (map_zip (label d) z) =
      ap (on_node rec e d s x) (read_at_lem n root depth small d s fs m b.base b.holds.0 (λ v. omega (arith, b.apart v))) ∙ ap (insert_here rec e d s x) (at_map (label d) p m) in
      subst (Done n root depth (walk e.key (suc d) m) x (suc d) s fs (set ℕ e (suc d) m fs)) (sym here)
      (at_zip d s fs x z.lft z.mid shape (ih z.mid shape) (length m.rest) z.rgt (at_child n root depth small d p s fs m b.base b.holds b.apart)
      (omega (arith, seek_length p [] m.first m.rest)) b.room)

  pub inserted_lem : (d : ℕ) (s fs : List ℕ) (t : Kid ℕ d) → Shaped ℕ d t → SetReady d s fs t → SetDone d s fs t
  inserted_lem zero s fs t f b = record { out = refl; base = b.base; holds = (tt, tt); fit = (fe, omega arith); same = refl; fewer = λ v. omega arith; frame = λ v z k. refl }
  inserted_lem (suc d) s fs t f b = insert_step d 4 s fs t f b (λ c g h. inserted_lem d s fs c g h)

  -- a root may hold fewer
  pub inserted_root : (d lo : ℕ) (s fs : List ℕ) (m : Tree ℕ d) → Fits (Shaped ℕ d) lo m → SetReady (suc d) s fs m → SetDone (suc d) s fs m
  inserted_root d lo s fs m f b = insert_step d lo s fs m f b (λ c g h. inserted_lem d s fs c g h)
