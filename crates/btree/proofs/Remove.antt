-- A removal: the bytes that `on_existing` and `remove_last` leave hold the tree that `dereference` and `take_largest` give, with
-- the freed slots in the tree's order; every slot that is neither on the walk nor a neighbour of one on it keeps its bytes.
-- Assumes nothing.
use mathlib.Core.Path.{◌≡◌, refl, sym, ap, subst, ◌∙◌}
use mathlib.Core.List.{List, [], ◌∷◌, ◌++◌, append_assoc}
use mathlib.Core.Bool.{cond}
use Prim.Native.Nat.{ℕ, zero, suc, ◌+◌, ◌^◌, ◌≤◌, ◌<◌}
use lib.ListN.{length}
use lib.Dec.{eqb}
use native.Mathlib.Omega.{arith}
use borrow.Author.Tests.{le-leb}
use Rattle.word.specs.Key.{Key}
use Rattle.tree.specs.Map.{Sep}
use Rattle.tree.specs.Tree.{Kid, Tree, Zip, slots, plug, at, below, same, always}
use Rattle.tree.specs.Free.{bit, occurs, stack, give_all}
use Rattle.tree.specs.Remove.{Removed, rebalance_kid, settle, Largest, largest_at, take_largest, remove_at, dereference}
use Rattle.tree.specs.Remove as Tr
use Rattle.tree.specs.State.{AllRight, Fits, Shaped, root_least}
use Rattle.tree.proofs.Cases.{by_bool}
use Rattle.tree.proofs.Zipper.{AllZip, at_all, plug_slot, plug_length, seek_plug, seek_length, seek_always}
use Rattle.tree.proofs.Slots.{occurs_append, give_all_occurs, give_all_stack}
use Rattle.tree.proofs.RemoveShape.{IsZero, root_least_le}
use Rattle.tree.proofs.RemoveSlots.{plug_occurs}
use Rattle.node.specs.Chain.{Fit}
use Rattle.slots.specs.Layout.{slot_at}
use Rattle.slots.specs.Mirror.{write_node}
use Rattle.slots.specs.Stands.{label, map_node, map_right, Holds, Based}
use Rattle.slots.proofs.Framing.{put_tree}
use Rattle.slots.specs.Code.{read_node_at}
use Rattle.outcome.specs.RemoveMirror.{Fell, bad, fine, low, Lost, close_m, settled_low, Last, nothing, broken, last, last_at_m, remove_last_m, replace_on, replace_m, taken_m, remove_here, remove_m}
use Rattle.btree.proofs.Natural.{map_left, map_zip, plug_map, at_map, next_is}
use Rattle.outcome.proofs.ZipIndex.{replaced_plug}
use Rattle.btree.proofs.AtChild.{Apart, AtChild, at_child, at_after, read_at_lem, node_apart, child_apart, node_holds, node_count, node_fits, node_read}
use Rattle.btree.proofs.RemoveWalk.{left_occurs, right_occurs, slot_of, near_right, near, near_occurs, largest_walk, remove_walk, Along, along_largest, along_remove, slot_of_same}
use Rattle.btree.proofs.Pair.{Tells, Less, plug_ready, closed_lem}
use Rattle.btree.proofs.Rebalance.{rebalances}

give_all_append : (a b fs : List ℕ) → give_all stack (a ++ b) fs ≡ give_all stack a (give_all stack b fs)
give_all_append a b fs = simp (give_all_stack, append_assoc)

-- what holds of a node's children holds along a zipper of it
unplug_all : {A C : Type 0} (P : C → Type 0) (x : ℕ) (l : List (C × Sep A)) (c : C) (r : List (Sep A × C))
    → P (plug x l c r).first → AllRight P (plug x l c r).rest → AllZip P l c r
unplug_all P x [] c r h k = record { lefts = tt; here = h; rights = k }
unplug_all P x (a ∷ l) c r h k =
    let z = unplug_all P x l a.0 ((a.1, c) ∷ r) h k in
    record { lefts = (z.here, z.lefts); here = z.rights.0; rights = z.rights.1 }

module _ (n root depth : ℕ) (small : n < 2 ^ 32) where
  -- a step on what an earlier one, which freed bk, left of t
  goes_on_lem : (ws zs : List ℕ) (lo d : ℕ) (s : List ℕ) (t : Tree ℕ d) (fs : List ℕ) (u : List ℕ) (t2 : Tree ℕ d) (bk : List ℕ) (o : Removed (Tree ℕ d)) (g : Lost)
      → t2.slot ≡ t.slot → ((v : ℕ) → occurs v (slots ℕ (suc d) t2) + occurs v bk ≡ occurs v (slots ℕ (suc d) t))
      → ((v : ℕ) → occurs v ws ≤ occurs v zs) → ((v : ℕ) → occurs v zs ≡ 0 → slot_at u v ≡ slot_at s v)
      → Less n root depth ws lo (suc d) u t2 (give_all stack bk fs) o g → Less n root depth zs lo (suc d) s t fs (record { tree = o.tree; freed = o.freed ++ bk }) g
  goes_on_lem ws zs lo d s t fs u t2 bk o g e count more frame q = record {
    tells = q.tells;
    base = rw (give_all_append o.freed bk fs) q.base;
    tree = q.tree;
    same = q.same ∙ e;
    count = λ v. omega (arith, q.count v, count v, occurs_append v o.freed bk);
    frame = λ v w. q.frame v (omega (arith, more v)) ∙ frame v w;
  }

  -- ---- a node whose child k may be low

  still : (lo d : ℕ) (s fs : List ℕ) (x : ℕ) (l : List (Kid ℕ d × Sep ℕ)) (k : Kid ℕ d) (r : List (Sep ℕ × Kid ℕ d)) → lo ≤ length l + length r → AtChild n root depth d s fs x l k r
      → Less n root depth (near d x l r (slot_of d k)) lo (suc d) s (plug x l k r) fs (record { tree = plug x l k r; freed = [] }) (record { out = fine; store = s })
  still lo d s fs x l k r h z = record {
    tells = rw (plug_length x l k r) h;
    base = z.base;
    tree = node_holds n root depth small d s fs x l k r z;
    same = refl;
    count = λ v. omega arith;
    frame = λ v q. refl;
  }

  settles : (lo d : ℕ) (s fs : List ℕ) (x : ℕ) (l : List (Kid ℕ d × Sep ℕ)) (k : Kid ℕ d) (r : List (Sep ℕ × Kid ℕ d)) (o : Fell) → lo ≤ 4 → lo ≤ length l + length r → root_least d ≤ length l + length r
      → AtChild n root depth d s fs x l k r → Tells 4 d k o
      → Less n root depth (near d x l r (slot_of d k)) lo (suc d) s (plug x l k r) fs (rebalance_kid ℕ d x l k r) (settled_low d x (length (map_left (label d) l)) s o)
  settles lo d s fs x l k r bad h4 h g z t = absurd t
  settles lo zero s fs x l k r fine h4 h g z t = still lo zero s fs x l k r h z
  settles lo zero s fs x l k r low h4 h g z t = absurd t
  settles lo (suc d) s fs x l k r fine h4 h g z t = rw (le-leb 4 (length k.rest) t) (still lo (suc d) s fs x l k r h z)
  settles lo (suc d) s fs x l k r low h4 h g z t = rebalances n root depth small lo d h4 s fs x l k r z t g

  -- ---- a node at its child c, of which a step made o

  module _ (lo d : ℕ) (h4 : lo ≤ 4) (s fs : List ℕ) (x : ℕ) (l : List (Kid ℕ d × Sep ℕ)) (c : Kid ℕ d) (o : Removed (Kid ℕ d)) (g : Lost)
      (ws : List ℕ) (along : Along d c ws) (q : Less n root depth ws 4 d s c fs o g) where
    abbrev freed : List ℕ
    freed = give_all stack o.freed fs

    -- the node stands as before in the store that the step left
    after_lem : (r : List (Sep ℕ × Kid ℕ d)) → AtChild n root depth d s fs x l c r → AtChild n root depth d g.store freed x l o.tree r
    after_lem r z =
        at_after n root depth small d s fs x l c r z g.store freed o.tree q.base q.tree q.same
        (λ v w. q.frame v (omega (arith, along.within v))) (λ v. omega (arith, q.count v, give_all_occurs stack v o.freed fs))

    -- balancing writes nothing else
    no_more : (r p : List (Sep ℕ × Kid ℕ d)) (v : ℕ) → near_right d r ≡ near_right d p → occurs v (near d x l r (slot_of d o.tree)) ≤ occurs v (near d x l p ws)
    no_more r p v e = rw (slot_of_same d o.tree c q.same) (omega (arith, near_occurs v d x l r (slot_of d c), near_occurs v d x l p ws, along.own v, ap (occurs v) e))

    child_settles : (r : List (Sep ℕ × Kid ℕ d)) → AtChild n root depth d s fs x l c r → lo ≤ length l + length r → root_least d ≤ length l + length r
        → Less n root depth (near d x l r ws) lo (suc d) s (plug x l c r) fs (settle ℕ d x l o r) (settled_low d x (length (map_left (label d) l)) g.store g.out)
    child_settles r z h k =
        goes_on_lem (near d x l r (slot_of d o.tree)) (near d x l r ws) lo d s (plug x l c r) fs g.store (plug x l o.tree r) o.freed (rebalance_kid ℕ d x l o.tree r) _
        (plug_slot x l o.tree r ∙ sym (plug_slot x l c r))
        (λ v. omega (arith, q.count v, plug_occurs v (slots ℕ d) x l c r, plug_occurs v (slots ℕ d) x l o.tree r))
        (λ v. no_more r r v refl) (λ v w. q.frame v (omega (arith, near_occurs v d x l r ws)))
        (settles lo d g.store freed x l o.tree r g.out h4 h k (after_lem r z) q.tells)

    -- the separator w takes the place of y's, in the node as it is read again
    replaces : (y : Sep ℕ × Kid ℕ d) (r : List (Sep ℕ × Kid ℕ d)) (w : Sep ℕ) → Fit w → AtChild n root depth d s fs x l c (y ∷ r) → lo ≤ suc (length l + length r)
        → Less n root depth (near d x l (y ∷ r) ws) lo (suc d) s (plug x l c (y ∷ r)) fs (settle ℕ d x l o ((w, y.1) ∷ r))
        (replace_on d x (length (map_left (label d) l)) w g.out g.store (read_node_at d g.store x))
    replaces y r w fw z h =
        let u : List ℕ = g.store in
        let k : Kid ℕ d = o.tree in
        let q2 : List (Sep ℕ × Kid ℕ d) = (w, y.1) ∷ r in
        let p : Tree ℕ d = plug x l k q2 in
        let t : List ℕ = write_node u (map_node (label d) p) in
        let a = after_lem (y ∷ r) z in
        let f = node_fits n root depth small d u freed x l k (y ∷ r) a in
        let len = node_count n root depth small d u freed x l k (y ∷ r) a in
        let in_p : Apart n (suc d) p freed = λ v. omega (arith, a.once v, plug_occurs v (slots ℕ d) x l k q2) in
        let put = put_tree n root depth small u freed d p a.base (plug_ready u d x l k q2 (record { lefts = a.kids.lefts; here = a.kids.here; rights = a.kids.rights }) (record { lefts = f.lefts; here = f.here; rights = (fw, f.rights.1, f.rights.2) }) len) in_p in
        let b : AtChild n root depth d t freed x l k q2 = record {
          base = put.base;
          here = put.tree.0;
          kids = unplug_all (Holds t d) x l k q2 put.tree.1 put.tree.2;
          once = a.once;
        } in
        let e : plug x (map_left (label d) l) (label d k) ((w, label d y.1) ∷ map_right (label d) r) ≡ map_node (label d) p = sym (plug_map (label d) x l k q2) in
        rw (node_read n root depth small d u freed x l k (y ∷ r) a, replaced_plug x (map_left (label d) l) (label d k) w (y.0, label d y.1) (map_right (label d) r), e)
        (goes_on_lem (near d x l q2 (slot_of d k)) (near d x l (y ∷ r) ws) lo d s (plug x l c (y ∷ r)) fs t p o.freed (rebalance_kid ℕ d x l k q2) _
        (plug_slot x l k q2 ∙ sym (plug_slot x l c (y ∷ r)))
        (λ v. omega (arith, q.count v, plug_occurs v (slots ℕ d) x l c (y ∷ r), plug_occurs v (slots ℕ d) x l k q2))
        (λ v. no_more q2 (y ∷ r) v refl)
        (λ v i. put.other v (rw (plug_slot x l k q2) (omega (arith, near_occurs v d x l (y ∷ r) ws))) ∙ q.frame v (omega (arith, near_occurs v d x l (y ∷ r) ws)))
        (settles lo d t freed x l k q2 g.out h4 (omega arith) (omega (arith, root_least_le d)) b q.tells))

  not_bad : (d x i : ℕ) (w : Sep ℕ) (s : List ℕ) (k : Kid ℕ d) (o : Fell) → Tells 4 d k o → replace_m d x i w o s ≡ replace_on d x i w o s (read_node_at d s x)
  not_bad d x i w s k bad t = absurd t
  not_bad d x i w s k fine t = refl
  not_bad d x i w s k low t = refl

  -- ---- a leaf without one separator: its last, or the next

  leaf_last : (ws : List ℕ) (lo : ℕ) → lo ≤ 4 → (s fs : List ℕ) (x : ℕ) → ((v : ℕ) → bit (eqb v x) ≤ occurs v ws) → (l : List (Kid ℕ zero × Sep ℕ)) (a : Kid ℕ zero) (y : Sep ℕ) (c : Kid ℕ zero) (r : List (Sep ℕ × Kid ℕ zero))
      → AtChild n root depth zero s fs x ((a, y) ∷ l) c r
      → Less n root depth ws lo 1 s (plug x ((a, y) ∷ l) c r) fs (record { tree = plug x l a r; freed = [] }) (close_m s (plug x (map_left (label zero) l) (label zero a) (map_right (label zero) r)))
  leaf_last ws lo h4 s fs x own l a y c r z =
      let f = node_fits n root depth small zero s fs x ((a, y) ∷ l) c r z in
      closed_lem n root depth small ws lo zero s (plug x ((a, y) ∷ l) c r) fs s [] x l a r h4 (plug_slot x ((a, y) ∷ l) c r) (node_apart n root depth small zero s fs x ((a, y) ∷ l) c r z) z.base
      (record { lefts = z.kids.lefts.1; here = tt; rights = z.kids.rights })
      (record { lefts = f.lefts.2; here = f.lefts.0; rights = f.rights })
      (omega (arith, node_count n root depth small zero s fs x ((a, y) ∷ l) c r z))
      (λ v. omega (arith, plug_occurs v (slots ℕ zero) x ((a, y) ∷ l) c r, left_occurs (slots ℕ zero) v a y l)) own (λ v q. refl)

  leaf_next : (ws : List ℕ) (lo : ℕ) → lo ≤ 4 → (s fs : List ℕ) (x : ℕ) → ((v : ℕ) → bit (eqb v x) ≤ occurs v ws) → (l : List (Kid ℕ zero × Sep ℕ)) (c : Kid ℕ zero) (y : Sep ℕ × Kid ℕ zero) (r : List (Sep ℕ × Kid ℕ zero))
      → AtChild n root depth zero s fs x l c (y ∷ r)
      → Less n root depth ws lo 1 s (plug x l c (y ∷ r)) fs (record { tree = plug x l y.1 r; freed = [] }) (close_m s (plug x (map_left (label zero) l) (label zero y.1) (map_right (label zero) r)))
  leaf_next ws lo h4 s fs x own l c y r z =
      let f = node_fits n root depth small zero s fs x l c (y ∷ r) z in
      closed_lem n root depth small ws lo zero s (plug x l c (y ∷ r)) fs s [] x l y.1 r h4 (plug_slot x l c (y ∷ r)) (node_apart n root depth small zero s fs x l c (y ∷ r) z) z.base
      (record { lefts = z.kids.lefts; here = tt; rights = z.kids.rights.1 })
      (record { lefts = f.lefts; here = f.rights.1; rights = f.rights.2 })
      (omega (arith, node_count n root depth small zero s fs x l c (y ∷ r) z))
      (λ v. omega (arith, plug_occurs v (slots ℕ zero) x l c (y ∷ r), right_occurs (slots ℕ zero) v y.0 y.1 r)) own (λ v q. refl)

  -- ---- the largest entry

  -- below a leaf there is none; otherwise it comes back, and can be written
  abbrev pub LargestTaken : (ws : List ℕ) (d : ℕ) (s : List ℕ) (t : Kid ℕ d) (fs : List ℕ) → Largest ℕ (Kid ℕ d) → Last → Type 0
  LargestTaken ws d s t fs Tr.nothing nothing = IsZero ℕ d
  LargestTaken ws d s t fs Tr.nothing (broken u) = ⊥
  LargestTaken ws d s t fs Tr.nothing (last w g) = ⊥
  LargestTaken ws d s t fs (Tr.largest y o) nothing = ⊥
  LargestTaken ws d s t fs (Tr.largest y o) (broken u) = ⊥
  LargestTaken ws d s t fs (Tr.largest y o) (last w g) = (w ≡ y) × Fit y × Less n root depth ws 4 d s t fs o g

  last_at : (d : ℕ) (s fs : List ℕ) (x : ℕ) (l : List (Kid ℕ d × Sep ℕ)) (c : Kid ℕ d) (r : List (Sep ℕ × Kid ℕ d)) → AtChild n root depth d s fs x l c r → r ≡ [] → 4 ≤ length l + length r
      → (ws : List ℕ) → Along d c ws → (o : Largest ℕ (Kid ℕ d)) (g : Last) → LargestTaken ws d s c fs o g
      → LargestTaken (near d x l r ws) (suc d) s (plug x l c r) fs (largest_at ℕ d x l r o) (last_at_m d s x (record { lft = map_left (label d) l; mid = label d c; rgt = map_right (label d) r }) g)
  last_at zero s fs x [] c r z e h ws al Tr.nothing nothing q = absurd (omega (arith, ap length e))
  last_at zero s fs x (a ∷ l) c r z e h ws al Tr.nothing nothing q =
      (refl, (node_fits n root depth small zero s fs x (a ∷ l) c r z).lefts.1, leaf_last (near zero x (a ∷ l) r ws) 4 (omega arith) s fs x (λ v. omega arith) l a.0 a.1 c r z)
  last_at (suc d) s fs x l c r z e h ws al Tr.nothing nothing q = absurd q
  last_at d s fs x l c r z e h ws al Tr.nothing (broken u) q = absurd q
  last_at d s fs x l c r z e h ws al Tr.nothing (last w g) q = absurd q
  last_at d s fs x l c r z e h ws al (Tr.largest y o) nothing q = absurd q
  last_at d s fs x l c r z e h ws al (Tr.largest y o) (broken u) q = absurd q
  last_at d s fs x l c r z e h ws al (Tr.largest y o) (last w g) q =
      (q.0, q.1, child_settles 4 d (omega arith) s fs x l c o g ws al q.2 r z h (omega (arith, root_least_le d)))

  pub largest_taken : (d : ℕ) (s fs : List ℕ) (t : Kid ℕ d) → Shaped ℕ d t → Based n root depth s fs → Holds s d t → Apart n d t fs → LargestTaken (largest_walk d t) d s t fs (take_largest ℕ d t) (remove_last_m d s (label d t))
  largest_taken zero s fs t o b h a = tt
  largest_taken (suc d) s fs m o b h a =
      let z : Zip ℕ (Kid ℕ d) = at always m in
      let c = at_child n root depth small d always s fs m b h a in
      let len = seek_length always [] m.first m.rest in
      let least = o.least in
      let w = last_at d s fs m.slot z.lft z.mid z.rgt c (seek_always [] m.first m.rest) (omega arith) (largest_walk d z.mid) (along_largest d z.mid) (take_largest ℕ d z.mid) (remove_last_m d s (label d z.mid))
      (largest_taken d s fs z.mid (at_all (Shaped ℕ d) always 4 m o).here b c.kids.here (child_apart n root depth small d s fs m.slot z.lft z.mid z.rgt c)) in
      rw (read_at_lem n root depth small d s fs m b h.0 (λ v. omega (arith, a v)), at_map (label d) always m)
      (subst (λ (t : Tree ℕ d). LargestTaken (largest_walk (suc d) m) (suc d) s t fs (take_largest ℕ (suc d) m) (last_at_m d s m.slot (map_zip (label d) z) (remove_last_m d s (label d z.mid)))) (seek_plug always m.slot [] m.first m.rest) w)

  -- ---- the dereference of k

  module _ (k : Key) where
    -- y is k's separator, and o what its left child c gave
    key_taken : (lo d : ℕ) → lo ≤ 4 → (s fs : List ℕ) (x : ℕ) (l : List (Kid ℕ d × Sep ℕ)) (c : Kid ℕ d) (y : Sep ℕ × Kid ℕ d) (r : List (Sep ℕ × Kid ℕ d)) → AtChild n root depth d s fs x l c (y ∷ r)
        → lo ≤ suc (length l + length r) → (ws : List ℕ) → Along d c ws → (o : Largest ℕ (Kid ℕ d)) (g : Last) → LargestTaken ws d s c fs o g
        → Less n root depth (near d x l (y ∷ r) ws) lo (suc d) s (plug x l c (y ∷ r)) fs (Tr.remove_here ℕ d x l y r o) (taken_m d s x (record { lft = map_left (label d) l; mid = label d c; rgt = map_right (label d) (y ∷ r) }) g)
    key_taken lo zero h4 s fs x l c y r z h ws al Tr.nothing nothing q = leaf_next (near zero x l (y ∷ r) ws) lo h4 s fs x (λ v. omega arith) l c y r z
    key_taken lo (suc d) h4 s fs x l c y r z h ws al Tr.nothing nothing q = absurd q
    key_taken lo d h4 s fs x l c y r z h ws al Tr.nothing (broken u) q = absurd q
    key_taken lo d h4 s fs x l c y r z h ws al Tr.nothing (last w g) q = absurd q
    key_taken lo d h4 s fs x l c y r z h ws al (Tr.largest w o) nothing q = absurd q
    key_taken lo d h4 s fs x l c y r z h ws al (Tr.largest w o) (broken u) q = absurd q
    key_taken lo d h4 s fs x l c y r z h ws al (Tr.largest w o) (last v g) q = rw (q.0, not_bad d x (length (map_left (label d) l)) w g.store o.tree g.out q.2.tells) (replaces lo d h4 s fs x l c o g ws al q.2 y r w q.1 z h)

    removed_at_lem : (lo d : ℕ) → lo ≤ 4 → (s fs : List ℕ) (x : ℕ) (l : List (Kid ℕ d × Sep ℕ)) (c : Kid ℕ d) (r : List (Sep ℕ × Kid ℕ d)) → AtChild n root depth d s fs x l c r
        → lo ≤ length l + length r → root_least d ≤ length l + length r → Shaped ℕ d c → Less n root depth (remove_walk k d c) 4 d s c fs (dereference ℕ k d c) (remove_m k d s (label d c))
        → Less n root depth (near d x l r (cond (next_is k r) (largest_walk d c) (remove_walk k d c))) lo (suc d) s (plug x l c r) fs (remove_at ℕ k d x l c r (dereference ℕ k d c))
        (remove_here (λ i. remove_m k d s i) (λ i. remove_last_m d s i) k d s x (record { lft = map_left (label d) l; mid = label d c; rgt = map_right (label d) r }))
    removed_at_lem lo d h4 s fs x l c [] z h g sh q = child_settles lo d h4 s fs x l c (dereference ℕ k d c) (remove_m k d s (label d c)) (remove_walk k d c) (along_remove k d c) q [] z h g
    removed_at_lem lo d h4 s fs x l c (y ∷ r) z h g sh q =
        by_bool (same k y.0)
        (λ e. rw e (key_taken lo d h4 s fs x l c y r z (omega arith) (largest_walk d c) (along_largest d c) (take_largest ℕ d c) (remove_last_m d s (label d c))
        (largest_taken d s fs c sh z.base z.kids.here (child_apart n root depth small d s fs x l c (y ∷ r) z))))
        (λ e. rw e (child_settles lo d h4 s fs x l c (dereference ℕ k d c) (remove_m k d s (label d c)) (remove_walk k d c) (along_remove k d c) q (y ∷ r) z h g))

    -- of any node whose children are in shape, the root too
    removed_node : (lo d : ℕ) (s fs : List ℕ) (m : Tree ℕ d) → lo ≤ 4 → root_least d ≤ length m.rest → Fits (Shaped ℕ d) lo m → Based n root depth s fs → Holds s (suc d) m → Apart n (suc d) m fs
        → ((c : Kid ℕ d) → Shaped ℕ d c → Holds s d c → Apart n d c fs → Less n root depth (remove_walk k d c) 4 d s c fs (dereference ℕ k d c) (remove_m k d s (label d c)))
        → Less n root depth (remove_walk k (suc d) m) lo (suc d) s m fs (dereference ℕ k (suc d) m) (remove_m k (suc d) s m.slot)
    removed_node lo d s fs m h4 g f b h a ih =
        let z : Zip ℕ (Kid ℕ d) = at (below k) m in
        let c = at_child n root depth small d (below k) s fs m b h a in
        let len = seek_length (below k) [] m.first m.rest in
        let least = f.least in
        let sh = (at_all (Shaped ℕ d) (below k) lo m f).here in
        let w = removed_at_lem lo d h4 s fs m.slot z.lft z.mid z.rgt c (omega arith) (omega arith) sh
        (ih z.mid sh c.kids.here (child_apart n root depth small d s fs m.slot z.lft z.mid z.rgt c)) in
        rw (read_at_lem n root depth small d s fs m b h.0 (λ v. omega (arith, a v)), at_map (label d) (below k) m)
        (subst (λ (t : Tree ℕ d). Less n root depth (remove_walk k (suc d) m) lo (suc d) s t fs (dereference ℕ k (suc d) m) (remove_here (λ i. remove_m k d s i) (λ i. remove_last_m d s i) k d s m.slot (map_zip (label d) z)))
        (seek_plug (below k) m.slot [] m.first m.rest) w)

    pub removed_lem : (d : ℕ) (s fs : List ℕ) (t : Kid ℕ d) → Shaped ℕ d t → Based n root depth s fs → Holds s d t → Apart n d t fs → Less n root depth (remove_walk k d t) 4 d s t fs (dereference ℕ k d t) (remove_m k d s (label d t))
    removed_lem zero s fs t sh b h a = record { tells = tt; base = b; tree = tt; same = refl; count = λ v. refl; frame = λ v w. refl }
    removed_lem (suc d) s fs m sh b h a = removed_node 4 d s fs m (omega arith) (omega (arith, root_least_le d, sh.least)) sh b h a (λ c sc hc ac. removed_lem d s fs c sc b hc ac)

    pub removed_root : (lo d : ℕ) (s fs : List ℕ) (m : Tree ℕ d) → lo ≤ 4 → root_least d ≤ length m.rest → Fits (Shaped ℕ d) lo m → Based n root depth s fs → Holds s (suc d) m → Apart n (suc d) m fs
        → Less n root depth (remove_walk k (suc d) m) lo (suc d) s m fs (dereference ℕ k (suc d) m) (remove_m k (suc d) s m.slot)
    removed_root lo d s fs m h4 g f b h a = removed_node lo d s fs m h4 g f b h a (λ c sc hc ac. removed_lem d s fs c sc b hc ac)
