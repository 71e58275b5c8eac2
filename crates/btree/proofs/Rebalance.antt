-- "Below 4 in a child": the bytes that `rebalance` leaves hold what the tree's `rebalance` makes, the freed slot first in the
-- chain. Assumes nothing.
use mathlib.Core.Path.{◌≡◌, refl, sym, ap, subst, ◌∙◌}
use mathlib.Core.List.{List, [], ◌∷◌, ◌++◌}
use mathlib.Core.Option.{some}
use Prim.Native.Nat.{ℕ, suc, ◌+◌, ◌^◌, ◌≤◌, ◌<◌}
use lib.ListN.{length, length-append}
use lib.Dec.{leb, eqb}
use native.Mathlib.Omega.{arith}
use borrow.Author.Tests.{leb-true, leb-false, lt-leb}
use Rattle.tree.specs.Map.{Sep}
use Rattle.tree.specs.Tree.{Kid, Tree, read_rest, none_of, slots, plug, join}
use Rattle.tree.specs.Free.{bit, occurs}
use Rattle.tree.specs.Remove.{Removed, unsnoc, borrow_last, borrow_first, try_right, try_left, rebalance}
use Rattle.tree.specs.State.{AllRight}
use Rattle.tree.proofs.Cases.{by_bool}
use Rattle.tree.proofs.Zipper.{read_rest_append, append_all}
use Rattle.tree.proofs.Slots.{occurs_append}
use Rattle.tree.proofs.Balance.{unsnoc_append, unsnoc_length}
use Rattle.node.specs.Chain.{FitAll, Writable}
use Rattle.slots.specs.Stands.{label, map_node, map_right, Holds}
use Rattle.slots.proofs.Framing.{length_map_right}
use Rattle.slots.specs.Code.{read_node_at}
use Rattle.outcome.specs.RemoveMirror.{Lost, borrow_last_m, borrow_first_m, merge_m, with_right, last_child, around, rebalance_m}
use Rattle.btree.proofs.Natural.{map_left, append_map, join_map, unsnoc_map, fit_append, fit_first, fit_last, all_first, all_last}
use Rattle.outcome.proofs.ZipIndex.{zip_at_plug}
use Rattle.btree.proofs.AtChild.{AtChild, read_at_lem, node_fits, node_read}
use Rattle.btree.proofs.RemoveWalk.{left_occurs, right_occurs, near_left, near_right, near, near_occurs}
use Rattle.btree.proofs.Pair.{Less, wider, rewritten, merged}

append_occurs : {C : Type 0} (f : C → List ℕ) (v : ℕ) (r q : List (Sep ℕ × C)) → occurs v (read_rest none_of f (r ++ q)) ≡ occurs v (read_rest none_of f r) + occurs v (read_rest none_of f q)
append_occurs f v r q = rw (read_rest_append none_of f r q) (occurs_append v (read_rest none_of f r) (read_rest none_of f q))

writable : (d : ℕ) (c : Kid ℕ d) (r : List (Sep ℕ × Kid ℕ d)) → label d c < 2 ^ 64 → FitAll (map_right (label d) r) → length r ≤ 8 → Writable (label d c) (map_right (label d) r)
writable d c r h k m = record { first = h; rest = k; most = rw (length_map_right (label d) r) m }

module _ (n root depth : ℕ) (small : n < 2 ^ 32) (lo d : ℕ) (h4 : lo ≤ 4) (s fs : List ℕ) (x : ℕ) where
  -- the node with slot x, at its child c
  abbrev Here : List (Tree ℕ d × Sep ℕ) → Tree ℕ d → List (Sep ℕ × Tree ℕ d) → Type 0
  Here l c r = AtChild n root depth (suc d) s fs x l c r

  abbrev Balanced : List ℕ → List (Tree ℕ d × Sep ℕ) → Tree ℕ d → List (Sep ℕ × Tree ℕ d) → Removed (Tree ℕ (suc d)) → Lost → Type 0
  Balanced ws l c r o g = Less n root depth ws lo (suc (suc d)) s (plug x l c r) fs o g

  -- at the left sibling
  to_left : (l : List (Tree ℕ d × Sep ℕ)) (a : Tree ℕ d) (y : Sep ℕ) (c : Tree ℕ d) (r : List (Sep ℕ × Tree ℕ d)) → Here ((a, y) ∷ l) c r → Here l a ((y, c) ∷ r)
  to_left l a y c r z = record {
    base = z.base;
    here = z.here;
    kids = record { lefts = z.kids.lefts.1; here = z.kids.lefts.0; rights = (z.kids.here, z.kids.rights) };
    once = λ v. omega (arith, z.once v, left_occurs (slots ℕ (suc d)) v a y l, right_occurs (slots ℕ (suc d)) v y c r);
  }

  -- ---- the low child c has a to the left, or b to the right, with the separator y between them

  borrows_last : (l : List (Tree ℕ d × Sep ℕ)) (a : Tree ℕ d) (y : Sep ℕ) (c : Tree ℕ d) (r : List (Sep ℕ × Tree ℕ d)) → Here l a ((y, c) ∷ r) → length c.rest < 4
      → (q : List (Sep ℕ × Kid ℕ d)) → a.rest ≡ q → 5 ≤ length q
      → Balanced (x ∷ a.slot ∷ c.slot ∷ []) l a ((y, c) ∷ r) (record { tree = borrow_last x l a y q c r; freed = [] })
      (borrow_last_m s x (map_left (label (suc d)) l) (map_node (label d) a) (map_right (label d) q) y (map_node (label d) c) (map_right (label (suc d)) r))
  borrows_last l a y c r z few [] e h = absurd (omega arith)
  borrows_last l a y c r z few (q ∷ qs) e h =
      let u = unsnoc q qs in
      let ue : a.rest ≡ u.0 ++ (u.1 ∷ []) = e ∙ sym (unsnoc_append q qs) in
      let ha = z.kids.here in
      let hc = z.kids.rights.0 in
      let fa = ha.0.fine in
      let fc = hc.0.fine in
      let f = node_fits n root depth small (suc d) s fs x l a ((y, c) ∷ r) z in
      let all : AllRight (Holds s d) (u.0 ++ (u.1 ∷ [])) = subst (AllRight (Holds s d)) ue ha.2 in
      let fit : FitAll (map_right (label d) u.0 ++ map_right (label d) (u.1 ∷ [])) =
      subst FitAll (ap (map_right (label d)) ue ∙ append_map (label d) u.0 (u.1 ∷ [])) fa.rest in
      let up = fit_last (map_right (label d) u.0) (map_right (label d) (u.1 ∷ [])) fit in
      let a2 : Tree ℕ d = record { slot = a.slot; first = a.first; rest = u.0 } in
      let c2 : Tree ℕ d = record { slot = c.slot; first = u.1.1; rest = (y, c.first) ∷ c.rest } in
      let most : suc (length qs) ≤ 8 = let m = fa.most in omega (arith, length_map_right (label d) a.rest, ap length e) in
      let counts : (v : ℕ) → occurs v (read_rest none_of (slots ℕ d) a.rest) ≡ occurs v (read_rest none_of (slots ℕ d) u.0) + occurs v (slots ℕ d u.1.1) =
      λ v. ap (λ (t : List (Sep ℕ × Kid ℕ d)). occurs v (read_rest none_of (slots ℕ d) t)) ue ∙ omega (arith, append_occurs (slots ℕ d) v u.0 (u.1 ∷ []), right_occurs (slots ℕ d) v u.1.0 u.1.1 []) in
      rw (unsnoc_map (label d) q qs)
      (rewritten n root depth small lo d h4 s fs x l a y c r z a2 c2 u.1.0 refl refl up.0
      (record {
        first = ha.1;
        rest = all_first (Holds s d) u.0 (u.1 ∷ []) all;
        fine = writable d a.first u.0 fa.first (fit_first (map_right (label d) u.0) (map_right (label d) (u.1 ∷ [])) fit) (omega (arith, unsnoc_length q qs));
      })
      (record {
        first = (all_last (Holds s d) u.0 (u.1 ∷ []) all).0;
        rest = (hc.1, hc.2);
        fine = writable d u.1.1 ((y, c.first) ∷ c.rest) up.1 (f.rights.0, fc.first, fc.rest) (omega arith);
      })
      (λ v. simp occurs_append (omega (arith, counts v))))

  borrows_first : (l : List (Tree ℕ d × Sep ℕ)) (c : Tree ℕ d) (y : Sep ℕ) (b : Tree ℕ d) (r : List (Sep ℕ × Tree ℕ d)) → Here l c ((y, b) ∷ r) → length c.rest < 4
      → (q : List (Sep ℕ × Kid ℕ d)) → b.rest ≡ q → 5 ≤ length q
      → Balanced (x ∷ c.slot ∷ b.slot ∷ []) l c ((y, b) ∷ r) (record { tree = borrow_first x l c y b q r; freed = [] })
      (borrow_first_m s x (map_left (label (suc d)) l) (map_node (label d) c) y (map_node (label d) b) (map_right (label d) q) (map_right (label (suc d)) r))
  borrows_first l c y b r z few [] e h = absurd (omega arith)
  borrows_first l c y b r z few (q ∷ qs) e h =
      let hc = z.kids.here in
      let hb = z.kids.rights.0 in
      let fc = hc.0.fine in
      let fb = hb.0.fine in
      let f = node_fits n root depth small (suc d) s fs x l c ((y, b) ∷ r) z in
      let all : AllRight (Holds s d) (q ∷ qs) = subst (AllRight (Holds s d)) e hb.2 in
      let fit : FitAll (map_right (label d) (q ∷ qs)) = subst (λ (t : List (Sep ℕ × Kid ℕ d)). FitAll (map_right (label d) t)) e fb.rest in
      let down : List (Sep ℕ × Kid ℕ d) = (y, b.first) ∷ [] in
      let c2 : Tree ℕ d = record { slot = c.slot; first = c.first; rest = c.rest ++ down } in
      let b2 : Tree ℕ d = record { slot = b.slot; first = q.1; rest = qs } in
      let ma = append_map (label d) c.rest down in
      let most : suc (length qs) ≤ 8 = let m = fb.most in omega (arith, length_map_right (label d) b.rest, ap length e) in
      let counts : (v : ℕ) → occurs v (read_rest none_of (slots ℕ d) b.rest) ≡ occurs v (slots ℕ d q.1) + occurs v (read_rest none_of (slots ℕ d) qs) =
      λ v. ap (λ (t : List (Sep ℕ × Kid ℕ d)). occurs v (read_rest none_of (slots ℕ d) t)) e ∙ right_occurs (slots ℕ d) v q.0 q.1 qs in
      rw (← ma)
      (rewritten n root depth small lo d h4 s fs x l c y b r z c2 b2 q.0 refl refl fit.0
      (record {
        first = hc.1;
        rest = append_all (Holds s d) c.rest down hc.2 (hb.1, tt);
        fine = writable d c.first (c.rest ++ down) fc.first (rw ma (fit_append (map_right (label d) c.rest) (map_right (label d) down) fc.rest (f.rights.0, fb.first, tt))) (simp length-append (omega arith));
      })
      (record { first = all.0; rest = all.1; fine = writable d q.1 qs fit.1 fit.2 (omega arith) })
      (λ v. simp occurs_append (omega (arith, counts v, append_occurs (slots ℕ d) v c.rest down, right_occurs (slots ℕ d) v y b.first []))))

  -- which of the two is low is no matter
  merges : (l : List (Tree ℕ d × Sep ℕ)) (a : Tree ℕ d) (y : Sep ℕ) (b : Tree ℕ d) (r : List (Sep ℕ × Tree ℕ d)) → Here l a ((y, b) ∷ r) → length a.rest + length b.rest ≤ 7
      → Balanced (x ∷ a.slot ∷ b.slot ∷ []) l a ((y, b) ∷ r) (record { tree = plug x l (join a y b) r; freed = b.slot ∷ [] })
      (merge_m s x (map_left (label (suc d)) l) (map_node (label d) a) y (map_node (label d) b) (map_right (label (suc d)) r))
  merges l a y b r z few =
      let ha = z.kids.here in
      let hb = z.kids.rights.0 in
      let fa = ha.0.fine in
      let fb = hb.0.fine in
      let f = node_fits n root depth small (suc d) s fs x l a ((y, b) ∷ r) z in
      let more : List (Sep ℕ × Kid ℕ d) = (y, b.first) ∷ b.rest in
      let ma = append_map (label d) a.rest more in
      rw (← join_map (label d) a y b)
      (merged n root depth small lo d h4 s fs x l a y b r z (join a y b) refl
      (record {
        first = ha.1;
        rest = append_all (Holds s d) a.rest more ha.2 (hb.1, hb.2);
        fine = writable d a.first (a.rest ++ more) fa.first (rw ma (fit_append (map_right (label d) a.rest) (map_right (label d) more) fa.rest (f.rights.0, fb.first, fb.rest))) (simp length-append (omega arith));
      })
      (λ v. simp occurs_append (omega (arith, append_occurs (slots ℕ d) v a.rest more, right_occurs (slots ℕ d) v y b.first b.rest))))

  -- ---- which sibling lends or merges

  -- with the right sibling b
  right_balances : (l : List (Tree ℕ d × Sep ℕ)) (c : Tree ℕ d) (y : Sep ℕ) (b : Tree ℕ d) (r : List (Sep ℕ × Tree ℕ d)) → Here l c ((y, b) ∷ r) → length c.rest < 4
      → Balanced (x ∷ c.slot ∷ b.slot ∷ []) l c ((y, b) ∷ r) (try_right x l c ((y, b) ∷ r)) (with_right d s x (map_left (label (suc d)) l) (map_node (label d) c) y (map_right (label (suc d)) r) (read_node_at d s b.slot))
  right_balances l c y b r z few =
      let reads = read_at_lem n root depth small d s fs b z.base z.kids.rights.0.0 (λ v. omega (arith, z.once v, right_occurs (slots ℕ (suc d)) v y b r)) in
      let i : ℕ = length b.rest in
      by_bool (leb 5 i)
      (λ e. rw (reads, length_map_right (label d) b.rest, e) (borrows_first l c y b r z few b.rest refl (leb-true 5 i e)))
      (λ e. rw (reads, length_map_right (label d) b.rest, e) (merges l c y b r z (omega (arith, leb-false 5 i e))))

  as_near : (ws : List ℕ) (l : List (Tree ℕ d × Sep ℕ)) (c : Tree ℕ d) (r : List (Sep ℕ × Tree ℕ d)) (o : Removed (Tree ℕ (suc d))) (g : Lost)
      → ((v : ℕ) → occurs v ws ≤ bit (eqb v x) + (bit (eqb v c.slot) + (occurs v (near_left (suc d) l) + occurs v (near_right (suc d) r)))) → Balanced ws l c r o g → Balanced (near (suc d) x l r (c.slot ∷ [])) l c r o g
  as_near ws l c r o g h q =
      wider n root depth ws (near (suc d) x l r (c.slot ∷ [])) lo (suc (suc d)) s (plug x l c r) fs o g (λ v. omega (arith, h v, near_occurs v (suc d) x l r (c.slot ∷ []))) q

  -- the left sibling a doesn't lend
  left_passes : (l : List (Tree ℕ d × Sep ℕ)) (a : Tree ℕ d) (y : Sep ℕ) (c : Tree ℕ d) (r : List (Sep ℕ × Tree ℕ d)) → Here ((a, y) ∷ l) c r → length c.rest < 4 → length a.rest < 5
      → Balanced (near (suc d) x ((a, y) ∷ l) r (c.slot ∷ [])) ((a, y) ∷ l) c r (try_right x ((a, y) ∷ l) c r) (last_child d s x (map_left (label (suc d)) l) (map_node (label d) a) y (map_node (label d) c) (map_right (label (suc d)) r))
  left_passes l a y c [] z few h = as_near (x ∷ a.slot ∷ c.slot ∷ []) ((a, y) ∷ l) c [] _ _ (λ v. omega arith) (merges l a y c [] (to_left l a y c [] z) (omega arith))
  left_passes l a y c (b ∷ r) z few h = as_near (x ∷ c.slot ∷ b.1.slot ∷ []) ((a, y) ∷ l) c (b ∷ r) _ _ (λ v. omega arith) (right_balances ((a, y) ∷ l) c b.0 b.1 r z few)

  siblings_balance : (l : List (Tree ℕ d × Sep ℕ)) (c : Tree ℕ d) (r : List (Sep ℕ × Tree ℕ d)) → Here l c r → length c.rest < 4 → 1 ≤ length l + length r
      → Balanced (near (suc d) x l r (c.slot ∷ [])) l c r (try_left x l c r) (around d s x (map_left (label (suc d)) l) (map_right (label (suc d)) r) (some (map_node (label d) c)))
  siblings_balance [] c [] z few h = absurd (omega arith)
  siblings_balance [] c (b ∷ r) z few h =
      rw (length_map_right (label d) c.rest, lt-leb 4 (length c.rest) few)
      (as_near (x ∷ c.slot ∷ b.1.slot ∷ []) [] c (b ∷ r) _ _ (λ v. omega arith) (right_balances [] c b.0 b.1 r z few))
  siblings_balance (p ∷ l) c r z few h =
      let a : Tree ℕ d = p.0 in
      let y : Sep ℕ = p.1 in
      let reads = read_at_lem n root depth small d s fs a z.base z.kids.lefts.0.0 (λ v. omega (arith, z.once v, left_occurs (slots ℕ (suc d)) v a y l)) in
      let i : ℕ = length a.rest in
      rw (length_map_right (label d) c.rest, lt-leb 4 (length c.rest) few)
      (by_bool (leb 5 i)
      (λ e. rw (reads, length_map_right (label d) a.rest, e) (as_near (x ∷ a.slot ∷ c.slot ∷ []) (p ∷ l) c r _ _ (λ v. omega arith) (borrows_last l a y c r (to_left l a y c r z) few a.rest refl (leb-true 5 i e))))
      (λ e. rw (reads, length_map_right (label d) a.rest, e) (left_passes l a y c r z few (leb-false 5 i e))))

  -- The node is read again, and its child at the index with its siblings.
  pub rebalances : (l : List (Tree ℕ d × Sep ℕ)) (c : Tree ℕ d) (r : List (Sep ℕ × Tree ℕ d)) → Here l c r → length c.rest < 4 → 1 ≤ length l + length r
      → Balanced (near (suc d) x l r (c.slot ∷ [])) l c r (rebalance x l c r) (rebalance_m (suc d) s x (length (map_left (label (suc d)) l)))
  unfolding rebalance_m
  rebalances l c r z few h =
      let reads = read_at_lem n root depth small d s fs c z.base z.kids.here.0 (λ v. omega (arith, z.once v)) in
      rw (
        lt-leb 4 (length c.rest) few,
        node_read n root depth small (suc d) s fs x l c r z,
        zip_at_plug x (map_left (label (suc d)) l) c.slot (map_right (label (suc d)) r),
        reads,
      ) (siblings_balance l c r z few h)
