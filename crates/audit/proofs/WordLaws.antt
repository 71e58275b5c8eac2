-- The walk that keeps its marks in words is the walk that keeps them as a list, told in words. Assumes nothing.
use mathlib.Core.Path.{◌≡◌, refl, sym, ap, ◌∙◌}
use mathlib.Core.List.{List, [], ◌∷◌}
use mathlib.Core.Bool.{Bool, true, false, cond, ◌&&◌}
use mathlib.Core.Option.{Option, none, some}
use Prim.Native.Nat.{ℕ, zero, suc, ◌*◌, ◌≤◌, ◌<◌}
use lib.ListN.{length, take}
use lib.Dec.{leb, eqb}
use native.Mathlib.Omega.{arith}
use borrow.Author.Tests.{lt-ltb, leb-true, leb-false, eqb-true, eq-eqb, ne_eqb}
use Rattle.word.specs.Num.{Bytes, zeros}
use Rattle.tree.specs.Tree.{Node}
use Rattle.tree.specs.Free.{occurs}
use Rattle.tree.specs.State.{root_least}
use Rattle.tree.proofs.Cases.{by_cond, by_bool}
use Rattle.node.specs.Chain.{Step}
use Rattle.slots.specs.Limits.{most_depth}
use Rattle.slots.specs.Layout.{slot_at, idle, root_of, depth_of, count_of, first_of}
use Rattle.slots.specs.Mirror.{is_slot}
use Rattle.slots.specs.Entries.{same_bytes}
use Rattle.slots.proofs.HeaderLaws.{and_both}
use Rattle.slots.proofs.StoreLaws.{slot_of_lem}
use Rattle.slots.proofs.Framing.{Within}
use Rattle.slots.proofs.Building.{IfSome}
use Rattle.audit.specs.Marks.{word_of, among, mark_words, all_ones}
use Rattle.audit.specs.Walk.{in_list, in_words, is_clear, marked, Seen, is_above, bind, read_written, visit_rest, visit_node, visit, next_free, is_idle, chain, fills, marks_of, walk_tree, walk_free, walk}
use Rattle.audit.proofs.ChainLaws.{within_cons}
use Rattle.audit.proofs.VisitLaws.{if_map, ReadAt, read_at_lem, Saw, visit_sound}
use Rattle.audit.proofs.MarkLaws.{length_marks, word_in, mark_tells, mark_sets, marks_none, count_first}

module _ {A B : Type 0} (f : A → B) where
  abbrev pub on_some : Option A → Option B
  on_some none = none
  on_some (some a) = some (f a)

  bind_some : (P : A → Type 0) (o : Option A) (g : B → Option B) (h : A → Option A) → IfSome P o → ((u : A) → P u → g (f u) ≡ on_some (h u)) → bind (on_some o) g ≡ on_some (bind o h)
  bind_some P none g h p e = refl
  bind_some P (some u) g h p e = e u p

  cond_some : (b c : Bool) (x : Option B) (y : Option A) → b ≡ c → (c ≡ true → x ≡ on_some y) → cond b x none ≡ on_some (cond c y none)
  cond_some b true x y e h = rw (e, h refl)
  cond_some b false x y e h = rw e

among_zero : (us : List ℕ) (x : ℕ) → eqb (among us x) 0 ≡ eqb (occurs x us) 0
among_zero us x =
    by_bool (leb 1 (occurs x us))
    (λ e. let l = leb-true 1 (occurs x us) e in rw e (sym (ne_eqb (occurs x us) 0 (λ q. omega arith))))
    (λ e. let l = leb-false 1 (occurs x us) e in rw e (sym (eq-eqb (occurs x us) 0 (omega arith))))

module _ (s : List ℕ) (bs : Bytes s) (m k : ℕ) (needed : count_of s ≤ 64 * m) (lent : m ≤ k) where
  enough : count_of s ≤ 64 * k
  enough = omega arith

  abbrev n : ℕ
  n = count_of s

  abbrev reader : ℕ → Option (Node ℕ ℕ)
  reader = read_written s

  abbrev worded : Seen (List ℕ) → Seen (List ℕ)
  worded w = record { marks = mark_words w.marks k; last = w.last }

  free_same : (us : List ℕ) (x : ℕ) → 1 ≤ x → x ≤ n → is_clear (mark_words us k) x ≡ eqb (occurs x us) 0
  unfolding is_clear
  free_same us x lo hi =
      let l : word_of x < length (mark_words us k) = rw (length_marks us k) (word_in x k lo (omega (arith, enough))) in
      rw (lt-ltb (word_of x) (length (mark_words us k)) l) (ap (λ (v : ℕ). eqb v 0) (mark_tells us k x lo (omega (arith, enough))) ∙ among_zero us x)

  abbrev Fine : Seen (List ℕ) → Type 0
  Fine w = Within n w.marks

  visit_fine : (d least x : ℕ) (w : Seen (List ℕ)) → Fine w → IfSome Fine (visit in_list reader d least x w)
  visit_fine d least x w h = if_map (Saw n s least d x w) Fine (λ u p. p.within) (visit in_list reader d least x w) (visit_sound n s bs refl d least x w h)

  abbrev Agrees : ℕ → Type 0
  Agrees d = (least x : ℕ) (w : Seen (List ℕ)) → Fine w → visit (in_words m) reader d least x (worded w) ≡ on_some worded (visit in_list reader d least x w)

  module _ (d : ℕ) (ih : Agrees d) where
    abbrev below_w : ℕ → Seen (List ℕ) → Option (Seen (List ℕ))
    below_w = visit (in_words m) reader d 4

    abbrev below_l : ℕ → Seen (List ℕ) → Option (Seen (List ℕ))
    below_l = visit in_list reader d 4

    rest_words : (r : List Step) (w : Seen (List ℕ)) → Fine w → visit_rest (in_words m) reader below_w r (worded w) ≡ on_some worded (visit_rest in_list reader below_l r w)
    rest_words [] w h = refl
    rest_words (x ∷ r) w h =
        let w1 : Seen (List ℕ) = record { marks = w.marks; last = some x.0.key } in
        cond_some worded (is_above w.last x.0.key) (is_above w.last x.0.key) (bind (below_w x.1 (worded w1)) (λ u. visit_rest (in_words m) reader below_w r u)) (bind (below_l x.1 w1) (λ u. visit_rest in_list reader below_l r u)) refl
        (λ q. rw (ih 4 x.1 w1 h) (bind_some worded Fine (below_l x.1 w1) (λ u. visit_rest (in_words m) reader below_w r u) (λ u. visit_rest in_list reader below_l r u) (visit_fine d 4 x.1 w1 h) (rest_words r)))

    node_words : (least x : ℕ) (w : Seen (List ℕ)) → Fine w → (o : Option (Node ℕ ℕ)) → IfSome (ReadAt n s x) o
        → visit_node (in_words m) reader below_w least (worded w) o ≡ on_some worded (visit_node in_list reader below_l least w o)
    node_words least x w h none p = refl
    node_words least x w h (some nd) p =
        let y = nd.slot in
        let e = p.here in
        let lo : 1 ≤ y = omega (arith, p.least) in
        let hi : y ≤ n = omega (arith, p.most) in
        let w1 : Seen (List ℕ) = record { marks = y ∷ w.marks; last = w.last } in
        let b = leb least (length nd.rest) in
        let f = free_same w.marks y lo hi in
        cond_some worded (b && is_clear (mark_words w.marks k) y) (b && eqb (occurs y w.marks) 0)
        (bind (below_w nd.first (record { marks = marked (mark_words w.marks k) y; last = w.last })) (λ u. visit_rest (in_words m) reader below_w nd.rest u))
        (bind (below_l nd.first w1) (λ u. visit_rest in_list reader below_l nd.rest u))
        (ap (λ (c : Bool). b && c) f)
        (λ q.
        let z = eqb-true (occurs y w.marks) 0 (and_both b (eqb (occurs y w.marks) 0) q).1 in
        let g : Fine w1 = within_cons n y w.marks lo hi z h in
        rw (mark_sets w.marks k y lo (omega (arith, enough)) z, ih 4 nd.first w1 g)
        (bind_some worded Fine (below_l nd.first w1) (λ u. visit_rest (in_words m) reader below_w nd.rest u) (λ u. visit_rest in_list reader below_l nd.rest u) (visit_fine d 4 nd.first w1 g) (rest_words nd.rest)))

  visit_words : (d : ℕ) → Agrees d
  visit_words zero least x w h = cond_some worded (eqb x 0) (eqb x 0) (some (worded w)) (some w) refl (λ q. refl)
  visit_words (suc d) least x w h = node_words d (visit_words d) least x w h (reader x) (read_at_lem s n x bs refl)

  -- ---- the chain

  chain_words : (us : List ℕ) (f x : ℕ) → chain (is_clear (mark_words us k)) f s x ≡ chain (λ y. eqb (occurs y us) 0) f s x
  chain_words us zero x = refl
  chain_words us (suc f) x =
      rw (test x, chain_words us f (next_free s x))
    where
      test : (x : ℕ) → (is_idle s x && is_clear (mark_words us k) x) ≡ (is_idle s x && eqb (occurs x us) 0)
      test x = by_bool (is_idle s x)
          (λ e. let i = slot_of_lem s x (and_both (is_slot s x) (same_bytes (slot_at s x) (idle (next_free s x))) e).0 in ap (λ (c : Bool). is_idle s x && c) (free_same us x i.least i.most))
          (λ e. rw e)

  -- ---- the whole

  told_lem : List ℕ → List ℕ
  told_lem us = mark_words us k

  tree_words : walk_tree (in_words m) reader s (zeros k) ≡ on_some told_lem (walk_tree in_list reader s [])
  unfolding told_lem
  tree_words =
      let w0 : Seen (List ℕ) = record { marks = []; last = none } in
      let z : record { marks = zeros k; last = none } ≡ worded w0 = λ i. record { marks = sym (marks_none k) i; last = none } in
      by_bool (eqb (root_of s) 0)
      (λ r. rw r (cond_some told_lem (eqb (depth_of s) 0) (eqb (depth_of s) 0) (some (zeros k)) (some []) refl (λ q. ap some (sym (marks_none k)))))
      (λ r. rw r (cond_some told_lem (leb (depth_of s) most_depth) (leb (depth_of s) most_depth)
      (marks_of (in_words m) reader s (visit (in_words m) reader (suc (depth_of s)) (root_least (depth_of s)) (root_of s) (record { marks = zeros k; last = none })))
      (marks_of in_list reader s (visit in_list reader (suc (depth_of s)) (root_least (depth_of s)) (root_of s) w0))
      refl
      (λ q. rw (z, visit_words (suc (depth_of s)) (root_least (depth_of s)) (root_of s) w0 (λ x. omega arith)) (marks_told (visit in_list reader (suc (depth_of s)) (root_least (depth_of s)) (root_of s) w0)))))
    where
      marks_told : (o : Option (Seen (List ℕ))) → marks_of (in_words m) reader s (on_some worded o) ≡ on_some told_lem (marks_of in_list reader s o)
      marks_told none = refl
      marks_told (some w) = refl

  tree_fine : IfSome (Within n) (walk_tree in_list reader s [])
  tree_fine =
      let w0 : Seen (List ℕ) = record { marks = []; last = none } in
      by_cond (IfSome (Within n)) (eqb (root_of s) 0)
      (λ r. by_cond (IfSome (Within n)) (eqb (depth_of s) 0) (λ d x. omega arith) (λ d. tt))
      (λ r. by_cond (IfSome (Within n)) (leb (depth_of s) most_depth)
      (λ d. go (visit in_list reader (suc (depth_of s)) (root_least (depth_of s)) (root_of s) w0) (visit_fine (suc (depth_of s)) (root_least (depth_of s)) (root_of s) w0 (λ x. omega arith)))
      (λ d. tt))
    where
      go : (o : Option (Seen (List ℕ))) → IfSome Fine o → IfSome (Within n) (marks_of in_list reader s o)
      go none h = tt
      go (some w) h = h

  free_words : (us : List ℕ) → Within n us → walk_free (in_words m) reader s (told_lem us) ≡ on_some told_lem (walk_free in_list reader s us)
  unfolding told_lem
  free_words us h =
      cond_some told_lem (fills n (all_ones (take m (mark_words us k))) (chain (is_clear (mark_words us k)) n s (first_of s))) (fills n (length us) (chain (λ y. eqb (occurs y us) 0) n s (first_of s))) (some (mark_words us k)) (some us)
      (rw (chain_words us n (first_of s), count_first n m k us needed lent h)) (λ q. refl)

  pub walk_words : walk (in_words m) reader s (zeros k) ≡ on_some (λ us. mark_words us k) (walk in_list reader s [])
  unfolding walk told_lem
  walk_words = rw tree_words (bind_some told_lem (Within n) (walk_tree in_list reader s []) (walk_free (in_words m) reader s) (walk_free in_list reader s) tree_fine free_words)
