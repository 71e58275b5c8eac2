-- The walk passes exactly if the store is audited, and then its marks are the reached slots, each once; marks are kept as a list of
-- slots. Assumes nothing.
use mathlib.Core.Path.{◌≡◌, refl, sym, ap, subst, ◌∙◌}
use mathlib.Core.List.{List, [], ◌∷◌, ◌++◌}
use mathlib.Core.Bool.{Bool, true, false}
use mathlib.Core.Option.{Option, none, some}
use Prim.Native.Nat.{ℕ, suc, ◌+◌, ◌^◌, ◌≤◌, ◌<◌}
use lib.ListN.{length, length-append}
use lib.Dec.{leb, eqb}
use native.Mathlib.Omega.{arith}
use borrow.Author.Tests.{leb-true, leb-false, le-leb, eqb-true, eq-eqb, ne_eqb}
use Rattle.word.specs.Num.{Bytes}
use Rattle.tree.specs.Tree.{slots, read, none_of, entries}
use Rattle.tree.specs.Free.{occurs, in_store, first_free}
use Rattle.tree.specs.State.{State, root_least, used_slots, Store, bare, rooted, GoodStore}
use Rattle.tree.proofs.Cases.{by_cond, by_bool}
use Rattle.tree.proofs.Slots.{occurs_append, in_store_le}
use Rattle.slots.specs.Limits.{most_slots, most_depth}
use Rattle.slots.specs.Layout.{header, root_of, depth_of, count_of, first_of, is_store}
use Rattle.slots.specs.Stands.{Links, Based, Stands, Audited}
use Rattle.slots.proofs.HeaderLaws.{Sized, sized_lem, header_is}
use Rattle.slots.proofs.Framing.{Within, first_within}
use Rattle.slots.proofs.Building.{IfSome}
use Rattle.slots.proofs.AuditedLaws.{store_root, store_depth, store_used, store_free, good_depth, audited_count, audited_root, audited_depth, audited_first}
use Rattle.slots.specs.Reached.{reached}
use Rattle.slots.proofs.Reached.{audited_reached}
use Rattle.audit.specs.Walk.{in_list, Seen, bind, read_written, visit, chain, fills, marks_of, walk_tree, walk_free, walk}
use Rattle.audit.proofs.ChainLaws.{all_in, links_within, AllFree, Walked, chain_sound, chain_complete, all_there, all_length}
use Rattle.audit.proofs.VisitLaws.{Saw, visit_sound, visit_complete, after, after_marks, from_rising, rising_from}

-- ---- the chain and the marked slots

abbrev unmarked : List ℕ → ℕ → Bool
unmarked us x = eqb (occurs x us) 0

free_apart : (us fs : List ℕ) → AllFree (unmarked us) fs → (x : ℕ) → 1 ≤ occurs x fs → occurs x us ≡ 0
free_apart us [] h x k = absurd (omega arith)
free_apart us (y ∷ fs) h x k =
    by_bool (eqb x y) (λ e. rw (eqb-true x y e) (eqb-true (occurs y us) 0 h.0)) (λ e. free_apart us fs h.1 x (omega (arith, rw e at k)))

apart_free : (us fs : List ℕ) → ((x : ℕ) → 1 ≤ occurs x fs → occurs x us ≡ 0) → AllFree (unmarked us) fs
apart_free us [] h = tt
apart_free us (y ∷ fs) h = (eq-eqb (occurs y us) 0 (h y (rw (eq-eqb y y refl) (omega arith))), apart_free us fs (λ x k. h x (omega arith)))

-- the slots us and a chain that fills the store beside them
record Filled (s us : List ℕ) : Type 0 where
  free : List ℕ
  links : Links s free
  first : first_free free ≡ first_of s
  once : (x : ℕ) → occurs x us + occurs x free ≡ in_store (count_of s) x

no_way : false ≡ true → ⊥
no_way e = let k : ◌≡◌ {A = ℕ} 0 1 = cc in omega arith

module _ (s : List ℕ) (small : count_of s < 2 ^ 32) where
  filled_lem : (us : List ℕ) → Within (count_of s) us → fills (count_of s) (length us) (chain (unmarked us) (count_of s) s (first_of s)) ≡ true → Filled s us
  filled_lem us a h = go (chain (unmarked us) (count_of s) s (first_of s)) (chain_sound (count_of s) s (unmarked us) refl (count_of s) (first_of s)) h
    where
      go : (o : Option (List ℕ)) → IfSome (Walked (count_of s) s (unmarked us) (first_of s)) o → fills (count_of s) (length us) o ≡ true → Filled s us
      go none p h = absurd (no_way h)
      go (some fs) p h =
          let w = links_within (count_of s) small s fs p.slots p.links in
          let both : Within (count_of s) (us ++ fs) = λ x. rw (occurs_append x us fs) (sum x (free_apart us fs p.free x) (a x) (w x)) in
          let len : length (us ++ fs) ≡ count_of s = length-append us fs ∙ eqb-true (length us + length fs) (count_of s) h in
          record { free = fs; links = p.links; first = p.first; once = λ x. sym (occurs_append x us fs) ∙ all_there (count_of s) (us ++ fs) both len x }
        where
          sum : (x : ℕ) → (1 ≤ occurs x fs → occurs x us ≡ 0) → occurs x us ≤ in_store (count_of s) x → occurs x fs ≤ in_store (count_of s) x → occurs x us + occurs x fs ≤ in_store (count_of s) x
          sum x f k j = by_bool (leb 1 (occurs x fs)) (λ e. omega (arith, f (leb-true 1 (occurs x fs) e))) (λ e. omega (arith, leb-false 1 (occurs x fs) e))

  fills_true : (r d : ℕ) (us fs : List ℕ) → Based (count_of s) r d s fs → first_of s ≡ first_free fs → ((x : ℕ) → occurs x us + occurs x fs ≡ in_store (count_of s) x)
      → fills (count_of s) (length us) (chain (unmarked us) (count_of s) s (first_of s)) ≡ true
  fills_true r d us fs b e h =
      let n = count_of s in
      let a : Within n fs = λ x. omega (arith, h x) in
      let len : length us + length fs ≡ n = sym (length-append us fs) ∙ all_length n (us ++ fs) (λ x. occurs_append x us fs ∙ h x) in
      let c : chain (unmarked us) n s (first_of s) ≡ some fs =
      ap (chain (unmarked us) n s) e
      ∙ chain_complete n s (unmarked us) r d fs small b n fs b.links (all_in n fs a) (apart_free us fs (λ x k. omega (arith, h x, in_store_le n x))) (omega arith) in
      rw (c, eq-eqb (length us + length fs) n len)

-- ---- sound

-- the store is audited, and us are its reached slots, each once
pub record PassedWith (s us : List ℕ) : Type 0 where
  pub audited : Audited s
  pub same : (x : ℕ) → occurs x us ≡ occurs x (reached s)

module _ (s : List ℕ) (bs : Bytes s) (is : is_store s ≡ true) where
  z : Sized s
  z = sized_lem s is

  small : count_of s < 2 ^ 32
  small = let m = z.most in omega arith

  based : (fs : List ℕ) → Links s fs → first_free fs ≡ first_of s → Based (count_of s) (root_of s) (depth_of s) s fs
  based fs l e = let k = z.size in record { size = z.size; head = header_is s bs (omega arith) z.zero ∙ ap (header (root_of s) (depth_of s) (count_of s)) (sym e); links = l }

  pass : (us : List ℕ) (st : Store ℕ) → Stands (count_of s) s st → GoodStore (count_of s) st → ((x : ℕ) → occurs x us ≡ occurs x (store_used st)) → PassedWith s us
  pass us st p g e =
      let h : Audited s = record { count = count_of s; least = z.least; most = z.most; store = st; stands = p; good = g } in
      record { audited = h; same = λ x. e x ∙ ap (occurs x) (sym (audited_reached s h)) }

  -- the marks with which a chain is right
  abbrev Finishes : List ℕ → Type 0
  Finishes us = Within (count_of s) us × (Filled s us → PassedWith s us)

  finish : (o : Option (List ℕ)) → IfSome Finishes o → IfSome (PassedWith s) (bind o (walk_free in_list (read_written s) s))
  finish none h = tt
  finish (some us) h =
      by_cond (IfSome (PassedWith s)) (fills (count_of s) (length us) (chain (unmarked us) (count_of s) s (first_of s))) (λ q. h.1 (filled_lem s small us h.0 q)) (λ q. tt)

  abbrev first : Seen (List ℕ)
  first = record { marks = []; last = none }

  tree_finishes : (o : Option (Seen (List ℕ))) → IfSome (Saw (count_of s) s (root_least (depth_of s)) (suc (depth_of s)) (root_of s) first) o → IfSome Finishes (marks_of in_list (read_written s) s o)
  tree_finishes none p = tt
  tree_finishes (some u) p = (
    p.within,
    λ f.
        let d = depth_of s in
        let t : State ℕ = record { depth = d; root = p.tree; free = f.free } in
        let mk : (x : ℕ) → occurs x u.marks ≡ occurs x (used_slots t) = λ x. ap (λ (y : Seen (List ℕ)). occurs x y.marks) p.left ∙ after_marks x (suc d) p.tree first ∙ omega arith in
        pass u.marks (rooted t)
        (record { base = subst (λ (r : ℕ). Based (count_of s) r d s f.free) (sym p.slot) (based f.free f.links f.first); tree = p.holds })
        (record { rising = from_rising none (entries ℕ (suc d) p.tree) p.rises; shape = p.shape; once = λ x. rw (← mk x) (f.once x) })
        mk,
  )

  bare_finishes : root_of s ≡ 0 → depth_of s ≡ 0 → Finishes []
  bare_finishes r d = (
    (λ x. omega arith),
    λ f.
        pass [] (bare f.free)
        (subst (λ (d : ℕ). Based (count_of s) 0 d s f.free) d (subst (λ (r : ℕ). Based (count_of s) r (depth_of s) s f.free) r (based f.free f.links f.first)))
        (λ x. omega (arith, f.once x)) (λ x. refl),
  )

  pub walk_sound : IfSome (PassedWith s) (walk in_list (read_written s) s [])
  unfolding walk
  walk_sound = finish (walk_tree in_list (read_written s) s [])
      (by_cond (IfSome Finishes) (eqb (root_of s) 0)
      (λ r. by_cond (IfSome Finishes) (eqb (depth_of s) 0) (λ d. bare_finishes (eqb-true (root_of s) 0 r) (eqb-true (depth_of s) 0 d)) (λ d. tt))
      (λ r. by_cond (IfSome Finishes) (leb (depth_of s) most_depth)
      (λ d. tree_finishes (visit in_list (read_written s) (suc (depth_of s)) (root_least (depth_of s)) (root_of s) first) (visit_sound (count_of s) s bs refl (suc (depth_of s)) (root_least (depth_of s)) (root_of s) first (λ x. omega arith)))
      (λ d. tt)))

-- ---- complete

module _ (s : List ℕ) where
  finished_lem : (r d : ℕ) (us fs : List ℕ) → count_of s < 2 ^ 32 → Based (count_of s) r d s fs → first_of s ≡ first_free fs → ((x : ℕ) → occurs x us + occurs x fs ≡ in_store (count_of s) x)
      → walk_tree in_list (read_written s) s [] ≡ some us → walk in_list (read_written s) s [] ≡ some us
  unfolding walk
  finished_lem r d us fs small b e h w = rw (w, fills_true s small r d us fs b e h)

  store_walks : (n : ℕ) (st : Store ℕ) → n ≤ most_slots → count_of s ≡ n → root_of s ≡ store_root st → depth_of s ≡ store_depth st → first_of s ≡ first_free (store_free st) → Stands n s st → GoodStore n st
      → (us : List ℕ) × (walk in_list (read_written s) s [] ≡ some us)
  store_walks n (bare fs) most c r d f p g =
      let w : walk_tree in_list (read_written s) s [] ≡ some [] = rw (r, d) in
      ([], finished_lem 0 0 [] fs (omega arith) (rw c p) f (λ x. rw c (omega (arith, g x))) w)
  store_walks n (rooted t) most c r d f p g =
      let e = t.depth in
      let w0 : Seen (List ℕ) = record { marks = []; last = none } in
      let us = (after (suc e) t.root w0).marks in
      let i = first_within n t.root.slot (read none_of (slots ℕ e) t.root) (omega (arith, g.once t.root.slot)) in
      let am : (x : ℕ) → occurs x us ≡ occurs x (used_slots t) = λ x. after_marks x (suc e) t.root w0 ∙ omega arith in
      let v = visit_complete n t.root.slot e (omega arith) s t.free p.base e (root_least e) t.root w0 p.tree g.shape (rising_from (entries ℕ (suc e) t.root) g.rising) (λ x. omega (arith, am x, g.once x)) in
      let w : walk_tree in_list (read_written s) s [] ≡ some us = rw (r, d, ne_eqb t.root.slot 0 (omega (arith, i.0)), le-leb e most_depth (good_depth n (rooted t) most g), v) in
      (us, finished_lem t.root.slot e us t.free (omega arith) (rw c p.base) f (λ x. rw c (omega (arith, am x, g.once x))) w)

  pub walk_complete : Audited s → (us : List ℕ) × (walk in_list (read_written s) s [] ≡ some us)
  walk_complete h = store_walks h.count h.store h.most (audited_count s h) (audited_root s h) (audited_depth s h) (audited_first s h) h.stands h.good
