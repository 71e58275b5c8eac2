-- The room test: on a store that stands for a good state the walk down counts the slots that crate `tree` says a set needs, and
-- the free chain is followed just far enough. Assumes nothing.
use mathlib.Core.Path.{◌≡◌, refl, sym, ap, ◌∙◌}
use mathlib.Core.List.{List, [], ◌∷◌}
use mathlib.Core.Bool.{Bool, true, false, cond}
use mathlib.Core.Option.{Option, some}
use Prim.Native.Nat.{ℕ, zero, suc, ◌+◌, ◌^◌, ◌<◌}
use lib.ListN.{length}
use lib.Dec.{leb, leb-zero, leb-suc-suc}
use native.Mathlib.Omega.{arith}
use borrow.Author.Tests.{lt-leb, eq-eqb, ne_eqb}
use Rattle.word.specs.Key.{Key}
use Rattle.tree.specs.Map.{Sep}
use Rattle.tree.specs.Tree.{Kid, Zip, at, below}
use Rattle.tree.specs.Free.{bit, first_free}
use Rattle.tree.specs.State.{State, slots_needed, Good}
use Rattle.tree.proofs.Cases.{by_bool}
use Rattle.tree.proofs.SetSlots.{Need, upward, needs_none, need_here, need, need_counts, need_run}
use Rattle.slots.specs.Layout.{first_of}
use Rattle.slots.specs.Mirror.{is_slot}
use Rattle.slots.specs.Stands.{label, Holds, Links, Based, StandsTree}
use Rattle.slots.proofs.StoreLaws.{based_first, based_slot, next_is_lem}
use Rattle.slots.proofs.Framing.{Within, first_within, first_free_within_lem, length_map_right}
use Rattle.slots.proofs.Building.{root_read}
use Rattle.word.specs.Pick.{pick_t, pick_f}
use Rattle.slots.specs.Code.{has_free}
use Rattle.outcome.specs.RunMirror.{need_on, need_m, whole_m, slots_needed_m}
use Rattle.btree.proofs.Natural.{at_map, next_is, is_next_map}
use Rattle.btree.proofs.AtChild.{Apart, read_at_lem, at_child, child_apart}

-- ---- the slots needed: the mirror counts downward with the run so far, `need` upward

-- what is told at a node to which a run of full ones led, by what its subtree needs
abbrev told : ℕ → Need → ℕ
told run q = cond q.splits (run + q.cost) q.cost

told_upward : (run : ℕ) (q : Need) (full : Bool) → told (cond full (suc run) 0) q ≡ told run (upward q full)
told_upward run q full = by_bool q.splits
    (λ p. by_bool full (λ f. rw (p, f) (omega arith)) (λ f. rw (p, f) (omega arith)))
    (λ p. rw p (omega arith))

need_here_is : {C : Type 0} (k : Key) (q : Need) (full : Bool) (r : List (Sep ℕ × C)) → need_here k q full r ≡ cond (next_is k r) needs_none (upward q full)
need_here_is k q full [] = refl
need_here_is k q full (y ∷ r) = refl

module _ (n root depth : ℕ) (small : n < 2 ^ 32) (k : Key) (s fs : List ℕ) where
  needs : (d run : ℕ) (t : Kid ℕ d) → Based n root depth s fs → Holds s d t → Apart n d t fs → need_m k d s (label d t) run ≡ some (told run (need ℕ k d t))
  needs zero run t b h a = ap some (omega arith)
  needs (suc d) run m b h a =
      let p : Sep ℕ → Bool = below k in
      let z : Zip ℕ (Kid ℕ d) = at p m in
      let here = at_child n root depth small d p s fs m b h a in
      let full : Bool = leb 8 (length m.rest) in
      let on : ℕ = cond full (suc run) 0 in
      let ih = needs d on z.mid b here.kids.here (child_apart n root depth small d s fs m.slot z.lft z.mid z.rgt here) in
      let rec : ℕ → ℕ → Option ℕ = λ (c i : ℕ). need_m k d s c i in
      ap (need_on k rec run) (read_at_lem n root depth small d s fs m b h.0 (λ v. omega (arith, a v)))
      ∙ rw (at_map (label d) p m, is_next_map (label d) k z.rgt, length_map_right (label d) m.rest, need_here_is k (need ℕ k d z.mid) full z.rgt)
      (by_bool (next_is k z.rgt) (λ e. rw e) (λ e. rw e (ih ∙ ap some (told_upward run (need ℕ k d z.mid) full))))

-- a run that ends below the top is shorter than the levels are many
need_less : (k : Key) (d : ℕ) (t : Kid ℕ d) → (need ℕ k d t).splits ≡ false → (need ℕ k d t).cost < d
need_less k zero t e = absurd (let w : ◌≡◌ {A = ℕ} 0 1 = cc in omega arith)
need_less k (suc d) m e =
    let z : Zip ℕ (Kid ℕ d) = at (below k) m in
    go (need ℕ k d z.mid) (leb 8 (length m.rest)) (need_run ℕ k d z.mid) (need_less k d z.mid) (next_is k z.rgt)
    (need_here_is k (need ℕ k d z.mid) (leb 8 (length m.rest)) z.rgt) e
  where
    go : (q : Need) (full : Bool) → (q.splits ≡ true → q.cost ≡ d) → (q.splits ≡ false → q.cost < d) → (found : Bool) → {w : Need} → w ≡ cond found needs_none (upward q full) → w.splits ≡ false → w.cost < suc d
    go q full run less true is e = rw is (omega arith)
    go q full run less false is e = rw is (by_bool q.splits
        (λ p. by_bool full (λ f. absurd (let w = rw (is, p, f) at e in let v : ◌≡◌ {A = ℕ} 0 1 = cc in omega arith)) (λ f. rw (p, f) (omega (arith, run p))))
        (λ p. rw p (omega (arith, less p))))

whole_is : (d : ℕ) (q : Need) → (q.splits ≡ true → q.cost ≡ d) → (q.splits ≡ false → q.cost < d) → whole_m d (some (told 0 q)) ≡ some (q.cost + bit q.splits)
whole_is d q run less = by_bool q.splits
    (λ p. rw (p, eq-eqb (0 + q.cost) d (omega (arith, run p))) (ap some (omega arith)))
    (λ p. rw (p, ne_eqb q.cost d (omega (arith, less p))) (ap some (omega arith)))

-- ---- the free chain

no_slot : (s : List ℕ) → is_slot s 0 ≡ false
unfolding is_slot
no_slot s = refl

module _ (n root depth : ℕ) (small : n < 2 ^ 32) (s gs : List ℕ) (b : Based n root depth s gs) where
  chain_has : (m x : ℕ) (fs : List ℕ) → Links s fs → Within n fs → x ≡ first_free fs → has_free m s x ≡ leb m (length fs)
  unfolding has_free
  chain_has zero x fs h a e = sym (leb-zero (length fs))
  chain_has (suc m) x [] h a e = rw e (pick_f _ _ (no_slot s) ∙ sym (lt-leb (suc m) 0 (omega arith)))
  chain_has (suc m) x (y ∷ fs) h a e =
      let i = first_within n y fs (a y) in
      let is = based_slot n root depth s gs b small y i.0 i.1 in
      let next = first_free_within_lem n fs (λ v. omega (arith, a v)) in
      let go = chain_has m (first_free fs) fs h.1 (λ v. omega (arith, a v)) refl in
      rw (e, leb-suc-suc m (length fs)) (pick_t _ _ is ∙ ap (has_free m s) (next_is_lem s y (first_free fs) is h.0 (omega arith)) ∙ go)

-- ---- a whole store

module _ (n : ℕ) (small : n < 2 ^ 32) (s : List ℕ) (t : State ℕ) (st : StandsTree n s t) (gd : Good n t) where
  pub slots_needed_lem : (k : Key) → slots_needed_m s k ≡ some (slots_needed k t)
  unfolding slots_needed_m
  slots_needed_lem k =
      let d : ℕ = t.depth in
      let r = root_read n s t small st gd in
      rw (r.root, r.depth, needs n t.root.slot d small k s t.free (suc d) 0 t.root st.base st.tree (λ v. omega (arith, gd.once v)), need_counts ℕ k t)
      (whole_is (suc d) (need ℕ k (suc d) t.root) (need_run ℕ k (suc d) t.root) (need_less k (suc d) t.root))

  pub has_free_lem : (m : ℕ) → has_free m s (first_of s) ≡ leb m (length t.free)
  has_free_lem m =
      let a : Within n t.free = λ v. omega (arith, gd.once v) in
      let low = first_free_within_lem n t.free a in
      chain_has n t.root.slot t.depth small s t.free st.base m (first_of s) t.free st.base.links a
      (based_first n t.root.slot t.depth s t.free st.base (omega arith))
