-- A set never needs more slots than its tree has levels and two: where the free chain has so many, the set that tests the room
-- first is the set itself. Assumes nothing.
use mathlib.Core.Path.{◌≡◌, refl, sym, ◌∙◌}
use mathlib.Core.List.{List}
use mathlib.Core.Bool.{true, cond}
use mathlib.Core.Option.{Option, none, some}
use Prim.Native.Nat.{ℕ, zero, suc, ◌+◌, ◌≤◌}
use lib.ListN.{length}
use lib.Dec.{leb, eqb}
use native.Mathlib.Omega.{arith}
use Rattle.word.specs.Pick.{pick_t, pick_f}
use Rattle.word.specs.Key.{Key}
use Rattle.tree.specs.Map.{Sep}
use Rattle.tree.specs.Tree.{Node, Zip, at, below}
use Rattle.tree.proofs.Cases.{by_bool}
use Rattle.slots.specs.Layout.{root_of, depth_of, first_of}
use Rattle.slots.specs.Mirror.{is_slot}
use Rattle.slots.specs.Code.{read_node_at, has_free}
use Rattle.outcome.specs.Mirror as M
use Rattle.outcome.specs.Mirror.{Ran, is_next, on_node, insert_m, grow_m, set_m}
use Rattle.outcome.specs.RunMirror.{need_on, need_m, whole_m, slots_needed_m, Did, of_came, set_if}

-- ---- a chain of n slots has fewer too

fewer_free : (s : List ℕ) (m n x : ℕ) → m ≤ n → has_free n s x ≡ true → has_free m s x ≡ true
unfolding has_free
fewer_free s zero n x le h = refl
fewer_free s (suc m) zero x le h = absurd (omega (arith, le))
fewer_free s (suc m) (suc n) x le h = by_bool (is_slot s x)
    (λ e. pick_t _ _ e ∙ fewer_free s m n _ (omega (arith, le)) (sym (pick_t _ _ e) ∙ h))
    (λ e. pick_f _ _ e ∙ sym (pick_f _ _ e) ∙ h)

-- ---- the walk counts no more than the levels

abbrev AtMost : ℕ → Option ℕ → Type 0
AtMost b none = Unit {0}
AtMost b (some n) = n ≤ b

need_on_most : (k : Key) (rec : ℕ → ℕ → Option ℕ) (b run : ℕ) → ((c i : ℕ) → i ≤ suc run → AtMost b (rec c i)) → (o : Option (Node ℕ ℕ)) → AtMost b (need_on k rec run o)
need_on_most k rec b run h none = tt
need_on_most k rec b run h (some m) =
    let z : Zip ℕ ℕ = at (below k) m in
    by_bool (is_next k z.rgt)
    (λ e. rw e (omega arith))
    (λ e. rw e (by_bool (leb 8 (length m.rest)) (λ f. rw f (h z.mid (suc run) (omega arith))) (λ f. rw f (h z.mid 0 (omega arith)))))

need_most : (k : Key) (s : List ℕ) (b d x run : ℕ) → run + d ≤ b → AtMost b (need_m k d s x run)
need_most k s b zero x run h = omega (arith, h)
need_most k s b (suc d) x run h = need_on_most k (λ c i. need_m k d s c i) b run (λ c i le. need_most k s b d c i (omega (arith, h, le))) (read_node_at d s x)

whole_most : (top b : ℕ) → suc top ≤ b → (o : Option ℕ) → AtMost top o → AtMost b (whole_m top o)
whole_most top b le none h = tt
whole_most top b le (some r) h = by_bool (eqb r top) (λ e. rw e (omega (arith, le, h))) (λ e. rw e (omega (arith, le, h)))

-- ---- where the walk meets a bad node, the set meets it too, and has written nothing

module _ (e : Sep ℕ) (s : List ℕ) where
  abbrev spoilt : Ran
  spoilt = record { out = M.bad; store = s }

  on_spoilt : (d x run : ℕ) (need : ℕ → ℕ → Option ℕ) (set : ℕ → Ran) → ((c i : ℕ) → need c i ≡ none → set c ≡ spoilt)
      → (o : Option (Node ℕ ℕ)) → need_on e.key need run o ≡ none → on_node set e d s x o ≡ spoilt
  on_spoilt d x run need set under none h = refl
  on_spoilt d x run need set under (some m) h =
      let z : Zip ℕ ℕ = at (below e.key) m in
      by_bool (is_next e.key z.rgt)
      (λ t. let w = rw t at h in cc)
      (λ t. let w = rw t at h in rw (t, under z.mid (cond (leb 8 (length m.rest)) (suc run) 0) w))

  walk_spoilt : (d x run : ℕ) → need_m e.key d s x run ≡ none → insert_m e d s x ≡ spoilt
  walk_spoilt zero x run h = cc
  walk_spoilt (suc d) x run h = on_spoilt d x run (λ c i. need_m e.key d s c i) (λ c. insert_m e d s c) (λ c i g. walk_spoilt d c i g) (read_node_at d s x) h

  -- ---- the set

  abbrev made_of : Ran → Did
  made_of g = record { out = of_came g.out; store = g.store }

  set_spoilt : (o : Option ℕ) → need_m e.key (suc (depth_of s)) s (root_of s) 0 ≡ o → whole_m (suc (depth_of s)) o ≡ none → set_m s e ≡ spoilt
  unfolding set_m
  set_spoilt none h w = rw (walk_spoilt (suc (depth_of s)) (root_of s) 0 h)
  set_spoilt (some r) h w = cc

  set_in : (o : Option ℕ) → AtMost (depth_of s + 2) o → (o ≡ none → set_m s e ≡ spoilt) → has_free (depth_of s + 2) s (first_of s) ≡ true → set_if s e o ≡ made_of (set_m s e)
  set_in none most bad free = rw (bad refl)
  set_in (some m) most bad free = rw (fewer_free s m (depth_of s + 2) (first_of s) most free)

  pub set_with_room : has_free (depth_of s + 2) s (first_of s) ≡ true → set_if s e (slots_needed_m s e.key) ≡ made_of (set_m s e)
  unfolding slots_needed_m
  set_with_room free =
      let walk : Option ℕ = need_m e.key (suc (depth_of s)) s (root_of s) 0 in
      let most : AtMost (suc (depth_of s)) walk = need_most e.key s (suc (depth_of s)) (suc (depth_of s)) (root_of s) 0 (omega arith) in
      set_in (whole_m (suc (depth_of s)) walk) (whole_most (suc (depth_of s)) (depth_of s + 2) (omega arith) walk most) (set_spoilt walk refl) free
