-- A set on a whole store: from bytes that stand for a good state, with room, the mirror leaves bytes that stand for the state
-- that crate `tree` gives, and every slot that is neither on the walk nor newly taken keeps its bytes. Assumes nothing.
use mathlib.Core.Path.{◌≡◌, refl, sym, subst, ◌∙◌}
use mathlib.Core.List.{List, [], ◌∷◌}
use mathlib.Core.Bool.{true}
use Prim.Native.Nat.{ℕ, suc, ◌^◌, ◌≤◌, ◌<◌}
use lib.ListN.{length}
use native.Mathlib.Omega.{arith}
use borrow.Author.Tests.{lt-leb, ne_eqb}
use Rattle.tree.specs.Map.{Sep}
use Rattle.tree.specs.Tree.{Tree}
use Rattle.tree.specs.Free.{occurs}
use Rattle.tree.specs.Set.{Parts, one, two, Placed, set}
use Rattle.tree.specs.State.{State, grow, set_state, slots_needed, root_least, Good}
use Rattle.tree.proofs.SetSlots.{need, need_counts, is_two, set_root_took}
use Rattle.tree.proofs.StateLaws.{set_good, took_free}
use Rattle.tree.proofs.Depth.{depth_7}
use Rattle.node.specs.Chain.{Fit}
use Rattle.slots.specs.Limits.{most_slots}
use Rattle.slots.specs.Layout.{slot_at}
use Rattle.slots.specs.Mirror.{write_node, Took, take_slot, set_root}
use Rattle.slots.specs.Stands.{label, map_node, Holds, Based, StandsTree}
use Rattle.slots.proofs.Framing.{holds_frame, put_tree, take_slot_lem, set_root_lem}
use Rattle.slots.proofs.Building.{root_read}
use Rattle.outcome.specs.Mirror.{plain, Ran, insert_m, new_root, grow_m, set_m}
use Rattle.btree.proofs.AtChild.{Apart}
use Rattle.btree.proofs.Place.{Done}
use Rattle.btree.proofs.InsertWalk.{walk, inserted_root}

module _ (n : ℕ) where
  -- the store s with the free slots fs stands for u now; slots changed only among ws and those that were taken
  pub record Stood (ws s fs : List ℕ) (u : State ℕ) (g : Ran) : Type 0 where
    pub out : g.out ≡ plain
    pub stands : StandsTree n g.store u
    pub frame : (v : ℕ) → occurs v ws ≡ 0 → occurs v fs ≤ occurs v u.free → slot_at g.store v ≡ slot_at s v

module _ (n : ℕ) (small : n < 2 ^ 32) (d x : ℕ) (low : x ≤ n) where
  -- "the new root last": above the two halves a and b of the old one
  root_above : (a b : Tree ℕ d) (y : Sep ℕ) (z : ℕ) (gs s : List ℕ) → Based n x d s (z ∷ gs) → Holds s (suc d) a × Holds s (suc d) b → Fit y × (b.slot < 2 ^ 64) → a.slot ≡ x
      → Apart n (suc (suc d)) (record { slot = z; first = a; rest = (y, b) ∷ [] }) gs
      → Stood n [] s (z ∷ gs) (record { depth = suc d; root = record { slot = z; first = a; rest = (y, b) ∷ [] }; free = gs }) (new_root x d y b.slot (take_slot s))
  root_above a b y z gs s bs h f e ap1 =
      let m : Tree ℕ (suc d) = record { slot = z; first = a; rest = (y, b) ∷ [] } in
      let k = take_slot_lem n x d small s z gs bs (λ v. omega (arith, ap1 v)) in
      let s1 : List ℕ = (take_slot s).store in
      let s2 : List ℕ = write_node s1 (map_node (label (suc d)) m) in
      let p = put_tree n x d small s1 gs (suc d) m k.base (record {
        first = holds_frame s s1 (suc d) a (λ v q. k.slots v) h.0;
        rest = (holds_frame s s1 (suc d) b (λ v q. k.slots v) h.1, tt);
        fine = record { first = rw e (omega arith); rest = (f.0, f.1, tt); most = omega arith };
      }) ap1 in
      let w = set_root_lem n x d small s2 gs z (suc d) p.base in
      let is : take_slot s ≡ record { slot = z; store = s1 } = λ j. record { slot = k.slot j; store = s1 } in
      subst (λ (v : Took). Stood n [] s (z ∷ gs) (record { depth = suc d; root = m; free = gs }) (new_root x d y b.slot v)) (sym is)
      (rw (ne_eqb z 0 (omega (arith, k.least)), ← e) (record {
        out = refl;
        stands = record { base = w.base; tree = holds_frame s2 (set_root s2 z (suc d)) (suc (suc d)) m (λ v q. w.slots v) p.tree };
        frame = λ v q g. w.slots v ∙ p.other v (omega arith) ∙ k.slots v;
      }))

  grown_lem : (ws s fs : List ℕ) (o : Parts ℕ (Tree ℕ d)) (gs : List ℕ) (g : Ran) → Done n x d ws x (suc d) s fs (record { parts = o; free = gs }) g
      → (is_two o ≡ true → 0 < length gs) → (is_two o ≡ true → d < 7) → (let u : State ℕ = grow ℕ d gs o in Apart n (suc u.depth) u.root u.free)
      → Stood n ws s fs (grow ℕ d gs o) (grow_m x d g.store g.out)
  grown_lem ws s fs (one m) gs g q f deep ap1 = rw q.out (record { out = refl; stands = record { base = rw q.same q.base; tree = q.holds }; frame = q.frame })
  grown_lem ws s fs (two a y b) [] g q f deep ap1 = absurd (omega (arith, f refl))
  grown_lem ws s fs (two a y b) (z ∷ gs) g q f deep ap1 =
      let r = root_above a b y z gs g.store q.base q.holds q.fit q.same ap1 in
      rw (q.out, lt-leb 7 d (deep refl)) (record {
        out = r.out;
        stands = r.stands;
        frame = λ v w k. r.frame v refl (omega (arith, q.fewer v)) ∙ q.frame v w (omega arith);
      })

grow_depth : (d : ℕ) (fs : List ℕ) (o : Parts ℕ (Tree ℕ d)) → is_two o ≡ true → (grow ℕ d fs o).depth ≡ suc d
grow_depth d fs (one m) q = cc
grow_depth d fs (two a y b) q = refl

pub record WasSet (n : ℕ) (s : List ℕ) (t : State ℕ) (e : Sep ℕ) (g : Ran) : Type 0 where
  pub out : g.out ≡ plain
  pub stands : StandsTree n g.store (set_state e t)
  pub good : Good n (set_state e t)
  -- "Every slot that is not on the walk .. and not newly taken keeps all its bytes"
  pub frame : (v : ℕ) → occurs v (walk e.key (suc t.depth) t.root) ≡ 0 → occurs v t.free ≤ occurs v (set_state e t).free → slot_at g.store v ≡ slot_at s v

pub set_stands : (n : ℕ) → n ≤ most_slots → (s : List ℕ) (t : State ℕ) (e : Sep ℕ) → Fit e → StandsTree n s t → Good n t → slots_needed e.key t ≤ length t.free → WasSet n s t e (set_m s e)
unfolding set_m
set_stands n lim s t e fe st gd room =
    let d : ℕ = t.depth in
    let x : ℕ = t.root.slot in
    let fs = t.free in
    let small : n < 2 ^ 32 = omega arith in
    let o : Placed ℕ (Tree ℕ d) = set ℕ e (suc d) t.root fs in
    let g : Ran = insert_m e (suc d) s x in
    let r = root_read n s t small st gd in
    let j = rw (need_counts ℕ e.key t) at room in
    let two-free = took_free (need ℕ e.key (suc d) t.root) fs o (set_root_took e d (root_least d) t.root fs gd.shape) j in
    let new = set_good n e t gd room in
    let done = inserted_root n x d small e fe d (root_least d) s fs t.root gd.shape (record { base = st.base; holds = st.tree; apart = λ v. omega (arith, gd.once v); room = omega (arith, j) }) in
    let w = grown_lem n small d x r.most (walk e.key (suc d) t.root) s fs o.parts o.free g done two-free
    (λ q. omega (arith, depth_7 n (set_state e t) new lim, grow_depth d o.free o.parts q)) (λ v. omega (arith, new.once v)) in
    rw (r.root, r.depth) (record { out = w.out; stands = w.stands; good = new; frame = w.frame })
