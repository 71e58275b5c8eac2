-- A removal from the whole store: from bytes that stand for a good state the mirror of `on_existing` at the root, and the root's
-- giving way, leave bytes that stand for the state that the dereference makes. Assumes nothing.
use mathlib.Core.Path.{◌≡◌, refl, subst, ◌∙◌}
use mathlib.Core.List.{List, [], ◌∷◌}
use Prim.Native.Nat.{ℕ, zero, suc, ◌+◌, ◌^◌, ◌≤◌, ◌<◌}
use lib.Dec.{eqb}
use native.Mathlib.Omega.{arith}
use Rattle.word.specs.Key.{Key}
use Rattle.tree.specs.Map.{Sep}
use Rattle.tree.specs.Tree.{Kid, Tree, slots}
use Rattle.tree.specs.Free.{bit, occurs, stack, give_all}
use Rattle.tree.specs.Remove.{Removed, dereference}
use Rattle.tree.specs.State.{State, shrink, dereference_state, root_least, Good}
use Rattle.tree.proofs.Slots.{occurs_append, in_store_le, give_all_occurs}
use Rattle.tree.proofs.RemoveShape.{root_least_le}
use Rattle.tree.proofs.StateLaws.{dereference_good}
use Rattle.slots.specs.Limits.{most_slots}
use Rattle.slots.specs.Layout.{slot_at}
use Rattle.slots.specs.Mirror.{free_slot, set_root}
use Rattle.slots.specs.Stands.{Holds, Based, StandsTree}
use Rattle.slots.proofs.Framing.{OnlyAt, holds_frame, free_slot_lem, set_root_lem}
use Rattle.slots.proofs.Building.{root_read}
use Rattle.outcome.specs.RemoveMirror.{Fell, bad, fine, low, Lost, remove_m, shrink_m, remove_key_m}
use Rattle.btree.proofs.AtChild.{Apart, read_at_lem}
use Rattle.btree.proofs.Pair.{Tells}
use Rattle.btree.proofs.RemoveWalk.{remove_walk, along_remove}
use Rattle.btree.proofs.Remove.{removed_root}

-- ---- "A root left with no separator and a child 0 is freed and replaced by it."

-- the store u, where only slot x may be written, becomes one that stands for t
record Shrunk (n x : ℕ) (u : List ℕ) (t : State ℕ) (g : Lost) : Type 0 where
  out : g.out ≡ fine
  stands : StandsTree n g.store t
  other : OnlyAt u g.store x

module _ (n : ℕ) (small : n < 2 ^ 32) (x : ℕ) (u gs : List ℕ) where
  -- the root has slot x, the first child c and then r
  shrunk : (d : ℕ) (c : Kid ℕ d) (r : List (Sep ℕ × Kid ℕ d)) (o : Fell)
      → let m : Tree ℕ d = record { slot = x; first = c; rest = r } in
      Based n x d u gs → Holds u (suc d) m → Apart n (suc d) m gs → Tells (root_least d) (suc d) m o → Shrunk n x u (shrink ℕ stack d m r gs) (shrink_m x d u o)
  shrunk d c r bad b h a t = absurd t
  shrunk zero c r fine b h a t = record { out = refl; stands = record { base = b; tree = h }; other = λ v q. refl }
  shrunk zero c r low b h a t = record { out = refl; stands = record { base = b; tree = h }; other = λ v q. refl }
  shrunk (suc d) c [] fine b h a t = absurd (omega arith)
  shrunk (suc d) c (y ∷ r) fine b h a t = record { out = refl; stands = record { base = b; tree = h }; other = λ v q. refl }
  shrunk (suc d) c (y ∷ r) low b h a t =
      rw (read_at_lem n x (suc d) small (suc d) u gs (record { slot = x; first = c; rest = y ∷ r }) b h.0 (λ v. omega (arith, a v)))
      (record { out = refl; stands = record { base = b; tree = h }; other = λ v q. refl })
  shrunk (suc d) c [] low b h a t =
      let s1 : List ℕ = free_slot u x in
      let f = free_slot_lem n x (suc d) small u gs x b (λ v. omega (arith, a v)) in
      let q = set_root_lem n x (suc d) small s1 (x ∷ gs) c.slot d f.base in
      let keep : OnlyAt u (set_root s1 c.slot d) x = λ v e. q.slots v ∙ f.other v e in
      let below : (v : ℕ) → occurs v (slots ℕ (suc (suc d)) (record { slot = x; first = c; rest = [] })) ≡ bit (eqb v x) + occurs v (slots ℕ (suc d) c) =
      λ v. omega (arith, occurs_append v (slots ℕ (suc d) c) []) in
      rw (read_at_lem n x (suc d) small (suc d) u gs (record { slot = x; first = c; rest = [] }) b h.0 (λ v. omega (arith, a v)))
      (record {
        out = refl;
        stands = record { base = q.base; tree = holds_frame u (set_root s1 c.slot d) (suc d) c (λ v e. keep v (omega (arith, a v, below v, in_store_le n v))) h.1 };
        other = keep;
      })

-- ---- the whole store

-- Only slots on the walk and their neighbours are written, the old root's slot among them.
pub record KeyRemoved (n : ℕ) (s : List ℕ) (t : State ℕ) (k : Key) : Type 0 where
  pub out : (remove_key_m s k).out ≡ fine
  pub stands : StandsTree n (remove_key_m s k).store (dereference_state stack k t)
  pub good : Good n (dereference_state stack k t)
  pub frame : (v : ℕ) → occurs v (remove_walk k (suc t.depth) t.root) ≡ 0 → slot_at (remove_key_m s k).store v ≡ slot_at s v

pub removes : (n : ℕ) (s : List ℕ) (t : State ℕ) (k : Key) → n ≤ most_slots → StandsTree n s t → Good n t → KeyRemoved n s t k
removes n s t k lim st gd =
    let small : n < 2 ^ 32 = omega arith in
    let d : ℕ = t.depth in
    let x : ℕ = t.root.slot in
    let o : Removed (Tree ℕ d) = dereference ℕ k (suc d) t.root in
    let g : Lost = remove_m k (suc d) s x in
    let gs : List ℕ = give_all stack o.freed t.free in
    let read = root_read n s t small st gd in
    let e : remove_key_m s k ≡ shrink_m x d g.store g.out = unfold remove_key_m in rw (read.root, read.depth) in
    let q = removed_root n x d small k (root_least d) d s t.free t.root (omega (arith, root_least_le d)) gd.shape.least gd.shape st.base st.tree (λ v. omega (arith, gd.once v)) in
    let w : Shrunk n x g.store (dereference_state stack k t) (shrink_m x d g.store g.out) =
    subst (λ (i : ℕ). Shrunk n i g.store (dereference_state stack k t) (shrink_m i d g.store g.out)) q.same
    (shrunk n small o.tree.slot g.store gs d o.tree.first o.tree.rest g.out
    (rw q.same q.base) q.tree (λ v. omega (arith, gd.once v, q.count v, give_all_occurs stack v o.freed t.free)) q.tells) in
    record {
      out = rw e w.out;
      stands = rw e w.stands;
      good = dereference_good stack n k t gd;
      frame = λ v i. rw e (w.other v (omega (arith, (along_remove k (suc d) t.root).own v)) ∙ q.frame v i);
    }
