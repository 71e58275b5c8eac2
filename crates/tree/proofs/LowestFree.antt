-- A second policy for freed slots, to show that the interface is right: the free slots in rising order, so that the first is
-- always the lowest. Every law of sets, dereferences and batches holds for it too, since all are stated for any policy; what is
-- its own is that the order is kept. Assumes nothing.
use mathlib.Core.Path.{◌≡◌, refl}
use mathlib.Core.List.{List, [], ◌∷◌}
use mathlib.Core.Bool.{cond}
use mathlib.Core.Option.{Option, none, some}
use lib.ListN.{length, drop}
use lib.Dec.{leb, eqb}
use native.Mathlib.Omega.{arith}
use borrow.Author.Tests.{leb-true, leb-false, eqb-true}
use Prim.Native.Nat.{ℕ, zero, suc, ◌+◌, ◌≤◌}
use Rattle.word.specs.Key.{Key}
use Rattle.tree.specs.Map.{Sep}
use Rattle.tree.specs.Tree.{Tree, Kid}
use Rattle.tree.specs.Free.{bit, occurs, first_free, FreePolicy, give_all, slots_from}
use Rattle.tree.specs.Remove.{Removed, dereference}
use Rattle.tree.specs.State.{State, shrink, slots_needed, Good, Store, bare, rooted, GoodStore, with_root}
use Rattle.tree.specs.Batch.{Rec, Run, runs_of}
use Rattle.tree.specs.Run.{act, onward, run_all, batch}
use Rattle.tree.proofs.Cases.{by_cond, by_bool}
use Rattle.tree.proofs.StateLaws.{set_takes, with_root_good}
use Rattle.tree.proofs.RunLaws.{ActedIf, acted}

abbrev pub slide : ℕ → List ℕ → List ℕ
slide s [] = s ∷ []
slide s (y ∷ fs) = cond (leb s y) (s ∷ y ∷ fs) (y ∷ slide s fs)

pub slide_occurs : (x s : ℕ) (fs : List ℕ) → occurs x (slide s fs) ≡ bit (eqb x s) + occurs x fs
slide_occurs x s [] = refl
slide_occurs x s (y ∷ fs) = by_cond (λ (l : List ℕ). occurs x l ≡ bit (eqb x s) + (bit (eqb x y) + occurs x fs)) (leb s y) (λ e. refl) (λ e. omega (arith, slide_occurs x s fs))

abbrev pub lowest_first : FreePolicy
lowest_first = record { give = slide; given = slide_occurs }

-- ---- the order is kept

abbrev pub AtLeast : ℕ → List ℕ → Type 0
AtLeast x [] = Unit {0}
AtLeast x (y ∷ l) = (x ≤ y) × AtLeast x l

abbrev pub Ascending : List ℕ → Type 0
Ascending [] = Unit {0}
Ascending (x ∷ l) = AtLeast x l × Ascending l

least_down : (x y : ℕ) (l : List ℕ) → x ≤ y → AtLeast y l → AtLeast x l
least_down x y [] h g = tt
least_down x y (z ∷ l) h g = (omega (arith, g.0), least_down x y l h g.1)

slide_least : (x s : ℕ) (fs : List ℕ) → x ≤ s → AtLeast x fs → AtLeast x (slide s fs)
slide_least x s [] h g = (h, tt)
slide_least x s (y ∷ fs) h g = by_cond (AtLeast x) (leb s y) (λ e. (h, g)) (λ e. (g.0, slide_least x s fs h g.1))

slide_ascends : (s : ℕ) (fs : List ℕ) → Ascending fs → Ascending (slide s fs)
slide_ascends s [] h = (tt, tt)
slide_ascends s (y ∷ fs) h = by_cond Ascending (leb s y) (λ e. let le = leb-true s y e in ((le, least_down s y fs le h.0), h))
    (λ e. (slide_least y s fs (omega (arith, leb-false s y e)) h.0, slide_ascends s fs h.1))

all_ascend : (freed fs : List ℕ) → Ascending fs → Ascending (give_all lowest_first freed fs)
all_ascend [] fs h = h
all_ascend (s ∷ freed) fs h = slide_ascends s (give_all lowest_first freed fs) (all_ascend freed fs h)

drop_ascends : (i : ℕ) (fs : List ℕ) → Ascending fs → Ascending (drop i fs)
drop_ascends zero fs h = h
drop_ascends (suc i) [] h = tt
drop_ascends (suc i) (x ∷ fs) h = drop_ascends i fs h.1

from_least : (x s m : ℕ) → x ≤ s → AtLeast x (slots_from s m)
from_least x s zero h = tt
from_least x s (suc m) h = (h, from_least x (suc s) m (omega arith))

pub formatted_ascends : (s m : ℕ) → Ascending (slots_from s m)
formatted_ascends s zero = tt
formatted_ascends s (suc m) = (from_least s (suc s) m (omega arith), formatted_ascends (suc s) m)

-- what is taken is the lowest free slot
pub takes_lowest : (x : ℕ) (fs : List ℕ) → Ascending fs → 1 ≤ occurs x fs → first_free fs ≤ x
takes_lowest x [] h g = absurd (omega arith)
takes_lowest x (y ∷ fs) h g = by_bool (eqb x y) (λ e. let same = eqb-true x y e in omega arith) (λ e. let w = rw e at g in below_lem fs h.0 (omega arith))
  where
    below_lem : (fs : List ℕ) → AtLeast y fs → 1 ≤ occurs x fs → y ≤ x
    below_lem [] a o = absurd (omega arith)
    below_lem (z ∷ fs) a o = by_bool (eqb x z) (λ e. let same = eqb-true x z e in omega (arith, a.0)) (λ e. let w = rw e at o in below_lem fs a.1 (omega arith))

-- ---- by every run

module _ {A : Type 0} where
  shrink_ascends : (d : ℕ) (n : Tree A d) (r : List (Sep A × Kid A d)) (fs : List ℕ) → Ascending fs → Ascending (shrink A lowest_first d n r fs).free
  shrink_ascends zero n r fs h = h
  shrink_ascends (suc d) n [] fs h = slide_ascends n.slot fs h
  shrink_ascends (suc d) n (x ∷ r) fs h = h

  AscendingIf : Option (State A) → Type 0
  AscendingIf none = Unit {0}
  AscendingIf (some u) = Ascending u.free

  act_ascends : (n : ℕ) (k : Key) (o : Option A) (t : State A) → Good n t → Ascending t.free → AscendingIf (act lowest_first k o t)
  unfolding AscendingIf
  act_ascends n k none t h g =
      let o : Removed (Tree A t.depth) = dereference A k (suc t.depth) t.root in
      shrink_ascends t.depth o.tree o.tree.rest (give_all lowest_first o.freed t.free) (all_ascend o.freed t.free g)
  act_ascends n k (some v) t h g = by_cond AscendingIf (leb (slots_needed k t) (length t.free))
      (λ e. rw (set_takes n (record { key = k; val = v }) t h) (drop_ascends (slots_needed k t) t.free g)) (λ e. tt)

  onward_ascends : (n : ℕ) (q : Run A) (qs : List (Run A)) (t : State A) (o : Option (State A)) → ActedIf lowest_first n q.acts.key q.acts.op t o → Ascending t.free → AscendingIf o
      → ((u : State A) → Good n u → Ascending u.free → Ascending (run_all lowest_first qs u).state.free) → Ascending (onward lowest_first (run_all lowest_first qs) q.size t o).state.free
  unfolding AscendingIf
  onward_ascends n q qs t none a g h ih = g
  onward_ascends n q qs t (some u) a g h ih = ih u a.good h

  runs_ascend : (n : ℕ) (qs : List (Run A)) (t : State A) → Good n t → Ascending t.free → Ascending (run_all lowest_first qs t).state.free
  runs_ascend n [] t h g = g
  runs_ascend n (q ∷ qs) t h g =
      let k = q.acts.key in
      let o = q.acts.op in
      onward_ascends n q qs t (act lowest_first k o t) (acted lowest_first n k o t h) g (act_ascends n k o t h g) (λ u hu gu. runs_ascend n qs u hu gu)

  abbrev pub free_of : Store A → List ℕ
  free_of (bare fs) = fs
  free_of (rooted t) = t.free

  root_ascends : (s : Store A) → Ascending (free_of s) → Ascending (with_root s).free
  root_ascends (bare fs) h = drop_ascends 1 fs h
  root_ascends (rooted t) h = h

  pub batch_ascends : (n : ℕ) (rs : List (Rec A)) (s : Store A) → 1 ≤ n → GoodStore n s → Ascending (free_of s) → Ascending (batch lowest_first rs s).state.free
  batch_ascends n rs s p h g = runs_ascend n (runs_of rs) (with_root s) (with_root_good n s p h) (root_ascends s g)
