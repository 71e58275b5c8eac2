-- One run and all runs on a store that stands for a good state: the mirrors answer and leave what crate `tree`'s `act` and
-- `run_all` say, never "bad", and where there is no room no byte has changed since the last finished run. And the first root.
-- Assumes nothing.
use mathlib.Core.Path.{◌≡◌, refl, sym, ap, subst, ◌∙◌}
use mathlib.Core.List.{List, [], ◌∷◌}
use mathlib.Core.Option.{Option, none, some}
use Prim.Native.Nat.{ℕ, suc, ◌+◌, ◌^◌, ◌≤◌, ◌<◌}
use lib.ListN.{length}
use lib.Dec.{leb, compare_is_eq}
use native.Mathlib.Omega.{arith}
use borrow.Author.Tests.{leb-true, le-leb}
use Rattle.word.specs.Key.{Key, cmp}
use Rattle.tree.specs.Free.{occurs, stack}
use Rattle.tree.specs.State.{State, slots_needed, Good, Store, GoodStore, with_root}
use Rattle.tree.specs.Batch.{Rec, Run, with_run, runs_of}
use Rattle.tree.specs.Run.{Answer, applied, counted_too, Outcome, act, onward, run_all, batch}
use Rattle.tree.specs.Run as T
use Rattle.tree.proofs.Cases.{by_bool, by_cond}
use Rattle.tree.proofs.StateLaws.{with_root_good}
use Rattle.tree.proofs.Depth.{depth_7}
use Rattle.tree.proofs.BatchLaws.{sizes, runs_sizes}
use Rattle.node.specs.Chain.{Fit}
use Rattle.slots.specs.Limits.{most_slots, most_depth}
use Rattle.slots.specs.Layout.{slot_at}
use Rattle.slots.specs.Stands.{StandsTree, Stands}
use Rattle.slots.proofs.Building.{root_read}
use Rattle.slots.proofs.FormatLaws.{first_root, first_root_stands_lem}
use Rattle.outcome.specs.RunMirror.{Acted, done, no_room, Did, of_came, of_fell, act_on, act_m, Ended, onward_m, run_all_m, start_m}
use Rattle.btree.proofs.InsertWalk.{walk}
use Rattle.btree.proofs.SetState.{set_stands}
use Rattle.btree.proofs.RemoveWalk.{remove_walk}
use Rattle.btree.proofs.RemoveState.{removes}
use Rattle.btree.proofs.Room.{slots_needed_lem, has_free_lem}

-- ---- what is asked of the records

abbrev pub FitOp : Key → Option ℕ → Type 0
FitOp k none = Unit {0}
FitOp k (some v) = Fit (record { key = k; val = v })

-- the records of a batch that was accepted
abbrev pub FitRecs : List (Rec ℕ) → Type 0
FitRecs [] = Unit {0}
FitRecs (r ∷ rs) = FitOp r.key r.op × FitRecs rs

abbrev pub FitRuns : List (Run ℕ) → Type 0
FitRuns [] = Unit {0}
FitRuns (q ∷ qs) = FitOp q.acts.key q.acts.op × FitRuns qs

with_run_fit : (r : Rec ℕ) (qs : List (Run ℕ)) → FitOp r.key r.op → FitRuns qs → FitRuns (with_run r qs)
with_run_fit r [] f h = (f, tt)
with_run_fit r (q ∷ qs) f h = by_cond FitRuns (compare_is_eq (cmp r.key q.acts.key)) (λ e. h) (λ e. (f, h))

pub runs_fit : (rs : List (Rec ℕ)) → FitRecs rs → FitRuns (runs_of rs)
runs_fit [] h = tt
runs_fit (r ∷ rs) h = with_run_fit r (runs_of rs) h.0 (runs_fit rs h.1)

-- ---- one run

-- the slots that a run of k may write beside those that it takes: those on its walk, and for a removal the siblings of those
abbrev pub reaches : Key → Option ℕ → State ℕ → List ℕ
reaches k none t = remove_walk k (suc t.depth) t.root
reaches k (some v) t = walk k (suc t.depth) t.root

module _ (n : ℕ) (s : List ℕ) (t : State ℕ) (k : Key) (o : Option ℕ) where
  -- a run came to its end, and the store stands for u
  pub record Finished (u : State ℕ) (g : Did) : Type 0 where
    pub out : g.out ≡ done
    pub stands : StandsTree n g.store u
    pub good : Good n u
    -- "Every slot that is not on the walk, not a sibling of one on it and not newly taken keeps all its bytes"
    pub frame : (v : ℕ) → occurs v (reaches k o t) ≡ 0 → occurs v t.free ≤ occurs v u.free → slot_at g.store v ≡ slot_at s v

  -- a run found no room: no byte has changed
  pub record Refused (g : Did) : Type 0 where
    pub out : g.out ≡ no_room
    pub store : g.store ≡ s

  abbrev pub DidAs : Option (State ℕ) → Did → Type 0
  DidAs none g = Refused g
  DidAs (some u) g = Finished u g

module _ (n : ℕ) (lim : n ≤ most_slots) where
  acts_on : (s : List ℕ) (t : State ℕ) (k : Key) (o : Option ℕ) → FitOp k o → StandsTree n s t → Good n t → DidAs n s t k o (act stack k o t) (act_on s k o)
  acts_on s t k none f st gd = let w = removes n s t k lim st gd in record { out = ap of_fell w.out; stands = w.stands; good = w.good; frame = λ v q i. w.frame v q }
  acts_on s t k (some v) f st gd =
      let small : n < 2 ^ 32 = omega arith in
      rw (slots_needed_lem n small s t st gd k, has_free_lem n small s t st gd (slots_needed k t))
      (by_bool (leb (slots_needed k t) (length t.free))
      (λ q.
      let w = set_stands n lim s t (record { key = k; val = v }) f st gd (leb-true (slots_needed k t) (length t.free) q) in
      rw q (record { out = ap of_came w.out; stands = w.stands; good = w.good; frame = w.frame }))
      (λ q. rw q (record { out = refl; store = refl })))

  pub acts : (s : List ℕ) (t : State ℕ) (k : Key) (o : Option ℕ) → FitOp k o → StandsTree n s t → Good n t → DidAs n s t k o (act stack k o t) (act_m s k o)
  unfolding act_m
  acts s t k o f st gd =
      let small : n < 2 ^ 32 = omega arith in
      rw ((root_read n s t small st gd).depth, le-leb t.depth most_depth (depth_7 n t gd lim)) (acts_on s t k o f st gd)

-- ---- all runs

abbrev pub end_of : Answer → Acted
end_of T.done = done
end_of (T.no_room m) = no_room

-- the mirror ended as o says; m records in all
pub record EndedAs (n m : ℕ) (o : Outcome ℕ) (g : Ended) : Type 0 where
  pub out : g.out ≡ end_of o.answer
  pub applied : g.applied ≡ T.applied m o.answer
  pub stands : StandsTree n g.store o.state
  pub good : Good n o.state

end_counted : (m : ℕ) (a : Answer) → end_of (counted_too m a) ≡ end_of a
end_counted m T.done = refl
end_counted m (T.no_room i) = refl

applied_counted : (m i : ℕ) (a : Answer) → T.applied (m + i) (counted_too m a) ≡ m + T.applied i a
applied_counted m i T.done = refl
applied_counted m i (T.no_room j) = refl

module _ (n : ℕ) (lim : n ≤ most_slots) where
  onward_ended : (q : Run ℕ) (qs : List (Run ℕ)) (s : List ℕ) (t : State ℕ) → StandsTree n s t → Good n t → (o : Option (State ℕ)) (g : Did) → DidAs n s t q.acts.key q.acts.op o g
      → ((s : List ℕ) (t : State ℕ) → StandsTree n s t → Good n t → EndedAs n (sizes qs) (run_all stack qs t) (run_all_m qs s))
      → EndedAs n (q.size + sizes qs) (onward stack (run_all stack qs) q.size t o) (onward_m (run_all_m qs) q.size g.store g.out)
  onward_ended q qs s t st gd none g a ih = rw (a.out, a.store) (record { out = refl; applied = refl; stands = st; good = gd })
  onward_ended q qs s t st gd (some u) g a ih =
      let h = ih g.store u a.stands a.good in
      let b = (run_all stack qs u).answer in
      rw a.out (record {
        out = h.out ∙ sym (end_counted q.size b);
        applied = ap (λ (i : ℕ). q.size + i) h.applied ∙ sym (applied_counted q.size (sizes qs) b);
        stands = h.stands;
        good = h.good;
      })

  pub runs_ended : (qs : List (Run ℕ)) → FitRuns qs → (s : List ℕ) (t : State ℕ) → StandsTree n s t → Good n t → EndedAs n (sizes qs) (run_all stack qs t) (run_all_m qs s)
  runs_ended [] f s t st gd = record { out = refl; applied = refl; stands = st; good = gd }
  runs_ended (q ∷ qs) f s t st gd =
      onward_ended q qs s t st gd (act stack q.acts.key q.acts.op t) (act_m s q.acts.key q.acts.op) (acts n lim s t q.acts.key q.acts.op f.0 st gd) (runs_ended qs f.1)

-- ---- a batch: "With no root, an accepted batch .. first writes an empty root. Then each run"

abbrev pub batch_m : List (Rec ℕ) → List ℕ → Ended
batch_m rs s = run_all_m (runs_of rs) (start_m s)

start_is : (s : List ℕ) → start_m s ≡ first_root s
unfolding start_m first_root
start_is s = refl

module _ (n : ℕ) (least : 1 ≤ n) (lim : n ≤ most_slots) (s : List ℕ) (st : Store ℕ) (h : Stands n s st) (gd : GoodStore n st) where
  pub start_stands : StandsTree n (start_m s) (with_root st)
  start_stands = let small : n < 2 ^ 32 = omega arith in rw (start_is s) (first_root_stands_lem n small s st least h gd)

  pub batch_ended : (rs : List (Rec ℕ)) → FitRecs rs → EndedAs n (length rs) (batch stack rs st) (batch_m rs s)
  batch_ended rs f =
      subst (λ (m : ℕ). EndedAs n m (batch stack rs st) (batch_m rs s)) (runs_sizes rs)
      (runs_ended n lim (runs_of rs) (runs_fit rs f) (start_m s) (with_root st) start_stands (with_root_good n st least gd))
