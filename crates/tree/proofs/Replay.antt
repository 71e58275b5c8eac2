-- A batch that reached its end, run again at once, leaves the store as it is and answers the same; two batches and the merged
-- one; a batch of each run's last record alone. Assumes nothing.
use mathlib.Core.Path.{◌≡◌, refl, sym, ap, ◌∙◌}
use mathlib.Core.List.{List, [], ◌∷◌, ◌++◌, append-nil}
use mathlib.Core.Bool.{false, cond}
use mathlib.Core.Option.{Option, none, some}
use lib.ListN.{length}
use lib.Seq.{take-length}
use lib.Dec.{compare_is_eq}
use native.Mathlib.Omega.{arith}
use borrow.Author.Tests.{le-leb}
use Prim.Native.Nat.{ℕ, ◌≤◌, Ordering}
use Rattle.word.specs.Key.{Key, cmp}
use Rattle.tree.specs.Map.{Sep, get, Rising}
use Rattle.tree.specs.Free.{FreePolicy}
use Rattle.tree.specs.State.{State, state_entries, slots_needed, Good, Store, rooted, store_entries, GoodStore, with_root}
use Rattle.tree.specs.Batch.{Rec, Run, change, apply_all, last_change, with_run, runs_of, NeverFall, merge}
use Rattle.tree.specs.Run.{Answer, done, no_room, number, counted_too, Outcome, act, onward, run_all, batch}
use Rattle.word.proofs.KeyOrder.{cmp_refl}
use Rattle.tree.proofs.Cases.{by_cond}
use Rattle.tree.proofs.MapLaws.{rising_change, get_change}
use Rattle.tree.proofs.StateLaws.{set_state_again, present_needs_none, dereference_state_absent, rising_store, with_root_good}
use Rattle.tree.proofs.BatchLaws.{get_all, lasts, RunsAbove, RunsRise, runs_rise, merged}
use Rattle.tree.proofs.RunLaws.{batched, ran_all}

-- ---- run again

module _ {A : Type 0} where
  -- each run's key has the value that the run gives it
  abbrev Said : List (Run A) → List (Sep A) → Type 0
  Said [] es = Unit {0}
  Said (q ∷ qs) es = (get q.acts.key es ≡ q.acts.op) × Said qs es

  above_left : (k : Key) (qs : List (Run A)) (v : Option A) → RunsAbove k qs → last_change k (lasts qs) v ≡ v
  above_left k [] v h = refl
  above_left k (q ∷ qs) v h = ap (λ (o : Ordering). last_change k (lasts qs) (cond (compare_is_eq o) q.acts.op v)) h.0 ∙ above_left k qs v h.1

  said_lem : (qs : List (Run A)) (es : List (Sep A)) → RunsRise qs → Rising es → Said qs (apply_all (lasts qs) es)
  said_lem [] es h g = tt
  said_lem (q ∷ qs) es h g =
      let k = q.acts.key in
      let o = q.acts.op in
      let up = rising_change k o es g in (
        get_all k (lasts qs) (change k o es) up ∙ above_left k qs (get k (change k o es)) h.0 ∙ get_change k k o es g ∙ rw (cmp_refl k),
        said_lem qs (change k o es) h.1 up,
      )

module _ {A : Type 0} (g : FreePolicy) (n : ℕ) where
  act_again : (k : Key) (o : Option A) (t : State A) → Good n t → get k (state_entries t) ≡ o → act g k o t ≡ some t
  act_again k none t h e = ap some (dereference_state_absent g n k t h e)
  act_again k (some v) t h e =
      let z : slots_needed k t ≤ length t.free = omega (arith, present_needs_none n k v t h e) in
      rw (le-leb (slots_needed k t) (length t.free) z) (ap some (set_state_again n (record { key = k; val = v }) t h e))

  runs_again : (qs : List (Run A)) (t : State A) → Good n t → Said qs (state_entries t) → run_all g qs t ≡ record { state = t; answer = done }
  runs_again [] t h s = refl
  runs_again (q ∷ qs) t h s = rw (act_again q.acts.key q.acts.op t h s.0) (rw (runs_again qs t h s.1))

module _ {A : Type 0} (g : FreePolicy) (n : ℕ) (p : 1 ≤ n) where
  -- a batch that reaches its end gives every record's change
  pub through : (rs : List (Rec A)) (s : Store A) (u : State A) → GoodStore n s → batch g rs s ≡ record { state = u; answer = done }
      → Good n u × (state_entries u ≡ apply_all rs (store_entries s))
  through rs s u h e =
      let b = batched g n rs s p h in
      (rw e at b.good, (rw e at b.entries) ∙ rw (take-length rs))

  pub batch_again : (rs : List (Rec A)) (s : Store A) (u : State A) → GoodStore n s → NeverFall rs → batch g rs s ≡ record { state = u; answer = done }
      → batch g rs (rooted u) ≡ record { state = u; answer = done }
  batch_again rs s u h r e =
      let t : State A = with_root s in
      let q = ran_all g n (runs_of rs) t (with_root_good n s p h) in
      let up : Rising (state_entries t) = (with_root_good n s p h).rising in
      let all : runs_of rs ≡ q.ran = q.parts ∙ ap (λ (l : List (Run A)). q.ran ++ l) (rw e at q.ends) ∙ append-nil q.ran in
      let is : state_entries u ≡ apply_all (lasts (runs_of rs)) (state_entries t) = (rw e at q.entries) ∙ ap (λ (l : List (Run A)). apply_all (lasts l) (state_entries t)) (sym all) in
      runs_again g n (runs_of rs) u (rw e at q.good) (rw is (said_lem (runs_of rs) (state_entries t) (runs_rise rs r) up))

  -- ---- A then B, and the merged batch

  pub batch_merged : (xs bs : List (Rec A)) (s : Store A) (u w m : State A) → GoodStore n s → NeverFall xs
      → batch g xs s ≡ record { state = u; answer = done } → batch g bs (rooted u) ≡ record { state = w; answer = done } → batch g (merge xs bs) s ≡ record { state = m; answer = done }
      → state_entries m ≡ state_entries w
  batch_merged xs bs s u w m h r a b c =
      let first = through xs s u h a in
      let then = through bs (rooted u) w first.0 b in
      let both = through (merge xs bs) s m h c in
      both.1 ∙ merged xs bs (store_entries s) (rising_store n s h) r ∙ sym (then.1 ∙ ap (apply_all bs) first.1)

-- ---- a run acts as its last record

module _ {A : Type 0} where
  -- the runs' last records, each a run of its own
  abbrev singles : List (Run A) → List (Run A)
  singles [] = []
  singles (q ∷ qs) = record { acts = q.acts; size = 1 } ∷ singles qs

  -- neighbours have different keys
  abbrev Apart : List (Run A) → Type 0
  Apart [] = Unit {0}
  Apart (q ∷ []) = Unit {0}
  Apart (q ∷ p ∷ qs) = (compare_is_eq (cmp q.acts.key p.acts.key) ≡ false) × Apart (p ∷ qs)

  with_run_apart : (r : Rec A) (qs : List (Run A)) → Apart qs → Apart (with_run r qs)
  with_run_apart r [] h = tt
  with_run_apart r (q ∷ []) h = by_cond Apart (compare_is_eq (cmp r.key q.acts.key)) (λ e. tt) (λ e. (e, tt))
  with_run_apart r (q ∷ p ∷ qs) h = by_cond Apart (compare_is_eq (cmp r.key q.acts.key)) (λ e. h) (λ e. (e, h))

  runs_apart : (rs : List (Rec A)) → Apart (runs_of rs)
  runs_apart [] = tt
  runs_apart (r ∷ rs) = with_run_apart r (runs_of rs) (runs_apart rs)

  runs_singles : (qs : List (Run A)) → Apart qs → runs_of (lasts qs) ≡ singles qs
  runs_singles [] h = refl
  runs_singles (q ∷ []) h = refl
  runs_singles (q ∷ p ∷ qs) h = rw (runs_singles (p ∷ qs) h.1, h.0)

same_number : (i j : ℕ) (a b : Answer) → number a ≡ number b → number (counted_too i a) ≡ number (counted_too j b)
same_number i j done done e = refl
same_number i j done (no_room m) e = e
same_number i j (no_room m) done e = e
same_number i j (no_room m) (no_room l) e = refl

module _ {A : Type 0} (g : FreePolicy) where
  -- the same state and the same answer, but for the count
  pub record SameEnd (o u : Outcome A) : Type 0 where
    pub state : o.state ≡ u.state
    pub answers : number o.answer ≡ number u.answer

  onward_same : (qs ps : List (Run A)) (i j : ℕ) (t : State A) (o : Option (State A)) → ((u : State A) → SameEnd (run_all g qs u) (run_all g ps u))
      → SameEnd (onward g (run_all g qs) i t o) (onward g (run_all g ps) j t o)
  onward_same qs ps i j t none ih = record { state = refl; answers = refl }
  onward_same qs ps i j t (some u) ih = record { state = (ih u).state; answers = same_number i j (run_all g qs u).answer (run_all g ps u).answer (ih u).answers }

  singles_same : (qs : List (Run A)) (t : State A) → SameEnd (run_all g (singles qs) t) (run_all g qs t)
  singles_same [] t = record { state = refl; answers = refl }
  singles_same (q ∷ qs) t = onward_same (singles qs) qs 1 q.size t (act g q.acts.key q.acts.op t) (λ u. singles_same qs u)

  pub lasts_same : (rs : List (Rec A)) (s : Store A) → SameEnd (batch g (lasts (runs_of rs)) s) (batch g rs s)
  lasts_same rs s = rw (runs_singles (runs_of rs) (runs_apart rs)) (singles_same (runs_of rs) (with_root s))
