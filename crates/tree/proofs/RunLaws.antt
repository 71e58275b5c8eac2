-- A batch on a store: its runs keep the audit's facts, its entries are those for the records that it applied, and where it
-- finds no room it has run the records before that run and nothing of it. Assumes nothing.
use mathlib.Core.Path.{◌≡◌, refl, sym, ap, ◌∙◌}
use mathlib.Core.List.{List, [], ◌∷◌, ◌++◌, append-nil}
use mathlib.Core.Bool.{Bool, true, false}
use mathlib.Core.Option.{Option, none, some}
use lib.ListN.{length, take, drop}
use lib.Dec.{leb, compare_is_eq}
use native.Mathlib.Omega.{arith}
use borrow.Author.Tests.{leb-true, leb-false}
use Prim.Native.Nat.{ℕ, zero, suc, ◌+◌, ◌≤◌, ◌<◌}
use Rattle.word.specs.Key.{Key, cmp}
use Rattle.tree.specs.Free.{FreePolicy}
use Rattle.tree.specs.State.{State, state_entries, slots_needed, Good, Store, rooted, store_entries, GoodStore, with_root}
use Rattle.tree.specs.Batch.{Rec, Run, change, apply_all, with_run, runs_of}
use Rattle.tree.specs.Run.{Answer, done, no_room, applied, counted_too, Outcome, act, onward, run_all, batch, batches, all_applied}
use Rattle.word.proofs.KeyOrder.{cmp_eq}
use Rattle.tree.proofs.Cases.{by_cond, is_eq}
use Rattle.tree.proofs.StateLaws.{set_state_entries, set_good, dereference_state_entries, dereference_good, rising_store, with_root_entries, with_root_good}
use Rattle.tree.proofs.BatchLaws.{apply_append, lasts, sizes, runs_act, runs_sizes, cut_lem}

-- ---- one run

module _ {A : Type 0} where
  -- a set that needs more slots than are free
  abbrev pub Short : Key → Option A → State A → Type 0
  Short k none t = ⊥
  Short k (some v) t = length t.free < slots_needed k t

module _ {A : Type 0} (g : FreePolicy) (n : ℕ) where
  pub record Acted (k : Key) (o : Option A) (t u : State A) : Type 0 where
    pub good : Good n u
    pub entries : state_entries u ≡ change k o (state_entries t)

  abbrev pub ActedIf : Key → Option A → State A → Option (State A) → Type 0
  ActedIf k o t none = Short k o t
  ActedIf k o t (some u) = Acted k o t u

  pub acted : (k : Key) (o : Option A) (t : State A) → Good n t → ActedIf k o t (act g k o t)
  acted k none t h = record { good = dereference_good g n k t h; entries = dereference_state_entries g k t h.rising }
  acted k (some v) t h = by_cond (ActedIf k (some v) t) (leb (slots_needed k t) (length t.free))
      (λ e. record {
        good = set_good n (record { key = k; val = v }) t h (leb-true (slots_needed k t) (length t.free) e);
        entries = set_state_entries (record { key = k; val = v }) t h.rising;
      })
      (λ e. leb-false (slots_needed k t) (length t.free) e)

-- ---- all runs

module _ {A : Type 0} where
  abbrev pub ShortFirst : List (Run A) → State A → Type 0
  ShortFirst [] u = ⊥
  ShortFirst (q ∷ qs) u = Short q.acts.key q.acts.op u

  -- where the runs end: all are through, or the first that is left finds no room
  abbrev pub Ends : List (Run A) → List (Run A) → State A → Answer → Type 0
  Ends ran left u done = left ≡ []
  Ends ran left u (no_room m) = (m ≡ sizes ran) × ShortFirst left u

module _ {A : Type 0} (g : FreePolicy) (n : ℕ) where
  pub record Ran (qs : List (Run A)) (t : State A) (o : Outcome A) : Type 0 where
    pub ran : List (Run A)
    pub left : List (Run A)
    pub parts : qs ≡ ran ++ left
    pub good : Good n o.state
    pub entries : state_entries o.state ≡ apply_all (lasts ran) (state_entries t)
    pub alone : run_all g ran t ≡ record { state = o.state; answer = done }
    pub ends : Ends ran left o.state o.answer

  ends_later : (q : Run A) (ran left : List (Run A)) (u : State A) (a : Answer) → Ends ran left u a → Ends (q ∷ ran) left u (counted_too q.size a)
  ends_later q ran left u done h = h
  ends_later q ran left u (no_room m) h = (ap (λ (i : ℕ). q.size + i) h.0, h.1)

  ran_onward : (q : Run A) (qs : List (Run A)) (t : State A) (o : Option (State A)) → act g q.acts.key q.acts.op t ≡ o → Good n t → ActedIf g n q.acts.key q.acts.op t o
      → ((u : State A) → Good n u → Ran qs u (run_all g qs u)) → Ran (q ∷ qs) t (onward g (run_all g qs) q.size t o)
  ran_onward q qs t none e h a ih = record { ran = []; left = q ∷ qs; parts = refl; good = h; entries = refl; alone = refl; ends = (refl, a) }
  ran_onward q qs t (some u) e h a ih =
      let r = ih u a.good in
      record {
        ran = q ∷ r.ran;
        left = r.left;
        parts = ap (λ (l : List (Run A)). q ∷ l) r.parts;
        good = r.good;
        entries = r.entries ∙ ap (apply_all (lasts r.ran)) a.entries;
        alone = rw e (rw r.alone);
        ends = ends_later q r.ran r.left (run_all g qs u).state (run_all g qs u).answer r.ends;
      }

  pub ran_all : (qs : List (Run A)) (t : State A) → Good n t → Ran qs t (run_all g qs t)
  ran_all [] t h = record { ran = []; left = []; parts = refl; good = h; entries = refl; alone = refl; ends = refl }
  ran_all (q ∷ qs) t h = ran_onward q qs t (act g q.acts.key q.acts.op t) refl h (acted g n q.acts.key q.acts.op t h) (λ u hu. ran_all qs u hu)

-- ---- a batch

module _ {A : Type 0} (g : FreePolicy) where
  pub record Batched (n : ℕ) (rs : List (Rec A)) (s : Store A) (o : Outcome A) : Type 0 where
    pub good : Good n o.state
    pub entries : state_entries o.state ≡ apply_all (take (applied (length rs) o.answer) rs) (store_entries s)

  -- The first m records run to their end and leave u; the run that begins behind them is a set that needs more slots than are free.
  pub record Stopped (rs : List (Rec A)) (s : Store A) (m : ℕ) (u : State A) : Type 0 where
    pub before : batch g (take m rs) s ≡ record { state = u; answer = done }
    pub run : Run A
    pub later : List (Run A)
    pub next : runs_of (drop m rs) ≡ run ∷ later
    pub short : Short run.acts.key run.acts.op u

  count_ran : (n : ℕ) (rs : List (Rec A)) (t : State A) (o : Outcome A) (r : Ran g n (runs_of rs) t o) → applied (length rs) o.answer ≡ sizes r.ran
  count_ran n rs t o r = go o.answer r.ran r.left r.parts r.ends
    where
      go : (a : Answer) (ran left : List (Run A)) → runs_of rs ≡ ran ++ left → Ends ran left o.state a → applied (length rs) a ≡ sizes ran
      go done ran left e h = let w : runs_of rs ≡ ran = e ∙ ap (λ (l : List (Run A)). ran ++ l) h ∙ append-nil ran in sym (runs_sizes rs) ∙ ap sizes w
      go (no_room m) ran left e h = h.0

  pub batched : (n : ℕ) (rs : List (Rec A)) (s : Store A) → 1 ≤ n → GoodStore n s → Batched n rs s (batch g rs s)
  batched n rs s p h =
      let t : State A = with_root s in
      let r = ran_all g n (runs_of rs) t (with_root_good n s p h) in
      let c = cut_lem rs r.ran r.left r.parts in
      let up = rising_store n s h in
      record {
        good = r.good;
        entries = r.entries
            ∙ ap (λ (l : List (Run A)). apply_all (lasts l) (state_entries t)) (sym c.firsts)
            ∙ rw (with_root_entries s, count_ran n rs t (batch g rs s) r) (runs_act (take (sizes r.ran) rs) (store_entries s) up);
      }

  pub stopped_lem : (n : ℕ) (rs : List (Rec A)) (s : Store A) (m : ℕ) → 1 ≤ n → GoodStore n s → (batch g rs s).answer ≡ no_room m → Stopped rs s m (batch g rs s).state
  stopped_lem n rs s m p h e =
      let t : State A = with_root s in
      let r = ran_all g n (runs_of rs) t (with_root_good n s p h) in
      go r.ran r.left r.parts r.alone (rw e at r.ends)
    where
      go : (ran left : List (Run A)) → runs_of rs ≡ ran ++ left → run_all g ran (with_root s) ≡ record { state = (batch g rs s).state; answer = done }
          → (m ≡ sizes ran) × ShortFirst left (batch g rs s).state → Stopped rs s m (batch g rs s).state
      go ran [] parts alone h = absurd h.1
      go ran (q ∷ left) parts alone h =
          let c = cut_lem rs ran (q ∷ left) parts in
          record { before = rw (h.0, c.firsts) alone; run = q; later = left; next = rw h.0 c.others; short = h.1 }

  -- ---- several batches

  pub batches_good : (n : ℕ) (bs : List (List (Rec A))) (s : Store A) → 1 ≤ n → GoodStore n s → GoodStore n (batches g bs s)
  batches_good n [] s p h = h
  batches_good n (b ∷ bs) s p h = batches_good n bs (rooted (batch g b s).state) p (batched n b s p h).good

  pub batches_entries : (n : ℕ) (bs : List (List (Rec A))) (s : Store A) → 1 ≤ n → GoodStore n s → store_entries (batches g bs s) ≡ apply_all (all_applied g bs s) (store_entries s)
  batches_entries n [] s p h = refl
  batches_entries n (b ∷ bs) s p h =
      let o : Outcome A = batch g b s in
      let q = batched n b s p h in
      batches_entries n bs (rooted o.state) p q.good
      ∙ ap (apply_all (all_applied g bs (rooted o.state))) q.entries
      ∙ sym (apply_append (take (applied (length b) o.answer) b) (all_applied g bs (rooted o.state)) (store_entries s))

-- ---- the same record by record: a record before another of its run counts if the run is finished

module _ {A : Type 0} where
  abbrev pub again : Rec A → List (Rec A) → Bool
  again r [] = false
  again r (q ∷ rs) = compare_is_eq (cmp r.key q.key)

abbrev pub one_more : Answer → Answer
one_more done = done
one_more (no_room zero) = no_room zero
one_more (no_room (suc m)) = no_room (suc (suc m))

more_counted : (m : ℕ) (a : Answer) → 1 ≤ m → counted_too (suc m) a ≡ one_more (counted_too m a)
more_counted m done h = refl
more_counted zero (no_room i) h = absurd (omega arith)
more_counted (suc m) (no_room i) h = let e : suc (suc m) + i ≡ suc (suc (m + i)) = omega arith in let f : suc m + i ≡ suc (m + i) = omega arith in rw (e, f)

module _ {A : Type 0} where
  -- the first run has a record, with the first record's key
  record Headed (r : Rec A) (q : Run A) : Type 0 where
    key : q.acts.key ≡ r.key
    some_size : 1 ≤ q.size

  abbrev HeadedBy : Rec A → List (Run A) → Type 0
  HeadedBy r [] = ⊥
  HeadedBy r (q ∷ qs) = Headed r q

  with_run_headed : (r : Rec A) (qs : List (Run A)) → HeadedBy r (with_run r qs)
  with_run_headed r [] = record { key = refl; some_size = omega arith }
  with_run_headed r (q ∷ qs) = by_cond (HeadedBy r) (compare_is_eq (cmp r.key q.acts.key))
      (λ e. record { key = sym (cmp_eq r.key q.acts.key (is_eq (cmp r.key q.acts.key) e)); some_size = omega arith })
      (λ e. record { key = refl; some_size = omega arith })

  pub alone_step : (g : FreePolicy) (r : Rec A) (rs : List (Rec A)) (t : State A) → again r rs ≡ false
      → run_all g (runs_of (r ∷ rs)) t ≡ onward g (run_all g (runs_of rs)) 1 t (act g r.key r.op t)
  alone_step g r [] t e = refl
  alone_step g r (p ∷ rs) t e = go (runs_of (p ∷ rs)) (with_run_headed p (runs_of rs))
    where
      go : (qs : List (Run A)) → HeadedBy p qs → run_all g (with_run r qs) t ≡ onward g (run_all g qs) 1 t (act g r.key r.op t)
      go [] h = absurd h
      go (q ∷ qs) h = let w : compare_is_eq (cmp r.key q.acts.key) ≡ false = rw h.key e in rw w

  pub again_step : (g : FreePolicy) (r : Rec A) (rs : List (Rec A)) (t : State A) → again r rs ≡ true
      → run_all g (runs_of (r ∷ rs)) t ≡ record { state = (run_all g (runs_of rs) t).state; answer = one_more (run_all g (runs_of rs) t).answer }
  again_step g r [] t e = absurd (let w : ◌≡◌ {A = ℕ} 0 1 = cc in omega arith)
  again_step g r (p ∷ rs) t e = go (runs_of (p ∷ rs)) (with_run_headed p (runs_of rs))
    where
      more : (q : Run A) (qs : List (Run A)) (o : Option (State A)) → 1 ≤ q.size
          → onward g (run_all g qs) (suc q.size) t o ≡ record { state = (onward g (run_all g qs) q.size t o).state; answer = one_more (onward g (run_all g qs) q.size t o).answer }
      more q qs none h = refl
      more q qs (some u) h = rw (more_counted q.size (run_all g qs u).answer h)

      go : (qs : List (Run A)) → HeadedBy p qs → run_all g (with_run r qs) t ≡ record { state = (run_all g qs t).state; answer = one_more (run_all g qs t).answer }
      go [] h = absurd h
      go (q ∷ qs) h =
          let w : compare_is_eq (cmp r.key q.acts.key) ≡ true = rw h.key e in
          rw w (more q qs (act g q.acts.key q.acts.op t) h.some_size)
