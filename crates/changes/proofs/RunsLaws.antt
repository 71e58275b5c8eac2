-- In records that are found fine, `run_at` is the first run of what is left: "a run of equal keys acts as its last record".
-- Assumes nothing.
use mathlib.Core.Path.{◌≡◌, refl, sym, ap, subst, ◌∙◌}
use mathlib.Core.List.{List, [], ◌∷◌}
use mathlib.Core.Bool.{Bool, true, false}
use Prim.Native.Nat.{ℕ, zero, suc, ◌+◌, ◌-◌, ◌≤◌, ◌<◌}
use lib.ListN.{length}
use lib.Dec.{compare_is_eq}
use native.Mathlib.Omega.{arith}
use Rattle.word.specs.Pick.{pick_t, pick_f, by_test}
use Rattle.word.specs.Key.{Key, Lt, cmp}
use Rattle.word.proofs.KeyOrder.{cmp_eq, cmp_refl}
use Rattle.tree.specs.Batch as batch
use Rattle.tree.specs.Batch.{Rec, with_run, runs_of}
use Rattle.tree.proofs.Cases.{by_bool, by_cond, is_eq}
use Rattle.std.specs.Prelude.{Ok}
use Rattle.changes.specs.declared.Run.{Run}
use Rattle.changes.specs.Records.{most_records, key_at, next_at, stands_at, rec_at, check_from, records_from}
use Rattle.changes.specs.RunAt.{has_key, run_from, run_at}
use Rattle.changes.proofs.RecordLaws.{impossible, next_is_lem, stands_is, Sound}
use Rattle.changes.proofs.RunAtLaws.{has_whole}
use Rattle.changes.proofs.FineLaws.{Chain, ended, more, fine_chain, chain_fine, records_ended, records_more}

-- ---- a record in front of runs

abbrev FirstKey : Key → List (batch.Run ℕ) → Type 0
FirstKey k [] = ⊥
FirstKey k (q ∷ qs) = q.acts.key ≡ k

with_run_key : (r : Rec ℕ) (qs : List (batch.Run ℕ)) → FirstKey r.key (with_run r qs)
with_run_key r [] = refl
with_run_key r (q ∷ qs) = by_cond (FirstKey r.key) (compare_is_eq (cmp r.key q.acts.key)) (λ e. sym (cmp_eq r.key q.acts.key (is_eq _ e))) (λ e. refl)

with_run_other : (r : Rec ℕ) (k : Key) (qs : List (batch.Run ℕ)) → FirstKey k qs → (r.key ≡ k → ⊥) → with_run r qs ≡ record { acts = r; size = 1 } ∷ qs
with_run_other r k [] f n = absurd f
with_run_other r k (q ∷ qs) f n =
    by_cond (λ (l : List (batch.Run ℕ)). l ≡ record { acts = r; size = 1 } ∷ q ∷ qs) (compare_is_eq (cmp r.key q.acts.key))
    (λ e. absurd (n (cmp_eq r.key q.acts.key (is_eq _ e) ∙ f))) (λ e. refl)

with_run_same : (r a : Rec ℕ) (n : ℕ) (qs : List (batch.Run ℕ)) → r.key ≡ a.key → with_run r (record { acts = a; size = n } ∷ qs) ≡ record { acts = a; size = suc n } ∷ qs
with_run_same r a n qs e = let same : compare_is_eq (cmp r.key a.key) ≡ true = rw (e, cmp_refl) in rw same

-- ---- the run of a record that stands in a chain

module _ (s : List ℕ) where
  has_equal : (at : ℕ) (key : Key) → has_key s at key ≡ true → key_at s at ≡ key
  unfolding has_key
  has_equal at key = by_test (λ (b : Bool). b ≡ true → key_at s at ≡ key) (stands_at s at) (λ e t. cmp_eq (key_at s at) key (is_eq _ t)) (λ e t. impossible t)

  has_other : (at : ℕ) (key : Key) → Sound s at → has_key s at key ≡ false → key ≡ key_at s at → ⊥
  unfolding has_key
  has_other at key h f e =
      let t : has_key s at key ≡ true = pick_t _ _ (stands_is s at h.whole) ∙ rw (e, cmp_refl) in
      impossible (sym f ∙ t)

  has_none : (at : ℕ) (key : Key) → at ≡ length s → has_key s at key ≡ false
  has_none at key e = by_bool (has_key s at key) (λ t. absurd (omega (arith, has_whole s at key t, next_is_lem s at))) (λ t. t)

  run_stops : (m : ℕ) (key : Key) (last size : ℕ) → has_key s (next_at s last) key ≡ false → record { last = last; next = next_at s last; size = size } ≡ run_from s m key last size
  unfolding run_from
  run_stops zero key last size e = refl
  run_stops (suc m) key last size e = sym (pick_f _ _ e)

  run_goes : (m : ℕ) (key : Key) (last size : ℕ) → has_key s (next_at s last) key ≡ true → run_from s m key (next_at s last) (suc size) ≡ run_from s (suc m) key last size
  unfolding run_from
  run_goes m key last size e = sym (pick_t _ _ e)

  -- of the run r the record at `last` is the size-th, and k records are left behind that
  record First (k : ℕ) (key : Key) (last size : ℕ) (r : Run) : Type 0 where
    more : ℕ
    count : r.size ≡ size + more
    few : more ≤ k
    sound : Sound s r.last
    behind : r.next ≡ next_at s r.last
    same : key_at s r.last ≡ key
    rest : Chain s (k - more) r.next key
    runs : runs_of (rec_at s last ∷ records_from s k (next_at s last)) ≡ record { acts = rec_at s r.last; size = suc more } ∷ runs_of (records_from s (k - more) r.next)

  module _ (key : Key) (last size : ℕ) (sound : Sound s last) (own : key_at s last ≡ key) where
    -- it is the last
    first_last : (k m : ℕ) → Chain s k (next_at s last) key → has_key s (next_at s last) key ≡ false
        → runs_of (rec_at s last ∷ records_from s k (next_at s last)) ≡ record { acts = rec_at s last; size = 1 } ∷ runs_of (records_from s k (next_at s last))
        → First k key last size (run_from s m key last size)
    first_last k m c e q =
        let z : k - 0 ≡ k = omega arith in
        rw (← run_stops m key last size e)
        (record { more = 0; count = omega arith; few = omega arith; sound = sound; behind = refl; same = own; rest = rw z c; runs = rw z q })

    -- the next is one of it
    first_next : (k m : ℕ) → Sound s (next_at s last) → has_key s (next_at s last) key ≡ true → First k key (next_at s last) (suc size) (run_from s m key (next_at s last) (suc size))
        → First (suc k) key last size (run_from s (suc m) key last size)
    first_next k m h e f =
        let z : suc k - suc f.more ≡ k - f.more = omega arith in
        let n = f.count in
        let l = f.few in
        let r : Run = run_from s m key (next_at s last) (suc size) in
        let runs = ap (λ (l : List (Rec ℕ)). runs_of (rec_at s last ∷ l)) (records_more s k (next_at s last) h) ∙ ap (with_run (rec_at s last)) f.runs
        ∙ with_run_same (rec_at s last) (rec_at s r.last) (suc f.more) (runs_of (records_from s (k - f.more) r.next)) (own ∙ sym f.same) in
        rw (← run_goes m key last size e)
        (record { more = suc f.more; count = omega arith; few = omega arith; sound = f.sound; behind = f.behind; same = f.same; rest = rw z f.rest; runs = rw z runs })

  first_at : (k m : ℕ) (key : Key) (last size at : ℕ) (prev : Key) → at ≡ next_at s last → prev ≡ key_at s last → k ≤ m → Sound s last → key_at s last ≡ key → Chain s k at prev
      → First k key last size (run_from s m key last size)
  first_at k m key last size at prev p q h sound own (ended e) =
      let here : next_at s last ≡ length s = sym p ∙ e in
      let none = records_ended s k (next_at s last) here in
      first_last key last size sound own k m (ended here) (has_none (next_at s last) key here) (rw none)
  first_at (suc k) m key last size at prev p q h sound own (more g₀ n₀ c₀) =
      let g = subst (λ (x : ℕ). Sound s x) p g₀ in
      let c = subst (λ (x : ℕ). Chain s k (next_at s x) (key_at s x)) p c₀ in
      let n = subst (λ (x : Key). Lt (key_at s (next_at s last)) x → ⊥) (q ∙ own) (subst (λ (x : ℕ). Lt (key_at s x) prev → ⊥) p n₀) in
      by_bool (has_key s (next_at s last) key)
      (λ e.
      let z : m ≡ suc (m - 1) = omega arith in
      rw z (first_next key last size sound own k (m - 1) g e (first_at k (m - 1) key (next_at s last) (suc size) _ _ refl refl (omega arith) g (has_equal (next_at s last) key e) c)))
      (λ e.
      let rest : List (batch.Run ℕ) = runs_of (records_from s k (next_at s (next_at s last))) in
      let other = with_run_other (rec_at s last) (key_at s (next_at s last)) (with_run (rec_at s (next_at s last)) rest) (with_run_key (rec_at s (next_at s last)) rest) (λ q. has_other (next_at s last) key g e (sym own ∙ q)) in
      first_last key last size sound own (suc k) m (more g n c) e (rw (records_more s k (next_at s last) g) other))

  first_lem : (k m : ℕ) (key : Key) (last size : ℕ) → k ≤ m → Sound s last → key_at s last ≡ key → Chain s k (next_at s last) (key_at s last) → First k key last size (run_from s m key last size)
  first_lem k m key last size h sound own c = first_at k m key last size (next_at s last) (key_at s last) refl refl h sound own c

  -- ---- the run at a place

  pub record FirstRun (k at : ℕ) (r : Run) : Type 0 where
    pub some : 0 < r.size
    pub few : r.size ≤ k
    pub sound : Sound s r.last
    pub behind : r.next ≡ next_at s r.last
    pub same : key_at s r.last ≡ key_at s at
    pub runs : runs_of (records_from s k at) ≡ record { acts = rec_at s r.last; size = r.size } ∷ runs_of (records_from s (k - r.size) r.next)
    pub fine : check_from s (k - r.size) r.next (key_at s at) ≡ Ok tt

  run_at_is : (at : ℕ) → Sound s at → run_at s at ≡ run_from s 65534 (key_at s at) at 1
  unfolding run_at
  run_at_is at h = pick_t _ _ (stands_is s at h.whole)

  run_found : (k at : ℕ) (r : Run) → Sound s at → First k (key_at s at) at 1 r → FirstRun (suc k) at r
  run_found k at r h f =
      let n = f.count in
      let l = f.few in
      let z : k - f.more ≡ suc k - r.size = omega arith in
      let m : suc f.more ≡ r.size = omega arith in
      record {
        some = omega arith;
        few = omega arith;
        sound = f.sound;
        behind = f.behind;
        same = f.same;
        runs = ap runs_of (records_more s k at h) ∙ f.runs ∙ rw (z, m);
        fine = chain_fine s (suc k - r.size) r.next (key_at s at) (rw (← z) f.rest);
      }

  pub first_run : (k at : ℕ) (prev : Key) → k ≤ most_records → check_from s k at prev ≡ Ok tt → at < length s → FirstRun k at (run_at s at)
  first_run k at prev h e b = go k h (fine_chain s k at prev e)
    where
      go : (k : ℕ) → k ≤ most_records → Chain s k at prev → FirstRun k at (run_at s at)
      go k h (ended e) = absurd (omega arith)
      go (suc k) h (more g n c) = rw (run_at_is at g) (run_found k at (run_from s 65534 (key_at s at) at 1) g (first_lem k 65534 (key_at s at) at 1 (omega arith) g refl c))
