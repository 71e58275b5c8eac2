-- What the records of a batch are that is found fine: a chain of whole records that ends with the bytes, whose keys never fall,
-- each with a key and a value that 01 lets it have. Assumes nothing.
use mathlib.Core.Path.{◌≡◌, refl, sym, ap, ◌∙◌}
use mathlib.Core.List.{List, [], ◌∷◌, map}
use mathlib.Core.Bool.{false}
use mathlib.Core.Logic.{⊎_elim}
use Prim.Native.Nat.{ℕ, zero, suc, ◌+◌, ◌≤◌, ◌<◌}
use lib.ListN.{length}
use lib.Dec.{eqb, ltb}
use native.Mathlib.Omega.{arith}
use borrow.Author.Tests.{eqb-true, eqb-false, lt-ltb, le-ltb}
use Rattle.word.specs.Pick.{pick, pick_t, pick_f, by_test}
use Rattle.word.specs.Key.{Key, cmp, is_lt, Lt}
use Rattle.word.specs.Num.{Bytes}
use Rattle.word.proofs.KeyOrder.{lt_total, lt_trans}
use Rattle.word.proofs.PartLaws.{length_part}
use Rattle.word.proofs.NumLaws.{bytes_part}
use Rattle.word.proofs.AtLaws.{read_at_small}
use Rattle.tree.specs.Batch.{Rec, NoneBelow, NeverFall}
use Rattle.tree.proofs.Cases.{by_bool, is_lt_lem}
use Rattle.std.specs.Prelude.{Ok, Err}
use Rattle.changes.specs.Records.{Checked, most_records, kind_at, len_at, value_at, key_at, next_at, op_at, rec_at, is_bad_value, check_from, check_of, records_from, records_of}
use Rattle.changes.specs.Fit.{FitOp, Fit, AllFit}
use Rattle.changes.specs.Mirror.{flaw_at, or_else}
use Rattle.changes.proofs.RecordLaws.{impossible, next_is_lem, Sound, flaw_sound, sound_flaw}
use Rattle.changes.proofs.CheckLaws.{check_ended, check_many, check_step}

or_else_fine : (f later : Checked) → or_else f later ≡ Ok tt → (f ≡ Ok tt) × (later ≡ Ok tt)
or_else_fine (Ok _) later e = (refl, e)
or_else_fine (Err d) later e = impossible (cc)

-- ---- a chain of records

module _ (s : List ℕ) where
  -- from a place on, with at most k records, none of which has a key below prev
  pub data Chain : ℕ → ℕ → Key → Type 0 where
    ended : {k at : ℕ} {prev : Key} → at ≡ length s → Chain k at prev
    more : {k at : ℕ} {prev : Key} → Sound s at → (Lt (key_at s at) prev → ⊥) → Chain k (next_at s at) (key_at s at) → Chain (suc k) at prev

  step_fine : (k at : ℕ) (prev : Key) → (at ≡ length s → ⊥) → check_from s (suc k) at prev ≡ Ok tt
      → (flaw_at s at ≡ Ok tt) × ((is_lt (cmp (key_at s at) prev) ≡ false) × (check_from s k (next_at s at) (key_at s at) ≡ Ok tt))
  step_fine k at prev n e =
      let both = or_else_fine (flaw_at s at) _ (sym (check_step s k at prev n) ∙ e) in (
        both.0,
        by_test (λ (x : Checked). x ≡ Ok tt → (is_lt (cmp (key_at s at) prev) ≡ false) × (check_from s k (next_at s at) (key_at s at) ≡ Ok tt)) (is_lt (cmp (key_at s at) prev))
            (λ l f. impossible (cc)) (λ l f. (l, f)) both.1,
      )

  pub fine_chain : (k at : ℕ) (prev : Key) → check_from s k at prev ≡ Ok tt → Chain k at prev
  fine_chain zero at prev e = by_bool (eqb at (length s)) (λ t. ended (eqb-true _ _ t)) (λ t. impossible (cc (check_many s at prev (eqb-false _ _ t))))
  fine_chain (suc k) at prev e = by_bool (eqb at (length s)) (λ t. ended (eqb-true _ _ t))
      (λ t.
      let f = step_fine k at prev (eqb-false _ _ t) e in
      more (flaw_sound s at f.0) (λ (l : Lt (key_at s at) prev). impossible (sym f.1.0 ∙ ap is_lt l)) (fine_chain k (next_at s at) (key_at s at) f.1.1))

  pub starts_before : (at : ℕ) → Sound s at → at < length s
  starts_before at h = omega (arith, h.whole, next_is_lem s at)

  not_below_lem : (a b : Key) → (Lt a b → ⊥) → is_lt (cmp a b) ≡ false
  not_below_lem a b h = by_bool (is_lt (cmp a b)) (λ t. absurd (h (is_lt_lem (cmp a b) t))) (λ t. t)

  pub check_passes : (k at : ℕ) (prev : Key) → Sound s at → (Lt (key_at s at) prev → ⊥) → check_from s (suc k) at prev ≡ check_from s k (next_at s at) (key_at s at)
  check_passes k at prev h n =
      let b = starts_before at h in
      let step = rw (sound_flaw s at h) at (check_step s k at prev (λ e. omega arith)) in
      step ∙ pick_f _ _ (not_below_lem (key_at s at) prev n)

  pub chain_fine : (k at : ℕ) (prev : Key) → Chain k at prev → check_from s k at prev ≡ Ok tt
  chain_fine k at prev (ended e) = check_ended s k at prev e
  chain_fine (suc k) at prev (more h n c) = check_passes k at prev h n ∙ chain_fine k (next_at s at) (key_at s at) c

  -- ---- its records

  pub records_ended : (k at : ℕ) → at ≡ length s → records_from s k at ≡ []
  unfolding records_from
  records_ended zero at e = refl
  records_ended (suc k) at e = pick_f _ _ (le-ltb at (length s) (omega arith))

  pub records_more : (k at : ℕ) → Sound s at → records_from s (suc k) at ≡ rec_at s at ∷ records_from s k (next_at s at)
  unfolding records_from
  records_more k at h = pick_t _ _ (lt-ltb at (length s) (starts_before at h))

  -- room for more records than there are says nothing
  pub records_same : (k at : ℕ) (prev : Key) → Chain k at prev → (m : ℕ) → k ≤ m → records_from s m at ≡ records_from s k at
  records_same k at prev (ended e) m h = records_ended m at e ∙ sym (records_ended k at e)
  records_same (suc k) at prev (more g n c) zero h = absurd (omega arith)
  records_same (suc k) at prev (more g n c) (suc m) h =
      records_more m at g ∙ ap (λ (l : List (Rec ℕ)). rec_at s at ∷ l) (records_same k (next_at s at) (key_at s at) c m (omega arith)) ∙ sym (records_more k at g)

  pub records_few : (k at : ℕ) → length (records_from s k at) ≤ k
  unfolding records_from
  records_few zero at = omega arith
  records_few (suc k) at = by_test (λ (l : List (Rec ℕ)). length l ≤ suc k) (ltb at (length s)) (λ e. let ih = records_few k (next_at s at) in omega arith) (λ e. omega arith)

  -- "Keys never fall"
  none_below_up : (a b : Key) (rs : List (Rec ℕ)) → (Lt b a → ⊥) → NoneBelow b rs → NoneBelow a rs
  none_below_up a b [] h g = tt
  none_below_up a b (r ∷ rs) h g = (
    λ (p : Lt r.key a).
        ⊎_elim (λ (q : Lt b a). h q) (λ o. ⊎_elim (λ (e : b ≡ a). g.0 (rw e p)) (λ (q : Lt a b). g.0 (lt_trans r.key a b p q)) o) (lt_total b a),
    none_below_up a b rs h g.1,
  )

  chain_order : (k at : ℕ) (prev : Key) → Chain k at prev → NoneBelow prev (records_from s k at) × NeverFall (records_from s k at)
  chain_order k at prev (ended e) = rw (records_ended k at e) (tt, tt)
  chain_order (suc k) at prev (more h n c) =
      let ih = chain_order k (next_at s at) (key_at s at) c in
      rw (records_more k at h) ((n, none_below_up prev (key_at s at) (records_from s k (next_at s at)) n ih.0), ih)

  -- what 01 lets a record have
  value_fits : (at : ℕ) → Bytes s → is_bad_value s at ≡ false → FitOp (op_at s at)
  unfolding op_at is_bad_value value_at
  value_fits at p b =
      by_test FitOp (eqb (kind_at s at) 1)
      (λ e. let n = eqb-false (value_at s at) 0 (sym (pick_t _ _ e) ∙ b) in (omega arith, read_at_small 8 s (at + 3) p))
      (λ e. tt)

  pub sound_fits : (at : ℕ) → Bytes s → Sound s at → Fit (rec_at s at)
  unfolding key_at
  sound_fits at p h =
      let l = length_part s (at + 11) (len_at s at) (omega (arith, h.whole, next_is_lem s at)) in
      let n = h.short in
      record { bytes = bytes_part s (at + 11) (len_at s at) p; short = omega arith; value = value_fits at p h.valued }

  chain_fits_lem : (k at : ℕ) (prev : Key) → Bytes s → Chain k at prev → AllFit (records_from s k at)
  chain_fits_lem k at prev p (ended e) = rw (records_ended k at e) tt
  chain_fits_lem (suc k) at prev p (more h n c) = rw (records_more k at h) (sound_fits at p h, chain_fits_lem k (next_at s at) (key_at s at) p c)

  -- where they stand
  unfoldable pub places_from : ℕ → ℕ → List ℕ
  places_from zero at = []
  places_from (suc k) at = pick (ltb at (length s)) (at ∷ places_from k (next_at s at)) []

  abbrev pub AllWhole : List ℕ → Type 0
  AllWhole [] = Unit {0}
  AllWhole (p ∷ ps) = (next_at s p ≤ length s) × AllWhole ps

  pub records_places : (k at : ℕ) → records_from s k at ≡ map (rec_at s) (places_from k at)
  unfolding records_from places_from
  records_places zero at = refl
  records_places (suc k) at = by_bool (ltb at (length s))
      (λ e. pick_t _ _ e ∙ ap (λ (l : List (Rec ℕ)). rec_at s at ∷ l) (records_places k (next_at s at)) ∙ ap (map (rec_at s)) (sym (pick_t _ _ e)))
      (λ e. pick_f _ _ e ∙ ap (map (rec_at s)) (sym (pick_f _ _ e)))

  chain_whole : (k at : ℕ) (prev : Key) → Chain k at prev → AllWhole (places_from k at)
  unfolding places_from
  chain_whole zero at prev (ended e) = tt
  chain_whole (suc k) at prev (ended e) = by_test AllWhole (ltb at (length s)) (λ t. impossible (sym (le-ltb at (length s) (omega arith)) ∙ t)) (λ t. tt)
  chain_whole (suc k) at prev (more h n c) = by_test AllWhole (ltb at (length s)) (λ t. (h.whole, chain_whole k (next_at s at) (key_at s at) c)) (λ t. tt)

-- ---- all of it

pub record FineRecords (s : List ℕ) : Type 0 where
  pub few : length (records_of s) ≤ most_records
  pub order : NeverFall (records_of s)
  pub fit : AllFit (records_of s)
  pub stand : records_of s ≡ map (rec_at s) (places_from s most_records 0)
  pub whole : AllWhole s (places_from s most_records 0)

pub fine_records : (s : List ℕ) → Bytes s → check_of s ≡ Ok tt → FineRecords s
unfolding check_of records_of
fine_records s p e =
    let c = fine_chain s most_records 0 [] e in
    record { few = records_few s most_records 0; order = (chain_order s most_records 0 [] c).1; fit = chain_fits_lem s most_records 0 [] p c; stand = records_places s most_records 0; whole = chain_whole s most_records 0 [] c }
