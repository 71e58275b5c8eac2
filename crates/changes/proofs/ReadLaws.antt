-- "What was read is written": fine bytes are those of their records, so no two batches of bytes say the same. Assumes nothing.
use mathlib.Core.Path.{◌≡◌, refl, sym, ap, ◌∙◌}
use mathlib.Core.List.{List, [], ◌∷◌, ◌++◌, append_assoc}
use mathlib.Core.Bool.{Bool, true, false, ◌||◌}
use mathlib.Core.Option.{Option}
use Prim.Native.Nat.{ℕ, suc, ◌+◌, ◌≤◌}
use lib.ListN.{length, get_or, drop, drop_of_length-le}
use lib.Seq.{drop-cons}
use lib.Dec.{eqb}
use native.Mathlib.Numerals.{add-one}
use native.Mathlib.Omega.{arith}
use borrow.Author.Tests.{eqb-true, not-false}
use Rattle.word.specs.Pick.{pick_f, by_test}
use Rattle.word.specs.Key.{Key}
use Rattle.word.specs.Part.{part}
use Rattle.word.specs.Num.{le, Bytes}
use Rattle.word.specs.At.{read_at}
use Rattle.word.proofs.PartLaws.{length_part, drop_split}
use Rattle.word.proofs.NumLaws.{le_un, bytes_part}
use Rattle.word.proofs.AtLaws.{read_at_in}
use Rattle.std.specs.Prelude.{Ok}
use Rattle.changes.specs.Records.{most_records, kind_at, len_at, value_at, key_at, next_at, op_at, rec_at, is_known, is_bad_value, check_of, records_from, records_of, kind_of, value_of, encode_record, encode_records}
use Rattle.changes.proofs.RecordLaws.{impossible, next_is_lem, Sound}
use Rattle.changes.proofs.FineLaws.{Chain, ended, more, fine_chain, records_ended, records_more}

or_second : (a b : Bool) → (a || b) ≡ true → a ≡ false → b ≡ true
or_second true b e f = impossible (sym f)
or_second false b e f = e

module _ (s : List ℕ) (bytes : Bytes s) where
  number_back : (k at : ℕ) → at + k ≤ length s → le k (read_at k s at) ≡ part s at k
  number_back k at h =
      rw (read_at_in k s at h) (rw (length_part s at k h) at (le_un (part s at k) (bytes_part s at k bytes)))

  -- ---- one record

  module _ (at : ℕ) (sound : Sound s at) where
    kind_back : kind_of (op_at s at) ≡ kind_at s at
    unfolding op_at is_known
    kind_back =
        by_test (λ (o : Option ℕ). kind_of o ≡ kind_at s at) (eqb (kind_at s at) 1) (λ e. sym (eqb-true (kind_at s at) 1 e))
        (λ e. sym (eqb-true (kind_at s at) 2 (or_second (eqb (kind_at s at) 1) (eqb (kind_at s at) 2) sound.known e)))

    value_back : value_of (op_at s at) ≡ value_at s at
    unfolding op_at is_bad_value
    value_back =
        by_test (λ (o : Option ℕ). value_of o ≡ value_at s at) (eqb (kind_at s at) 1) (λ e. refl)
        (λ e. sym (eqb-true (value_at s at) 0 (not-false (eqb (value_at s at) 0) (sym (pick_f _ _ e) ∙ sound.valued))))

    within_lem : at + 11 + len_at s at ≤ length s
    within_lem = omega (arith, sound.whole, next_is_lem s at)

    head_back : drop at s ≡ kind_at s at ∷ (le 2 (len_at s at) ++ (le 8 (value_at s at) ++ drop (at + 11) s))
    unfolding kind_at len_at value_at
    head_back =
        let w = sound.whole in
        let n = next_is_lem s at in
        let a : at + 1 + 2 ≡ at + 3 = omega arith in
        let b : at + 3 + 8 ≡ at + 11 = omega arith in
        drop-cons s at 0 (omega arith)
        ∙ rw (← add-one at, number_back 2 (at + 1) (omega arith), number_back 8 (at + 3) (omega arith))
        (ap (λ (l : List ℕ). get_or s at 0 ∷ l) (drop_split s (at + 1) 2 ∙ rw a (ap (λ (l : List ℕ). part s (at + 1) 2 ++ l) (drop_split s (at + 3) 8 ∙ rw b))))

    key_length : length (key_at s at) ≡ len_at s at
    unfolding key_at
    key_length = length_part s (at + 11) (len_at s at) within_lem

    key_back : drop (at + 11) s ≡ key_at s at ++ drop (next_at s at) s
    unfolding key_at next_at
    key_back = drop_split s (at + 11) (len_at s at)

    record_back : encode_record (rec_at s at) ++ drop (next_at s at) s ≡ drop at s
    unfolding encode_record
    record_back =
        let n : List ℕ = le 2 (len_at s at) in
        let v : List ℕ = le 8 (value_at s at) in
        let rest : List ℕ = drop (next_at s at) s in
        rw (kind_back, value_back, key_length, head_back, key_back)
        (ap (λ (l : List ℕ). kind_at s at ∷ l) (append_assoc n (v ++ key_at s at) rest ∙ ap (λ (l : List ℕ). n ++ l) (append_assoc v (key_at s at) rest)))

  -- ---- all records

  chain_back : (k at : ℕ) (prev : Key) → Chain s k at prev → encode_records (records_from s k at) ≡ drop at s
  unfolding encode_records
  chain_back k at prev (ended e) = let h : length s ≤ at = omega arith in rw (records_ended s k at e) (sym (drop_of_length-le s h))
  chain_back (suc k) at prev (more h n c) = rw (records_more s k at h, chain_back k (next_at s at) (key_at s at) c) (record_back at h)

  pub read_written_lem : check_of s ≡ Ok tt → encode_records (records_of s) ≡ s
  unfolding check_of records_of
  read_written_lem e = chain_back most_records 0 [] (fine_chain s most_records 0 [] e)
