-- "What was written is read": records that fit, written as bytes, are found fine and are read back. Assumes nothing.
use mathlib.Core.Path.{◌≡◌, refl, sym, ap, ◌∙◌}
use mathlib.Core.List.{List, [], ◌∷◌, ◌++◌, append_assoc, append-nil}
use mathlib.Core.Bool.{true, false, not, ◌||◌}
use mathlib.Core.Option.{Option, none, some}
use Prim.Native.Nat.{ℕ, suc, ◌+◌, ◌-◌, ◌^◌, ◌≤◌, ◌<◌}
use lib.ListN.{length, length-append}
use lib.Seq.{get_or_at}
use lib.Dec.{eqb}
use native.Mathlib.Omega.{arith}
use borrow.Author.Tests.{ne_eqb}
use Rattle.word.specs.Pick.{pick}
use Rattle.word.specs.Key.{Key, Lt}
use Rattle.word.specs.Num.{le, un}
use Rattle.word.specs.At.{read_at}
use Rattle.word.proofs.PartLaws.{part_seam}
use Rattle.word.proofs.NumLaws.{length_le, un_le}
use Rattle.word.proofs.AtLaws.{read_at_in}
use Rattle.tree.specs.Batch.{Rec, NoneBelow, NeverFall}
use Rattle.std.specs.Prelude.{Ok, Err}
use Rattle.changes.specs.declared.RecordError.TheVariants.{TooMany}
use Rattle.changes.specs.Records.{most_records, kind_at, len_at, value_at, key_at, next_at, op_at, rec_at, is_known, is_bad_value, check_from, check_of, records_from, records_of, kind_of, value_of, encode_record, encode_records}
use Rattle.changes.specs.Fit.{FitOp, Fit, AllFit}
use Rattle.changes.proofs.RecordLaws.{next_is_lem, Sound}
use Rattle.changes.proofs.CheckLaws.{check_ended, check_many}
use Rattle.changes.proofs.FineLaws.{check_passes, records_ended, records_more}

-- a number in its bytes, behind others
read_seam : (k x : ℕ) (p q : List ℕ) (a : ℕ) → length p ≡ a → x < 256 ^ k → read_at k (p ++ (le k x ++ q)) a ≡ x
read_seam k x p q a e h =
    let l = length_le k x in
    read_at_in k (p ++ (le k x ++ q)) a (simp length-append (omega arith)) ∙ ap un (part_seam p (le k x) q a k e l) ∙ un_le k x h

value_small : (o : Option ℕ) → FitOp o → value_of o < 256 ^ 8
value_small none f = omega arith
value_small (some v) f = f.1

kind_known : (o : Option ℕ) → (eqb (kind_of o) 1 || eqb (kind_of o) 2) ≡ true
kind_known none = refl
kind_known (some v) = refl

value_good : (o : Option ℕ) → FitOp o → pick (eqb (kind_of o) 1) (eqb (value_of o) 0) (not (eqb (value_of o) 0)) ≡ false
unfolding pick
value_good none f = refl
value_good (some v) f = let p = f.0 in ne_eqb v 0 (λ e. omega arith)

op_back : (o : Option ℕ) → pick (eqb (kind_of o) 1) (some (value_of o)) none ≡ o
unfolding pick
op_back none = refl
op_back (some v) = refl

-- ---- one record, between bytes p and q

module _ (s p : List ℕ) (r : Rec ℕ) (q : List ℕ) (written : s ≡ p ++ (encode_record r ++ q)) (fit : Fit r) where
  abbrev head : List ℕ
  head = le 2 (length r.key) ++ le 8 (value_of r.op)

  kind_read : kind_at s (length p) ≡ kind_of r.op
  unfolding kind_at encode_record
  kind_read = rw written (get_or_at p (kind_of r.op) _ 0 (length p) refl)

  len_read : len_at s (length p) ≡ length r.key
  unfolding len_at encode_record
  len_read =
      let n = fit.short in
      let e : s ≡ (p ++ (kind_of r.op ∷ [])) ++ (le 2 (length r.key) ++ (le 8 (value_of r.op) ++ (r.key ++ q))) = written ∙ simp append_assoc in
      rw e (read_seam 2 (length r.key) (p ++ (kind_of r.op ∷ [])) _ (length p + 1) (simp length-append) (omega arith))

  value_read : value_at s (length p) ≡ value_of r.op
  unfolding value_at encode_record
  value_read =
      let l = length_le 2 (length r.key) in
      let e : s ≡ (p ++ (kind_of r.op ∷ le 2 (length r.key))) ++ (le 8 (value_of r.op) ++ (r.key ++ q)) = written ∙ simp append_assoc in
      rw e (read_seam 8 (value_of r.op) (p ++ (kind_of r.op ∷ le 2 (length r.key))) _ (length p + 3) (simp length-append (omega arith)) (value_small r.op fit.value))

  key_read : key_at s (length p) ≡ r.key
  unfolding key_at encode_record
  key_read =
      let e : s ≡ (p ++ (kind_of r.op ∷ head)) ++ (r.key ++ q) = written ∙ simp append_assoc in
      rw (len_read, e) (part_seam (p ++ (kind_of r.op ∷ head)) r.key q (length p + 11) (length r.key) (simp (length-append, length_le)) refl)

  next_read : next_at s (length p) ≡ length (p ++ encode_record r)
  unfolding encode_record
  next_read =
      let g : length (p ++ (kind_of r.op ∷ (head ++ r.key))) ≡ length p + 11 + length r.key = simp (length-append, length_le) (omega arith) in
      next_is_lem s (length p) ∙ rw len_read (sym g ∙ simp append_assoc)

  op_read : op_at s (length p) ≡ r.op
  unfolding op_at
  op_read = rw (kind_read, value_read) (op_back r.op)

  pub record_read : rec_at s (length p) ≡ r
  record_read = rw (key_read, op_read)

  pub record_sound : Sound s (length p)
  unfolding is_known is_bad_value
  record_sound =
      let n = fit.short in
      record {
        whole = rw (next_read, written) (simp length-append (omega arith));
        known = rw kind_read (kind_known r.op);
        short = rw len_read n;
        valued = rw (kind_read, value_read) (value_good r.op fit.value);
      }

-- ---- records at the front of bytes

abbrev pub last_key : Key → List (Rec ℕ) → Key
last_key prev [] = prev
last_key prev (r ∷ rs) = last_key r.key rs

-- where they end, what follows decides
pub record Passed (s : List ℕ) (k at : ℕ) (prev : Key) (rs : List (Rec ℕ)) (behind : ℕ) : Type 0 where
  pub check : check_from s (length rs + k) at prev ≡ check_from s k behind (last_key prev rs)
  pub records : records_from s (length rs + k) at ≡ rs ++ records_from s k behind

pub passed_lem : (rs : List (Rec ℕ)) (s p q : List ℕ) (k : ℕ) (prev : Key) → s ≡ p ++ (encode_records rs ++ q) → AllFit rs → NeverFall rs → NoneBelow prev rs
    → Passed s k (length p) prev rs (length (p ++ encode_records rs))
unfolding encode_records
passed_lem [] s p q k prev e f n b = let z : 0 + k ≡ k = omega arith in rw append-nil (record { check = rw z; records = rw z })
passed_lem (r ∷ rs) s p q k prev e f n b =
    let w : s ≡ p ++ (encode_record r ++ (encode_records rs ++ q)) = e ∙ simp append_assoc in
    let sound = record_sound s p r (encode_records rs ++ q) w f.0 in
    let key : key_at s (length p) ≡ r.key = key_read s p r (encode_records rs ++ q) w f.0 in
    let next = next_read s p r (encode_records rs ++ q) w f.0 in
    let rest = passed_lem rs s (p ++ encode_record r) q k r.key (w ∙ sym (append_assoc p (encode_record r) (encode_records rs ++ q))) f.1 n.1 n.0 in
    let z : suc (length rs) + k ≡ suc (length rs + k) = omega arith in
    let a : p ++ (encode_record r ++ encode_records rs) ≡ (p ++ encode_record r) ++ encode_records rs = sym (append_assoc p (encode_record r) (encode_records rs)) in
    rw a
    (record {
      check = rw z (check_passes s (length rs + k) (length p) prev sound (rw key b.0) ∙ rw (next, key) rest.check);
      records = rw z (records_more s (length rs + k) (length p) sound ∙ rw (record_read s p r (encode_records rs ++ q) w f.0, next, rest.records));
    })

-- ---- a whole batch

-- no key is below the empty one
none_below_empty : (rs : List (Rec ℕ)) → NoneBelow [] rs
none_below_empty [] = tt
none_below_empty (r ∷ rs) = (not_below_empty r.key, none_below_empty rs)
  where
    not_below_empty : (k : Key) → Lt k [] → ⊥
    not_below_empty [] e = let z : ◌≡◌ {A = ℕ} 0 1 = cc in omega arith
    not_below_empty (b ∷ k) e = let z : ◌≡◌ {A = ℕ} 0 1 = cc in omega arith

pub record WrittenRead (rs : List (Rec ℕ)) : Type 0 where
  pub fine : check_of (encode_records rs) ≡ Ok tt
  pub same : records_of (encode_records rs) ≡ rs

module _ (rs : List (Rec ℕ)) (fit : AllFit rs) (order : NeverFall rs) where
  whole : (q : List ℕ) (k : ℕ) → Passed (encode_records rs ++ q) k 0 [] rs (length (encode_records rs))
  whole q k = passed_lem rs (encode_records rs ++ q) [] q k [] refl fit order (none_below_empty rs)

  pub written_read : length rs ≤ most_records → WrittenRead rs
  unfolding check_of records_of
  written_read h =
      let k : ℕ = most_records - length rs in
      let z : length rs + k ≡ most_records = omega arith in
      let w = rw append-nil at (whole [] k) in
      record {
        fine = rw (← z) (w.check ∙ check_ended (encode_records rs) k (length (encode_records rs)) (last_key [] rs) refl);
        same = rw (← z) (w.records ∙ rw (records_ended (encode_records rs) k (length (encode_records rs)) refl, append-nil));
      }

  -- "7 | a 65,536th record": one byte behind 65,535 records is enough
  pub too_many : length rs ≡ most_records → (b : ℕ) (q : List ℕ) → check_of (encode_records rs ++ (b ∷ q)) ≡ Err TooMany
  unfolding check_of
  too_many h b q =
      let z : length rs + 0 ≡ most_records = omega arith in
      let l : length (encode_records rs ++ (b ∷ q)) ≡ length (encode_records rs) + suc (length q) = simp length-append in
      rw (← z) ((whole (b ∷ q) 0).check ∙ check_many (encode_records rs ++ (b ∷ q)) (length (encode_records rs)) (last_key [] rs) (λ e. omega arith))
