-- The ways through `batch` (a law NAME-k is of the k-th return). Assumes nothing.
use mathlib.Core.Path.{◌≡◌, refl, sym, ap, subst, ◌∙◌}
use mathlib.Core.List.{List, [], ◌∷◌}
use mathlib.Core.Bool.{Bool, true, false, not}
use mathlib.Core.Option.{Option, none, some}
use Prim.Native.Nat.{ℕ, ◌≤◌, ◌<◌}
use Rattle.std.specs.Prelude.{Ok, Err, is_err}
use lib.ListN.{length}
use native.Mathlib.Omega.{arith}
use borrow.Author.Tests.{not-true, not-false}
use Rattle.word.specs.Num.{Bytes, zeros}
use Rattle.word.specs.Key.{Key}
use Rattle.tree.specs.Batch.{Rec}
use Rattle.tree.specs.Run as tree
use Rattle.slots.specs.Layout.{count_of, is_store}
use Rattle.slots.specs.Stands.{Audited}
use Rattle.slots.proofs.AuditedLaws.{audited_store}
use Rattle.audit.specs.declared.AuditError.TheVariants as audit
use Rattle.audit.specs.Marks.{words_for}
use Rattle.audit.specs.Contract.{Verdict, audit_number, Audits}
use Rattle.changes.specs.declared.RecordError.{RecordError}
use Rattle.changes.specs.declared.RecordError.TheVariants as flaw
use Rattle.changes.specs.Fit as records
use Rattle.changes.specs.Fit.{AllFit}
use Rattle.changes.specs.Records.{Checked, record_error_number, checked_number, check_of, records_of}
use Rattle.changes.proofs.FineLaws.{fine_records}
use Rattle.outcome.specs.RunMirror as M
use Rattle.outcome.specs.RunMirror.{Ended, start_m, run_all_m}
use Rattle.btree.proofs.Runs.{FitOp, FitRecs, end_of, batch_m}
use Rattle.btree.proofs.Corollaries.{batch_ends}
use Rattle.batch.specs.declared.BatchError.{BatchError}
use Rattle.batch.specs.declared.BatchError.TheVariants.{NotStore, FewMarks, Fails}
use Rattle.batch.specs.declared.Batched.{Batched}
use Rattle.batch.specs.Contract.{batch_error_number, answer_number, told, Refuses, Runs, Batches}
use Rattle.batch.specs.Code.{refused_with, of_record_error, ended_with, batched_of}

-- ---- records that are found fine fit

op_fits : (k : Key) (o : Option ℕ) → Bytes k → length k ≤ 288 → records.FitOp o → FitOp k o
op_fits k none b s f = tt
op_fits k (some v) b s f = record { bytes = b; short = s; there = f.0; small = omega (arith, f.1) }

pub recs_fit : (rs : List (Rec ℕ)) → AllFit rs → FitRecs rs
recs_fit [] f = tt
recs_fit (r ∷ rs) f = (op_fits r.key r.op f.0.bytes f.0.short f.0.value, recs_fit rs f.1)

-- ---- the batch

never_lem : {A : Type 0} → true ≡ false → A
never_lem e = absurd (let k : ◌≡◌ {A = ℕ} 0 1 = cc in omega arith)

refuses : {s t ns : List ℕ} {r : Batched} (a : BatchError) (left : List ℕ) → r ≡ refused_with a → t ≡ s → ns ≡ left → Refuses s r t ns (batch_error_number a) left
refuses a left p q e = record { number_is = ap (λ (x : Batched). answer_number x.answer) p; applied = ap (λ (x : Batched). x.applied) p; store = q; marks = e }

record_number : (e : RecordError) → batch_error_number (of_record_error e) ≡ record_error_number e
record_number flaw.Short = refl
record_number flaw.LongKey = refl
record_number flaw.BadValue = refl
record_number flaw.Falls = refl
record_number flaw.TooMany = refl

pub passed_number : (v : Verdict) {e : Bool} → e ≡ is_err v → e ≡ false → audit_number v ≡ 0
passed_number (Ok n) e z = refl
passed_number (Err e) f z = never_lem (sym f ∙ z)

pub refused_number : (v : Verdict) {e : Bool} → e ≡ is_err v → e ≡ true → audit_number v ≡ 0 → ⊥
refused_number (Ok n) e z y = never_lem (sym z ∙ e)
refused_number (Err audit.NotStore) e z y = omega arith
refused_number (Err audit.FewMarks) e z y = omega arith
refused_number (Err audit.Fails) e z y = omega arith

module _ (s ms q : List ℕ) {b : Bool} (tested : b ≡ is_store s) where
  pub batch_1 : {r : Batched} → not b ≡ true → r ≡ refused_with NotStore → Batches s ms q r s ms
  batch_1 {r} h p = record {
    not_store = λ e. refuses NotStore ms p refl refl;
    few_marks = λ e l. other e;
    bad_records = λ e l n. other e;
    fails = λ e l n m. other e;
    runs = λ a l n. other (audited_store s a);
  }
    where
      other : {A : Type 0} → is_store s ≡ true → A
      other e = never_lem (sym e ∙ sym tested ∙ not-true b h)

  module _ (h : not b ≡ false) {count words : ℕ} (counted : count ≡ count_of s) (needed : words ≡ words_for count) where
    is : is_store s ≡ true
    is = sym tested ∙ not-false b h

    enough : words ≡ words_for (count_of s)
    enough = needed ∙ ap words_for counted

    no_store : {A : Type 0} → is_store s ≡ false → A
    no_store e = never_lem (sym is ∙ e)

    pub batch_2 : {r : Batched} → length ms < words → r ≡ refused_with FewMarks → Batches s ms q r s ms
    batch_2 l p = record {
      not_store = λ e. no_store e;
      few_marks = λ e m. refuses FewMarks ms p refl refl;
      bad_records = λ e m n. absurd (omega (arith, enough));
      fails = λ e m n k. absurd (omega (arith, enough));
      runs = λ a m n. absurd (omega (arith, enough));
    }

    module _ (l : words ≤ length ms) {c : Checked} (found : c ≡ check_of q) where
      few : {A : Type 0} → length ms < words_for (count_of s) → A
      few m = absurd (omega (arith, enough))

      pub batch_3 : {a : BatchError} {r : Batched} (d : RecordError) → c ≡ Err d → a ≡ of_record_error d → r ≡ refused_with a → Batches s ms q r s ms
      batch_3 {a = a} {r = r} d e f p = record {
        not_store = λ i. no_store i;
        few_marks = λ i m. few m;
        bad_records = λ i m n.
            subst (λ (k : ℕ). Refuses s r s ms k ms) (ap batch_error_number f ∙ record_number d ∙ ap checked_number (sym e ∙ found)) (refuses a ms p refl refl);
        fails = λ i m n k. flawed n;
        runs = λ g m n. flawed n;
      }
        where
          flawed : {A : Type 0} → check_of q ≡ Ok tt → A
          flawed n = absurd (let z = sym e ∙ found ∙ n in cc)

      module _ (z : c ≡ Ok tt) {v : Verdict} {ns : List ℕ} (audit : Audits s ms v ns) where
        fine : check_of q ≡ Ok tt
        fine = sym found ∙ z

        pub batch_4 : {r : Batched} → (audit_number v ≡ 0 → ⊥) → r ≡ refused_with Fails → Batches s ms q r s ns
        batch_4 {r} y p = record {
          not_store = λ i. no_store i;
          few_marks = λ i k. few k;
          bad_records = λ i k g. absurd (g fine);
          fails = λ i k g no. refuses Fails (zeros (length ms)) p refl (audit.fails i k no).marks;
          runs = λ g k w. absurd (y (audit.passes g k).number_is);
        }

        pub batch_5 : {r : Batched} {os t : List ℕ} → Bytes q → audit_number v ≡ 0 → length ns ≡ length ms → os ≡ zeros (length ns)
            → (check_of q ≡ Ok tt → (r ≡ batched_of (batch_m (records_of q) s)) × (t ≡ (batch_m (records_of q) s).store)) → Batches s ms q r t os
        batch_5 {r} {os} {t} small y same clear ran = record {
          not_store = λ i. no_store i;
          few_marks = λ i k. few k;
          bad_records = λ i k g. absurd (g fine);
          fails = λ i k g no. absurd (omega (arith, (audit.fails i k no).number_is));
          runs = λ g k w. finished_lem g;
        }
          where
            ended_number : (o : tree.Answer) (k : ℕ) → answer_number (ended_with (end_of o) k).answer ≡ tree.number o
            ended_number tree.done k = refl
            ended_number (tree.no_room j) k = refl

            ended_applied : (o : tree.Answer) (k : ℕ) → (ended_with (end_of o) k).applied ≡ k
            ended_applied tree.done k = refl
            ended_applied (tree.no_room j) k = refl

            finished_lem : (g : Audited s) → Runs s g ms q r t os
            finished_lem g =
                let w = ran fine in
                let fit = recs_fit (records_of q) (fine_records q small fine).fit in
                let d = batch_ends s g (records_of q) fit in
                let o = (told s g q).answer in
                let is-r : r ≡ ended_with (end_of o) (batch_m (records_of q) s).applied = w.0 ∙ ap (λ (a : M.Acted). ended_with a (batch_m (records_of q) s).applied) d.out in
                record {
                  number_is = ap (λ (x : Batched). answer_number x.answer) is-r ∙ ended_number o (batch_m (records_of q) s).applied;
                  applied = ap (λ (x : Batched). x.applied) is-r ∙ ended_applied o (batch_m (records_of q) s).applied ∙ d.applied;
                  stands = rw w.1 d.stands;
                  marks = clear ∙ ap zeros same;
                }
