-- What a batch's contract says, in 01's words: one result, the entries afterwards, audited again, run again, two batches against
-- the merged one, and any number of batches on a formatted store. Assumes nothing.
use mathlib.Core.Path.{◌≡◌, refl, sym, ap, subst, ◌∙◌}
use mathlib.Core.Logic.{◌⊎◌, inl, inr}
use mathlib.Core.List.{List, [], ◌∷◌, ◌++◌}
use mathlib.Core.Bool.{Bool, true, false, cond, ◌&&◌}
use mathlib.Core.Option.{some}
use Rattle.std.specs.Prelude.{Result}
use Prim.Native.Nat.{ℕ, ◌≤◌, ◌<◌}
use lib.ListN.{length, take}
use lib.Dec.{leb, eqb}
use native.Mathlib.Omega.{arith}
use borrow.Author.Tests.{leb-true, leb-false}
use Rattle.word.specs.Pick.{pick_t, pick_f}
use Rattle.word.specs.Num.{Bytes, zeros}
use Rattle.tree.specs.Map.{Sep}
use Rattle.tree.specs.Batch.{Rec, apply_all, merge}
use Rattle.tree.specs.State.{rooted}
use Rattle.tree.specs.Run as tree
use Rattle.tree.proofs.Cases.{by_bool}
use Rattle.tree.proofs.BatchLaws.{apply_append}
use Rattle.slots.specs.declared.FormatError.{FormatError}
use Rattle.slots.specs.Limits.{most_slots}
use Rattle.slots.specs.Layout.{count_of, is_store}
use Rattle.slots.specs.Stands.{Audited}
use Rattle.slots.specs.Entries.{entries_of}
use Rattle.slots.specs.Format.{fresh}
use Rattle.slots.specs.Code.{has_size, format_number, Formats}
use Rattle.slots.proofs.Unique.{one_store}
use Rattle.slots.proofs.AuditedLaws.{audited_store}
use Rattle.slots.proofs.Theorems.{formatted_audited, formatted_empty}
use Rattle.audit.specs.Marks.{words_for}
use Rattle.audit.proofs.Theorems.{audited_or_not}
use Rattle.std.specs.Prelude.{Ok, Err}
use Rattle.changes.specs.Records.{Checked, checked_number, check_of, records_of}
use Rattle.changes.proofs.FineLaws.{fine_records}
use Rattle.outcome.specs.RunMirror as M
use Rattle.btree.proofs.Runs.{FitRecs, end_of, batch_m}
use Rattle.btree.proofs.Corollaries as btree
use Rattle.btree.proofs.Corollaries.{batch_ends, batch_audited}
use Rattle.batch.specs.declared.BatchError.TheVariants.{NotStore, FewMarks, Short, LongKey, BadValue, Falls, TooMany, Fails, NoRoom, BadText}
use Rattle.batch.specs.declared.Batched.{Batched}
use Rattle.batch.specs.Contract.{Answer, answer_number, told, Refuses, Runs, Batches}
use Rattle.batch.specs.Made.{Made, formatted, changed}
use Rattle.batch.proofs.BatchCode.{recs_fit}

-- ---- an answer is told by its number

abbrev answer_of : ℕ → Answer
answer_of n =
    cond (eqb n 0) (Ok tt) (Err (cond (eqb n 1) NotStore (cond (eqb n 2) FewMarks (cond (eqb n 3) Short (cond (eqb n 4) LongKey
    (cond (eqb n 5) BadValue (cond (eqb n 6) Falls (cond (eqb n 7) TooMany (cond (eqb n 8) Fails (cond (eqb n 9) NoRoom BadText))))))))))

told_by : (a : Answer) → answer_of (answer_number a) ≡ a
told_by (Ok _) = refl
told_by (Err NotStore) = refl
told_by (Err FewMarks) = refl
told_by (Err Short) = refl
told_by (Err LongKey) = refl
told_by (Err BadValue) = refl
told_by (Err Falls) = refl
told_by (Err TooMany) = refl
told_by (Err Fails) = refl
told_by (Err NoRoom) = refl
told_by (Err BadText) = refl

pub same_batched : (r q : Batched) → answer_number r.answer ≡ answer_number q.answer → r.applied ≡ q.applied → r ≡ q
same_batched r q e f =
    let a : r.answer ≡ q.answer = sym (told_by r.answer) ∙ ap answer_of e ∙ told_by q.answer in
    λ i. record { answer = a i; applied = f i }

-- ---- the runs' bytes, answer and count are those of the mirrors

module _ (s ms q : List ℕ) (r : Batched) (t ns : List ℕ) (h : Audited s) (small : Bytes q) (fine : check_of q ≡ Ok tt) (w : Runs s h ms q r t ns) where
  abbrev recs : List (Rec ℕ)
  recs = records_of q

  fit : FitRecs recs
  fit = recs_fit recs (fine_records q small fine).fit

  pub ran_store : t ≡ (batch_m recs s).store
  ran_store = one_store h.count t (batch_m recs s).store (rooted (told s h q).state) (batch_ends s h recs fit).good w.stands (batch_ends s h recs fit).stands

  pub ran_applied : r.applied ≡ (batch_m recs s).applied
  ran_applied = w.applied ∙ sym (batch_ends s h recs fit).applied

  -- "audited again"
  pub ran_audited : Audited t
  ran_audited = subst Audited (sym ran_store) (batch_audited s h recs fit)

  -- Demand 2: "after a batch that reaches its end, the entries in key order are the old ones with each key's last change
  -- applied"; at 9, for the records that are counted as applied.
  pub ran_entries : (es : List (Sep ℕ)) → entries_of s ≡ some es → entries_of t ≡ some (apply_all (take r.applied recs) es)
  ran_entries es e = rw (ran_store, ran_applied) (btree.batch_entries s h recs fit es e)

  answered_lem : (o : tree.Answer) → tree.number o ≡ 0 → end_of o ≡ M.done
  answered_lem tree.done e = refl
  answered_lem (tree.no_room n) e = absurd (omega arith)

  pub ran_done : answer_number r.answer ≡ 0 → (batch_m recs s).out ≡ M.done
  ran_done e = (batch_ends s h recs fit).out ∙ answered_lem (told s h q).answer (sym w.number_is ∙ e)

-- ---- one result

fine_or_not : (c : Checked) → (c ≡ Ok tt) ⊎ (c ≡ Ok tt → ⊥)
fine_or_not (Ok _) = inl refl
fine_or_not (Err e) = inr (λ f. cc)

-- every way that a batch can go, by which of the contract's cases holds
pub cases : {A : Type 0} (s ms q : List ℕ) → Bytes s
    → (is_store s ≡ false → A) → (is_store s ≡ true → length ms < words_for (count_of s) → A)
    → (is_store s ≡ true → words_for (count_of s) ≤ length ms → (check_of q ≡ Ok tt → ⊥) → A)
    → (is_store s ≡ true → words_for (count_of s) ≤ length ms → check_of q ≡ Ok tt → (Audited s → ⊥) → A)
    → (Audited s → words_for (count_of s) ≤ length ms → check_of q ≡ Ok tt → A) → A
cases {A} s ms q bs one two three eight run =
    by_bool (is_store s)
    (λ is. by_bool (leb (words_for (count_of s)) (length ms))
    (λ p. let le = leb-true (words_for (count_of s)) (length ms) p in records is le (fine_or_not (check_of q)))
    (λ p. two is (leb-false (words_for (count_of s)) (length ms) p)))
    (λ no. one no)
  where
    passed_lem : is_store s ≡ true → words_for (count_of s) ≤ length ms → check_of q ≡ Ok tt → Audited s ⊎ (Audited s → ⊥) → A
    passed_lem is le f (inl h) = run h le f
    passed_lem is le f (inr n) = eight is le f n

    records : is_store s ≡ true → words_for (count_of s) ≤ length ms → (check_of q ≡ Ok tt) ⊎ (check_of q ≡ Ok tt → ⊥) → A
    records is le (inl f) = passed_lem is le f (audited_or_not s bs is)
    records is le (inr n) = three is le n

-- "any two results allowed by one such statement are the same"
module _ (s ms q : List ℕ) (r : Batched) (t ns : List ℕ) (r' : Batched) (t' ns' : List ℕ) where
  abbrev Same : Type 0
  Same = (r ≡ r') × (t ≡ t') × (ns ≡ ns')

  refused_same : (n : ℕ) (left : List ℕ) → Refuses s r t ns n left → Refuses s r' t' ns' n left → Same
  refused_same n left a b = (same_batched r r' (a.number_is ∙ sym b.number_is) (a.applied ∙ sym b.applied), a.store ∙ sym b.store, a.marks ∙ sym b.marks)

  pub batch_once : Bytes s → Bytes q → Batches s ms q r t ns → Batches s ms q r' t' ns' → Same
  batch_once bs small a b =
      cases s ms q bs
      (λ no. refused_same 1 ms (a.not_store no) (b.not_store no))
      (λ is l. refused_same 2 ms (a.few_marks is l) (b.few_marks is l))
      (λ is l n. refused_same (checked_number (check_of q)) ms (a.bad_records is l n) (b.bad_records is l n))
      (λ is l f n. refused_same 8 (zeros (length ms)) (a.fails is l f n) (b.fails is l f n))
      (λ h l f.
      let v = a.runs h l f in
      let w = b.runs h l f in (
        same_batched r r' (v.number_is ∙ sym w.number_is) (v.applied ∙ sym w.applied),
        ran_store s ms q r t ns h small f v ∙ sym (ran_store s ms q r' t' ns' h small f w),
        v.marks ∙ sym w.marks,
      ))

-- ---- Demand 1: "A refused call changes no byte of the store; the one exception is "no room""

pub refused_unchanged : (s ms q : List ℕ) (r : Batched) (t ns : List ℕ) → Bytes s → Batches s ms q r t ns
    → (answer_number r.answer ≡ 0 → ⊥) → (answer_number r.answer ≡ 9 → ⊥) → (t ≡ s) × (r.applied ≡ 0)
refused_unchanged s ms q r t ns bs a z n =
    cases s ms q bs (λ no. both (a.not_store no)) (λ is l. both (a.few_marks is l)) (λ is l m. both (a.bad_records is l m)) (λ is l f m. both (a.fails is l f m))
    (λ h l f. absurd (ended (told s h q).answer (a.runs h l f).number_is))
  where
    both : {n : ℕ} {left : List ℕ} → Refuses s r t ns n left → (t ≡ s) × (r.applied ≡ 0)
    both w = (w.store, w.applied)

    ended : (o : tree.Answer) → answer_number r.answer ≡ tree.number o → ⊥
    ended tree.done e = z e
    ended (tree.no_room m) e = n e

-- ---- Demand 3: "A batch run to its end and run again at once gives the same answer and changes no byte."

pub run_again : (s ms q : List ℕ) (r : Batched) (t ns : List ℕ) → Audited s → words_for (count_of s) ≤ length ms → Bytes q → check_of q ≡ Ok tt → Batches s ms q r t ns
    → answer_number r.answer ≡ 0 → (ms' : List ℕ) (r' : Batched) (t' ns' : List ℕ) → words_for (count_of t) ≤ length ms' → Batches t ms' q r' t' ns' → (r' ≡ r) × (t' ≡ t)
run_again s ms q r t ns h l small f a e ms' r' t' ns' l' b =
    let rs = records_of q in
    let v = a.runs h l f in
    let done = ran_done s ms q r t ns h small f v e in
    let here = ran_store s ms q r t ns h small f v in
    let k = ran_audited s ms q r t ns h small f v in
    let w = b.runs k l' f in
    let up = (fine_records q small f).order in
    let again : batch_m rs t ≡ batch_m rs s = ap (batch_m rs) here ∙ btree.run_again s h rs (fit s ms q r t ns h small f v) up done in
    let store : t' ≡ t = ran_store t ms' q r' t' ns' k small f w ∙ ap (λ (g : M.Ended). g.store) again ∙ sym here in
    let applied : r'.applied ≡ r.applied = ran_applied t ms' q r' t' ns' k small f w ∙ ap (λ (g : M.Ended). g.applied) again ∙ sym (ran_applied s ms q r t ns h small f v) in
    let out : end_of (told t k q).answer ≡ M.done = sym (batch_ends t k rs (fit s ms q r t ns h small f v)).out ∙ ap (λ (g : M.Ended). g.out) again ∙ done in
    (same_batched r' r (w.number_is ∙ zero_number (told t k q).answer out ∙ sym e) applied, store)
  where
    zero_number : (o : tree.Answer) → end_of o ≡ M.done → tree.number o ≡ 0
    zero_number tree.done g = refl
    zero_number (tree.no_room m) g = cc

-- "Batch A and then batch B give the entries that one merged batch gives from the same store, B winning where both name a key,
-- provided all three runs reach their end." qa, qb and qm are the records of A, of B and of the merged batch.
pub a_then_b : (s qa qb qm ms : List ℕ) (ra rb rm : Batched) (ta tb tm na nb nm : List ℕ) → Audited s → words_for (count_of s) ≤ length ms → words_for (count_of ta) ≤ length ms
    → Bytes qa → Bytes qb → Bytes qm → check_of qa ≡ Ok tt → check_of qb ≡ Ok tt → check_of qm ≡ Ok tt → records_of qm ≡ merge (records_of qa) (records_of qb)
    → Batches s ms qa ra ta na → Batches ta ms qb rb tb nb → Batches s ms qm rm tm nm
    → answer_number ra.answer ≡ 0 → answer_number rb.answer ≡ 0 → answer_number rm.answer ≡ 0 → entries_of tm ≡ entries_of tb
a_then_b s qa qb qm ms ra rb rm ta tb tm na nb nm h l l' ba bb bm fa fb fm merged a b m za zb zm =
    let va = a.runs h l fa in
    let ka = ran_audited s ms qa ra ta na h ba fa va in
    let vb = b.runs ka l' fb in
    let vm = m.runs h l fm in
    let xs = records_of qa in
    let ys = records_of qb in
    let sa = ran_store s ms qa ra ta na h ba fa va in
    let sb = ran_store ta ms qb rb tb nb ka bb fb vb in
    let sm = ran_store s ms qm rm tm nm h bm fm vm in
    let db : (batch_m ys (batch_m xs s).store).out ≡ M.done = subst (λ (u : List ℕ). (batch_m ys u).out ≡ M.done) sa (ran_done ta ms qb rb tb nb ka bb fb vb zb) in
    let dm : (batch_m (merge xs ys) s).out ≡ M.done = subst (λ (rs : List (Rec ℕ)). (batch_m rs s).out ≡ M.done) merged (ran_done s ms qm rm tm nm h bm fm vm zm) in
    let same = btree.a_then_b s h xs ys (fit s ms qa ra ta na h ba fa va) (fit ta ms qb rb tb nb ka bb fb vb) (fine_records qa ba fa).order (ran_done s ms qa ra ta na h ba fa va za) db dm in
    ap entries_of (sm ∙ ap (λ (rs : List (Rec ℕ)). (batch_m rs s).store) merged) ∙ same ∙ sym (ap entries_of (sb ∙ ap (λ (u : List ℕ). (batch_m ys u).store) sa))

-- ---- "In a store formatted and then changed only by our batches, each slot is reached from the root once or free once, all
-- leaves are equally deep, every node but the root holds 4 to 8 separators" (all of which `Audited` says; slots' Theorems tell it
-- condition by condition), "and the entries are those that demand 2 gives for all records counted as applied, in order."

pub record WellMade (s : List ℕ) (rs : List (Rec ℕ)) : Type 0 where
  pub audited : Audited s
  pub entries : entries_of s ≡ some (apply_all rs [])

append_none : (xs : List (Rec ℕ)) → xs ++ [] ≡ xs
append_none [] = refl
append_none (x ∷ xs) = ap (λ (l : List (Rec ℕ)). x ∷ l) (append_none xs)

sized_lem : (len n : ℕ) → has_size len n ≡ true → (1 ≤ n) × (n ≤ most_slots)
unfolding has_size
sized_lem len n e = let a = and_both (leb 1 n) _ e in let b = and_both (leb n most_slots) _ a.1 in (leb-true 1 n a.0, leb-true n most_slots b.0)
  where
    and_both : (a b : Bool) → (a && b) ≡ true → (a ≡ true) × (b ≡ true)
    and_both true b e = (refl, e)
    and_both false b e = absurd (let z : ◌≡◌ {A = ℕ} 0 1 = cc in omega arith)

made_fresh : (s : List ℕ) (n : ℕ) (r : Result (Unit {0}) FormatError) (t : List ℕ) → Formats s n r t → format_number r ≡ 0 → WellMade t []
made_fresh s n r t f z =
    by_bool (has_size (length s) n)
    (λ e.
    let is : t ≡ fresh n = f.bytes ∙ pick_t _ _ e in
    let g = sized_lem (length s) n e in
    subst (λ (u : List ℕ). WellMade u []) (sym is) (record { audited = formatted_audited n g.0 g.1; entries = formatted_empty n g.0 g.1 }))
    (λ e. absurd (omega (arith, f.number ∙ pick_f _ _ e)))

-- nothing was applied, and nothing changed
made_same : (s t : List ℕ) (rs qs : List (Rec ℕ)) (n : ℕ) → t ≡ s → n ≡ 0 → WellMade s rs → WellMade t (rs ++ take n qs)
made_same s t rs qs n e z w =
    let none_more : rs ++ take n qs ≡ rs = ap (λ (k : ℕ). rs ++ take k qs) z ∙ append_none rs in
    subst (λ (u : List ℕ). WellMade u (rs ++ take n qs)) (sym e) (subst (WellMade s) (sym none_more) w)

pub made_lem : (s : List ℕ) (rs : List (Rec ℕ)) → Made s rs → WellMade s rs
made_lem t rs (formatted s n r u f z) = made_fresh s n r t f z
made_lem t rs (changed s ms q r u ns qs m small b) =
    let w = made_lem s qs m in
    let h = w.audited in
    by_bool (leb (words_for (count_of s)) (length ms))
    (λ p. records w h (leb-true (words_for (count_of s)) (length ms) p) (fine_or_not (check_of q)))
    (λ p. let a = b.few_marks (audited_store s h) (leb-false (words_for (count_of s)) (length ms) p) in made_same s t qs (records_of q) r.applied a.store a.applied w)
  where
    records : WellMade s qs → Audited s → words_for (count_of s) ≤ length ms → (check_of q ≡ Ok tt) ⊎ (check_of q ≡ Ok tt → ⊥) → WellMade t (qs ++ take r.applied (records_of q))
    records w h l (inl f) =
        let v = b.runs h l f in
        record {
          audited = ran_audited s ms q r t ns h small f v;
          entries = ran_entries s ms q r t ns h small f v (apply_all qs []) w.entries ∙ ap some (sym (apply_append qs (take r.applied (records_of q)) []));
        }
    records w h l (inr n) = let a = b.bad_records (audited_store s h) l n in made_same s t qs (records_of q) r.applied a.store a.applied w
