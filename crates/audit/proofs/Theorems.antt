-- The audit's theorems: it passes exactly if the store is audited, its marks are the reached slots, and its contract allows one
-- result. Assumes nothing.
use mathlib.Core.Path.{◌≡◌, refl, sym, ap, ◌∙◌}
use mathlib.Core.Logic.{◌⊎◌, inl, inr}
use mathlib.Core.List.{List, []}
use mathlib.Core.Bool.{true, false}
use mathlib.Core.Option.{Option, none, some}
use Prim.Native.Nat.{ℕ, ◌*◌, ◌≤◌, ◌<◌}
use lib.ListN.{length, take}
use lib.Dec.{leb}
use native.Mathlib.Omega.{arith}
use borrow.Author.Tests.{leb-true, leb-false, le-leb, lt-leb}
use Rattle.word.specs.Pick.{pick_t, pick_f}
use Rattle.word.specs.Num.{Bytes, zeros}
use Rattle.tree.specs.Free.{occurs}
use Rattle.tree.proofs.Cases.{by_bool}
use Rattle.slots.specs.Layout.{count_of, is_store}
use Rattle.slots.specs.Stands.{Audited}
use Rattle.slots.proofs.Framing.{Within}
use Rattle.slots.proofs.Building.{IfSome}
use Rattle.slots.proofs.AuditedLaws.{audited_store}
use Rattle.slots.specs.Reached.{reached}
use Rattle.slots.proofs.Reached.{audited_once}
use Rattle.std.specs.Prelude.{Ok, Err}
use Rattle.audit.specs.declared.AuditError.TheVariants.{NotStore, FewMarks, Fails}
use Rattle.audit.specs.Marks.{words_for, mark_of, among, mark_words, all_ones}
use Rattle.audit.specs.Contract.{Verdict, audit_number, audit_reached, Leaves, Audits}
use Rattle.audit.specs.Walk.{in_list, in_words, read_written, walk}
use Rattle.audit.specs.Code.{Answer, walked, answer}
use Rattle.audit.proofs.MarkLaws.{words_enough, mark_tells, marks_same, marks_count, count_first}
use Rattle.audit.proofs.WalkLaws.{PassedWith, walk_sound, walk_complete}
use Rattle.audit.proofs.WordLaws.{on_some, walk_words}

-- ---- an audited store and its reached slots

reached_within : (s : List ℕ) → Audited s → Within (count_of s) (reached s)
reached_within s h x = omega (arith, audited_once s h x)

-- "bit (s−1) .. set exactly for reached slots": of each slot number that the words have a bit for
pub marks_tell : (us : List ℕ) (k x : ℕ) → 1 ≤ x → x ≤ 64 * k → mark_of (mark_words us k) x ≡ among us x
marks_tell us k x lo hi = mark_tells us k x lo hi

-- "how many slots are reached as the ones in the mark words"
pub ones_reached : (s : List ℕ) (k : ℕ) → Audited s → words_for (count_of s) ≤ k → all_ones (mark_words (reached s) k) ≡ length (reached s)
ones_reached s k h le = marks_count (count_of s) k (reached s) (words_enough (count_of s) k le) (reached_within s h)

-- ---- the walk passes exactly if the store is audited

module _ (s : List ℕ) (bs : Bytes s) (is : is_store s ≡ true) where
  list_passes : Audited s → (us : List ℕ) × (walk in_list (read_written s) s [] ≡ some us) × ((x : ℕ) → occurs x us ≡ occurs x (reached s))
  list_passes h = go (walk in_list (read_written s) s []) (walk_sound s bs is) (walk_complete s h)
    where
      go : (o : Option (List ℕ)) → IfSome (PassedWith s) o → (us : List ℕ) × (o ≡ some us) → (us : List ℕ) × (o ≡ some us) × ((x : ℕ) → occurs x us ≡ occurs x (reached s))
      go none p w = let k : ◌≡◌ {A = ℕ} 0 1 = cc w.1 in absurd (omega arith)
      go (some us) p w = (us, refl, p.same)

  list_fails : (Audited s → ⊥) → walk in_list (read_written s) s [] ≡ none
  list_fails ne = go (walk in_list (read_written s) s []) (walk_sound s bs is)
    where
      go : (o : Option (List ℕ)) → IfSome (PassedWith s) o → o ≡ none
      go none p = refl
      go (some us) p = absurd (ne p.audited)

  -- whether a store is audited is decided
  pub audited_or_not : Audited s ⊎ (Audited s → ⊥)
  audited_or_not = go (walk in_list (read_written s) s []) (walk_sound s bs is) (walk_complete s)
    where
      go : (o : Option (List ℕ)) → IfSome (PassedWith s) o → (Audited s → (us : List ℕ) × (o ≡ some us)) → Audited s ⊎ (Audited s → ⊥)
      go none p w = inr (λ h. let k : ◌≡◌ {A = ℕ} 0 1 = cc (w h).1 in omega arith)
      go (some us) p w = inl p.audited

  module _ (k : ℕ) (le : words_for (count_of s) ≤ k) where
    pub walk_passes : Audited s → walk (in_words (words_for (count_of s))) (read_written s) s (zeros k) ≡ some (mark_words (reached s) k)
    walk_passes h =
        let p = list_passes h in
        walk_words s bs (words_for (count_of s)) k (words_enough (count_of s) (words_for (count_of s)) (omega arith)) le ∙ ap (on_some (λ us. mark_words us k)) p.1 ∙ ap some (marks_same p.0 (reached s) p.2 k)

    pub walk_fails : (Audited s → ⊥) → walk (in_words (words_for (count_of s))) (read_written s) s (zeros k) ≡ none
    walk_fails ne = walk_words s bs (words_for (count_of s)) k (words_enough (count_of s) (words_for (count_of s)) (omega arith)) le ∙ ap (on_some (λ us. mark_words us k)) (list_fails ne)

-- ---- what the walk answers is what the contract says

module _ (s ms : List ℕ) where
  abbrev Right : Answer → Type 0
  Right a = Audits s ms a.audit a.marks

  answer_walked : is_store s ≡ true → words_for (count_of s) ≤ length ms → answer s ms ≡ walked (words_for (count_of s)) (length ms) (walk (in_words (words_for (count_of s))) (read_written s) s (zeros (length ms)))
  unfolding answer
  answer_walked is le = pick_t _ _ is ∙ pick_t _ _ (le-leb (words_for (count_of s)) (length ms) le)

  answer_few : is_store s ≡ true → length ms < words_for (count_of s) → answer s ms ≡ record { audit = Err FewMarks; marks = ms }
  unfolding answer
  answer_few is lt = pick_t _ _ is ∙ pick_f _ _ (lt-leb (words_for (count_of s)) (length ms) lt)

  answer_not : is_store s ≡ false → answer s ms ≡ record { audit = Err NotStore; marks = ms }
  unfolding answer
  answer_not ne = pick_f _ _ ne

  no_way : true ≡ false → ⊥
  no_way e = let k : ◌≡◌ {A = ℕ} 0 1 = cc in omega arith

  not_right : is_store s ≡ false → Right (record { audit = Err NotStore; marks = ms })
  not_right ne = record {
    not_store = λ e. record { number_is = refl; marks = refl };
    few_marks = λ e l. absurd (no_way (sym e ∙ ne));
    fails = λ e l f. absurd (no_way (sym e ∙ ne));
    passes = λ h l. absurd (no_way (sym (audited_store s h) ∙ ne));
    reported = sym (pick_f _ _ refl);
  }

  few_right : is_store s ≡ true → length ms < words_for (count_of s) → Right (record { audit = Err FewMarks; marks = ms })
  few_right is lt = record {
    not_store = λ e. absurd (no_way (sym is ∙ e));
    few_marks = λ e l. record { number_is = refl; marks = refl };
    fails = λ e l f. absurd (omega arith);
    passes = λ h l. absurd (omega arith);
    reported = sym (pick_f _ _ refl);
  }

  fails_right : is_store s ≡ true → words_for (count_of s) ≤ length ms → (Audited s → ⊥) → Right (record { audit = Err Fails; marks = zeros (length ms) })
  fails_right is le ne = record {
    not_store = λ e. absurd (no_way (sym is ∙ e));
    few_marks = λ e l. absurd (omega arith);
    fails = λ e l f. record { number_is = refl; marks = refl };
    passes = λ h l. absurd (ne h);
    reported = sym (pick_f _ _ refl);
  }

  passes_right : Audited s → words_for (count_of s) ≤ length ms → Right (record { audit = Ok (all_ones (take (words_for (count_of s)) (mark_words (reached s) (length ms)))); marks = mark_words (reached s) (length ms) })
  passes_right h le = record {
    not_store = λ e. absurd (no_way (sym (audited_store s h) ∙ e));
    few_marks = λ e l. absurd (omega arith);
    fails = λ e l f. absurd (f h);
    passes = λ h l. record { number_is = refl; marks = refl };
    reported =
        count_first (count_of s) (words_for (count_of s)) (length ms) (reached s) (words_enough (count_of s) (words_for (count_of s)) (omega arith)) le (reached_within s h)
        ∙ sym (ones_reached s (length ms) h le) ∙ sym (pick_t _ _ refl);
  }

  walked_right : Bytes s → is_store s ≡ true → words_for (count_of s) ≤ length ms → Audited s ⊎ (Audited s → ⊥) → Right (walked (words_for (count_of s)) (length ms) (walk (in_words (words_for (count_of s))) (read_written s) s (zeros (length ms))))
  walked_right bs is le (inl h) = rw (walk_passes s bs is (length ms) le h) (passes_right h le)
  walked_right bs is le (inr ne) = rw (walk_fails s bs is (length ms) le ne) (fails_right is le ne)

  -- the promise holds of what the code answers
  pub answer_right : Bytes s → Right (answer s ms)
  answer_right bs = by_bool (is_store s)
      (λ is. by_bool (leb (words_for (count_of s)) (length ms))
      (λ q. let le = leb-true (words_for (count_of s)) (length ms) q in rw (answer_walked is le) (walked_right bs is le (audited_or_not s bs is)))
      (λ q. let lt = leb-false (words_for (count_of s)) (length ms) q in rw (answer_few is lt) (few_right is lt)))
      (λ ne. rw (answer_not ne) (not_right ne))

-- ---- one result: "any two results allowed by one such statement are the same"

-- the number and the reached count tell the answer
same_audit : (r q : Verdict) → audit_number r ≡ audit_number q → audit_reached r ≡ audit_reached q → r ≡ q
same_audit (Ok n) (Ok m) e f = ap Ok f
same_audit (Ok n) (Err NotStore) e f = absurd (omega arith)
same_audit (Ok n) (Err FewMarks) e f = absurd (omega arith)
same_audit (Ok n) (Err Fails) e f = absurd (omega arith)
same_audit (Err NotStore) (Ok m) e f = absurd (omega arith)
same_audit (Err NotStore) (Err NotStore) e f = refl
same_audit (Err NotStore) (Err FewMarks) e f = absurd (omega arith)
same_audit (Err NotStore) (Err Fails) e f = absurd (omega arith)
same_audit (Err FewMarks) (Ok m) e f = absurd (omega arith)
same_audit (Err FewMarks) (Err NotStore) e f = absurd (omega arith)
same_audit (Err FewMarks) (Err FewMarks) e f = refl
same_audit (Err FewMarks) (Err Fails) e f = absurd (omega arith)
same_audit (Err Fails) (Ok m) e f = absurd (omega arith)
same_audit (Err Fails) (Err NotStore) e f = absurd (omega arith)
same_audit (Err Fails) (Err FewMarks) e f = absurd (omega arith)
same_audit (Err Fails) (Err Fails) e f = refl

module _ (s ms : List ℕ) (bs : Bytes s) (r q : Verdict) (ns os : List ℕ) (a : Audits s ms r ns) (b : Audits s ms q os) where
  leave_same : (number : ℕ) (left : List ℕ) → Leaves r ns number left → Leaves q os number left → (r ≡ q) × (ns ≡ os)
  leave_same number left l m =
      let e = l.number_is ∙ sym m.number_is in
      let f = l.marks ∙ sym m.marks in
      (same_audit r q e (a.reported ∙ rw (e, f) (sym b.reported)), f)

  pub audit_once : (r ≡ q) × (ns ≡ os)
  audit_once = by_bool (is_store s)
      (λ is. by_bool (leb (words_for (count_of s)) (length ms))
      (λ p. let le = leb-true (words_for (count_of s)) (length ms) p in decided is le (audited_or_not s bs is))
      (λ p. let lt = leb-false (words_for (count_of s)) (length ms) p in leave_same 2 ms (a.few_marks is lt) (b.few_marks is lt)))
      (λ ne. leave_same 1 ms (a.not_store ne) (b.not_store ne))
    where
      decided : is_store s ≡ true → words_for (count_of s) ≤ length ms → Audited s ⊎ (Audited s → ⊥) → (r ≡ q) × (ns ≡ os)
      decided is le (inl h) = leave_same 0 (mark_words (reached s) (length ms)) (a.passes h le) (b.passes h le)
      decided is le (inr ne) = leave_same 8 (zeros (length ms)) (a.fails is le ne) (b.fails is le ne)
