-- What the audit answers for all inputs, and what every lent word holds afterwards. Assumes nothing.
use Rattle.std.specs.Prelude.{◌≡◌, List, true, false, ℕ, ◌≤◌, ◌<◌, length, eqb, Result}
use Rattle.std.specs.Result.{result_unwrap_or}
use Rattle.refusal.specs.Number.{answer_number}
use Rattle.word.specs.Pick.{pick}
use Rattle.word.specs.Num.{zeros}
use Rattle.slots.specs.Layout.{count_of, is_store}
use Rattle.slots.specs.Stands.{Audited}
use Rattle.slots.specs.Reached.{reached}
use Rattle.audit.specs.declared.AuditError.{AuditError}
use Rattle.audit.specs.declared.AuditError.TheVariants.{NotStore, FewMarks, Fails}
use Rattle.audit.specs.Marks.{words_for, mark_words, all_ones}

-- how many slots are reached, or the refusal
abbrev pub Verdict : Type 0
Verdict = Result ℕ AuditError

-- "1 | buffer isn't 24+2,560×count bytes, count outside 1..65,535, bytes 20..23 not 0", "2 | too few mark words", "8 | audit fails"
abbrev pub audit_error_number : AuditError → ℕ
audit_error_number NotStore = 1
audit_error_number FewMarks = 2
audit_error_number Fails = 8

-- "0 | done", and the refusals' numbers
abbrev pub audit_number : Verdict → ℕ
audit_number r = answer_number audit_error_number r

-- "Any refusal reports 0."
abbrev pub audit_reached : Verdict → ℕ
audit_reached r = result_unwrap_or r 0

-- the answer's number, and what the lent words hold then
pub record Leaves (r : Verdict) (ns : List ℕ) (number : ℕ) (left : List ℕ) : Type 0 where
  pub number_is : audit_number r ≡ number
  pub marks : ns ≡ left

-- "Audit: 1, 2, 8." Of store bytes s and lent words ms: the answer r, and the words ns afterwards.
pub record Audits (s ms : List ℕ) (r : Verdict) (ns : List ℕ) : Type 0 where
  -- "1 .. all unchanged"
  pub not_store : is_store s ≡ false → Leaves r ns 1 ms
  -- "2 | too few mark words | all unchanged"
  pub few_marks : is_store s ≡ true → length ms < words_for (count_of s) → Leaves r ns 2 ms
  -- "failing with 8, it zeroes them all"
  pub fails : is_store s ≡ true → words_for (count_of s) ≤ length ms → (Audited s → ⊥) → Leaves r ns 8 (zeros (length ms))
  -- "It leaves bit (s−1) (word (s−1)/64, lowest bit first) set exactly for reached slots, all other bits 0"
  pub passes : Audited s → words_for (count_of s) ≤ length ms → Leaves r ns 0 (mark_words (reached s) (length ms))
  -- "It reports how many slots are reached as the ones in the mark words." "Any refusal reports 0."
  pub reported : audit_reached r ≡ pick (eqb (audit_number r) 0) (all_ones ns) 0
