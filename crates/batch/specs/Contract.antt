-- What a batch answers for all inputs, and what every lent byte and word holds afterwards. Assumes nothing.
use Rattle.std.specs.Prelude.{◌≡◌, List, true, false, ℕ, ◌≤◌, ◌<◌, length, Result, Ok}
use Rattle.word.specs.Num.{zeros}
use Rattle.tree.specs.Free.{stack}
use Rattle.tree.specs.Run as tree
use Rattle.tree.specs.Run.{Outcome}
use Rattle.slots.specs.Layout.{count_of, is_store}
use Rattle.slots.specs.Stands.{StandsTree, Audited}
use Rattle.audit.specs.Marks.{words_for}
use Rattle.changes.specs.Records.{checked_number, check_of, records_of}
use Rattle.refusal.specs.Number as refusal
use Rattle.batch.specs.declared.BatchError.{BatchError}
use Rattle.batch.specs.declared.BatchError.TheVariants.{NotStore, FewMarks, Short, LongKey, BadValue, Falls, TooMany, Fails, NoRoom, BadText}
use Rattle.batch.specs.declared.Batched.{Batched}

-- 01's numbers
abbrev pub batch_error_number : BatchError → ℕ
batch_error_number NotStore = 1
batch_error_number FewMarks = 2
batch_error_number Short = 3
batch_error_number LongKey = 4
batch_error_number BadValue = 5
batch_error_number Falls = 6
batch_error_number TooMany = 7
batch_error_number Fails = 8
batch_error_number NoRoom = 9
batch_error_number BadText = 15

-- what a batch answers
abbrev pub Answer : Type 0
Answer = Result (Unit {0}) BatchError

abbrev pub answer_number : Answer → ℕ
answer_number = refusal.answer_number batch_error_number

-- A refusal: "records applied (0 unless 0 or 9 ..)", the store unchanged, and what the lent mark words hold then.
pub record Refuses (s : List ℕ) (r : Batched) (t ns : List ℕ) (number : ℕ) (left : List ℕ) : Type 0 where
  pub number_is : answer_number r.answer ≡ number
  pub applied : r.applied ≡ 0
  pub store : t ≡ s
  pub marks : ns ≡ left

-- what crate `tree` says of these records on the state for which the bytes stand: 01's runs, one after another
abbrev pub told : (s : List ℕ) → Audited s → List ℕ → Outcome ℕ
told s h q = tree.batch stack (records_of q) h.store

-- The runs: 0, or 9 with "the changes before this run applied"; the store stands for the state that they make, slot for slot, so
-- that each of its bytes is told; "marks zero".
pub record Runs (s : List ℕ) (h : Audited s) (ms q : List ℕ) (r : Batched) (t ns : List ℕ) : Type 0 where
  pub number_is : answer_number r.answer ≡ tree.number (told s h q).answer
  -- "every record of a finished run counts"
  pub applied : r.applied ≡ tree.applied (length (records_of q)) (told s h q).answer
  pub stands : StandsTree h.count t (told s h q).state
  pub marks : ns ≡ zeros (length ms)

-- "Batch order: 1, 2, then records from the front .., then 8, then the run." Of store bytes s, lent words ms and records q: the
-- answer r, and the store t and the words ns afterwards.
pub record Batches (s ms q : List ℕ) (r : Batched) (t ns : List ℕ) : Type 0 where
  pub not_store : is_store s ≡ false → Refuses s r t ns 1 ms
  pub few_marks : is_store s ≡ true → length ms < words_for (count_of s) → Refuses s r t ns 2 ms
  -- "marks unchanged on 1 to 7": 3 to 7, by the records alone
  pub bad_records : is_store s ≡ true → words_for (count_of s) ≤ length ms → (check_of q ≡ Ok tt → ⊥) → Refuses s r t ns (checked_number (check_of q)) ms
  pub fails : is_store s ≡ true → words_for (count_of s) ≤ length ms → check_of q ≡ Ok tt → (Audited s → ⊥) → Refuses s r t ns 8 (zeros (length ms))
  pub runs : (h : Audited s) → words_for (count_of s) ≤ length ms → check_of q ≡ Ok tt → Runs s h ms q r t ns
