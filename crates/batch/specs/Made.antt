-- Demand 3: "a store formatted and then changed only by our batches", with "all records counted as applied, in order".
-- Assumes nothing.
use Rattle.std.specs.Prelude.{◌≡◌, List, [], ◌++◌, ℕ, take, Result}
use Rattle.word.specs.Num.{Bytes}
use Rattle.tree.specs.Batch.{Rec}
use Rattle.slots.specs.declared.FormatError.{FormatError}
use Rattle.slots.specs.Code.{format_number, Formats}
use Rattle.changes.specs.Records.{records_of}
use Rattle.batch.specs.declared.Batched.{Batched}
use Rattle.batch.specs.Contract.{Batches}

-- the bytes, and the records; a refused batch counts none, and "no room" those that it counts as applied
pub data Made : List ℕ → List (Rec ℕ) → Type 0 where
  formatted : (s : List ℕ) (n : ℕ) (r : Result (Unit {0}) FormatError) (t : List ℕ) → Formats s n r t → format_number r ≡ 0 → Made t []
  changed : (s ms q : List ℕ) (r : Batched) (t ns : List ℕ) (rs : List (Rec ℕ)) → Made s rs → Bytes q → Batches s ms q r t ns → Made t (rs ++ take r.applied (records_of q))
