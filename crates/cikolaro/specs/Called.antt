-- The calls of the face that are lent a store, each with the store before it, its number and the store after it. Assumes nothing.
use Rattle.std.specs.Prelude.{List, ℕ, Result}
use Rattle.word.specs.Num.{Bytes}
use Rattle.slots.specs.declared.FormatError.{FormatError}
use Rattle.slots.specs.Code.{format_number, Formats}
use Rattle.audit.specs.Contract.{Verdict, audit_number}
use Rattle.batch.specs.declared.Batched.{Batched}
use Rattle.batch.specs.Contract.{answer_number, Batches}
use Rattle.iter.specs.declared.Cursor.{Cursor}
use Rattle.iter.specs.Walk.{lookup_number, lookup_of}
use Rattle.iter.specs.Cursor.{step_number, forward_of, backward_of}
use Rattle.cikolaro.specs.Contract.{RunsLines}

-- `audit`, `lookup`, `forward` and `backward` are lent the store as bytes to read (`&[u8]`), so that it can't change
pub data Called : List ℕ → ℕ → List ℕ → Type 0 where
  format : (s : List ℕ) (n : ℕ) (r : Result (Unit {0}) FormatError) (t : List ℕ) → Formats s n r t → Called s (format_number r) t
  audit : (s : List ℕ) (r : Verdict) → Called s (audit_number r) s
  batch : (s ms q : List ℕ) (r : Batched) (t ns : List ℕ) → Bytes s → Batches s ms q r t ns → Called s (answer_number r.answer) t
  lookup : (s k : List ℕ) → Called s (lookup_number (lookup_of s k)) s
  forward : (s : List ℕ) (c : Cursor) → Called s (step_number (forward_of s c).step) s
  backward : (s : List ℕ) (c : Cursor) → Called s (step_number (backward_of s c).step) s
  run_lines : (s ms buffer text : List ℕ) (r : Batched) (t ns left : List ℕ) → Bytes s → RunsLines s ms buffer text r t ns left → Called s (answer_number r.answer) t
