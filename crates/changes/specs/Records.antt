-- 01, "A batch": "Records: kind (1 set, 2 dereference), key length u16, value u64 (0 for kind 2), key. At most 65,535. Keys
-- never fall". What bytes lent as a batch are, and what they say. Assumes nothing.
use Rattle.std.specs.Prelude.{List, [], ◌∷◌, ◌++◌, Bool, false, not, ◌||◌, ℕ, zero, suc, ◌+◌, length, get_or, ltb, eqb, Some, None, Result, Ok, Err}
use Rattle.std.specs.Bool.{then_some}
use Rattle.std.specs.Prelude as std
use Rattle.std.proofs.Math.Option.{Option, none, some}
use Rattle.word.specs.Pick.{pick}
use Rattle.word.specs.Key.{Key, cmp, is_lt}
use Rattle.word.specs.Part.{part}
use Rattle.word.specs.Num.{le}
use Rattle.word.specs.At.{fits_in, read_at}
use Rattle.tree.specs.Batch.{Rec}
use Rattle.node.specs.declared.Value.{Value}
use Rattle.refusal.specs.Number.{answer_number}
use Rattle.changes.specs.declared.RecordError.{RecordError}
use Rattle.changes.specs.declared.RecordError.TheVariants.{Short, LongKey, BadValue, Falls, TooMany}
use Rattle.changes.specs.declared.Change.{Change}

-- "At most 65,535."
abbrev pub most_records : ℕ
most_records = 65535

abbrev pub longest_key : ℕ
longest_key = 288

-- what the records of a batch are found to be
abbrev pub Checked : Type 0
Checked = Result (Unit {0}) RecordError

-- 01's numbers
abbrev pub record_error_number : RecordError → ℕ
record_error_number Short = 3
record_error_number LongKey = 4
record_error_number BadValue = 5
record_error_number Falls = 6
record_error_number TooMany = 7

abbrev pub checked_number : Checked → ℕ
checked_number = answer_number record_error_number

-- a change's value: a dereference has none
abbrev pub op_of : std.Option Value → Option ℕ
op_of None = none
op_of (Some v) = some v.0

-- ---- a record at a place

module _ (s : List ℕ) (at : ℕ) where
  unfoldable pub kind_at : ℕ
  kind_at = get_or s at 0

  unfoldable pub len_at : ℕ
  len_at = read_at 2 s (at + 1)

  unfoldable pub value_at : ℕ
  value_at = read_at 8 s (at + 3)

  unfoldable pub key_at : Key
  key_at = part s (at + 11) len_at

  unfoldable pub next_at : ℕ
  next_at = at + 11 + len_at

  unfoldable pub op_at : Option ℕ
  op_at = pick (eqb kind_at 1) (some value_at) none

  abbrev pub rec_at : Rec ℕ
  rec_at = record { key = key_at; op = op_at }

  -- a whole record: its head of 11 bytes, and its key
  unfoldable pub stands_at : Bool
  stands_at = pick (fits_in (length s) at 11) (fits_in (length s) (at + 11) len_at) false

  -- the same as the code has it; none where no whole record stands
  unfoldable pub change_at : std.Option Change
  change_at = pick stands_at (Some (record { value = then_some (eqb kind_at 1) (record { 0 = value_at }); number = value_at; start = at + 11; len = len_at; next = next_at })) None

  -- "3 | record cut short or unknown kind"
  unfoldable pub is_known : Bool
  is_known = eqb kind_at 1 || eqb kind_at 2

  -- "5 | set .. with value 0, kind 2 with another value"
  unfoldable pub is_bad_value : Bool
  is_bad_value = pick (eqb kind_at 1) (eqb value_at 0) (not (eqb value_at 0))

-- ---- all records

module _ (s : List ℕ) where
  -- "records from the front (7, 3 for under 11 bytes or kind, 4, 5, 3 for a short key, 6)"; k more may come, and none may
  -- have a key below prev. No key is below the empty key, so that stands before the first.
  unfoldable pub check_from : ℕ → ℕ → Key → Checked
  check_from zero at prev = pick (eqb at (length s)) (Ok tt) (Err TooMany)
  check_from (suc k) at prev =
      pick (eqb at (length s)) (Ok tt)
      (pick (fits_in (length s) at 11)
      (pick (is_known s at)
      (pick (ltb longest_key (len_at s at)) (Err LongKey)
      (pick (is_bad_value s at) (Err BadValue)
      (pick (fits_in (length s) (at + 11) (len_at s at))
      (pick (is_lt (cmp (key_at s at) prev)) (Err Falls) (check_from k (next_at s at) (key_at s at)))
      (Err Short))))
      (Err Short))
      (Err Short))

  unfoldable pub check_of : Checked
  check_of = check_from most_records 0 []

  -- what the records say, in order, where they are fine
  unfoldable pub records_from : ℕ → ℕ → List (Rec ℕ)
  records_from zero at = []
  records_from (suc k) at = pick (ltb at (length s)) (rec_at s at ∷ records_from k (next_at s at)) []

  unfoldable pub records_of : List (Rec ℕ)
  records_of = records_from most_records 0

-- ---- records as bytes

abbrev pub kind_of : Option ℕ → ℕ
kind_of none = 2
kind_of (some v) = 1

abbrev pub value_of : Option ℕ → ℕ
value_of none = 0
value_of (some v) = v

unfoldable pub encode_record : Rec ℕ → List ℕ
encode_record r = kind_of r.op ∷ (le 2 (length r.key) ++ (le 8 (value_of r.op) ++ r.key))

unfoldable pub encode_records : List (Rec ℕ) → List ℕ
encode_records [] = []
encode_records (r ∷ rs) = encode_record r ++ encode_records rs
