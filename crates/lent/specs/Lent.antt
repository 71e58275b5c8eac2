-- How an answer, a cursor and a node lie in lent numbers. Assumes nothing.
use Rattle.std.specs.Prelude.{◌≡◌, List, ℕ, get_or, ltb, eqb, Some, None, Ok, Err}
use Rattle.word.specs.Pick.{pick}
use Rattle.iter.specs.declared.Place.{Place}
use Rattle.iter.specs.declared.Place.TheVariants.{Start, End, At, Seeked}
use Rattle.iter.specs.declared.Cursor.{Cursor}
use Rattle.iter.specs.declared.Stepped.{Stepped}
use Rattle.iter.specs.Answer.{Answer}
use Rattle.iter.specs.Cursor.{step_number}
use Rattle.iter.specs.Mirror.{length_of}

-- ---- a lookup's answer, and a step's

-- "'Absent' is its own answer.": 1 where a value is found; 1 where the step answers an entry
abbrev pub present_of : Answer → ℕ
present_of (Ok (Some v)) = 1
present_of (Ok None) = 0
present_of (Err e) = 0

-- the value found, or the entry's; 0 where there is none
abbrev pub found_value : Answer → ℕ
found_value (Ok (Some v)) = v.0
found_value (Ok None) = 0
found_value (Err e) = 0

-- ---- the cursor, "a place (Start, End, At length, Seeked length) beside a key array of 288 bytes"

-- the number of a place's kind; beside it stands its length, `length_of`, 0 where the place has none
abbrev pub kind_of : Place → ℕ
kind_of Start = 0
kind_of End = 1
kind_of (At n) = 2
kind_of (Seeked n) = 3

-- The place that a kind and a length name. A kind above 3 names none; it is taken for a length over 288, so that a step refuses
-- it with 4.
unfoldable pub place_of : ℕ → ℕ → Place
place_of kind n = pick (eqb kind 0) Start (pick (eqb kind 1) End (pick (eqb kind 2) (At n) (pick (eqb kind 3) (Seeked n) (At 289))))

-- the cursor that lies in lent numbers and bytes
abbrev pub cursor_of : ℕ → ℕ → List ℕ → Cursor
cursor_of kind n key = record { place = place_of kind n; key = key }

-- What the lent cursor holds afterwards: c where the answer is 0, and what it held before where it is a refusal.
pub record Holds (number : ℕ) (c : Cursor) (kind n : ℕ) (key : List ℕ) (kind' n' : ℕ) (key' : List ℕ) : Type 0 where
  pub kind_is : kind' ≡ pick (eqb number 0) (kind_of c.place) kind
  pub length_is : n' ≡ pick (eqb number 0) (length_of c.place) n
  pub key_is : key' ≡ pick (eqb number 0) c.key key

-- Of a step's answer a: the number r, the lent cursor, whether there is an entry, and its value.
pub record Steps (a : Stepped) (kind n : ℕ) (key : List ℕ) (r kind' n' : ℕ) (key' : List ℕ) (present value : ℕ) : Type 0 where
  pub number : r ≡ step_number a.step
  pub cursor : Holds (step_number a.step) a.cursor kind n key kind' n' key'
  pub is_present : present ≡ present_of a.step
  pub value_is : value ≡ found_value a.step

-- ---- node bytes

-- what stands at an index of a list whose last index is `last`; z past it
unfoldable pub within : {A : Type 0} → ℕ → List A → ℕ → A → A
within last l i z = pick (ltb last i) z (get_or l i z)
