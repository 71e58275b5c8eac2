-- How the code goes about it: a record's bytes are written as its line is read. Assumes nothing.
use Rattle.std.specs.Prelude.{◌≡◌, List, ◌∷◌, ◌++◌, Bool, true, false, ℕ, ◌/◌, length, ltb, Option as Maybe, Some, None, unwrap_or}
use Rattle.std.proofs.Math.Option.{Option, none, some}
use Rattle.word.specs.Pick.{pick}
use Rattle.word.specs.Key.{Key}
use Rattle.word.specs.Num.{le}
use Rattle.word.specs.Part.{over}
use Rattle.word.specs.At.{fits_in}
use Rattle.tree.specs.Batch.{Rec}
use Rattle.changes.specs.Records.{encode_record, encode_records}
use Rattle.lines.specs.Digits.{digit_of, is_hex, hex_key, is_decimal, decimal_from}
use Rattle.lines.specs.Lines.{lines_of}
use Rattle.lines.specs.Parses.{fitting}

-- what a digit counts
unfoldable pub digit_at : ℕ → Maybe ℕ
digit_at b = pick (ltb (digit_of b) 16) (Some (digit_of b)) None

-- what `decimal` finds a field to be
unfoldable pub amount_of : List ℕ → Maybe ℕ
amount_of s = pick (is_decimal s) (Some (decimal_from 0 s)) None

-- whether a field is hex and its key fits
unfoldable pub is_key : List ℕ → ℕ → ℕ → Bool
is_key field room at = pick (is_hex field) (fits_in room at (length field / 2)) false

-- a record's bytes by its kind, value and key
abbrev pub headed : ℕ → ℕ → Key → List ℕ
headed kind value key = kind ∷ (le 2 (length key) ++ (le 8 value ++ key))

-- "kind (1 set, 2 dereference)"
abbrev pub kind_byte : Maybe ℕ → ℕ
kind_byte (Some v) = 1
kind_byte None = 2

-- a record's bytes by the value that it sets and the key that a field of hex stands for
unfoldable pub keyed : Maybe ℕ → List ℕ → Option (List ℕ)
keyed value field = pick (is_hex field) (some (headed (kind_byte value) (unwrap_or value 0) (hex_key field))) none

-- a line's record as bytes
abbrev pub encoded : Option (Rec ℕ) → Option (List ℕ)
encoded none = none
encoded (some r) = some (encode_record r)

-- bytes that are there and fit are written at their place
abbrev pub PutIn : Bool → List ℕ → List ℕ → ℕ → Maybe ℕ → List ℕ → Type 0
PutIn true b d at r e = (r ≡ Some (length b)) × (e ≡ over d at b)
PutIn false b d at r e = r ≡ None

unfoldable pub Put : Option (List ℕ) → List ℕ → ℕ → Maybe ℕ → List ℕ → Type 0
Put none d at r e = r ≡ None
Put (some b) d at r e = PutIn (fits_in (length d) at (length b)) b d at r e

-- all records at the front, where the text says records that fit; what stands in the buffer otherwise is left open, since
-- `parse` clears it
unfoldable pub PlacedAll : Option (List (Rec ℕ)) → List ℕ → Maybe ℕ → List ℕ → Type 0
PlacedAll none d r e = r ≡ None
PlacedAll (some rs) d r e = (r ≡ Some (length (encode_records rs))) × (e ≡ over d 0 (encode_records rs))

abbrev pub Placed : List ℕ → List ℕ → Maybe ℕ → List ℕ → Type 0
Placed text d r e = PlacedAll (fitting (length d) (lines_of text)) d r e

-- bytes at a place where they fit
unfoldable pub put_at : List ℕ → ℕ → List ℕ → List ℕ
put_at d at b = pick (fits_in (length d) at (length b)) (over d at b) d
