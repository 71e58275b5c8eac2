-- What `parse` answers and leaves. 01's 15: "bad text line, or too much text | .. a lent record buffer zero". Assumes nothing.
use Rattle.std.specs.Prelude.{◌≡◌, List, ◌++◌, ℕ, ◌-◌, length, ltb, Result}
use Rattle.std.specs.Result.{result_unwrap_or}
use Rattle.std.proofs.Math.Option.{Option, none, some}
use Rattle.word.specs.Pick.{pick}
use Rattle.word.specs.Num.{zeros}
use Rattle.tree.specs.Batch.{Rec}
use Rattle.changes.specs.Records.{encode_records}
use Rattle.refusal.specs.Number.{answer_number}
use Rattle.lines.specs.declared.ParseError.{ParseError}
use Rattle.lines.specs.declared.ParseError.TheVariants.{BadText}
use Rattle.lines.specs.Lines.{lines_of}

-- "More than 16,384 bytes .. is 15"
abbrev pub longest_text : ℕ
longest_text = 16384

-- what a text is found to be: records of so many bytes, or none
abbrev pub Parsed : Type 0
Parsed = Result ℕ ParseError

-- 01's numbers
abbrev pub parse_error_number : ParseError → ℕ
parse_error_number BadText = 15

abbrev pub parsed_number : Parsed → ℕ
parsed_number = answer_number parse_error_number

abbrev pub parsed_length : Parsed → ℕ
parsed_length r = result_unwrap_or r 0

-- "more records than the lent record buffer holds, is 15"
unfoldable pub fitting : ℕ → Option (List (Rec ℕ)) → Option (List (Rec ℕ))
fitting room none = none
fitting room (some rs) = pick (ltb room (length (encode_records rs))) none (some rs)

-- the records that are taken
unfoldable pub taken : List ℕ → ℕ → Option (List (Rec ℕ))
taken text room = pick (ltb longest_text (length text)) none (fitting room (lines_of text))

unfoldable pub Leaves : Option (List (Rec ℕ)) → ℕ → Parsed → List ℕ → Type 0
Leaves none room r left = (parsed_number r ≡ 15) × (parsed_length r ≡ 0) × (left ≡ zeros room)
Leaves (some rs) room r left =
    (parsed_number r ≡ 0) × (parsed_length r ≡ length (encode_records rs)) × (left ≡ encode_records rs ++ zeros (room - length (encode_records rs)))

abbrev pub Parses : List ℕ → List ℕ → Parsed → List ℕ → Type 0
Parses text buffer r left = Leaves (taken text (length buffer)) (length buffer) r left
