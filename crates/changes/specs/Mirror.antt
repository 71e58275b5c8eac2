-- How the code goes about it: a record's own tests first, then the key before it. Assumes nothing.
use Rattle.std.specs.Prelude.{List, ℕ, ◌+◌, length, ltb, Ok, Err}
use Rattle.word.specs.Pick.{pick}
use Rattle.word.specs.At.{fits_in}
use Rattle.changes.specs.declared.RecordError.TheVariants.{Short, LongKey, BadValue}
use Rattle.changes.specs.Records.{Checked, longest_key, len_at, is_known, is_bad_value}

-- the first test that the record at a place fails by itself
unfoldable pub flaw_at : List ℕ → ℕ → Checked
flaw_at s at =
    pick (fits_in (length s) at 11)
    (pick (is_known s at)
    (pick (ltb longest_key (len_at s at)) (Err LongKey)
    (pick (is_bad_value s at) (Err BadValue)
    (pick (fits_in (length s) (at + 11) (len_at s at)) (Ok tt) (Err Short))))
    (Err Short))
    (Err Short)

-- a flaw, and otherwise what is found later
abbrev pub or_else : Checked → Checked → Checked
or_else (Ok _) later = later
or_else (Err e) later = Err e
