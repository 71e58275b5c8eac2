-- The strict reading: the lenient one of Codec with three refusals more, a long size below 255, a value 0, bytes behind the ninth
-- child. Assumes nothing.
use Rattle.std.specs.Prelude.{List, [], Bool, ◌&&◌, not, ℕ, zero, suc, ◌+◌, length, get_or, leb, eqb, Result, Ok, Err}
use Rattle.word.specs.Pick.{pick}
use Rattle.word.specs.At.{fits_in, read_at}
use Rattle.codec.specs.declared.Ending.{Ending}
use Rattle.codec.specs.declared.Ending.TheVariants.{NoByteLeft, BytesIgnored, ZeroValue, ShortChild, ShortHead, ShortSize, ShortKey, LongKey}
use Rattle.codec.specs.declared.Head.{Head}
use Rattle.codec.specs.declared.Strict.{Strict}
use Rattle.codec.specs.declared.Strict.TheVariants.{LowSize, EndsIn}
use Rattle.codec.specs.declared.Stopped.{Stopped}
use Rattle.codec.specs.declared.StrictReading.{StrictReading}
use Rattle.codec.specs.Codec.{head_at, Decoded, refused, decode}
use Rattle.codec.specs.Layout.{places_of, reading_of}

-- 02, C-16: "a strict reading that refuses, each with its own new number, a long size below 255, a separator with value 0, and
-- bytes after the end of the node": 18, 19, 20; the others as in a lenient reading
abbrev pub end_number : Ending → ℕ
end_number NoByteLeft = 0
end_number BytesIgnored = 20
end_number ZeroValue = 19
end_number ShortChild = 11
end_number ShortHead = 12
end_number ShortSize = 13
end_number ShortKey = 14
end_number LongKey = 4

abbrev pub strict_number : Strict → ℕ
strict_number LowSize = 18
strict_number (EndsIn e) = end_number e

abbrev pub is_strict : Strict → Bool
is_strict e = eqb (strict_number e) 0

module _ (s : List ℕ) where
  -- whether 0xFF and a length below 255 stand in the separator at a place
  unfoldable pub is_low : ℕ → Bool
  is_low at = fits_in (length s) at 13 && (leb 255 (get_or s (at + 8) 0) && not (leb 255 (read_at 4 s (at + 9))))

  -- "Name the order after 11 to 14": within a separator 12, 13, 14, 18, 19, 4, so its size is asked before a value 0
  unfoldable pub ends_at : ℕ → Ending → Strict
  ends_at at e = pick (eqb (end_number e) 19 && is_low at) LowSize (EndsIn e)

  -- what stands at a place: a separator with its size as standard form has it and what next says behind it, or an end there
  abbrev pub judge : (ℕ → Stopped) → ℕ → Result Head Ending → Stopped
  judge next at (Ok h) = pick h.plain (next (h.start + h.len)) (record { ending = LowSize; at = at })
  judge next at (Err e) = record { ending = ends_at at e; at = at }

  -- from a child on, with k separators that may still come: how the reading ends, and where the child or the separator begins that
  -- it refuses, or the first byte too many; where it refuses nothing, the end of the bytes
  unfoldable pub strict_from : ℕ → ℕ → Stopped
  strict_from zero at =
      pick (fits_in (length s) at 8)
      (pick (eqb (at + 8) (length s)) (record { ending = EndsIn NoByteLeft; at = at + 8 }) (record { ending = EndsIn BytesIgnored; at = at + 8 }))
      (record { ending = EndsIn ShortChild; at = at })
  strict_from (suc k) at =
      pick (fits_in (length s) at 8)
      (pick (eqb (at + 8) (length s)) (record { ending = EndsIn NoByteLeft; at = at + 8 }) (judge (strict_from k) (at + 8) (head_at s (at + 8))))
      (record { ending = EndsIn ShortChild; at = at })

unfoldable pub strict_end : List ℕ → Stopped
strict_end s = strict_from s 8 0

-- node bytes as a chain, or the number
unfoldable pub strict_of : List ℕ → Decoded
strict_of s = pick (is_strict (strict_end s).ending) (decode s) (refused (strict_number (strict_end s).ending))

-- ---- what the code answers: a refused reading gives what no bytes give, the empty node and no key

-- bytes where they are in standard form, else none
abbrev pub standard_of : List ℕ → List ℕ
standard_of s = pick (places_of s).standard s []

unfoldable pub strict_reading : List ℕ → StrictReading
strict_reading s = record { ending = (strict_end s).ending; at = (strict_end s).at; node = (reading_of (standard_of s)).node }
