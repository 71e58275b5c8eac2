-- 01, "Node bytes": how a chain (first child, then separator and child pairs) is written, and how bytes are read.
-- Assumes nothing.
use Rattle.std.specs.Prelude.{◌≡◌, List, [], ◌∷◌, ◌++◌, map, Bool, true, false, ℕ, zero, suc, ◌+◌, length, get_or, leb, ltb, eqb, Result, Ok, Err}
use Rattle.word.specs.Pick.{pick}
use Rattle.word.specs.Part.{part}
use Rattle.word.specs.Num.{le}
use Rattle.word.specs.At.{fits_in, read_at}
use Rattle.tree.specs.Map.{Sep}
use Rattle.node.specs.Chain.{Step, longest_key, Writable}
use Rattle.codec.specs.declared.Ending.{Ending}
use Rattle.codec.specs.declared.Ending.TheVariants.{NoByteLeft, BytesIgnored, ZeroValue, ShortChild, ShortHead, ShortSize, ShortKey, LongKey}
use Rattle.codec.specs.declared.Head.{Head}

-- ---- writing

-- "A key of 0 to 254 bytes has its length in that byte; from 255 on, the byte is 0xFF and a u32 length follows."
unfoldable pub sized : List ℕ → List ℕ
sized k = pick (ltb (length k) 255) (length k ∷ k) (255 ∷ (le 4 (length k) ++ k))

-- "A separator is a value address (8 bytes), a length byte, the key."
unfoldable pub encode_sep : Sep ℕ → List ℕ
encode_sep e = le 8 e.val ++ sized e.key

unfoldable pub encode_rest : List Step → List ℕ
encode_rest [] = []
encode_rest (x ∷ r) = encode_sep x.0 ++ (le 8 x.1 ++ encode_rest r)

-- "Child address, 8 bytes; then separator, child, separator, child and so on." This is standard form.
unfoldable pub encode : ℕ → List Step → List ℕ
encode c r = le 8 c ++ encode_rest r

-- how many bytes a separator with a key of n bytes takes, and how many the chain behind the first child
unfoldable pub sep_length : ℕ → ℕ
sep_length n = 8 + pick (ltb n 255) (1 + n) (5 + n)

abbrev pub rest_length : List Step → ℕ
rest_length [] = 0
rest_length (x ∷ r) = sep_length (length x.0.key) + (8 + rest_length r)

-- "Standard form is what the writer makes"
pub record Standard (s : List ℕ) : Type 0 where
  pub first : ℕ
  pub rest : List Step
  pub fine : Writable first rest
  pub bytes : s ≡ encode first rest

-- ---- reading

-- "11, 12, 13, 14 | reading: under 8 bytes for a child, under 9 for a separator head, under 4 for a long size, key cut
-- short"; "4 | key .. over 288"
abbrev pub ending_number : Ending → ℕ
ending_number NoByteLeft = 0
ending_number BytesIgnored = 0
ending_number ZeroValue = 0
ending_number ShortChild = 11
ending_number ShortHead = 12
ending_number ShortSize = 13
ending_number ShortKey = 14
ending_number LongKey = 4

abbrev pub is_accepted : Ending → Bool
is_accepted e = eqb (ending_number e) 0

abbrev pub is_no_byte_left : Ending → Bool
is_no_byte_left NoByteLeft = true
is_no_byte_left BytesIgnored = false
is_no_byte_left ZeroValue = false
is_no_byte_left ShortChild = false
is_no_byte_left ShortHead = false
is_no_byte_left ShortSize = false
is_no_byte_left ShortKey = false
is_no_byte_left LongKey = false

-- a separator that was read: its key stands from `start` on; `plain`: its length is written as standard form has it
pub record Spot : Type 0 where
  pub value : ℕ
  pub start : ℕ
  pub len : ℕ
  pub plain : Bool

-- what was read from a place on: how it ended, the first child, then separators and children
pub record Scan : Type 0 where
  pub ending : Ending
  pub first : ℕ
  pub rest : List (Spot × ℕ)

abbrev pub stop : Ending → ℕ → Scan
stop e c = record { ending = e; first = c; rest = [] }

-- the child c and the separator x before what follows
abbrev pub before : ℕ → Spot → Scan → Scan
before c x r = record { ending = r.ending; first = c; rest = (x, r.first) ∷ r.rest }

module _ (s : List ℕ) where
  -- "Reading a separator: 12, 13, 14, end at value 0, 4."
  -- "A separator whose value address is 0 ends the node; its key must still be there but may have any length."
  unfoldable pub key_at : ℕ → ℕ → ℕ → Bool → Result Head Ending
  key_at v start len plain =
      pick (fits_in (length s) start len)
      (pick (eqb v 0) (Err ZeroValue)
      (pick (ltb longest_key len) (Err LongKey)
      (Ok (record { value = record { 0 = v }; start = start; len = len; plain = plain }))))
      (Err ShortKey)

  -- "A length below 255 behind 0xFF is read."
  unfoldable pub size_at : ℕ → ℕ → Result Head Ending
  size_at v at =
      pick (ltb (get_or s (at + 8) 0) 255)
      (key_at v (at + 9) (get_or s (at + 8) 0) true)
      (pick (fits_in (length s) (at + 9) 4)
      (key_at v (at + 13) (read_at 4 s (at + 9)) (leb 255 (read_at 4 s (at + 9))))
      (Err ShortSize))

  unfoldable pub head_at : ℕ → Result Head Ending
  head_at at = pick (fits_in (length s) at 9) (size_at (read_at 8 s at) at) (Err ShortHead)

  -- the child c is read, and what stands there is a separator and what next reads behind it, or ends the node
  abbrev pub follow : (ℕ → Scan) → ℕ → Result Head Ending → Scan
  follow next c (Ok h) = before c (record { value = h.value.0; start = h.start; len = h.len; plain = h.plain }) (next (h.start + h.len))
  follow next c (Err e) = stop e c

  -- "Reading: a child; stop after the ninth. Then, if no byte is left, stop." `k` separators may still come.
  -- "Bytes after the end are ignored." "Key order isn't looked at."
  unfoldable pub scan_from : ℕ → ℕ → Scan
  scan_from zero at =
      pick (fits_in (length s) at 8)
      (pick (eqb (at + 8) (length s)) (stop NoByteLeft (read_at 8 s at)) (stop BytesIgnored (read_at 8 s at)))
      (stop ShortChild 0)
  scan_from (suc k) at =
      pick (fits_in (length s) at 8)
      (pick (eqb (at + 8) (length s)) (stop NoByteLeft (read_at 8 s at)) (follow (scan_from k) (read_at 8 s at) (head_at (at + 8))))
      (stop ShortChild 0)

-- "A refused reading gives the node with no separator and no child."
unfoldable pub settle : Scan → Scan
settle r = pick (is_accepted r.ending) r (stop r.ending 0)

unfoldable pub scan : List ℕ → Scan
scan s = settle (scan_from s 8 0)

abbrev pub step_of : List ℕ → Spot × ℕ → Step
step_of s x = (record { key = part s x.0.start x.0.len; val = x.0.value }, x.1)

pub data Decoded : Type 0 where
  refused : ℕ → Decoded
  accepted : ℕ → List Step → Decoded

-- node bytes as a chain, or 01's number
unfoldable pub decode : List ℕ → Decoded
decode s =
    pick (is_accepted (scan s).ending)
    (accepted (scan s).first (map (step_of s) (scan s).rest))
    (refused (ending_number (scan s).ending))
