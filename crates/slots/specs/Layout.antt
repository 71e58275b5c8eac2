-- 01, "The store": 24 header bytes, then slots 1 to count of 2,560 bytes each. Assumes nothing.
use Rattle.std.specs.Prelude.{List, [], ◌++◌, Bool, ◌&&◌, ℕ, zero, suc, ◌+◌, ◌*◌, ◌-◌, length, leb, eqb}
use Rattle.word.specs.Part.{part}
use Rattle.word.specs.Num.{le, zeros}
use Rattle.word.specs.At.{read_at, zero_at}
use Rattle.node.specs.Chain.{Step}
use Rattle.codec.specs.Codec.{encode}
use Rattle.slots.specs.Limits.{header_size, slot_size, most_slots}

-- "root slot u64 (0 none), depth u32, slot count u32 (1 to 65,535), first free slot u32, four zero bytes"
unfoldable pub header : ℕ → ℕ → ℕ → ℕ → List ℕ
header root depth count first = le 8 root ++ (le 4 depth ++ (le 4 count ++ (le 4 first ++ zeros 4)))

-- "A used slot: u32 node length (8 to 2,480), the node, zeros."
unfoldable pub used : ℕ → List Step → List ℕ
used c r = le 4 (length (encode c r)) ++ (encode c r ++ zeros (2556 - length (encode c r)))

-- "A free slot: u32 0, u32 next free slot (0 last), zeros."
unfoldable pub idle : ℕ → List ℕ
idle next = zeros 4 ++ (le 4 next ++ zeros 2552)

unfoldable pub head_of : List ℕ → List ℕ
head_of s = part s 0 header_size

-- where a slot begins
abbrev pub start : ℕ → ℕ
start x = header_size + slot_size * (x - 1)

-- the bytes of a slot; there is no slot 0
unfoldable pub slot_at : List ℕ → ℕ → List ℕ
slot_at s zero = []
slot_at s (suc x) = part s (header_size + slot_size * x) slot_size

-- ---- the header's fields

unfoldable pub root_of : List ℕ → ℕ
root_of s = read_at 8 s 0

unfoldable pub depth_of : List ℕ → ℕ
depth_of s = read_at 4 s 8

unfoldable pub count_of : List ℕ → ℕ
count_of s = read_at 4 s 12

unfoldable pub first_of : List ℕ → ℕ
first_of s = read_at 4 s 16

-- no refusal 1: "buffer isn't 24+2,560×count bytes, count outside 1..65,535, bytes 20..23 not 0"
unfoldable pub is_store : List ℕ → Bool
is_store s = leb 1 (count_of s) && (leb (count_of s) most_slots && (eqb (length s) (header_size + slot_size * count_of s) && zero_at s 20 4))
