-- Numbers in bytes: "integers are little-endian". Assumes nothing.
use Rattle.std.specs.Prelude.{List, [], ◌∷◌, Bool, true, ◌&&◌, ℕ, zero, suc, ◌+◌, ◌*◌, ◌/◌, ◌%◌, ◌^◌, ◌<◌, length, replicate, eqb}

-- x in k bytes, the lowest first
unfoldable pub le : ℕ → ℕ → List ℕ
le zero x = []
le (suc k) x = (x % 256) ∷ le k (x / 256)

-- the number that bytes stand for
unfoldable pub un : List ℕ → ℕ
un [] = 0
un (b ∷ s) = b + un s * 256

-- the number that they stand for with the highest first: its order is that of the bytes
unfoldable pub be : List ℕ → ℕ
be [] = 0
be (b ∷ s) = b * 256 ^ length s + be s

abbrev pub Bytes : List ℕ → Type 0
Bytes [] = Unit {0}
Bytes (b ∷ s) = (b < 256) × Bytes s

-- shut, so that a large number of them is not written out
unfoldable pub zeros : ℕ → List ℕ
zeros n = replicate n 0

unfoldable pub all_zero : List ℕ → Bool
all_zero [] = true
all_zero (b ∷ s) = eqb b 0 && all_zero s
