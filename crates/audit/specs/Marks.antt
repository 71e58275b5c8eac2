-- Mark words: a bit for each slot, in u64 words, by arithmetic. Assumes nothing.
use Rattle.std.specs.Prelude.{List, [], ◌∷◌, ℕ, zero, suc, ◌+◌, ◌*◌, ◌-◌, ◌/◌, ◌%◌, ◌^◌, get_or, leb}
use Rattle.std.specs.Int.Count.{ones}
use Rattle.tree.specs.Free.{bit, occurs}

-- "mark words (u64), at least count/64 rounded up"
unfoldable pub words_for : ℕ → ℕ
words_for n = (n + 63) / 64

-- where a slot's bit stands: "bit (s−1) (word (s−1)/64, lowest bit first)"
unfoldable pub word_of : ℕ → ℕ
word_of x = (x - 1) / 64

unfoldable pub bit_of : ℕ → ℕ
bit_of x = (x - 1) % 64

-- that bit, 0 or 1
unfoldable pub mark_of : List ℕ → ℕ → ℕ
mark_of ws x = get_or ws (word_of x) 0 / 2 ^ bit_of x % 2

-- 1 for a slot that stands in us, 0 for any other
abbrev pub among : List ℕ → ℕ → ℕ
among us x = bit (leb 1 (occurs x us))

-- the number of k bits that tell of slots x, x + 1, .., the lowest of x, whether they stand in us
unfoldable pub bits_from : List ℕ → ℕ → ℕ → ℕ
bits_from us x zero = 0
bits_from us x (suc k) = bits_from us (suc x) k * 2 + among us x

-- k words that tell of slots x, x + 1, ..
unfoldable pub words_from : List ℕ → ℕ → ℕ → List ℕ
words_from us x zero = []
words_from us x (suc k) = bits_from us x 64 ∷ words_from us (x + 64) k

-- "It leaves bit (s−1) .. set exactly for reached slots, all other bits 0": k lent words, for the reached slots us
unfoldable pub mark_words : List ℕ → ℕ → List ℕ
mark_words us k = words_from us 1 k

-- "the ones in the mark words"
unfoldable pub all_ones : List ℕ → ℕ
all_ones [] = 0
all_ones (w ∷ ws) = ones w + all_ones ws
