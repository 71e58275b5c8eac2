-- 01, "House lines and the program": "key in lowercase hex", "decimal", "no signs or leading zeros; a lone 0 is a value". What
-- fields of digits say, and how a key and a number are written. Assumes nothing.
use Rattle.std.specs.Prelude.{List, [], ◌∷◌, ◌++◌, Bool, true, false, ◌&&◌, ℕ, zero, suc, ◌+◌, ◌-◌, ◌*◌, ◌/◌, ◌%◌, ◌^◌, length, get_or, ltb, leb, eqb}
use Rattle.word.specs.Pick.{pick}
use Rattle.word.specs.Key.{Key}

-- what a digit counts: 0 to 9 are bytes 48 to 57, a to f bytes 97 to 102; 16 for a byte that is none
unfoldable pub digit_of : ℕ → ℕ
digit_of b = pick (ltb b 48) 16 (pick (leb b 57) (b - 48) (pick (ltb b 97) 16 (pick (leb b 102) (b - 87) 16)))

-- ---- hex

-- "Hex of odd length .. 15"
unfoldable pub is_hex : List ℕ → Bool
is_hex [] = true
is_hex (a ∷ []) = false
is_hex (a ∷ b ∷ s) = (ltb (digit_of a) 16 && ltb (digit_of b) 16) && is_hex s

-- the key that hex stands for, two digits to a byte
unfoldable pub hex_key : List ℕ → Key
hex_key [] = []
hex_key (a ∷ []) = []
hex_key (a ∷ b ∷ s) = (digit_of a * 16 + digit_of b) ∷ hex_key s

-- ---- decimal

unfoldable pub are_digits : List ℕ → Bool
are_digits [] = true
are_digits (x ∷ s) = ltb (digit_of x) 10 && are_digits s

-- the number of digits that stand behind those of v
unfoldable pub decimal_from : ℕ → List ℕ → ℕ
decimal_from v [] = v
decimal_from v (x ∷ s) = decimal_from (v * 10 + digit_of x) s

-- "no .. leading zeros; a lone 0 is a value"
unfoldable pub is_padded : List ℕ → Bool
is_padded s = pick (ltb (length s) 2) false (eqb (get_or s 0 0) 48)

-- "a value above a u64 [is] 15"
unfoldable pub is_decimal : List ℕ → Bool
is_decimal s =
    pick (eqb (length s) 0) false
    (pick (is_padded s) false
    (pick (are_digits s) (ltb (decimal_from 0 s) (256 ^ 8)) false))

-- ---- written

unfoldable pub digit_byte : ℕ → ℕ
digit_byte d = pick (ltb d 10) (48 + d) (87 + d)

unfoldable pub hex_of : Key → List ℕ
hex_of [] = []
hex_of (b ∷ k) = digit_byte (b / 16) ∷ digit_byte (b % 16) ∷ hex_of k

-- k digits may stand before the last
unfoldable pub decimal_up_to : ℕ → ℕ → List ℕ
decimal_up_to zero v = (48 + v % 10) ∷ []
decimal_up_to (suc k) v = pick (ltb v 10) ((48 + v) ∷ []) (decimal_up_to k (v / 10) ++ ((48 + v % 10) ∷ []))

-- a u64 has at most 20
unfoldable pub decimal_of : ℕ → List ℕ
decimal_of v = decimal_up_to 19 v
