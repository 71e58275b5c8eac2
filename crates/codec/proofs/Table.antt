-- 01's known nights on node bytes, marked P: one computed test over a table; and another over a table of the strict reading.
-- Assumes nothing.
use mathlib.Core.Path.{◌≡◌, refl}
use mathlib.Core.List.{List, [], ◌∷◌, ◌++◌}
use mathlib.Core.Bool.{Bool, true, false, ◌&&◌}
use Prim.Native.Nat.{ℕ, zero, suc}
use lib.ListN.{length, take, drop, replicate}
use lib.Dec.{eqb}
use Rattle.word.specs.Pick.{pick}
use Rattle.word.specs.Part.{part, over}
use Rattle.word.specs.Num.{le, un}
use Rattle.word.specs.At.{fits_in, read_at}
use Rattle.std.specs.Prelude.{Result}
use Rattle.codec.specs.declared.WriteError.{WriteError}
use Rattle.node.specs.declared.Node.{Node}
use Rattle.node.specs.Chain.{Step, padded, blocks, node_of, steps_of, first_of}
use Rattle.codec.specs.Codec.{sized, encode_sep, encode_rest, encode, key_at, size_at, head_at, scan_from, settle, scan, ending_number}
use Rattle.codec.specs.Strict.{strict_number, is_low, ends_at, strict_from, strict_end}
use Rattle.codec.specs.Layout.{reading_of, any_first, written_of, left_by, written_number, written_length}

-- a leaf of one key alone, or of none, written into 320 bytes of 7: the number, the length and the bytes from the front on
-- that are told; or bytes that are read: the number and the separators
pub data Case : Type 0 where
  writes : List Step → ℕ → ℕ → List ℕ → Case
  reads : List ℕ → ℕ → ℕ → Case

same_lem : List ℕ → List ℕ → Bool
same_lem [] [] = true
same_lem [] (y ∷ m) = false
same_lem (x ∷ l) [] = false
same_lem (x ∷ l) (y ∷ m) = eqb x y && same_lem l m

holds_lem : Case → Bool
unfolding same_lem
holds_lem (writes r number len front) =
    let d : List ℕ = replicate 320 7 in
    let n : Node = node_of 0 r in
    let w : Result ℕ WriteError = written_of n d in
    let left : List ℕ = left_by w n d in
    eqb (written_number w) number && (eqb (written_length w) len && (same_lem (take (length front) left) front && same_lem (drop len left) (drop len d)))
holds_lem (reads s number count) = eqb (ending_number (reading_of s).ending) number && eqb (reading_of s).node.count count

pub all_hold : List Case → Bool
unfolding holds_lem
all_hold [] = true
all_hold (c ∷ cs) = holds_lem c && all_hold cs

leaf : List ℕ → ℕ → List Step
leaf k v = (record { key = k; val = v }, 0) ∷ []

z8 : List ℕ
z8 = replicate 8 0

-- "P empty leaf: 8 zero bytes. P key 61 62, value 5: 27 bytes." (01's keys are in hex: 97, 98)
-- "P key of 254 bytes in a leaf alone: 279 bytes; 255: 284; 288: 317; 289 refused 4." "P 0 bytes read: 11."
pub nodes : List Case
unfolding leaf z8
nodes =
    writes [] 0 8 z8
    ∷ writes (leaf (97 ∷ 98 ∷ []) 5) 0 27 (z8 ++ (5 ∷ 0 ∷ 0 ∷ 0 ∷ 0 ∷ 0 ∷ 0 ∷ 0 ∷ 2 ∷ 97 ∷ 98 ∷ z8))
    ∷ writes (leaf (replicate 254 1) 5) 0 279 (z8 ++ (5 ∷ 0 ∷ 0 ∷ 0 ∷ 0 ∷ 0 ∷ 0 ∷ 0 ∷ 254 ∷ 1 ∷ []))
    ∷ writes (leaf (replicate 255 1) 5) 0 284 (z8 ++ (5 ∷ 0 ∷ 0 ∷ 0 ∷ 0 ∷ 0 ∷ 0 ∷ 0 ∷ 255 ∷ 255 ∷ 0 ∷ 0 ∷ 0 ∷ 1 ∷ []))
    ∷ writes (leaf (replicate 288 1) 5) 0 317 (z8 ++ (5 ∷ 0 ∷ 0 ∷ 0 ∷ 0 ∷ 0 ∷ 0 ∷ 0 ∷ 255 ∷ 32 ∷ 1 ∷ 0 ∷ 0 ∷ 1 ∷ []))
    ∷ writes (leaf (replicate 289 1) 5) 4 0 []
    ∷ reads [] 11 0
    ∷ reads z8 0 0
    ∷ reads (z8 ++ (5 ∷ 0 ∷ 0 ∷ 0 ∷ 0 ∷ 0 ∷ 0 ∷ 0 ∷ 2 ∷ 97 ∷ 98 ∷ z8)) 0 1
    ∷ []

pub known_nodes : all_hold nodes ≡ true
unfolding all_hold nodes z8 pick part over le un fits_in read_at sized encode_sep encode_rest encode key_at size_at head_at scan_from settle scan padded blocks node_of reading_of steps_of first_of any_first written_of
known_nodes = refl

-- ---- the strict reading beside the lenient one: bytes, the lenient number, the strict number and the place

pub record Judged : Type 0 where
  pub bytes : List ℕ
  pub lenient : ℕ
  pub strict : ℕ
  pub place : ℕ

abbrev judged : List ℕ → ℕ → ℕ → ℕ → Judged
judged s l n p = record { bytes = s; lenient = l; strict = n; place = p }

pub all_judged : List Judged → Bool
all_judged [] = true
all_judged (c ∷ cs) =
    (eqb (ending_number (reading_of c.bytes).ending) c.lenient
    && (eqb (strict_number (strict_end c.bytes).ending) c.strict && eqb (strict_end c.bytes).at c.place))
    && all_judged cs

five : List ℕ
five = 5 ∷ replicate 7 0

-- a separator with no key and the child right of it, n times
short : ℕ → List ℕ
short zero = []
short (suc n) = five ++ (0 ∷ (replicate 8 0 ++ short n))

-- the order within a separator, 12, 13, 14, 18, 19, 4, and behind the ninth child 20
pub strict_nodes : List Judged
unfolding z8 five short
strict_nodes =
    judged (z8 ++ (five ++ (2 ∷ 97 ∷ 98 ∷ z8))) 0 0 27
    ∷ judged [] 11 11 0
    ∷ judged (z8 ++ (five ++ (0 ∷ 1 ∷ 2 ∷ 3 ∷ []))) 11 11 17
    ∷ judged (z8 ++ (5 ∷ [])) 12 12 8
    ∷ judged (z8 ++ (five ++ (255 ∷ 1 ∷ []))) 13 13 8
    -- 0xFF before a short key, which the lenient reading reads; cut short it is 14 for both
    ∷ judged (z8 ++ (five ++ (255 ∷ 2 ∷ 0 ∷ 0 ∷ 0 ∷ 97 ∷ 98 ∷ z8))) 0 18 8
    ∷ judged (z8 ++ (five ++ (255 ∷ 2 ∷ 0 ∷ 0 ∷ 0 ∷ 97 ∷ []))) 14 14 8
    -- a low size hides what is wrong behind it
    ∷ judged (z8 ++ (five ++ (255 ∷ 1 ∷ 0 ∷ 0 ∷ 0 ∷ 97 ∷ (z8 ++ (5 ∷ []))))) 12 18 8
    -- value 0: behind its size, before the length of its key
    ∷ judged (z8 ++ (z8 ++ (0 ∷ []))) 0 19 8
    ∷ judged (z8 ++ (z8 ++ (255 ∷ 0 ∷ 0 ∷ 0 ∷ 0 ∷ []))) 0 18 8
    ∷ judged (z8 ++ (z8 ++ (255 ∷ 33 ∷ 1 ∷ 0 ∷ 0 ∷ replicate 289 1))) 0 19 8
    ∷ judged (z8 ++ (five ++ (255 ∷ 33 ∷ 1 ∷ 0 ∷ 0 ∷ replicate 289 1))) 4 4 8
    -- eight separators, and a byte behind them
    ∷ judged (z8 ++ short 8) 0 0 144
    ∷ judged (z8 ++ (short 8 ++ (7 ∷ []))) 0 20 144
    ∷ []

pub known_strict : all_judged strict_nodes ≡ true
unfolding all_judged strict_nodes z8 five short pick part un fits_in read_at key_at size_at head_at scan_from settle scan reading_of is_low ends_at strict_from strict_end
known_strict = refl
