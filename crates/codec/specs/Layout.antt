-- The code's structs for what the chains of Codec say, and what `read`, `key` and `write` answer and leave.
-- Assumes nothing.
use Rattle.std.specs.Prelude.{List, [], ◌∷◌, map, Bool, true, ◌&&◌, ℕ, zero, suc, length, take, ltb, eqb, Result, Ok, Err}
use Rattle.std.specs.Result.{result_unwrap_or}
use Rattle.std.specs.List.{list_any}
use Rattle.refusal.specs.Number.{answer_number}
use Rattle.word.specs.Pick.{pick}
use Rattle.word.specs.Part.{over}
use Rattle.node.specs.declared.Value.{Value}
use Rattle.node.specs.declared.Node.{Node}
use Rattle.codec.specs.declared.Places.{Places}
use Rattle.codec.specs.declared.Reading.{Reading}
use Rattle.codec.specs.declared.WriteError.{WriteError}
use Rattle.codec.specs.declared.WriteError.TheVariants.{LongKey, NoValue, ShortDestination, TooMany}
use Rattle.node.specs.Chain.{longest_key, padded, value_of, child_of, node_of, steps_of, first_of}
use Rattle.codec.specs.Codec.{encode, Spot, Scan, scan, step_of, is_no_byte_left}

-- ---- reading

abbrev pub all_plain : List (Spot × ℕ) → Bool
all_plain [] = true
all_plain (x ∷ r) = x.0.plain && all_plain r

-- whether what was scanned is all in standard form
abbrev pub is_whole : Scan → Bool
is_whole r = all_plain r.rest && is_no_byte_left r.ending

-- the places of what was scanned, as `node_of` has the node of a chain
unfoldable pub layout : Scan → Places
layout r = record {
  ending = r.ending;
  standard = is_whole r;
  count = length r.rest;
  children = padded 9 (child_of 0) (child_of r.first ∷ map (λ (x : Spot × ℕ). child_of x.1) r.rest);
  values = padded 8 (value_of 0) (map (λ (x : Spot × ℕ). value_of x.0.value) r.rest);
  starts = padded 8 0 (map (λ (x : Spot × ℕ). x.0.start) r.rest);
  lens = padded 8 0 (map (λ (x : Spot × ℕ). x.0.len) r.rest);
}

unfoldable pub places_of : List ℕ → Places
places_of s = layout (scan s)

unfoldable pub reading_of : List ℕ → Reading
reading_of s = record { ending = (scan s).ending; node = node_of (scan s).first (map (step_of s) (scan s).rest) }

-- ---- the key of a named separator, "as a part of the node bytes it was given; for a separator that isn't there, or
-- refused bytes, the part is empty", and then at their front

pub record Place : Type 0 where
  pub start : ℕ
  pub len : ℕ

abbrev pub place_in : List (Spot × ℕ) → ℕ → Place
place_in [] i = record { start = 0; len = 0 }
place_in (x ∷ r) zero = record { start = x.0.start; len = x.0.len }
place_in (x ∷ r) (suc i) = place_in r i

unfoldable pub key_place : List ℕ → ℕ → Place
key_place s i = place_in (scan s).rest i

-- ---- writing: any node may be offered, whatever its fields hold

abbrev pub any_of : {A : Type 0} → (A → Bool) → List A → Bool
any_of f l = list_any f l

-- whether f holds of one of the first n of l
unfoldable pub any_first : {A : Type 0} → (A → Bool) → ℕ → List A → Bool
any_first f n l = any_of f (take n l)

abbrev pub is_long : ℕ → Bool
is_long len = ltb longest_key len

abbrev pub is_none : Value → Bool
is_none x = eqb x.0 0

-- "Writing: 16, 4 for any separator, 5 for any, 10." "It goes to the front of the destination"
unfoldable pub written_of : Node → List ℕ → Result ℕ WriteError
written_of n d =
    pick (ltb 8 n.count) (Err TooMany)
    (pick (any_first is_long n.count n.lens) (Err LongKey)
    (pick (any_first is_none n.count n.values) (Err NoValue)
    (pick (ltb (length d) (length (encode (first_of n) (steps_of n)))) (Err ShortDestination)
    (Ok (length (encode (first_of n) (steps_of n)))))))

-- "the bytes after it stay"; a refusal leaves the destination unchanged
abbrev pub left_by : Result ℕ WriteError → Node → List ℕ → List ℕ
left_by (Ok len) n d = over d 0 (encode (first_of n) (steps_of n))
left_by (Err e) n d = d

-- 01's number, and "the answer has its length (0 if refused)"
abbrev pub write_error_number : WriteError → ℕ
write_error_number LongKey = 4
write_error_number NoValue = 5
write_error_number ShortDestination = 10
write_error_number TooMany = 16

abbrev pub written_number : Result ℕ WriteError → ℕ
written_number w = answer_number write_error_number w

abbrev pub written_length : Result ℕ WriteError → ℕ
written_length w = result_unwrap_or w 0
