-- 01's refusals of records, each number and which comes first where two tests fail: one computed test over a table. Number 7 is
-- `too_many` of WrittenLaws. Assumes nothing.
use mathlib.Core.Path.{◌≡◌, refl, ap, ◌∙◌}
use mathlib.Core.List.{List, [], ◌∷◌}
use mathlib.Core.Bool.{Bool, true, false, ◌&&◌}
use Prim.Native.Nat.{ℕ, ◌<◌}
use lib.ListN.{replicate}
use lib.Dec.{eqb, ltb}
use native.Mathlib.Omega.{arith}
use borrow.Author.Tests.{eqb-true, ltb-true}
use Rattle.word.specs.Pick.{pick}
use Rattle.word.specs.Part.{part}
use Rattle.word.specs.Num.{un}
use Rattle.word.specs.At.{fits_in, read_at}
use Rattle.changes.specs.Records.{most_records, checked_number, kind_at, len_at, value_at, key_at, next_at, is_known, is_bad_value, check_from, check_of}
use Rattle.changes.proofs.RecordLaws.{impossible}
use Rattle.changes.proofs.CheckLaws.{check_enough}

-- bytes, and the number that they get
abbrev pub Case : Type 0
Case = List ℕ × ℕ

abbrev pub AllHold : List Case → Type 0
AllHold [] = Unit {0}
AllHold (c ∷ cs) = (checked_number (check_of c.0) ≡ c.1) × AllHold cs

-- computed with room for three records, which is enough where that gives another number than 7
holds_lem : Case → Bool
holds_lem c = eqb (checked_number (check_from c.0 3 0 [])) c.1 && ltb c.1 7

all_hold : List Case → Bool
unfolding holds_lem
all_hold [] = true
all_hold (c ∷ cs) = holds_lem c && all_hold cs

both : (a b : Bool) → (a && b) ≡ true → (a ≡ true) × (b ≡ true)
both true b e = (refl, e)
both false b e = impossible e

case_holds : (c : Case) → holds_lem c ≡ true → checked_number (check_of c.0) ≡ c.1
unfolding holds_lem check_of
case_holds c e =
    let t = both (eqb (checked_number (check_from c.0 3 0 [])) c.1) (ltb c.1 7) e in
    let n : checked_number (check_from c.0 3 0 []) ≡ c.1 = eqb-true _ _ t.0 in
    let l : c.1 < 7 = ltb-true _ _ t.1 in
    let same = check_enough c.0 3 most_records 0 [] (omega arith) (λ q. let m : checked_number (check_from c.0 3 0 []) ≡ 7 = ap checked_number q in omega arith) in
    ap checked_number same ∙ n

all_hold_lem : (cs : List Case) → all_hold cs ≡ true → AllHold cs
unfolding all_hold
all_hold_lem [] e = tt
all_hold_lem (c ∷ cs) e = let t = both (holds_lem c) (all_hold cs) e in (case_holds c t.0, all_hold_lem cs t.1)

-- a record's head, right or wrong, before its key and what follows: the kind, the two bytes of the length, and the value's lowest
bytes_lem : ℕ → ℕ → ℕ → ℕ → List ℕ → List ℕ
bytes_lem kind low high value rest = kind ∷ low ∷ high ∷ value ∷ 0 ∷ 0 ∷ 0 ∷ 0 ∷ 0 ∷ 0 ∷ 0 ∷ rest

pub refusals : List Case
unfolding bytes_lem
refusals =
    ([], 0)
    ∷ (bytes_lem 1 1 0 5 (97 ∷ bytes_lem 2 1 0 0 (98 ∷ [])), 0)
    ∷ (bytes_lem 1 1 0 5 (97 ∷ bytes_lem 2 1 0 0 (97 ∷ [])), 0)
    ∷ (bytes_lem 2 0 0 0 (bytes_lem 1 1 0 5 (97 ∷ bytes_lem 2 2 0 0 (97 ∷ 0 ∷ []))), 0)
    ∷ (bytes_lem 1 32 1 5 (replicate 288 7), 0)
    -- "3 for under 11 bytes or kind"
    ∷ (1 ∷ [], 3)
    ∷ (1 ∷ 0 ∷ 0 ∷ 5 ∷ 0 ∷ 0 ∷ 0 ∷ 0 ∷ 0 ∷ 0 ∷ [], 3)
    ∷ (bytes_lem 0 0 0 5 [], 3)
    ∷ (bytes_lem 3 0 0 5 [], 3)
    ∷ (bytes_lem 3 33 1 0 [], 3)
    -- "4": a length of 289
    ∷ (bytes_lem 1 33 1 5 [], 4)
    ∷ (bytes_lem 1 33 1 0 [], 4)
    -- "5"
    ∷ (bytes_lem 1 1 0 0 (97 ∷ []), 5)
    ∷ (bytes_lem 2 1 0 1 (97 ∷ []), 5)
    ∷ (bytes_lem 1 1 0 0 [], 5)
    -- "3 for a short key"
    ∷ (bytes_lem 1 1 0 5 [], 3)
    ∷ (bytes_lem 1 1 0 5 (98 ∷ bytes_lem 1 2 0 5 (97 ∷ [])), 3)
    -- "6"
    ∷ (bytes_lem 1 1 0 5 (98 ∷ bytes_lem 1 1 0 5 (97 ∷ [])), 6)
    ∷ (bytes_lem 1 2 0 5 (97 ∷ 0 ∷ bytes_lem 2 1 0 0 (97 ∷ [])), 6)
    -- "records from the front"
    ∷ (bytes_lem 1 1 0 0 (97 ∷ 9 ∷ []), 5)
    ∷ []

pub refused : AllHold refusals
unfolding holds_lem all_hold refusals bytes_lem pick part un fits_in read_at kind_at len_at value_at key_at next_at is_known is_bad_value check_from
refused = all_hold_lem refusals refl
