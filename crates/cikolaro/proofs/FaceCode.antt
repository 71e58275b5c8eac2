-- The ways through `run_lines`. Assumes nothing.
use mathlib.Core.Path.{◌≡◌, refl, ap, subst, ◌∙◌}
use mathlib.Core.List.{List, [], ◌++◌}
use mathlib.Core.Option.{Option, none, some}
use Prim.Native.Nat.{ℕ, ◌-◌, ◌≤◌}
use lib.ListN.{length, take, drop}
use lib.Seq.{take_at}
use lib.Dec.{ltb}
use native.Mathlib.Omega.{arith}
use borrow.Author.Tests.{ltb-false}
use Rattle.word.specs.Pick.{by_test}
use Rattle.word.specs.Num.{zeros}
use Rattle.tree.specs.Batch.{Rec}
use Rattle.changes.specs.Records.{encode_records}
use Rattle.std.specs.Prelude.{Ok, Err}
use Rattle.lines.specs.declared.ParseError.{ParseError}
use Rattle.lines.specs.declared.ParseError.TheVariants.{BadText as BadLine}
use Rattle.lines.specs.Lines.{lines_of}
use Rattle.lines.specs.Parses.{longest_text, Parsed, parse_error_number, parsed_number, parsed_length, fitting, taken, Leaves, Parses}
use Rattle.batch.specs.declared.BatchError.TheVariants.{BadText}
use Rattle.batch.specs.declared.Batched.{Batched}
use Rattle.batch.specs.Contract.{Batches}
use Rattle.cikolaro.specs.Contract.{RunsLines}

abbrev is_there : Option (List (Rec ℕ)) → ℕ
is_there none = 0
is_there (some rs) = 1

abbrev inside : Option (List (Rec ℕ)) → List (Rec ℕ)
inside none = []
inside (some rs) = rs

never_lem : {A : Type 0} {rs : List (Rec ℕ)} → none ≡ some rs → A
never_lem e = absurd (omega (arith, ap is_there e))

-- records that are taken have room
taken_room : (text : List ℕ) (room : ℕ) (rs : List (Rec ℕ)) → taken text room ≡ some rs → length (encode_records rs) ≤ room
unfolding taken fitting
taken_room text room rs e =
    by_test (λ (o : Option (List (Rec ℕ))). o ≡ some rs → length (encode_records rs) ≤ room) (ltb longest_text (length text)) (λ t f. never_lem f) (λ t f. go (lines_of text) f) e
  where
    go : (o : Option (List (Rec ℕ))) → fitting room o ≡ some rs → length (encode_records rs) ≤ room
    go none f = never_lem f
    go (some qs) f =
        by_test (λ (o : Option (List (Rec ℕ))). o ≡ some rs → length (encode_records rs) ≤ room) (ltb room (length (encode_records qs)))
        (λ t g. never_lem g) (λ t g. let same : qs ≡ rs = ap inside g in subst (λ (x : List (Rec ℕ)). length (encode_records x) ≤ room) same (ltb-false room (length (encode_records qs)) t)) f

refused : (e : ParseError) → parse_error_number e ≡ 0 → ⊥
refused BadLine e = omega arith

module _ (s ms buffer text left : List ℕ) (p : Parsed) (parsed : Parses text buffer p left) where
  abbrev kept : Option (List (Rec ℕ))
  kept = taken text (length buffer)

  is_none_lem : kept ≡ none → (parsed_number p ≡ 15) × (parsed_length p ≡ 0) × (left ≡ zeros (length buffer))
  unfolding Leaves
  is_none_lem e = subst (λ (o : Option (List (Rec ℕ))). Leaves o (length buffer) p left) e parsed

  is_some_lem : (rs : List (Rec ℕ)) → kept ≡ some rs
      → (parsed_number p ≡ 0) × (parsed_length p ≡ length (encode_records rs)) × (left ≡ encode_records rs ++ zeros (length buffer - length (encode_records rs)))
  unfolding Leaves
  is_some_lem rs e = subst (λ (o : Option (List (Rec ℕ))). Leaves o (length buffer) p left) e parsed

  pub lines_1 : (e : ParseError) → p ≡ Err e → RunsLines s ms buffer text (record { answer = Err BadText; applied = 0 }) s ms left
  lines_1 e z = record {
    bad_text = λ h. (record { number_is = refl; applied = refl; store = refl; marks = refl }, (is_none_lem h).2);
    runs = λ rs h. absurd (let q = rw z at (is_some_lem rs h).0 in refused e q);
  }

  module _ (len : ℕ) (z : p ≡ Ok len) where
    length_is : (n : ℕ) → parsed_length p ≡ n → len ≡ n
    length_is n e = rw z at e

    -- the records lie within the buffer
    pub lines_within : length left ≡ length buffer → len ≤ length left
    lines_within same = go kept refl
      where
        go : (o : Option (List (Rec ℕ))) → kept ≡ o → len ≤ length left
        go none h = omega (arith, length_is 0 (is_none_lem h).1)
        go (some rs) h = omega (arith, length_is (length (encode_records rs)) (is_some_lem rs h).1, taken_room text (length buffer) rs h)

    pub lines_2 : {r : Batched} {t ns : List ℕ} → Batches s ms (take (len - 0) (drop 0 left)) r t ns → RunsLines s ms buffer text r t ns left
    lines_2 {r} {t} {ns} ran = record {
      bad_text = λ h. absurd (let q = rw z at (is_none_lem h).0 in omega arith);
      runs = λ rs h.
          let w = is_some_lem rs h in
          let long : len ≡ length (encode_records rs) = length_is (length (encode_records rs)) w.1 in
          let front : take (len - 0) (drop 0 left) ≡ encode_records rs =
          ap (λ (x : List ℕ). take (len - 0) (drop 0 x)) w.2 ∙ take_at (encode_records rs) (zeros (length buffer - length (encode_records rs))) (len - 0) (omega arith) in
          (subst (λ (q : List ℕ). Batches s ms q r t ns) front ran, w.2);
    }
