-- A text's lines, one by one, and the ways through `put_lines` and `parse`. Assumes nothing.
use mathlib.Core.Path.{◌≡◌, refl, sym, ap, ◌∙◌}
use mathlib.Core.List.{List, [], ◌∷◌, ◌++◌, append_assoc, append-nil}
use mathlib.Core.Bool.{true, false}
use mathlib.Core.Option.{Option, none, some}
use Prim.Native.Nat.{ℕ, ◌+◌, ◌-◌, ◌≤◌, ◌<◌}
use lib.ListN.{length, take, length-append, drop_of_length-le, length-drop}
use lib.Dec.{eqb, ltb}
use native.Mathlib.Omega.{arith}
use borrow.Author.Tests.{ne_eqb, eqb-true, lt-ltb, le-ltb, ltb-false}
use Rattle.word.specs.Pick.{pick, pick_t, pick_f, by_test}
use Rattle.word.specs.Num.{zeros}
use Rattle.word.specs.Part.{over}
use Rattle.word.specs.At.{clear_at}
use Rattle.word.proofs.PartLaws.{length_over, over_beside, over_none}
use Rattle.word.proofs.NumLaws.{length_zeros}
use Rattle.word.proofs.AtLaws.{clear_at_in}
use Rattle.tree.specs.Batch.{Rec}
use Rattle.tree.proofs.Cases.{by_bool}
use Rattle.changes.specs.Records.{encode_record, encode_records}
use Rattle.changes.proofs.RecordLaws.{impossible}
use Rattle.std.specs.Prelude.{Option as Maybe, Some, None, Ok, Err, ◌==◌, position}
use Rattle.lines.specs.declared.ParseError.TheVariants.{BadText}
use Rattle.lines.specs.Lines.{lf, up_to, has, behind, line_of, with_line, lines_from, lines_of}
use Rattle.lines.specs.Parses.{longest_text, fitting, taken, Leaves, Parses}
use Rattle.lines.specs.Mirror.{encoded, Put, PlacedAll, Placed}
use Rattle.lines.proofs.PutLaws.{put_zero, put_none, put_some}
use Rattle.lines.proofs.CutLaws.{has_here, has_there, up_to_here, up_to_there, behind_here, behind_there, not_found, is_found, found_inside, found_front, found_behind, tail, tail_is}

-- ---- the lines of a text

has_none : (b : ℕ) → has b [] ≡ false
unfolding has up_to
has_none b = refl

from_cut : (line s : List ℕ) → has lf s ≡ true → lines_from line s ≡ with_line (line_of (line ++ up_to lf s)) (lines_from [] (behind lf s))
unfolding lines_from
from_cut line [] h = impossible (sym (has_none lf) ∙ h)
from_cut line (x ∷ s) h =
    by_bool (eqb x lf)
    (λ t. pick_t _ _ t ∙ rw (up_to_here lf x s (eqb-true _ _ t), behind_here lf x s (eqb-true _ _ t), append-nil line))
    (λ t.
    let ih = from_cut (line ++ (x ∷ [])) s (sym (has_there lf x s t) ∙ h) in
    let e : (line ++ (x ∷ [])) ++ up_to lf s ≡ line ++ (x ∷ up_to lf s) = simp append_assoc in
    pick_f _ _ t ∙ ih ∙ rw (up_to_there lf x s t, behind_there lf x s t, e))

from_open : (line s : List ℕ) → has lf s ≡ false → 0 < length line + length s → lines_from line s ≡ none
unfolding lines_from
from_open line [] h g = pick_f _ _ (ne_eqb (length line) 0 (λ e. omega arith))
from_open line (x ∷ s) h g =
    by_bool (eqb x lf)
    (λ t. impossible (sym h ∙ has_here lf x s (eqb-true _ _ t)))
    (λ t. pick_f _ _ t ∙ from_open (line ++ (x ∷ [])) s (sym (has_there lf x s t) ∙ h) (simp length-append (omega arith)))

pub lines_none : lines_of [] ≡ some []
unfolding lines_of lines_from pick
lines_none = refl

pub lines_cut : (s : List ℕ) → has lf s ≡ true → lines_of s ≡ with_line (line_of (up_to lf s)) (lines_of (behind lf s))
unfolding lines_of
lines_cut s h = from_cut [] s h

-- "each ends in LF"
pub lines_open : (s : List ℕ) → has lf s ≡ false → 0 < length s → lines_of s ≡ none
unfolding lines_of
lines_open s h g = from_open [] s h (omega arith)

-- ---- records behind others

abbrev pub after : List (Rec ℕ) → Option (List (Rec ℕ)) → Option (List (Rec ℕ))
after done none = none
after done (some rs) = some (done ++ rs)

pub encode_append : (a b : List (Rec ℕ)) → encode_records (a ++ b) ≡ encode_records a ++ encode_records b
unfolding encode_records
encode_append [] b = refl
encode_append (r ∷ a) b = rw (encode_append a b) (simp append_assoc)

encode_more : (a : List (Rec ℕ)) (r : Rec ℕ) → encode_records (a ++ (r ∷ [])) ≡ encode_records a ++ encode_record r
unfolding encode_records
encode_more a r = encode_append a (r ∷ []) ∙ rw (append-nil (encode_record r))

after_line : (done : List (Rec ℕ)) (r : Rec ℕ) (o : Option (List (Rec ℕ))) → after done (with_line (some r) o) ≡ after (done ++ (r ∷ [])) o
after_line done r none = refl
after_line done r (some rs) = let e : done ++ (r ∷ rs) ≡ (done ++ (r ∷ [])) ++ rs = simp append_assoc in ap some e

-- where the records read so far don't fit, all don't
too_long : (room : ℕ) (done : List (Rec ℕ)) (o : Option (List (Rec ℕ))) → room < length (encode_records done) → fitting room (after done o) ≡ none
unfolding fitting
too_long room done none h = refl
too_long room done (some rs) h = pick_t _ _ (lt-ltb room (length (encode_records (done ++ rs))) (rw (encode_append done rs) (simp length-append (omega arith))))

-- ---- the ways through `put_lines`

pub some_left : (s : List ℕ) → eqb (length s) 0 ≡ false → 0 < length s
some_left [] e = absurd (impossible (sym e))
some_left (x ∷ s) e = omega arith

none_left : (s : List ℕ) → length s ≡ 0 → s ≡ []
none_left [] h = refl
none_left (x ∷ s) h = absurd (omega arith)

module _ (text d : List ℕ) where
  -- the text before `rest` says records that stand in e up to `at`
  pub record Read (rest : List ℕ) (at : ℕ) (e : List ℕ) : Type 0 where
    pub done : List (Rec ℕ)
    pub says : lines_of text ≡ after done (lines_of rest)
    pub place : at ≡ length (encode_records done)
    pub fits : at ≤ length d
    pub bytes : e ≡ over d 0 (encode_records done)

  after_none : (o : Option (List (Rec ℕ))) → o ≡ after [] o
  after_none none = refl
  after_none (some rs) = refl

  pub lines_start : Read text 0 d
  unfolding encode_records
  lines_start = record { done = []; says = after_none (lines_of text); place = refl; fits = omega arith; bytes = sym (over_none d 0) }

  pub placed_none : (e : List ℕ) → fitting (length d) (lines_of text) ≡ none → Placed text d None e
  unfolding PlacedAll
  placed_none e p = rw p refl

  placed_some : (r : ℕ) (e : List ℕ) (rs : List (Rec ℕ)) → fitting (length d) (lines_of text) ≡ some rs → r ≡ length (encode_records rs) → e ≡ over d 0 (encode_records rs) → Placed text d (Some r) e
  unfolding PlacedAll
  placed_some r e rs p q w = rw p (ap Some q, w)

  module _ {rest : List ℕ} {at : ℕ} {e : List ℕ} (read : Read rest at e) where
    pub lines_end : length rest ≡ 0 → Placed text d (Some at) e
    unfolding fitting
    lines_end h =
        let rs = read.done in
        let all : lines_of text ≡ some rs = read.says ∙ rw (none_left rest h, lines_none, append-nil rs) in
        let f = read.fits in
        let p = read.place in
        placed_some at e rs (ap (fitting (length d)) all ∙ pick_f _ _ (le-ltb (length d) (length (encode_records rs)) (omega arith))) p read.bytes

    module _ {f : Maybe ℕ} (sought : f ≡ position (λ x. x == lf) rest) where
      pub lines_1 : f ≡ None → 0 < length rest → Placed text d None e
      unfolding fitting
      lines_1 q h = placed_none e (ap (fitting (length d)) (read.says ∙ ap (after read.done) (lines_open rest (not_found lf rest sought q) h)))

      module _ {n : ℕ} (found : f ≡ Some n) where
        pub line_within : n < length rest
        line_within = found_inside lf rest sought found

        pub rest_shorter : length (tail rest (n + 1)) < length rest
        rest_shorter = let w = line_within in rw (tail_is rest (n + 1), length-drop (n + 1) rest) (omega arith)

        says_line : lines_of rest ≡ with_line (line_of (take n rest)) (lines_of (tail rest (n + 1)))
        says_line = lines_cut rest (is_found lf rest sought found) ∙ rw (found_front lf rest sought found, found_behind lf rest sought found)

        -- the line's record, or none
        module _ (r : Maybe ℕ) (e2 : List ℕ) (put : Put (encoded (line_of (take n rest))) e at r e2) where
          abbrev this : Option (Rec ℕ)
          this = line_of (take n rest)

          abbrev later : Option (List (Rec ℕ))
          later = lines_of (tail rest (n + 1))

          size_same : length e ≡ length d
          size_same = let f = read.fits in let p = read.place in rw read.bytes (length_over d 0 (encode_records read.done) (omega arith))

          pub lines_2 : r ≡ None → Placed text d None e2
          unfolding fitting
          lines_2 z = placed_none e2 (ap (fitting (length d)) (read.says ∙ ap (after read.done) says_line) ∙ refuse this put)
            where
              refuse : (o : Option (Rec ℕ)) → Put (encoded o) e at r e2 → fitting (length d) (after read.done (with_line o later)) ≡ none
              refuse none p = refl
              refuse (some x) p =
                  let l = put_zero (encode_record x) e at r e2 p z in
                  let s = size_same in
                  let k = read.place in
                  ap (fitting (length d)) (after_line read.done x later)
                  ∙ too_long (length d) (read.done ++ (x ∷ [])) later (rw (encode_more read.done x) (simp length-append (omega arith)))

          pub lines_turn : (k : ℕ) → r ≡ Some k → Read (tail rest (n + 1)) (at + k) e2
          lines_turn len z = take_line this put says_line
            where
              take_line : (o : Option (Rec ℕ)) → Put (encoded o) e at r e2 → lines_of rest ≡ with_line o later → Read (tail rest (n + 1)) (at + len) e2
              take_line none p s = let q = put_none e at r e2 p in cc
              take_line (some x) p s =
                  let w = put_some (encode_record x) e at r e2 p len z in
                  let k = read.place in
                  let l = size_same in
                  let m = w.1 in
                  let first : at ≡ 0 + length (encode_records read.done) = omega arith in
                  record {
                    done = read.done ++ (x ∷ []);
                    says = read.says ∙ ap (after read.done) s ∙ after_line read.done x later;
                    place = rw (encode_more read.done x) (simp length-append (omega (arith, w.0)));
                    fits = omega (arith, w.0);
                    bytes =
                        w.2
                        ∙ ap (λ (t : List ℕ). over t at (encode_record x)) read.bytes
                        ∙ ap (λ (i : ℕ). over (over d 0 (encode_records read.done)) i (encode_record x)) first
                        ∙ over_beside d 0 (encode_records read.done) (encode_record x) (omega arith)
                        ∙ ap (over d 0) (sym (encode_more read.done x));
                  }

-- ---- the ways through `parse`

over_all : (s b : List ℕ) → length b ≡ length s → over s 0 b ≡ b
unfolding over
over_all s b e = let z : 0 + length b ≡ length s = omega arith in rw (z, drop_of_length-le s (le_refl s), append-nil b)
  where
    le_refl : (s : List ℕ) → length s ≤ length s
    le_refl s = omega arith

said_lem : Option (List (Rec ℕ)) → ℕ
said_lem none = 0
said_lem (some rs) = 1

size : Option (List (Rec ℕ)) → ℕ
size none = 0
size (some rs) = length (encode_records rs)

fitting_fits : (room : ℕ) (o : Option (List (Rec ℕ))) (rs : List (Rec ℕ)) → fitting room o ≡ some rs → length (encode_records rs) ≤ room
unfolding fitting said_lem size
fitting_fits room none rs = λ e. absurd (let z : ◌≡◌ {A = ℕ} 0 1 = ap said_lem e in omega arith)
fitting_fits room (some qs) rs =
    by_test (λ (o : Option (List (Rec ℕ))). o ≡ some rs → length (encode_records rs) ≤ room) (ltb room (length (encode_records qs)))
    (λ t e. absurd (let z : ◌≡◌ {A = ℕ} 0 1 = ap said_lem e in omega arith))
    (λ t e. let q : length (encode_records qs) ≡ length (encode_records rs) = ap size e in omega (arith, ltb-false room (length (encode_records qs)) t))

module _ (text d : List ℕ) where
  leaves_none : (m e : List ℕ) → taken text (length d) ≡ none → length m ≡ length d → e ≡ clear_at m 0 (length d) → Parses text d (Err BadText) e
  unfolding Leaves
  leaves_none m e t l q = rw t (refl, refl, q ∙ clear_at_in m 0 (length d) (omega arith) ∙ over_all m (zeros (length d)) (length_zeros (length d) ∙ sym l))

  pub parse_1 : (e : List ℕ) → longest_text < length text → e ≡ clear_at d 0 (length d) → Parses text d (Err BadText) e
  unfolding taken
  parse_1 e h q = leaves_none d e (pick_t _ _ (lt-ltb longest_text (length text) h)) refl q

  module _ (short : length text ≤ longest_text) (r : Maybe ℕ) (m : List ℕ) (placed : Placed text d r m) where
    taken_is : taken text (length d) ≡ fitting (length d) (lines_of text)
    unfolding taken
    taken_is = pick_f _ _ (le-ltb longest_text (length text) short)

    refused : (o : Option (List (Rec ℕ))) → PlacedAll o d r m → r ≡ None → o ≡ none
    unfolding PlacedAll
    refused none p w = refl
    refused (some rs) p w = let z = p.0 in cc

    pub parse_3 : (e : List ℕ) → r ≡ None → length m ≡ length d → e ≡ clear_at m 0 (length d) → Parses text d (Err BadText) e
    parse_3 e w l q = leaves_none m e (taken_is ∙ refused (fitting (length d) (lines_of text)) placed w) l q

    -- where records are taken, they stand at the front
    record Taken (n : ℕ) : Type 0 where
      records : List (Rec ℕ)
      are : fitting (length d) (lines_of text) ≡ some records
      size_is : n ≡ length (encode_records records)
      stand : m ≡ over d 0 (encode_records records)

    accepted : (n : ℕ) (o : Option (List (Rec ℕ))) → fitting (length d) (lines_of text) ≡ o → PlacedAll o d r m → r ≡ Some n → Taken n
    unfolding PlacedAll
    accepted n none q p w = cc
    accepted n (some rs) q p w = record { records = rs; are = q; size_is = (let z = p.0 in cc); stand = p.1 }

    module _ (n : ℕ) (w : r ≡ Some n) where
      abbrev found : Taken n
      found = accepted n (fitting (length d) (lines_of text)) refl placed w

      pub parse_within : n ≤ length d
      parse_within = let s = found.size_is in let f = fitting_fits (length d) (lines_of text) found.records found.are in omega arith

      pub parse_2 : (e : List ℕ) → e ≡ clear_at m n (length d - n) → Parses text d (Ok n) e
      unfolding Leaves
      parse_2 e q =
          let rs = found.records in
          let b : List ℕ = encode_records rs in
          let s = found.size_is in
          let f = parse_within in
          let z = length_zeros (length d - n) in
          let l : length m ≡ length d = rw found.stand (length_over d 0 b (omega arith)) in
          let first : n ≡ 0 + length b = omega arith in
          let left : e ≡ b ++ zeros (length d - n) =
          q
          ∙ clear_at_in m n (length d - n) (omega arith)
          ∙ ap (λ (t : List ℕ). over t n (zeros (length d - n))) found.stand
          ∙ ap (λ (i : ℕ). over (over d 0 b) i (zeros (length d - n))) first
          ∙ over_beside d 0 b (zeros (length d - n)) (omega arith)
          ∙ over_all d (b ++ zeros (length d - n)) (simp length-append (omega arith)) in
          rw (taken_is ∙ found.are) (refl, s, left ∙ ap (λ (i : ℕ). b ++ zeros (length d - i)) s)
