-- How large what a text says can be: a key fits the record's two bytes of length, and the records of the longest text fit 36,038
-- bytes. Assumes nothing.
use mathlib.Core.Path.{◌≡◌, ap, subst}
use mathlib.Core.List.{List, [], ◌∷◌, ◌++◌}
use mathlib.Core.Bool.{true}
use mathlib.Core.Option.{Option, none, some}
use Prim.Native.Nat.{ℕ, suc, ◌+◌, ◌*◌, ◌≤◌}
use lib.ListN.{length, length-append, length-drop}
use lib.Dec.{eqb, compare_is_eq}
use native.Mathlib.Omega.{arith}
use borrow.Author.Tests.{ltb-true}
use Rattle.word.specs.Pick.{by_test}
use Rattle.word.specs.Key.{cmp}
use Rattle.word.proofs.KeyOrder.{cmp_eq}
use Rattle.tree.specs.Batch.{Rec}
use Rattle.tree.proofs.Cases.{is_eq}
use Rattle.changes.specs.Records.{encode_record, encode_records, kind_of, value_of}
use Rattle.lines.specs.Digits.{is_hex, is_decimal, decimal_from}
use Rattle.lines.specs.Lines.{tab, lf, set_word, del_word, up_to, has, behind, change_of, set_of, line_of, with_line, lines_from, lines_of}
use Rattle.lines.specs.Parses.{longest_text}
use Rattle.lines.proofs.HexLaws.{length_hex_key}
use Rattle.lines.proofs.PutLaws.{length_headed}

-- ---- a line

-- what holds of a record, where there is one
abbrev Of : Option (Rec ℕ) → (Rec ℕ → Type 0) → Type 0
Of none P = Unit {0}
Of (some r) P = P r

-- a key of half as many bytes as n
abbrev Half : ℕ → Rec ℕ → Type 0
Half n r = length r.key * 2 ≤ n

of_more : (o : Option (Rec ℕ)) (m n : ℕ) → m ≤ n → Of o (Half m) → Of o (Half n)
of_more none m n h p = tt
of_more (some r) m n h p = omega arith

change_half : (field : List ℕ) (op : Option ℕ) → Of (change_of field op) (Half (length field))
unfolding change_of
change_half field op =
    by_test (λ (o : Option (Rec ℕ)). Of o (Half (length field))) (is_hex field) (λ t. let l = length_hex_key field in omega arith) (λ t. tt)

-- what stands before and behind a cut
cut_long : (b : ℕ) (s : List ℕ) → has b s ≡ true → length (up_to b s) + 1 + length (behind b s) ≡ length s
unfolding has behind
cut_long b s t = let h = ltb-true (length (up_to b s)) (length s) t in let l = length-drop (length (up_to b s) + 1) s in omega arith

set_half : (s : List ℕ) → Of (set_of s) (Half (length s))
unfolding set_of
set_half s =
    by_test (λ (o : Option (Rec ℕ)). Of o (Half (length s))) (has tab s)
    (λ t.
    by_test (λ (o : Option (Rec ℕ)). Of o (Half (length s))) (is_decimal (behind tab s))
    (λ u. let l = cut_long tab s t in of_more (change_of (up_to tab s) (some (decimal_from 0 (behind tab s)))) (length (up_to tab s)) (length s) (omega arith) (change_half (up_to tab s) (some (decimal_from 0 (behind tab s)))))
    (λ u. tt))
    (λ t. tt)

-- a line has 4 bytes before its fields
abbrev Fits : ℕ → Rec ℕ → Type 0
Fits n r = length r.key * 2 + 4 ≤ n

of_fits : (o : Option (Rec ℕ)) (m n : ℕ) → m + 4 ≤ n → Of o (Half m) → Of o (Fits n)
of_fits none m n h p = tt
of_fits (some r) m n h p = omega arith

word_long : (a : List ℕ) (w : List ℕ) → compare_is_eq (cmp a w) ≡ true → length a ≡ length w
word_long a w t = ap length (cmp_eq a w (is_eq (cmp a w) t))

line_fits : (s : List ℕ) → Of (line_of s) (Fits (length s))
unfolding line_of
line_fits s =
    by_test (λ (o : Option (Rec ℕ)). Of o (Fits (length s))) (has tab s)
    (λ t.
    by_test (λ (o : Option (Rec ℕ)). Of o (Fits (length s))) (compare_is_eq (cmp (up_to tab s) set_word))
    (λ u. let l = cut_long tab s t in let w = word_long (up_to tab s) set_word u in of_fits (set_of (behind tab s)) (length (behind tab s)) (length s) (omega arith) (set_half (behind tab s)))
    (λ u.
    by_test (λ (o : Option (Rec ℕ)). Of o (Fits (length s))) (compare_is_eq (cmp (up_to tab s) del_word))
    (λ x. let l = cut_long tab s t in let w = word_long (up_to tab s) del_word x in of_fits (change_of (behind tab s) none) (length (behind tab s)) (length s) (omega arith) (change_half (behind tab s) none))
    (λ x. tt)))
    (λ t. tt)

-- ---- a text

abbrev pub AllKeys : ℕ → List (Rec ℕ) → Type 0
AllKeys n [] = Unit {0}
AllKeys n (r ∷ rs) = (length r.key * 2 + 5 ≤ n) × AllKeys n rs

-- what n bytes of text can say
pub record Within (n : ℕ) (rs : List (Rec ℕ)) : Type 0 where
  pub keys : AllKeys n rs
  pub count : length rs * 5 ≤ n
  pub size : length (encode_records rs) * 2 ≤ n + length rs * 17

abbrev OfAll : Option (List (Rec ℕ)) → ℕ → Type 0
OfAll none n = Unit {0}
OfAll (some rs) n = Within n rs

keys_more : (m n : ℕ) (rs : List (Rec ℕ)) → m ≤ n → AllKeys m rs → AllKeys n rs
keys_more m n [] h p = tt
keys_more m n (r ∷ rs) h p = let q = p.0 in (omega arith, keys_more m n rs h p.1)

length_record : (r : Rec ℕ) → length (encode_record r) ≡ 11 + length r.key
unfolding encode_record
length_record r = length_headed (kind_of r.op) (value_of r.op) r.key

with_within : (l m : ℕ) (o : Option (Rec ℕ)) (p : Option (List (Rec ℕ))) → Of o (Fits l) → OfAll p m → OfAll (with_line o p) (l + suc m)
unfolding encode_records
with_within l m none p f g = tt
with_within l m (some r) none f g = tt
with_within l m (some r) (some rs) f g =
    let c = g.count in
    let s = g.size in
    let e = length_record r in
    record {
      keys = (omega arith, keys_more m (l + suc m) rs (omega arith) g.keys);
      count = omega arith;
      size = simp length-append (omega arith);
    }

from_within : (line s : List ℕ) → OfAll (lines_from line s) (length line + length s)
unfolding lines_from encode_records
from_within line [] =
    by_test (λ (o : Option (List (Rec ℕ))). OfAll o (length line + 0)) (eqb (length line) 0) (λ t. record { keys = tt; count = omega arith; size = omega arith }) (λ t. tt)
from_within line (x ∷ s) =
    by_test (λ (o : Option (List (Rec ℕ))). OfAll o (length line + suc (length s))) (eqb x lf)
    (λ t. with_within (length line) (length s) (line_of line) (lines_from [] s) (line_fits line) (let e : length {A = ℕ} [] + length s ≡ length s = omega arith in rw e at (from_within [] s)))
    (λ t. let e : length (line ++ (x ∷ [])) + length s ≡ length line + suc (length s) = simp length-append (omega arith) in rw e at (from_within (line ++ (x ∷ [])) s))

pub text_within : (s : List ℕ) (rs : List (Rec ℕ)) → lines_of s ≡ some rs → Within (length s) rs
unfolding lines_of
text_within s rs e =
    let z : length {A = ℕ} [] + length s ≡ length s = omega arith in
    let w : OfAll (lines_from [] s) (length s) = rw z at (from_within [] s) in
    subst (λ (o : Option (List (Rec ℕ))). OfAll o (length s)) e w

-- ---- a text that is short enough

abbrev pub AllShort : ℕ → List (Rec ℕ) → Type 0
AllShort n [] = Unit {0}
AllShort n (r ∷ rs) = (length r.key ≤ n) × AllShort n rs

keys_short : (rs : List (Rec ℕ)) → AllKeys longest_text rs → AllShort 8189 rs
keys_short [] p = tt
keys_short (r ∷ rs) p = let h = p.0 in (omega arith, keys_short rs p.1)

module _ (s : List ℕ) (rs : List (Rec ℕ)) (says : lines_of s ≡ some rs) (short : length s ≤ longest_text) where
  -- "key length u16": every key fits
  pub key_fits : AllShort 8189 rs
  key_fits = keys_short rs (keys_more (length s) longest_text rs short (text_within s rs says).keys)

  -- a record buffer of 36,038 bytes holds them
  pub records_fit : length (encode_records rs) ≤ 36038
  records_fit = let w = text_within s rs says in let c = w.count in let z = w.size in omega arith
