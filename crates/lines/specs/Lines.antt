-- 01, "House lines and the program": "`set` TAB key in lowercase hex TAB decimal, or `del` TAB key; each ends in LF". What
-- records a text says. Assumes nothing.
use Rattle.std.specs.Prelude.{List, [], ◌∷◌, ◌++◌, Bool, ℕ, ◌+◌, length, drop, ltb, eqb}
use Rattle.std.proofs.Math.Option.{Option, none, some}
use Rattle.std.proofs.Math.Dec.{compare_is_eq}
use Rattle.word.specs.Pick.{pick}
use Rattle.word.specs.Key.{cmp}
use Rattle.tree.specs.Batch.{Rec}
use Rattle.lines.specs.Digits.{is_hex, hex_key, is_decimal, decimal_from}

abbrev pub tab : ℕ
tab = 9

abbrev pub lf : ℕ
lf = 10

-- "`set`" and "`del`" as bytes
abbrev pub set_word : List ℕ
set_word = 115 ∷ 101 ∷ 116 ∷ []

abbrev pub del_word : List ℕ
del_word = 100 ∷ 101 ∷ 108 ∷ []

-- ---- cut at the first b

-- what stands before it; all, where there is none
unfoldable pub up_to : ℕ → List ℕ → List ℕ
up_to b [] = []
up_to b (x ∷ s) = pick (eqb x b) [] (x ∷ up_to b s)

unfoldable pub has : ℕ → List ℕ → Bool
has b s = ltb (length (up_to b s)) (length s)

-- what stands behind it
unfoldable pub behind : ℕ → List ℕ → List ℕ
behind b s = drop (length (up_to b s) + 1) s

-- ---- a line, without its LF

-- the change of the key that a field of hex stands for
unfoldable pub change_of : List ℕ → Option ℕ → Option (Rec ℕ)
change_of field op = pick (is_hex field) (some (record { key = hex_key field; op = op })) none

-- "key in lowercase hex TAB decimal"
unfoldable pub set_of : List ℕ → Option (Rec ℕ)
set_of s = pick (has tab s) (pick (is_decimal (behind tab s)) (change_of (up_to tab s) (some (decimal_from 0 (behind tab s)))) none) none

-- "`set` TAB .., or `del` TAB key"
unfoldable pub line_of : List ℕ → Option (Rec ℕ)
line_of s =
    pick (has tab s)
    (pick (compare_is_eq (cmp (up_to tab s) set_word)) (set_of (behind tab s))
    (pick (compare_is_eq (cmp (up_to tab s) del_word)) (change_of (behind tab s) none) none))
    none

-- ---- a text

abbrev pub with_line : Option (Rec ℕ) → Option (List (Rec ℕ)) → Option (List (Rec ℕ))
with_line none rs = none
with_line (some r) none = none
with_line (some r) (some rs) = some (r ∷ rs)

-- "each ends in LF": `line` is what of a line was read already
unfoldable pub lines_from : List ℕ → List ℕ → Option (List (Rec ℕ))
lines_from line [] = pick (eqb (length line) 0) (some []) none
lines_from line (x ∷ s) = pick (eqb x lf) (with_line (line_of line) (lines_from [] s)) (lines_from (line ++ (x ∷ [])) s)

-- the records that a text says; none where it is not house lines
unfoldable pub lines_of : List ℕ → Option (List (Rec ℕ))
lines_of s = lines_from [] s
