-- House lines by example: texts and the records that they say, and what the program writes. Two computed tests, each over a
-- table. Assumes nothing.
use mathlib.Core.Path.{◌≡◌, refl}
use mathlib.Core.List.{List, [], ◌∷◌, ◌++◌}
use mathlib.Core.Option.{Option, none, some}
use Prim.Native.Nat.{ℕ}
use Rattle.word.specs.Pick.{pick}
use Rattle.tree.specs.Batch.{Rec}
use Rattle.lines.specs.Written.{entry_line, refused_line}
use Rattle.lines.specs.Digits.{digit_of, is_hex, hex_key, are_digits, decimal_from, is_padded, is_decimal, digit_byte, hex_of, decimal_up_to, decimal_of}
use Rattle.lines.specs.Lines.{tab, lf, set_word, del_word, up_to, has, behind, change_of, set_of, line_of, lines_from, lines_of}

-- a text, and what it says
abbrev pub Case : Type 0
Case = List ℕ × Option (List (Rec ℕ))

abbrev pub said : List Case → List (Option (List (Rec ℕ)))
said [] = []
said (c ∷ cs) = lines_of c.0 ∷ said cs

abbrev pub meant : List Case → List (Option (List (Rec ℕ)))
meant [] = []
meant (c ∷ cs) = c.1 ∷ meant cs

abbrev set_line : List ℕ → List ℕ → List ℕ
set_line key value = set_word ++ (tab ∷ (key ++ (tab ∷ (value ++ (lf ∷ [])))))

abbrev del_line : List ℕ → List ℕ
del_line key = del_word ++ (tab ∷ (key ++ (lf ∷ [])))

abbrev set : List ℕ → ℕ → Rec ℕ
set key value = record { key = key; op = some value }

abbrev del : List ℕ → Rec ℕ
del key = record { key = key; op = none }

-- 18446744073709551615, the last u64, but for its last digit
abbrev most : List ℕ
most = 49 ∷ 56 ∷ 52 ∷ 52 ∷ 54 ∷ 55 ∷ 52 ∷ 52 ∷ 48 ∷ 55 ∷ 51 ∷ 55 ∷ 48 ∷ 57 ∷ 53 ∷ 53 ∷ 49 ∷ 54 ∷ 49 ∷ []

unfoldable pub texts : List Case
texts =
    ([], some [])
    -- "Input `set`,`61`,`5` then `set`,`62`,`7`"
    ∷ (set_line (54 ∷ 49 ∷ []) (53 ∷ []) ++ set_line (54 ∷ 50 ∷ []) (55 ∷ []), some (set (97 ∷ []) 5 ∷ set (98 ∷ []) 7 ∷ []))
    ∷ (del_line (54 ∷ 49 ∷ []), some (del (97 ∷ []) ∷ []))
    -- hex with letters, and the empty key
    ∷ (del_line (102 ∷ 97 ∷ 48 ∷ 57 ∷ []), some (del (250 ∷ 9 ∷ []) ∷ []))
    ∷ (set_line [] (53 ∷ []), some (set [] 5 ∷ []))
    ∷ (del_line [], some (del [] ∷ []))
    -- "a lone 0 is a value"
    ∷ (set_line (54 ∷ 49 ∷ []) (48 ∷ []), some (set (97 ∷ []) 0 ∷ []))
    -- "a value above a u64"
    ∷ (set_line [] (most ++ (53 ∷ [])), some (set [] 18446744073709551615 ∷ []))
    ∷ (set_line [] (most ++ (54 ∷ [])), none)
    -- "Hex of odd length"; uppercase; a byte that is no digit
    ∷ (del_line (54 ∷ []), none)
    ∷ (del_line (54 ∷ 65 ∷ []), none)
    ∷ (del_line (54 ∷ 103 ∷ []), none)
    -- "no signs or leading zeros"
    ∷ (set_line [] (43 ∷ 53 ∷ []), none)
    ∷ (set_line [] (45 ∷ 53 ∷ []), none)
    ∷ (set_line [] (48 ∷ 53 ∷ []), none)
    ∷ (set_line [] (48 ∷ 48 ∷ []), none)
    -- no digit; hex where decimal should be
    ∷ (set_line [] [], none)
    ∷ (set_line [] (97 ∷ []), none)
    -- "each ends in LF"
    ∷ (del_word ++ (tab ∷ []), none)
    ∷ (del_line [] ++ del_word, none)
    -- an empty line, a CR before the LF
    ∷ (lf ∷ [], none)
    ∷ (del_line (13 ∷ []), none)
    -- a field too many or too few, another word
    ∷ (del_line (54 ∷ 49 ∷ tab ∷ 53 ∷ []), none)
    ∷ (set_line [] (53 ∷ tab ∷ []), none)
    ∷ (set_word ++ (tab ∷ 54 ∷ 49 ∷ lf ∷ []), none)
    ∷ (set_word ++ (lf ∷ []), none)
    ∷ (83 ∷ 101 ∷ 116 ∷ tab ∷ tab ∷ 53 ∷ lf ∷ [], none)
    ∷ (115 ∷ 101 ∷ tab ∷ tab ∷ 53 ∷ lf ∷ [], none)
    -- a good line before a bad one
    ∷ (del_line [] ++ del_line (54 ∷ []), none)
    ∷ []

pub read_lem : said texts ≡ meant texts
unfolding texts pick digit_of is_hex hex_key are_digits decimal_from is_padded is_decimal up_to has behind change_of set_of line_of lines_from lines_of
read_lem = refl

-- ---- what the program writes, and its bytes

unfoldable pub lines : List (List ℕ × List ℕ)
unfolding digit_byte hex_of decimal_up_to decimal_of
lines =
    -- "`61` TAB `5` and `62` TAB `7`"
    (entry_line (97 ∷ []) 5, 54 ∷ 49 ∷ 9 ∷ 53 ∷ 10 ∷ [])
    ∷ (entry_line (98 ∷ []) 7, 54 ∷ 50 ∷ 9 ∷ 55 ∷ 10 ∷ [])
    ∷ (entry_line (250 ∷ 9 ∷ []) 1024, 102 ∷ 97 ∷ 48 ∷ 57 ∷ 9 ∷ 49 ∷ 48 ∷ 50 ∷ 52 ∷ 10 ∷ [])
    ∷ (entry_line [] 18446744073709551615, tab ∷ (most ++ (53 ∷ lf ∷ [])))
    -- "`refused` TAB number TAB applied"
    ∷ (refused_line 9 8, 114 ∷ 101 ∷ 102 ∷ 117 ∷ 115 ∷ 101 ∷ 100 ∷ 9 ∷ 57 ∷ 9 ∷ 56 ∷ 10 ∷ [])
    ∷ (refused_line 15 0, 114 ∷ 101 ∷ 102 ∷ 117 ∷ 115 ∷ 101 ∷ 100 ∷ 9 ∷ 49 ∷ 53 ∷ 9 ∷ 48 ∷ 10 ∷ [])
    ∷ []

abbrev firsts : List (List ℕ × List ℕ) → List (List ℕ)
firsts [] = []
firsts (c ∷ cs) = c.0 ∷ firsts cs

abbrev seconds : List (List ℕ × List ℕ) → List (List ℕ)
seconds [] = []
seconds (c ∷ cs) = c.1 ∷ seconds cs

pub written : firsts lines ≡ seconds lines
unfolding lines pick digit_byte hex_of decimal_up_to decimal_of
written = refl
