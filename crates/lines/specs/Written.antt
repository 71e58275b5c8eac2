-- What the program writes: "entries, key TAB value", and "A refusal writes one line: `refused` TAB number TAB applied". A writer
-- leaves its line at the front where it fits, and the bytes after it stay. Assumes nothing.
use Rattle.std.specs.Prelude.{◌≡◌, List, [], ◌∷◌, ◌++◌, Bool, true, false, ℕ, length, drop, leb, Option, Some, None}
use Rattle.word.specs.Key.{Key}
use Rattle.tree.specs.Map.{Sep}
use Rattle.lines.specs.Digits.{hex_of, decimal_of}
use Rattle.lines.specs.Lines.{tab, lf, set_word}

-- "key TAB value", and its LF
abbrev pub entry_line : Key → ℕ → List ℕ
entry_line key value = hex_of key ++ (tab ∷ (decimal_of value ++ (lf ∷ [])))

-- "`set` TAB key in lowercase hex TAB decimal", and its LF
abbrev pub set_line : Key → ℕ → List ℕ
set_line key value = set_word ++ (tab ∷ entry_line key value)

abbrev pub set_lines : List (Sep ℕ) → List ℕ
set_lines [] = []
set_lines (e ∷ es) = set_line e.key e.val ++ set_lines es

-- "`refused`" as bytes
abbrev pub refused_word : List ℕ
refused_word = 114 ∷ 101 ∷ 102 ∷ 117 ∷ 115 ∷ 101 ∷ 100 ∷ []

abbrev pub refused_line : ℕ → ℕ → List ℕ
refused_line number applied = refused_word ++ (tab ∷ (decimal_of number ++ (tab ∷ (decimal_of applied ++ (lf ∷ [])))))

abbrev pub WritesIn : Bool → List ℕ → List ℕ → Option ℕ → List ℕ → Type 0
WritesIn true line dst r left = (r ≡ Some (length line)) × (left ≡ line ++ drop (length line) dst)
WritesIn false line dst r left = (r ≡ None) × (left ≡ dst)

unfoldable pub Writes : List ℕ → List ℕ → Option ℕ → List ℕ → Type 0
Writes line dst r left = WritesIn (leb (length line) (length dst)) line dst r left
