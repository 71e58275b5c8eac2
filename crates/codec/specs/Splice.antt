-- Node bytes with one more separator and the child right of it, the bytes behind them moved up. Assumes nothing.
use Rattle.std.specs.Prelude.{List, ◌++◌, ℕ, zero, suc, ◌+◌, length, take, drop, get_or, ltb, eqb, Option, Some, None}
use Rattle.word.specs.Pick.{pick}
use Rattle.word.specs.Part.{over}
use Rattle.word.specs.Num.{le}
use Rattle.word.specs.At.{fits_in}
use Rattle.tree.specs.Map.{Sep}
use Rattle.codec.specs.declared.Places.{Places}
use Rattle.node.specs.Chain.{longest_key}
use Rattle.codec.specs.Codec.{sep_length, encode_sep}

-- the separator e and the child b between the first p bytes and the others
unfoldable pub spliced : List ℕ → ℕ → Sep ℕ → ℕ → List ℕ
spliced s p e b = take p s ++ (encode_sep e ++ (le 8 b ++ drop p s))

-- where in its bytes separator i of a node begins: behind the first child, or behind the key before it and the child there
abbrev pub splice_at : Places → ℕ → ℕ
splice_at p zero = 8
splice_at p (suc i) = get_or p.starts i 0 + get_or p.lens i 0 + 8

-- how many bytes come in
abbrev pub splice_width : Sep ℕ → ℕ
splice_width e = sep_length (length e.key) + 8

-- the new length, and the destination; length 0, and nothing done, where the key is too long, the destination too short
-- or the place not within the bytes
pub record Spliced : Type 0 where
  pub len : ℕ
  pub bytes : List ℕ

-- the new length where it is done
abbrev pub new_length : Spliced → Option ℕ
new_length g = pick (eqb g.len 0) None (Some g.len)

unfoldable pub splice_in : List ℕ → ℕ → ℕ → Sep ℕ → ℕ → Spliced
splice_in d n p e b =
    pick (ltb longest_key (length e.key)) (record { len = 0; bytes = d })
    (pick (fits_in (length d) n (splice_width e))
    (pick (ltb n p) (record { len = 0; bytes = d })
    (record { len = n + splice_width e; bytes = over d 0 (spliced (take n d) p e b) }))
    (record { len = 0; bytes = d }))
