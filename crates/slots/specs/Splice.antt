-- What is left of a store when a separator and the child right of it are put in among the bytes of the node in a slot and
-- when a value is replaced among them. Assumes nothing.
use Rattle.std.specs.Prelude.{List, ℕ, ◌+◌, ◌-◌, ltb, eqb}
use Rattle.word.specs.Pick.{pick}
use Rattle.word.specs.Part.{part, over}
use Rattle.word.specs.At.{fits_in, write_at, clear_at}
use Rattle.tree.specs.Map.{Sep}
use Rattle.codec.specs.Splice.{Spliced, splice_in}
use Rattle.slots.specs.Layout.{start}
use Rattle.slots.specs.Mirror.{is_slot, length_at}
use Rattle.slots.specs.Code.{node_room}

-- the bytes behind the length of the slot that begins at i, and, where there is a new length, that and zeros behind the node
abbrev pub laid : List ℕ → ℕ → Spliced → List ℕ
laid s i g =
    pick (eqb g.len 0)
    (over s (i + 4) g.bytes)
    (clear_at (write_at 4 (over s (i + 4) g.bytes) i g.len) (i + 4 + g.len) (node_room - g.len))

-- the separator e and the child b at place p of the bytes of the node in slot x
unfoldable pub inserted_bytes : List ℕ → ℕ → ℕ → Sep ℕ → ℕ → List ℕ
inserted_bytes s x p e b = pick (is_slot s x) (laid s (start x) (splice_in (part s (start x + 4) node_room) (length_at s x) p e b)) s

-- the value v at place p of the bytes of the node in slot x, and zeros behind them; nothing where they don't have the place
unfoldable pub revalued_bytes : List ℕ → ℕ → ℕ → ℕ → List ℕ
revalued_bytes s x p v =
    pick (is_slot s x)
    (pick (ltb node_room (length_at s x)) s
    (pick (fits_in (length_at s x) p 8)
    (clear_at (write_at 8 s (start x + 4 + p) v) (start x + 4 + length_at s x) (node_room - length_at s x))
    s))
    s
