-- What the functions of this crate answer and leave, with a node's contents as the code's structs, and 01's numbers for
-- formatting. Assumes nothing.
use Rattle.std.specs.Prelude.{◌≡◌, List, [], ◌∷◌, map, Bool, true, false, ◌&&◌, not, ℕ, zero, suc, ◌+◌, ◌*◌, length, take, leb, eqb, Some, None, Result}
use Rattle.std.specs.Prelude as std
use Rattle.std.proofs.Math.Option.{Option, none, some}
use Rattle.refusal.specs.Number.{answer_number}
use Rattle.word.specs.Pick.{pick}
use Rattle.word.specs.Num.{zeros}
use Rattle.word.specs.At.{read_at, write_at}
use Rattle.tree.specs.Tree.{Node}
use Rattle.node.specs.declared.Child.{Child}
use Rattle.node.specs.declared.Node as struct
use Rattle.node.specs.declared.Slot.{Slot}
use Rattle.codec.specs.declared.Places.{Places}
use Rattle.codec.specs.declared.Reading.{Reading}
use Rattle.node.specs.Chain as chain
use Rattle.node.specs.Chain.{Step, child_of, steps_of}
use Rattle.codec.specs.Codec.{scan, step_of}
use Rattle.codec.specs.Strict.{standard_of}
use Rattle.codec.specs.Layout.{places_of, reading_of, any_of, written_of, written_number}
use Rattle.slots.specs.declared.FormatError.{FormatError}
use Rattle.slots.specs.declared.FormatError.TheVariants.{NotStore}
use Rattle.slots.specs.Limits.{header_size, slot_size, most_slots}
use Rattle.slots.specs.Layout.{start}
use Rattle.slots.specs.Mirror.{is_slot, holds_node, node_bytes, read_node, write_node}
use Rattle.slots.specs.Format.{fresh}

-- "buffer isn't 24+2,560×count bytes, count outside 1..65,535"
unfoldable pub has_size : ℕ → ℕ → Bool
has_size len n = leb 1 n && (leb n most_slots && eqb len (header_size + slot_size * n))

-- the slot that a child names, 0 where it names none
unfoldable pub slot_of : List ℕ → ℕ → ℕ
slot_of s x = pick (is_slot s x) x 0

-- the slot of a number, none for 0
unfoldable pub some_slot : ℕ → std.Option Slot
some_slot n = pick (eqb n 0) None (Some (record { 0 = n }))

-- ---- reading

-- the bytes that a slot has for its node; none, which no reading accepts, where it can hold none
unfoldable pub raw_in : List ℕ → ℕ → List ℕ
raw_in s x = pick (holds_node s x) (node_bytes s x) []

-- the bytes of the node that a slot holds: those in standard form
unfoldable pub bytes_in : List ℕ → ℕ → List ℕ
bytes_in s x = standard_of (raw_in s x)

unfoldable pub places_in : List ℕ → ℕ → Places
places_in s x = places_of (bytes_in s x)

unfoldable pub reading_in : List ℕ → ℕ → Reading
reading_in s x = reading_of (bytes_in s x)

-- the chain that the bytes in a slot are read as
abbrev pub first_in : List ℕ → ℕ → ℕ
first_in s x = (scan (bytes_in s x)).first

abbrev pub rest_in : List ℕ → ℕ → List Step
rest_in s x = map (step_of (bytes_in s x)) (scan (bytes_in s x)).rest

abbrev pub node_in : List ℕ → ℕ → Node ℕ ℕ
node_in s x = record { slot = x; first = first_in s x; rest = rest_in s x }

-- "children that fit its depth (none at 0; separators plus one above)": a child that is there at 0, or is missing above
abbrev pub misfits : ℕ → Child → Bool
misfits zero c = not (eqb c.0 0)
misfits (suc d) c = eqb c.0 0

unfoldable pub children_fit : ℕ → List Child → Bool
children_fit d l = not (any_of (misfits d) l)

-- the same of a node of n separators, whose children are the first n + 1
unfoldable pub fits_depth : ℕ → ℕ → List Child → Bool
fits_depth d n l = children_fit d (take (n + 1) l)

-- refused, as no bytes are, unless the children fit too
unfoldable pub places_at : ℕ → List ℕ → ℕ → Places
places_at d s x = pick (fits_depth d (places_in s x).count (places_in s x).children) (places_in s x) (places_of [])

unfoldable pub reading_at : ℕ → List ℕ → ℕ → Reading
reading_at d s x = pick (fits_depth d (reading_in s x).node.count (reading_in s x).node.children) (reading_in s x) (reading_of [])

-- the same of chains
abbrev pub chain_fits : ℕ → ℕ → List Step → Bool
chain_fits d c r = children_fit d (child_of c ∷ map (λ (x : Step). child_of x.1) r)

abbrev pub when_fit : ℕ → Option (Node ℕ ℕ) → Option (Node ℕ ℕ)
when_fit d none = none
when_fit d (some m) = pick (chain_fits d m.first m.rest) (some m) none

unfoldable pub read_node_at : ℕ → List ℕ → ℕ → Option (Node ℕ ℕ)
read_node_at d s x = when_fit d (read_node s x)

-- ---- writing

-- how many bytes of a slot stand behind its node's length
abbrev pub node_room : ℕ
node_room = 2556

-- a node's chain, written where the writer takes the node for the bytes behind the length
unfoldable pub written_in : List ℕ → ℕ → struct.Node → List ℕ
written_in s x n =
    pick (eqb (written_number (written_of n (zeros node_room))) 0)
    (write_node s (record { slot = x; first = chain.first_of n; rest = steps_of n }))
    s

-- ---- the free chain

-- whether the chain from x on has n slots or more
unfoldable pub has_free : ℕ → List ℕ → ℕ → Bool
has_free zero s x = true
has_free (suc n) s x = pick (is_slot s x) (has_free n s (read_at 4 s (start x + 4))) false

-- k slots from i on, each made to name the next
unfoldable pub linked : List ℕ → ℕ → ℕ → List ℕ
linked s i zero = s
linked s i (suc k) = linked (write_at 4 s (start i + 4) (i + 1)) (i + 1) k

-- ---- formatting

-- "1 | buffer isn't 24+2,560×count bytes, count outside 1..65,535"
abbrev pub format_error_number : FormatError → ℕ
format_error_number NotStore = 1

-- "0 | done", or the refusal's
abbrev pub format_number : Result (Unit {0}) FormatError → ℕ
format_number = answer_number format_error_number

-- "Formatting takes a count, ignores the old bytes (refusal 1 for size or count only) and chains 1, 2, ... in order."; a
-- refusal leaves "all unchanged"
pub record Formats (s : List ℕ) (n : ℕ) (r : Result (Unit {0}) FormatError) (t : List ℕ) : Type 0 where
  pub number : format_number r ≡ pick (has_size (length s) n) 0 1
  pub bytes : t ≡ pick (has_size (length s) n) (fresh n) s
