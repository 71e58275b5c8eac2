-- What the functions of this crate read and leave, with a node's contents as a chain. The contracts of `is_slot`, `take_slot`,
-- `free_slot` and `set_root` cite it; reading and writing a node are said of the code's structs in Code, tied to this by laws.
-- Assumes nothing.
use Rattle.std.specs.Prelude.{List, Bool, cond, ◌&&◌, ℕ, ◌+◌, ◌*◌, ◌-◌, length, leb}
use Rattle.std.proofs.Math.Option.{Option, none, some}
use Rattle.word.specs.Part.{part, over}
use Rattle.word.specs.Num.{zeros}
use Rattle.word.specs.At.{read_at, write_at}
use Rattle.tree.specs.Tree.{Node}
use Rattle.codec.specs.Codec.{encode, Decoded, refused, accepted}
use Rattle.codec.specs.Strict.{strict_of}
use Rattle.slots.specs.Limits.{header_size, slot_size, least_node, most_node}
use Rattle.slots.specs.Layout.{start, count_of, first_of}

-- a slot of the store, whole
unfoldable pub is_slot : List ℕ → ℕ → Bool
is_slot s x = leb 1 x && (leb x (count_of s) && leb (header_size + slot_size * x) (length s))

-- the length that a slot says its node has, and the node's bytes
unfoldable pub length_at : List ℕ → ℕ → ℕ
length_at s x = read_at 4 s (start x)

unfoldable pub node_bytes : List ℕ → ℕ → List ℕ
node_bytes s x = part s (start x + 4) (length_at s x)

-- "a slot number 1 to count, a length of 8 to 2,480"
unfoldable pub holds_node : List ℕ → ℕ → Bool
holds_node s x = is_slot s x && (leb least_node (length_at s x) && leb (length_at s x) most_node)

abbrev pub read_of : ℕ → Decoded → Option (Node ℕ ℕ)
read_of x (refused m) = none
read_of x (accepted c r) = some (record { slot = x; first = c; rest = r })

-- the node in a slot, `none` where there is none or the strict reading refuses its bytes
unfoldable pub read_node : List ℕ → ℕ → Option (Node ℕ ℕ)
read_node s x = cond (holds_node s x) (read_of x (strict_of (node_bytes s x))) none

-- the node, its length, zeros
unfoldable pub write_node : List ℕ → Node ℕ ℕ → List ℕ
write_node s m =
    let b : List ℕ = encode m.first m.rest in
    let i : ℕ = start m.slot in
    cond (is_slot s m.slot) (over (write_at 4 (over s (i + 4) b) i (length b)) ((i + 4) + length b) (zeros (2556 - length b))) s

pub record Took : Type 0 where
  pub slot : ℕ
  pub store : List ℕ

-- "Taking a slot takes the first free one"; 0 where that is no slot
unfoldable pub take_slot : List ℕ → Took
take_slot s = cond (is_slot s (first_of s)) (record { slot = first_of s; store = write_at 4 s 16 (read_at 4 s (start (first_of s) + 4)) }) (record { slot = 0; store = s })

-- "a freed slot becomes the first"
unfoldable pub free_slot : List ℕ → ℕ → List ℕ
free_slot s x = cond (is_slot s x) (write_at 4 (write_at 4 (over s (start x) (zeros slot_size)) (start x + 4) (first_of s)) 16 x) s

unfoldable pub set_root : List ℕ → ℕ → ℕ → List ℕ
set_root s x d = write_at 4 (write_at 8 s 0 x) 8 d
