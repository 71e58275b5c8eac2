-- What the audit's code answers and leaves, in the words of its walk. A proof device: the promise is in Contract. Assumes nothing.
use Rattle.std.specs.Prelude.{List, [], ◌∷◌, Bool, true, false, ◌&&◌, ℕ, zero, suc, ◌+◌, ◌-◌, length, get_or, take, leb, Ok, Err}
use Rattle.std.proofs.Math.Option.{Option, none, some}
use Rattle.std.specs.Prelude as rust
use Rattle.word.specs.Pick.{pick}
use Rattle.word.specs.Part.{part}
use Rattle.word.specs.Key.{Key}
use Rattle.word.specs.Num.{zeros}
use Rattle.word.specs.At.{fits_in, zero_at}
use Rattle.codec.specs.declared.Places.{Places}
use Rattle.node.specs.Chain.{Step, value_of, child_of}
use Rattle.slots.specs.Layout.{start, count_of, first_of, is_store}
use Rattle.slots.specs.Mirror.{length_at}
use Rattle.slots.specs.Code.{node_room}
use Rattle.audit.specs.declared.AuditError.TheVariants.{NotStore, FewMarks, Fails}
use Rattle.audit.specs.declared.Place.{Place}
use Rattle.audit.specs.declared.Broken.{Broken}
use Rattle.audit.specs.Marks.{words_for, all_ones}
use Rattle.audit.specs.Contract.{Verdict}
use Rattle.audit.specs.Walk.{in_words, Seen, is_above, is_clear, read_written, visit_rest, visit, chain, fills, walk_tree, walk}

-- ---- one node

-- the bytes behind the node in a slot are zeros
unfoldable pub has_zeros : List ℕ → ℕ → Bool
has_zeros s x = leb (length_at s x) node_room && zero_at s (start x + 4 + length_at s x) (node_room - length_at s x)

-- the node in slot x can be walked into: as the writer leaves it, with separators enough, and not reached before
unfoldable pub enters : List ℕ → ℕ → Bool → ℕ → ℕ → List ℕ → Bool
enters s x standard count least ws = standard && (leb least count && (has_zeros s x && is_clear ws x))

-- the key at a place is above the last one
unfoldable pub is_rising : List ℕ → Option Key → ℕ → ℕ → Bool
is_rising s last at len = fits_in (length s) at len && is_above last (part s at len)

-- ---- what a walk has seen, by the code's answer

abbrev pub key_of : List ℕ → rust.Option Place → Option Key
key_of s rust.None = none
key_of s (rust.Some p) = some (part s p.start p.len)

abbrev pub seen_of : List ℕ → rust.Result (rust.Option Place) Broken → List ℕ → Option (Seen (List ℕ))
seen_of s (Ok l) ws = some (record { marks = ws; last = key_of s l })
seen_of s (Err e) ws = none

-- the walk of the tree
unfoldable pub visit_in : List ℕ → ℕ → ℕ → ℕ → Seen (List ℕ) → Option (Seen (List ℕ))
visit_in s h least x w = visit (in_words (words_for (count_of s))) (read_written s) h least x w

-- the separators i, i + 1, .. of a node whose bytes begin at from, k of them, each with the child behind it
abbrev pub steps_at : List ℕ → ℕ → Places → ℕ → ℕ → List Step
steps_at s from p i zero = []
steps_at s from p i (suc k) =
    (record { key = part s (from + get_or p.starts i 0) (get_or p.lens i 0); val = (get_or p.values i (value_of 0)).0 }, (get_or p.children (i + 1) (child_of 0)).0)
    ∷ steps_at s from p (i + 1) k

-- the rest of the walk of that node, with d levels below it
unfoldable pub rest_from : List ℕ → ℕ → ℕ → Places → ℕ → ℕ → Seen (List ℕ) → Option (Seen (List ℕ))
rest_from s d from p i k w = visit_rest (in_words (words_for (count_of s))) (read_written s) (visit_in s d 4) (steps_at s from p i k) w

-- ---- the free chain

-- how many slots a chain has behind i others
abbrev pub length_from : ℕ → Option (List ℕ) → Option ℕ
length_from i none = none
length_from i (some fs) = some (i + length fs)

abbrev pub chain_of : rust.Option ℕ → Option ℕ
chain_of rust.None = none
chain_of (rust.Some n) = some n

unfoldable pub chain_in : List ℕ → List ℕ → ℕ → Option ℕ
chain_in s ws n = length_from 0 (chain (is_clear ws) n s (first_of s))

-- ---- the whole

-- the words that a walk which was right leaves
unfoldable pub left_of : Bool → List ℕ → Option (List ℕ)
left_of b ws = pick b (some ws) none

unfoldable pub walk_tree_in : List ℕ → List ℕ → Option (List ℕ)
walk_tree_in s ws = walk_tree (in_words (words_for (count_of s))) (read_written s) s ws

unfoldable pub fills_in : List ℕ → List ℕ → ℕ → Bool
fills_in s ws n = fills n (all_ones (take (words_for n) ws)) (chain (is_clear ws) n s (first_of s))

-- the answer, and the words afterwards
pub record Answer : Type 0 where
  pub audit : Verdict
  pub marks : List ℕ

-- of k lent words of which the store needs n, by the marks with which the walk passed
abbrev pub walked : ℕ → ℕ → Option (List ℕ) → Answer
walked n k none = record { audit = Err Fails; marks = zeros k }
walked n k (some ws) = record { audit = Ok (all_ones (take n ws)); marks = ws }

unfoldable pub answer : List ℕ → List ℕ → Answer
answer s ms =
    pick (is_store s)
    (pick (leb (words_for (count_of s)) (length ms)) (walked (words_for (count_of s)) (length ms) (walk (in_words (words_for (count_of s))) (read_written s) s (zeros (length ms)))) (record { audit = Err FewMarks; marks = ms }))
    (record { audit = Err NotStore; marks = ms })
