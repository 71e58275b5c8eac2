-- The audit's walk: the tree from the root down, then the free chain, then nothing left over. A proof device, over any way to
-- read a node and to keep marks: layer 2 keeps them as a list of slots, the code as words. Assumes nothing.
use Rattle.std.specs.Prelude.{List, [], ◌∷◌, Bool, true, false, cond, ◌&&◌, ℕ, zero, suc, ◌+◌, ◌^◌, length, get_or, set, take, leb, ltb, eqb}
use Rattle.std.proofs.Math.Option.{Option, none, some}
use Rattle.word.specs.Key.{Key, cmp, is_lt}
use Rattle.word.specs.At.{read_at}
use Rattle.tree.specs.Tree.{Node}
use Rattle.tree.specs.Free.{occurs}
use Rattle.tree.specs.State.{root_least}
use Rattle.node.specs.Chain.{Step}
use Rattle.slots.specs.Limits.{most_depth}
use Rattle.slots.specs.Layout.{start, slot_at, idle, root_of, depth_of, count_of, first_of}
use Rattle.slots.specs.Mirror.{is_slot, read_node}
use Rattle.slots.specs.Entries.{same_bytes, as_written}
use Rattle.audit.specs.Marks.{word_of, bit_of, mark_of, all_ones}

-- ---- marks

pub record Marking (M : Type 0) : Type 0 where
  pub is_free : M → ℕ → Bool
  pub mark : M → ℕ → M
  pub count : M → ℕ

-- the slots marked, the last one first
abbrev pub in_list : Marking (List ℕ)
in_list = record { is_free = λ us x. eqb (occurs x us) 0; mark = λ us x. x ∷ us; count = λ us. length us }

-- ws with a clear bit set, "by adding a power of two"
unfoldable pub marked : List ℕ → ℕ → List ℕ
marked ws x = set ws (word_of x) (get_or ws (word_of x) 0 + 2 ^ bit_of x)

-- the words have a bit for the slot, and it is clear
unfoldable pub is_clear : List ℕ → ℕ → Bool
is_clear ws x = ltb (word_of x) (length ws) && eqb (mark_of ws x) 0

-- the first n words are counted, those that the store's slots need
abbrev pub in_words : ℕ → Marking (List ℕ)
in_words n = record { is_free = is_clear; mark = marked; count = λ ws. all_ones (take n ws) }

-- ---- the tree

-- the marks, and the last key
pub record Seen (M : Type 0) : Type 0 where
  pub marks : M
  pub last : Option Key

abbrev pub is_above : Option Key → Key → Bool
is_above none k = true
is_above (some j) k = is_lt (cmp j k)

abbrev pub bind : {A B : Type 0} → Option A → (A → Option B) → Option B
bind none f = none
bind (some w) f = f w

-- "every reached node is in standard form", its slot as the writer leaves it
abbrev pub read_written : List ℕ → ℕ → Option (Node ℕ ℕ)
read_written s x = as_written (slot_at s x) (read_node s x)

module _ {M : Type 0} (k : Marking M) (reader : ℕ → Option (Node ℕ ℕ)) where
  abbrev pub visit_rest : (ℕ → Seen M → Option (Seen M)) → List Step → Seen M → Option (Seen M)
  visit_rest below [] w = some w
  visit_rest below (x ∷ r) w =
      cond (is_above w.last x.0.key) (bind (below x.1 (record { marks = w.marks; last = some x.0.key })) (λ u. visit_rest below r u)) none

  abbrev pub visit_node : (ℕ → Seen M → Option (Seen M)) → ℕ → Seen M → Option (Node ℕ ℕ) → Option (Seen M)
  visit_node below least w none = none
  visit_node below least w (some m) =
      cond (leb least (length m.rest) && k.is_free w.marks m.slot)
      (bind (below m.first (record { marks = k.mark w.marks m.slot; last = w.last })) (λ u. visit_rest below m.rest u)) none

  -- d levels of nodes from slot x down; below the last, "only zero children"
  abbrev pub visit : (d : ℕ) → ℕ → ℕ → Seen M → Option (Seen M)
  visit zero least x w = cond (eqb x 0) (some w) none
  visit (suc d) least x w = visit_node (visit d 4) least w (reader x)

-- ---- the free chain

abbrev pub linked : ℕ → Option (List ℕ) → Option (List ℕ)
linked x none = none
linked x (some fs) = some (x ∷ fs)

unfoldable pub next_free : List ℕ → ℕ → ℕ
next_free s x = read_at 4 s (start x + 4)

-- "A free slot: u32 0, u32 next free slot (0 last), zeros."
abbrev pub is_idle : List ℕ → ℕ → Bool
is_idle s x = is_slot s x && same_bytes (slot_at s x) (idle (next_free s x))

-- at most n steps from x on, each an unmarked free slot
abbrev pub chain : (ℕ → Bool) → ℕ → List ℕ → ℕ → Option (List ℕ)
chain is_free zero s x = cond (eqb x 0) (some []) none
chain is_free (suc n) s x = cond (eqb x 0) (some []) (cond (is_idle s x && is_free x) (linked x (chain is_free n s (next_free s x))) none)

-- ---- the whole

abbrev pub fills : ℕ → ℕ → Option (List ℕ) → Bool
fills n used none = false
fills n used (some fs) = eqb (used + length fs) n

module _ {M : Type 0} (k : Marking M) (reader : ℕ → Option (Node ℕ ℕ)) (s : List ℕ) where
  abbrev pub marks_of : Option (Seen M) → Option M
  marks_of none = none
  marks_of (some w) = some w.marks

  -- "with no root, depth is 0"; "With a root, depth is at most 7"
  abbrev pub walk_tree : M → Option M
  walk_tree start = cond (eqb (root_of s) 0)
      (cond (eqb (depth_of s) 0) (some start) none)
      (cond (leb (depth_of s) most_depth) (marks_of (visit k reader (suc (depth_of s)) (root_least (depth_of s)) (root_of s) (record { marks = start; last = none }))) none)

  -- "the free chain holds exactly the slots not reached, each free and each once, and ends"
  abbrev pub walk_free : M → Option M
  walk_free m = cond (fills (count_of s) (k.count m) (chain (k.is_free m) (count_of s) s (first_of s))) (some m) none

  -- the marks of a store that passes, from none on
  unfoldable pub walk : M → Option M
  walk start = bind (walk_tree start) walk_free
