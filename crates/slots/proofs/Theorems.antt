-- The main theorems of this crate, each beneath the sentence that it carries. Besides the definitions of specs/ (`reached s`: the
-- slots reached from the root, told on the bytes alone) a reader needs the short ones of Reached: `Every P s`, P of the depth and
-- the slot of every node reached; `UsedSlot`, `FreeSlot`, `NodeAt` and its parts; `Within` and `Each` (Framing), `Passes`
-- (Paragraph) and `first_root` (FormatLaws). Assumes nothing.
use mathlib.Core.Path.{◌≡◌}
use mathlib.Core.Logic.{◌⊎◌}
use mathlib.Core.List.{List, []}
use mathlib.Core.Bool.{true}
use mathlib.Core.Option.{some}
use Prim.Native.Nat.{ℕ, ◌+◌, ◌*◌, ◌^◌, ◌≤◌, ◌<◌}
use lib.ListN.{length}
use native.Mathlib.Omega.{arith}
use Rattle.word.specs.Num.{Bytes}
use Rattle.tree.specs.Map.{Sep, Rising}
use Rattle.tree.specs.Tree.{Kid, slots}
use Rattle.tree.specs.Free.{occurs, in_store, first_free}
use Rattle.tree.specs.State.{Store, rooted, store_entries, GoodStore, formatted, with_root}
use Rattle.tree.proofs.Slots.{in_store_lem, in_store_le}
use Rattle.tree.proofs.StateLaws.{formatted_good}
use Rattle.slots.specs.Limits.{header_size, slot_size, most_slots, most_depth}
use Rattle.slots.specs.Layout.{root_of, depth_of, count_of, first_of, is_store}
use Rattle.slots.specs.Stands.{label, Holds, Links, Based, Stands, Audited}
use Rattle.slots.specs.Entries.{build, entries_of}
use Rattle.slots.specs.Format.{fresh}
use Rattle.slots.specs.Reached.{reached}
use Rattle.slots.proofs.Framing.{Within, Each}
use Rattle.slots.proofs.Building.{IfSome, HeldAt, build_holds, holds_build, entries_are}
use Rattle.slots.proofs.Unique.{one_state, one_store}
use Rattle.slots.proofs.FormatLaws.{length_fresh, fresh_stands, fresh_audited, first_root, first_root_stands_lem}
use Rattle.slots.proofs.AuditedLaws.{store_free, audited_count, audited_first, root_in_lem, first_in_lem, audited_store, audited_shallow, audited_entries, audited_rising, audited_one, audited_bytes, first_root_audited_lem, first_root_entries_lem}
use Rattle.slots.proofs.Reached.{Every, every_map, UsedSlot, FreeSlot, NodeAt, StandardNode, ChildrenFit, SeparatorsFit, audited_every, audited_once, audited_used, audited_links, audited_free, audited_layout, bare_depth, bare_all, node_standard}
use Rattle.slots.proofs.Paragraph.{Passes, audited_passes, passes_audited}

-- ---- 01's audit paragraph: what an audited store has

module _ (s : List ℕ) (h : Audited s) where
  -- "slot count u32 (1 to 65,535)", "24 header bytes .. Then slots 1 to count, 2,560 bytes each", "four zero bytes": no refusal 1
  pub no_refusal_1 : is_store s ≡ true
  no_refusal_1 = audited_store s h

  -- "every slot has its layout above, zeros included"
  pub every_slot_has_its_layout : (x : ℕ) → 1 ≤ x → x ≤ count_of s → UsedSlot s x ⊎ FreeSlot s x
  every_slot_has_its_layout x lo hi = audited_layout s h x lo hi

  -- "with no root, depth is 0 and all slots are free"
  pub no_root_all_free : root_of s ≡ 0 → (depth_of s ≡ 0) × ((x : ℕ) → 1 ≤ x → x ≤ count_of s → FreeSlot s x)
  no_root_all_free e = (bare_depth s h e, λ x lo hi. audited_free s h x (bare_all s h e x lo hi))

  -- "With a root, depth is at most 7"
  pub depth_at_most : depth_of s ≤ most_depth
  depth_at_most = audited_shallow s h

  -- "every reached node is in standard form"
  pub nodes_standard : Every (StandardNode s) s
  nodes_standard = every_map (NodeAt s) (StandardNode s) (node_standard s) s (audited_every s h)

  -- and fills its slot so, length before and zeros behind it
  pub nodes_fill_their_slots : Each (UsedSlot s) (reached s)
  nodes_fill_their_slots = audited_used s h

  -- "keys strictly increase over the whole tree read in order"
  pub keys_increase : (es : List (Sep ℕ)) × (entries_of s ≡ some es) × Rising es
  keys_increase = (store_entries h.store, audited_entries s h, audited_rising s h)

  -- "a node at depth 0 has only zero children, one above it has one more child than separators": its chain is a first child and
  -- then a child behind each separator, each of them a slot
  pub children_fit_lem : Every (ChildrenFit s) s
  children_fit_lem = every_map (NodeAt s) (ChildrenFit s) (λ d x n. (n.node, n.is_read, n.first, n.rest)) s (audited_every s h)

  -- "every node but the root has 4 to 8 separators, the root 0 to 8 and at least 1 where depth is above 0"
  pub separators_fit : Every (SeparatorsFit s) s
  separators_fit = every_map (NodeAt s) (SeparatorsFit s) (λ d x n. (n.node, n.is_read, n.inner, n.least, n.most)) s (audited_every s h)

  -- "no slot is reached twice"
  pub reached_once : (x : ℕ) → occurs x (reached s) ≤ 1
  reached_once x = omega (arith, audited_once s h x, in_store_le (count_of s) x)

  -- "Root or not, no number names a slot beyond the count": the root, a slot reached from it, the first free slot, and the next
  -- of a free slot (`FreeSlot.within`); at depth 0 children are 0 (`children_fit_lem`)
  pub root_within : root_of s ≤ count_of s
  root_within = root_in_lem s h

  pub reached_within : Each (λ (x : ℕ). (1 ≤ x) × (x ≤ count_of s)) (reached s)
  reached_within x q = in_store_lem (count_of s) x (omega (arith, audited_once s h x))

  pub first_free_within : first_of s ≤ count_of s
  first_free_within = first_in_lem s h

  -- "and the free chain holds exactly the slots not reached, each free and each once, and ends": `Links` has the next of each, 0
  -- for the last
  pub free_chain : (fs : List ℕ) × (first_of s ≡ first_free fs) × Links s fs × Each (FreeSlot s) fs × ((x : ℕ) → occurs x (reached s) + occurs x fs ≡ in_store (count_of s) x)
  free_chain = (store_free h.store, audited_first s h, audited_links s h, audited_free s h, audited_once s h)

-- "Audit passes exactly if": the paragraph as one record over the bytes alone says no less than `Audited`, and no more
pub passes_exactly : (s : List ℕ) → Bytes s → (Audited s → Passes s) × (Passes s → Audited s)
passes_exactly s b = (audited_passes s, passes_audited s b)

-- ---- bytes and states

module _ (n : ℕ) (s : List ℕ) where
  -- a tree that the bytes of a store hold is what is read from its root down
  pub held_is_built : (root depth : ℕ) (fs : List ℕ) → n < 2 ^ 32 → Based n root depth s fs
      → (d : ℕ) (t : Kid ℕ d) → Holds s d t → Within n (slots ℕ d t) → build d s (label d t) ≡ some t
  held_is_built root depth fs small b d t h a = holds_build n root depth small s fs b d t h a

  -- and what is read the bytes hold
  pub built_is_held : Bytes s → (d x : ℕ) → IfSome (HeldAt s d x) (build d s x)
  built_is_held bs d x = build_holds s bs d x

  -- the entries of a store are those of any good state that it stands for
  pub entries_of_state : (st : Store ℕ) → n < 2 ^ 32 → Stands n s st → GoodStore n st → entries_of s ≡ some (store_entries st)
  entries_of_state st small h g = entries_are n s st small h g

  -- a store stands for one good state at most
  pub state_unique : (a b : Store ℕ) → n < 2 ^ 32 → Stands n s a → Stands n s b → GoodStore n a → GoodStore n b → a ≡ b
  state_unique a b small h k p q = one_state n small s a b h k p q

  -- and the state tells its bytes
  pub bytes_unique : (t : List ℕ) (st : Store ℕ) → GoodStore n st → Stands n s st → Stands n t st → s ≡ t
  bytes_unique t st g h k = one_store n s t st g h k

-- for audited stores: the count and the state are the only ones, and they tell the bytes
module _ (s : List ℕ) (h : Audited s) where
  pub count_of_audited : count_of s ≡ h.count
  count_of_audited = audited_count s h

  pub entries_of_audited : entries_of s ≡ some (store_entries h.store)
  entries_of_audited = audited_entries s h

  pub audited_once_only : (k : Audited s) → (h.count ≡ k.count) × (h.store ≡ k.store)
  audited_once_only k = audited_one s h k

  pub audited_tells_bytes : (t : List ℕ) (k : Audited t) → h.count ≡ k.count → h.store ≡ k.store → s ≡ t
  audited_tells_bytes t k e f = audited_bytes s t h k e f

-- ---- formatting

-- "Formatting takes a count .. and chains 1, 2, ... in order."
pub formatted_length : (n : ℕ) → length (fresh n) ≡ header_size + slot_size * n
formatted_length n = length_fresh n

pub formatted_stands : (n : ℕ) → 1 ≤ n → Stands n (fresh n) (formatted n)
formatted_stands n lo = fresh_stands n lo

pub formatted_audited : (n : ℕ) → 1 ≤ n → n ≤ most_slots → Audited (fresh n)
formatted_audited n lo hi = fresh_audited n lo hi

pub formatted_empty : (n : ℕ) → 1 ≤ n → n ≤ most_slots → entries_of (fresh n) ≡ some []
formatted_empty n lo hi = entries_are n (fresh n) (formatted n) (omega arith) (fresh_stands n lo) (formatted_good ℕ n)

-- "With no root, an accepted batch, even an empty one, first writes an empty root."
pub first_root_stands : (n : ℕ) (s : List ℕ) (st : Store ℕ) → n < 2 ^ 32 → 1 ≤ n → Stands n s st → GoodStore n st → Stands n (first_root s) (rooted (with_root st))
first_root_stands n s st small lo h g = first_root_stands_lem n small s st lo h g

pub first_root_audited : (s : List ℕ) → Audited s → Audited (first_root s)
first_root_audited s h = first_root_audited_lem s h

-- the empty root changes no entry
pub first_root_entries : (s : List ℕ) → Audited s → entries_of (first_root s) ≡ entries_of s
first_root_entries s h = first_root_entries_lem s h
