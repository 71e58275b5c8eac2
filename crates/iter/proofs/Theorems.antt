-- The main theorems of this crate, each beneath the sentence that it carries. Besides the definitions of specs/ a reader needs
-- the short ones of Walks: `answered`, lookup's answer for a value of the map; `place_of`, a cursor's place with its key;
-- `forwards_of` and `backwards_of`, the entries met by several steps; and the records of CursorLaws: `Left`, what a step leaves
-- in the cursor; `Seeks`, what a seek gives; `Alike`, the same answer. Assumes nothing.
use mathlib.Core.Path.{◌≡◌, sym, ap, ◌∙◌}
use mathlib.Core.List.{List, [], reverse}
use mathlib.Core.Bool.{true, false}
use mathlib.Core.Option.{some}
use Rattle.std.specs.Prelude.{None, Ok}
use Prim.Native.Nat.{ℕ, ◌≤◌, ◌<◌}
use lib.ListN.{length, take}
use Rattle.word.specs.Key.{Key}
use Rattle.tree.specs.Map.{Sep, get}
use Rattle.tree.specs.State.{store_entries}
use Rattle.tree.specs.Walk.{next_of, previous_of, ahead, behind, keep, forwards, backwards}
use Rattle.tree.proofs.Theorems.{steps_forward, steps_backward, walk_forward_lem, walk_backward_lem}
use Rattle.node.specs.Chain.{longest_key}
use Rattle.slots.specs.Limits.{most_depth}
use Rattle.slots.specs.Layout.{is_store, depth_of}
use Rattle.slots.specs.Stands.{Audited}
use Rattle.slots.specs.Entries.{entries_of}
use Rattle.slots.proofs.AuditedLaws.{audited_entries}
use Rattle.iter.specs.declared.Place.{Place}
use Rattle.iter.specs.declared.Place.TheVariants.{Start, End}
use Rattle.iter.specs.declared.Cursor.{Cursor}
use Rattle.iter.specs.declared.Sought.{Sought}
use Rattle.iter.specs.declared.Stepped.{Stepped}
use Rattle.iter.specs.Answer.{Answer}
use Rattle.iter.specs.Walk.{walked, lookup_of}
use Rattle.iter.specs.Cursor.{cursor_with, sought_number, sought_of, is_long, moved_to, forward_of, backward_of}
use Rattle.iter.proofs.Walks.{answered, placed, place_of, key_in, lookup_is, forward_is_next, backward_is_previous, forwards_of, backwards_of, forwards_are, backwards_are}
use Rattle.iter.proofs.CursorLaws.{Left, Seeks, Alike, seek_gives, seek_refuses, forward_left, backward_left, forward_ignores, backward_ignores, end_forward, start_backward}

-- ---- "On an audited store the walk's answer is the map's."

module _ (s : List ℕ) (h : Audited s) (es : List (Sep ℕ)) (e : entries_of s ≡ some es) where
  the_entries : store_entries h.store ≡ es
  the_entries = cc (audited_entries s h)

  -- lookup: the value of the key in the entries, or absent
  pub lookup_is_get : (k : Key) → length k ≤ longest_key → lookup_of s k ≡ answered (get k es)
  lookup_is_get k l = lookup_is s h k l ∙ ap (λ (m : List (Sep ℕ)). answered (get k m)) the_entries

  -- "Forward: Start gives the smallest key, Seeked the first not below, At the first above, End none." "An entry moves the cursor
  -- to At; none moves it to End"; the length of any place is at most 288
  pub step_forward_is_next : (c : Cursor) → is_long c.place ≡ false → forward_of s c ≡ moved_to c End (walked (next_of (place_of c) es))
  step_forward_is_next c l = forward_is_next s h c l ∙ ap (λ (m : List (Sep ℕ)). moved_to c End (walked (next_of (place_of c) m))) the_entries

  -- "Backward: End the largest, Seeked the last not above, At the last below, Start none."; "none moves it to .. Start"
  pub step_backward_is_previous : (c : Cursor) → is_long c.place ≡ false → backward_of s c ≡ moved_to c Start (walked (previous_of (place_of c) es))
  step_backward_is_previous c l = backward_is_previous s h c l ∙ ap (λ (m : List (Sep ℕ)). moved_to c Start (walked (previous_of (place_of c) m))) the_entries

  -- i steps from any place give the first i of the entries ahead of it, or behind it
  pub steps_forward_are_ahead : (i : ℕ) (c : Cursor) → is_long c.place ≡ false → forwards_of i s c ≡ take i (keep (ahead (place_of c)) es)
  steps_forward_are_ahead i c l = forwards_are s h i c l ∙ steps_forward h.count h.store h.good i (place_of c) ∙ ap (λ (m : List (Sep ℕ)). take i (keep (ahead (place_of c)) m)) the_entries

  pub steps_backward_are_behind : (i : ℕ) (c : Cursor) → is_long c.place ≡ false → backwards_of i s c ≡ take i (reverse (keep (behind (place_of c)) es))
  steps_backward_are_behind i c l =
      backwards_are s h i c l ∙ steps_backward h.count h.store h.good i (place_of c) ∙ ap (λ (m : List (Sep ℕ)). take i (reverse (keep (behind (place_of c)) m))) the_entries

  -- a walk from Start to none gives exactly the entries in order; however many steps are left, nothing more is met
  pub from_start_all : (c : Cursor) → c.place ≡ Start → (i : ℕ) → length es ≤ i → forwards_of i s c ≡ es
  from_start_all c p i l =
      forwards_are s h i c (rw p)
      ∙ ap (λ (q : Place). forwards i (placed c q) h.store) p
      ∙ walk_forward_lem h.count h.store h.good i (rw the_entries l) ∙ the_entries

  -- and one backward from End the same reversed
  pub from_end_all : (c : Cursor) → c.place ≡ End → (i : ℕ) → length es ≤ i → backwards_of i s c ≡ reverse es
  from_end_all c p i l =
      backwards_are s h i c (rw p)
      ∙ ap (λ (q : Place). backwards i (placed c q) h.store) p
      ∙ walk_backward_lem h.count h.store h.good i (rw the_entries l) ∙ ap reverse the_entries

-- ---- the cursor on any bytes

-- "Seeking gives Seeked with the key, reading no store; its only refusal is 4."; so its place is the tree's Seeked k
pub seek_is_seeked : (k : Key) → length k ≤ longest_key → Seeks k (sought_of k)
seek_is_seeked = seek_gives

pub seek_is_refused : (k : Key) → longest_key < length k → sought_number (sought_of k) ≡ 4
seek_is_refused = seek_refuses

-- "bytes past the key are .. zero after an accepted step or seek"; by a refusal "store, cursor unchanged"
pub forward_leaves : (s : List ℕ) (c : Cursor) → Left c (forward_of s c)
forward_leaves = forward_left

pub backward_leaves : (s : List ℕ) (c : Cursor) → Left c (backward_of s c)
backward_leaves = backward_left

-- "bytes past the key are ignored when offered"
pub forward_ignores_rest : (s : List ℕ) (c d : Cursor) (p : Place) → c.place ≡ p → d.place ≡ p → key_in c p ≡ key_in d p → Alike (forward_of s c) (forward_of s d)
forward_ignores_rest = forward_ignores

pub backward_ignores_rest : (s : List ℕ) (c d : Cursor) (p : Place) → c.place ≡ p → d.place ≡ p → key_in c p ≡ key_in d p → Alike (backward_of s c) (backward_of s d)
backward_ignores_rest = backward_ignores

-- "Forward End and backward Start answer none after refusals 1, 4 and a depth above 7, reading no node": whatever stands in the
-- slots
pub forward_from_end : (s : List ℕ) (c : Cursor) → is_store s ≡ true → depth_of s ≤ most_depth → c.place ≡ End → forward_of s c ≡ record { step = Ok None; cursor = cursor_with End [] }
forward_from_end = end_forward

pub backward_from_start : (s : List ℕ) (c : Cursor) → is_store s ≡ true → depth_of s ≤ most_depth → c.place ≡ Start → backward_of s c ≡ record { step = Ok None; cursor = cursor_with Start [] }
backward_from_start = start_backward

-- ---- two results that a contract allows are the same, refusals and the cursor's bytes included

once : {A : Type 0} {x y z : A} → x ≡ z → y ≡ z → x ≡ y
once p q = p ∙ sym q

pub lookup_once : (s : List ℕ) (k : Key) {r q : Answer} → r ≡ lookup_of s k → q ≡ lookup_of s k → r ≡ q
lookup_once s k p q = once p q

pub seek_once : (k : Key) {r q : Sought} → r ≡ sought_of k → q ≡ sought_of k → r ≡ q
seek_once k p q = once p q

pub forward_once : (s : List ℕ) (c : Cursor) {r q : Stepped} → r ≡ forward_of s c → q ≡ forward_of s c → r ≡ q
forward_once s c p q = once p q

pub backward_once : (s : List ℕ) (c : Cursor) {r q : Stepped} → r ≡ backward_of s c → q ≡ backward_of s c → r ≡ q
backward_once s c p q = once p q
