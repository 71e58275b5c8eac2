-- The main theorems of this crate, each beneath the sentence that it carries ("..", from 01 or from the demands). Besides the
-- definitions of specs/ a reader needs these short ones: Short, ActedIf and Stopped (RunLaws), HalvesIn and is_two (SetSlots),
-- seps, kids and SplitInto (Split), LeftCannot (Balance), root_freed (StateLaws), least_slots (Depth), lasts (BatchLaws), SameEnd
-- (Replay), all_hold (Table). `Good n t` are the audit's facts for a store of n slots with a root, `GoodStore n s` for one with
-- or without; g is any policy for freed slots. Assumes nothing.
use mathlib.Core.Path.{◌≡◌, refl, ap, ◌∙◌}
use mathlib.Core.List.{List, [], ◌∷◌, ◌++◌, map, reverse}
use mathlib.Core.Bool.{true}
use mathlib.Core.Option.{Option, none}
use lib.ListN.{length, take, drop, get_or, length-reverse}
use lib.Seq.{take_all}
use Prim.Native.Nat.{ℕ, suc, ◌+◌, ◌≤◌, ◌<◌}
use Rattle.word.specs.Key.{Key}
use Rattle.tree.specs.Map.{Sep, put, remove, get, Rising}
use Rattle.tree.specs.Tree.{Node, Kid, Tree, plug, join}
use Rattle.tree.specs.Free.{FreePolicy, stack, first_free}
use Rattle.tree.specs.Set.{Placed, split_over8, set}
use Rattle.tree.specs.Remove.{Removed, borrow_last, borrow_first, rebalance, rebalance_kid, settle, dereference}
use Rattle.tree.specs.State.{State, state_entries, set_state, dereference_state, slots_needed, Fits, Shaped, Good, Store, rooted, store_entries, GoodStore, formatted}
use Rattle.tree.specs.Batch.{Rec, apply_all, last_change, runs_of, NeverFall, merge}
use Rattle.tree.specs.Run.{done, no_room, Outcome, act, batch, batches, all_applied}
use Rattle.tree.specs.Walk.{lookup, Place, Start, End, forward, backward, moved_to, ahead, next_of, behind, previous_of, keep, forwards, backwards}
use Rattle.tree.proofs.Split.{seps, kids, SplitInto, split_at_4, split_below_4, split_above_4}
use Rattle.tree.proofs.SetSlots.{HalvesIn, is_two, set_halves}
use Rattle.tree.proofs.Balance.{LeftCannot, borrows_left, borrows_right, merges_right, merges_left}
use Rattle.tree.proofs.StateLaws.{set_state_entries, set_takes, new_root_last, dereference_state_entries, dereference_state_absent, root_freed, dereference_frees, formatted_good, rising_store}
use Rattle.tree.proofs.Depth.{least_slots, depth_limit, depth_7, depth_9}
use Rattle.tree.proofs.BatchLaws.{get_all, lasts, merge_never_falls}
use Rattle.tree.proofs.RunLaws.{ActedIf, acted, batched, Stopped, stopped_lem, batches_good, batches_entries}
use Rattle.tree.proofs.Replay.{through, batch_again, batch_merged, SameEnd, lasts_same}
use Rattle.tree.proofs.WalkLaws.{lookup_get, forward_next, backward_previous, forwards_ahead, backwards_behind}
use Rattle.tree.proofs.Table.{all_hold}
use Rattle.tree.proofs.Nights as Nights
use Rattle.tree.proofs.Histories as Histories

-- ---- entries

-- "Set, present: value replaced. Set, absent: into the leaf."
pub after_set : {A : Type 0} (n : ℕ) (e : Sep A) (t : State A) → Good n t → state_entries (set_state e t) ≡ put e (state_entries t)
after_set n e t h = set_state_entries e t h.rising

module _ {A : Type 0} (g : FreePolicy) (n : ℕ) where
  -- "Dereference, present: removed .. Absent: nothing."
  pub after_dereference : (k : Key) (t : State A) → Good n t → state_entries (dereference_state g k t) ≡ remove k (state_entries t)
  after_dereference k t h = dereference_state_entries g k t h.rising

  -- one run: with room the store stays good and the entries have its change; without, it is a set that needs more slots than are free
  pub after_run : (k : Key) (o : Option A) (t : State A) → Good n t → ActedIf g n k o t (act g k o t)
  after_run k o t h = acted g n k o t h

  -- "after a batch that reaches its end, the entries in key order are the old ones with each key's last change applied": as a
  -- list, and told key by key
  pub entries_after_batch : (rs : List (Rec A)) (s : Store A) (u : State A) → 1 ≤ n → GoodStore n s → batch g rs s ≡ record { state = u; answer = done }
      → state_entries u ≡ apply_all rs (store_entries s)
  entries_after_batch rs s u p h e = (through g n p rs s u h e).1

  pub after_batch : (rs : List (Rec A)) (s : Store A) (u : State A) → 1 ≤ n → GoodStore n s → batch g rs s ≡ record { state = u; answer = done }
      → Rising (state_entries u) × ((k : Key) → get k (state_entries u) ≡ last_change k rs (get k (store_entries s)))
  after_batch rs s u p h e =
      ((through g n p rs s u h e).0.rising, λ k. ap (get k) (entries_after_batch rs s u p h e) ∙ get_all k rs (store_entries s) (rising_store n s h))

  -- 9: "the changes before this run applied"; "every record of a finished run counts"
  pub after_no_room : (rs : List (Rec A)) (s : Store A) (u : State A) (m : ℕ) → 1 ≤ n → GoodStore n s → batch g rs s ≡ record { state = u; answer = no_room m }
      → state_entries u ≡ apply_all (take m rs) (store_entries s)
  after_no_room rs s u m p h e = rw e at (batched g n rs s p h).entries

  -- "If fewer are free at that point, freed ones counted, the answer is 9": the m records before it, as a batch of their own,
  -- reach their end and leave u, and the run that begins behind them is a set that needs more slots than u has free
  pub no_room_where : (rs : List (Rec A)) (s : Store A) (u : State A) (m : ℕ) → 1 ≤ n → GoodStore n s → batch g rs s ≡ record { state = u; answer = no_room m } → Stopped g rs s m u
  no_room_where rs s u m p h e = rw e at (stopped_lem g n rs s m p h (ap (λ (o : Outcome A). o.answer) e))

  -- ---- shape and slots

  -- "every node but the root holds 4 to 8 separators", "each slot is reached from the root once or free once": kept by a batch,
  -- whatever it answers, from a store with or without a root
  pub batch_keeps : (rs : List (Rec A)) (s : Store A) → 1 ≤ n → GoodStore n s → Good n (batch g rs s).state
  batch_keeps rs s p h = (batched g n rs s p h).good

  -- "In a store formatted and then changed only by our batches": these facts hold, "and the entries are those that demand 2
  -- gives for all records counted as applied, in order"
  pub made_good : (bs : List (List (Rec A))) → 1 ≤ n → GoodStore n (batches g bs (formatted n))
  made_good bs p = batches_good g n bs (formatted n) p (formatted_good A n)

  pub made_entries : (bs : List (List (Rec A))) → 1 ≤ n → store_entries (batches g bs (formatted n)) ≡ apply_all (all_applied g bs (formatted n)) []
  made_entries bs p = batches_entries g n bs (formatted n) p (formatted_good A n)

-- "depth is at most 7": a store too small for the least tree of depth lim + 1 holds none deeper than lim
pub depth_bound : {A : Type 0} (lim n : ℕ) (t : State A) → Good n t → n < least_slots (suc lim) → t.depth ≤ lim
depth_bound lim n t h g = depth_limit lim n t h g

-- "slot count u32 (1 to 65,535)"
pub depth_at_most_7 : {A : Type 0} (n : ℕ) (t : State A) → Good n t → n ≤ 65535 → t.depth ≤ 7
depth_at_most_7 n t h g = depth_7 n t h g

-- the same for a million slots
pub depth_at_most_9 : {A : Type 0} (n : ℕ) (t : State A) → Good n t → n ≤ 1000000 → t.depth ≤ 9
depth_at_most_9 n t h g = depth_9 n t h g

-- ---- slots of a set and of a dereference

-- "A split root's slot stays the left half; the right halves take slots from the leaf up": of any node of height d, the root or
-- not, that splits, the left half keeps the slot and the right half takes the free slot of index d (a leaf's height is 0)
pub halves_take : {A : Type 0} (e : Sep A) (d lo : ℕ) (node : Tree A d) (fs : List ℕ) → Fits (Shaped A d) lo node → HalvesIn node.slot (first_free (drop d fs)) (set A e (suc d) node fs).parts
halves_take e d lo node fs h = set_halves e d lo node fs h

module _ {A : Type 0} (n : ℕ) where
  -- "A set of an absent key needs as many slots as there are full nodes in an unbroken run from the leaf upward, one more if that
  -- run takes in the root": it takes so many, the first free ones
  pub set_takes_needed : (e : Sep A) (t : State A) → Good n t → (set_state e t).free ≡ drop (slots_needed e.key t) t.free
  set_takes_needed e t h = set_takes n e t h

  -- "the new root last"
  pub new_root_takes_last : (e : Sep A) (t : State A) → Good n t → is_two (set A e (suc t.depth) t.root t.free).parts ≡ true
      → (set_state e t).root.slot ≡ first_free (drop (suc t.depth) t.free)
  new_root_takes_last e t h f = new_root_last n e t h f

  -- "Absent: nothing."
  pub absent_nothing : (g : FreePolicy) (k : Key) (t : State A) → Good n t → get k (state_entries t) ≡ none → dereference_state g k t ≡ t
  absent_nothing g k t h e = dereference_state_absent g n k t h e

-- "merges from the leaf up": a node's own merge comes after its child's, and the latest stands first
pub merges_leaf_up : {A : Type 0} (d s : ℕ) (l : List (Kid A d × Sep A)) (c : Removed (Kid A d)) (r : List (Sep A × Kid A d)) → (settle A d s l c r).freed ≡ (rebalance_kid A d s l c.tree r).freed ++ c.freed
merges_leaf_up d s l c r = refl

-- "The right slot of the pair is freed. A root left with no separator and a child 0 is freed"; "a freed slot becomes the first":
-- the merges' slots from the leaf up, the old root last and so first in the chain
pub frees_in_order : {A : Type 0} (k : Key) (t : State A) → let o : Removed (Tree A t.depth) = dereference A k (suc t.depth) t.root in
    (dereference_state stack k t).free ≡ root_freed A t.depth o.tree o.tree.rest ++ (o.freed ++ t.free)
frees_in_order {A} k t = dereference_frees A k t

-- ---- "A node holding 8 splits". The full node holds child c at index `length l`; of c a set makes a and b around x. S are the
-- node's old separators, K its old children; SplitInto has what stands left, what goes up, what stands right, then the children.

module _ {A C : Type 0} (s : ℕ) (l : List (C × Sep A)) (c a b : C) (x : Sep A) (r : List (Sep A × C)) (fs : List ℕ) (full : length l + length r ≡ 8) where
  abbrev S : List (Sep A)
  S = seps (plug s l c r)

  abbrev K : List C
  K = kids (plug s l c r)

  abbrev new : Placed A (Node A C)
  new = split_over8 (plug s l a ((x, b) ∷ r)) fs

  -- "inserting at index 4 promotes the new separator"
  pub at_index_4 : length l ≡ 4 → SplitInto s fs (take 4 S) x (drop 4 S) (take 4 K ++ a ∷ []) (b ∷ drop 5 K) new
  at_index_4 h = split_at_4 s l c a b x r fs full h

  -- "below 4 promotes old index 3"
  pub below_index_4 : (i k : ℕ) → length l ≡ i → i + k ≡ 3
      → SplitInto s fs (take i S ++ x ∷ take k (drop i S)) (get_or S 3 x) (drop 4 S) (take i K ++ a ∷ b ∷ take k (drop (suc i) K)) (drop 4 K) new
  below_index_4 i k h e = split_below_4 s l c a b x r fs full i k h e

  -- "above 4 old index 4"; the slip "right half without the inserted child when insertion is at index 8" is shut out: b is in it
  pub above_index_4 : (i : ℕ) → length l ≡ i → 4 < i
      → SplitInto s fs (take 4 S) (get_or S 4 x) (drop 5 (take i S) ++ x ∷ drop i S) (take 5 K) (drop 5 (take i K) ++ a ∷ b ∷ drop (suc i) K) new
  above_index_4 i h e = split_above_4 s l c a b x r fs full i h e

-- ---- "Below 4 in a child"

module _ {A C : Type 0} (s : ℕ) (c : Node A C) (low : length c.rest < 4) where
  -- "if the left sibling holds 5 or more, borrow its last"
  pub left_lends : (l : List (Node A C × Sep A)) (a : Node A C) (x : Sep A) (r : List (Sep A × Node A C)) → 5 ≤ length a.rest
      → rebalance s ((a, x) ∷ l) c r ≡ record { tree = borrow_last s l a x a.rest c r; freed = [] }
  left_lends l a x r h = borrows_left s c low l a x r h

  -- "else if the right does, borrow its first"
  pub right_lends : (l : List (Node A C × Sep A)) (x : Sep A) (b : Node A C) (r : List (Sep A × Node A C)) → LeftCannot l → 5 ≤ length b.rest
      → rebalance s l c ((x, b) ∷ r) ≡ record { tree = borrow_first s l c x b b.rest r; freed = [] }
  right_lends l x b r g h = borrows_right s c low l x b r g h

  -- "else merge with the right sibling .. The right slot of the pair is freed."
  pub right_merges : (l : List (Node A C × Sep A)) (x : Sep A) (b : Node A C) (r : List (Sep A × Node A C)) → LeftCannot l → length b.rest < 5
      → rebalance s l c ((x, b) ∷ r) ≡ record { tree = plug s l (join c x b) r; freed = b.slot ∷ [] }
  right_merges l x b r g h = merges_right s c low l x b r g h

  -- "or with the left if there is no right"
  pub left_merges : (l : List (Node A C × Sep A)) (a : Node A C) (x : Sep A) → length a.rest < 5
      → rebalance s ((a, x) ∷ l) c [] ≡ record { tree = plug s l (join a x c) []; freed = c.slot ∷ [] }
  left_merges l a x h = merges_left s c low l a x h

-- ---- replay

module _ {A : Type 0} (g : FreePolicy) (n : ℕ) (p : 1 ≤ n) where
  -- "A batch run to its end and run again at once gives the same answer and changes no byte": here, no node and no slot
  pub run_again : (rs : List (Rec A)) (s : Store A) (u : State A) → GoodStore n s → NeverFall rs → batch g rs s ≡ record { state = u; answer = done }
      → batch g rs (rooted u) ≡ record { state = u; answer = done }
  run_again rs s u h r e = batch_again g n p rs s u h r e

  -- "Batch A and then batch B give the entries that one merged batch gives from the same store, B winning where both name a key,
  -- provided all three runs reach their end." The merged batch's keys never fall either.
  pub a_then_b : (xs bs : List (Rec A)) (s : Store A) (u w m : State A) → GoodStore n s → NeverFall xs
      → batch g xs s ≡ record { state = u; answer = done } → batch g bs (rooted u) ≡ record { state = w; answer = done } → batch g (merge xs bs) s ≡ record { state = m; answer = done }
      → state_entries m ≡ state_entries w
  a_then_b xs bs s u w m h r a b c = batch_merged g n p xs bs s u w m h r a b c

pub merged_is_a_batch : {A : Type 0} (xs bs : List (Rec A)) → NeverFall xs → NeverFall bs → NeverFall (merge xs bs)
merged_is_a_batch xs bs h g = merge_never_falls xs bs h g

-- "a run of equal keys acts as its last record": those records alone leave the same store and answer the same number
pub run_is_its_last : {A : Type 0} (g : FreePolicy) (rs : List (Rec A)) (s : Store A) → SameEnd g (batch g (lasts (runs_of rs)) s) (batch g rs s)
run_is_its_last g rs s = lasts_same g rs s

-- ---- lookup and cursor: "On an audited store the walk's answer is the map's."

module _ {A : Type 0} (n : ℕ) (s : Store A) (h : GoodStore n s) where
  pub lookup_is_get : (k : Key) → lookup k s ≡ get k (store_entries s)
  lookup_is_get k = lookup_get k s (rising_store n s h)

  -- "Forward: Start gives the smallest key, Seeked the first not below, At the first above, End none. .. An entry moves the
  -- cursor to At; none moves it to End"
  pub step_forward : (p : Place) → forward p s ≡ record { entry = next_of p (store_entries s); place = moved_to End (next_of p (store_entries s)) }
  step_forward p = rw (forward_next p s (rising_store n s h))

  -- "Backward: End the largest, Seeked the last not above, At the last below, Start none. .. none moves it to .. Start"
  pub step_backward : (p : Place) → backward p s ≡ record { entry = previous_of p (store_entries s); place = moved_to Start (previous_of p (store_entries s)) }
  step_backward p = rw (backward_previous p s (rising_store n s h))

  -- i steps from a place give the first i of the entries ahead of it, or behind it
  pub steps_forward : (i : ℕ) (p : Place) → forwards i p s ≡ take i (keep (ahead p) (store_entries s))
  steps_forward i p = forwards_ahead s (rising_store n s h) i p

  pub steps_backward : (i : ℕ) (p : Place) → backwards i p s ≡ take i (reverse (keep (behind p) (store_entries s)))
  steps_backward i p = backwards_behind s (rising_store n s h) i p

  keep_all : (es : List (Sep A)) → keep (ahead Start) es ≡ es
  keep_all [] = refl
  keep_all (e ∷ es) = rw (keep_all es)

  -- from Start to none, and from End to none
  pub walk_forward_lem : (i : ℕ) → length (store_entries s) ≤ i → forwards i Start s ≡ store_entries s
  walk_forward_lem i le = steps_forward i Start ∙ rw (keep_all (store_entries s)) (take_all i (store_entries s) le)

  pub walk_backward_lem : (i : ℕ) → length (store_entries s) ≤ i → backwards i End s ≡ reverse (store_entries s)
  walk_backward_lem i le = steps_backward i End ∙ rw (keep_all (store_entries s)) (take_all i (reverse (store_entries s)) (simp length-reverse le))

-- ---- computed: 01's known nights, and the original's histories

pub nights_hold : all_hold Nights.nights ≡ true
nights_hold = Nights.known_nights

pub histories_hold : all_hold (map Histories.as_case Histories.histories) ≡ true
histories_hold = Histories.as_the_original
