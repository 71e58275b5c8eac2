-- Lookup in a store, and the cursor: its place, a step forward and a step backward, and what they mean on entries. Assumes nothing.
use Rattle.std.specs.Prelude.{List, [], ◌∷◌, Bool, true, false, cond, not, ℕ, zero, suc}
use Rattle.std.proofs.Math.Option.{Option, none, some}
use Rattle.word.specs.Key.{Key, cmp, is_lt}
use Rattle.tree.specs.Map.{Sep}
use Rattle.tree.specs.Tree.{Kid, Zip, at, below, always, never}
use Rattle.tree.specs.Lookup.{look}
use Rattle.tree.specs.State.{Store, bare, rooted}

-- "no root means absent"
abbrev pub lookup : {A : Type 0} → Key → Store A → Option A
lookup k (bare fs) = none
lookup {A} k (rooted t) = look A k (suc t.depth) t.root

-- "The cursor is a place (Start, End, At length, Seeked length) beside a key"
pub data Place : Type 0 where
  Start : Place
  End : Place
  At : Key → Place
  Seeked : Key → Place

-- an entry or none, and where the cursor is then
pub record Step (A : Type 0) : Type 0 where
  pub entry : Option (Sep A)
  pub place : Place

-- ---- one step down the tree

module _ {A : Type 0} where
  abbrev pub not_above : Key → Sep A → Bool
  not_above k s = not (is_lt (cmp k s.key))

module _ {A C : Type 0} where
  -- "The separator there (forward) or just before (backward), where there is one, becomes the candidate"
  abbrev pub after : Option (Sep A) → List (Sep A × C) → Option (Sep A)
  after c [] = c
  after c (x ∷ r) = some x.0

  abbrev pub before : Option (Sep A) → List (C × Sep A) → Option (Sep A)
  before c [] = c
  before c (x ∷ l) = some x.1

module _ (A : Type 0) where
  -- "a step goes from the root to depth 0: in each node it takes the first index" of which p does not hold, the separator
  -- count if p holds of all; "the walk goes on in the child at that index. The last candidate is the answer." c is the
  -- candidate so far.
  abbrev pub walk_forward : (Sep A → Bool) → (d : ℕ) → Kid A d → Option (Sep A) → Option (Sep A)
  walk_forward p zero t c = c
  walk_forward p (suc d) n c = let z : Zip A (Kid A d) = at p n in walk_forward p d z.mid (after c z.rgt)

  abbrev pub walk_backward : (Sep A → Bool) → (d : ℕ) → Kid A d → Option (Sep A) → Option (Sep A)
  walk_backward p zero t c = c
  walk_backward p (suc d) n c = let z : Zip A (Kid A d) = at p n in walk_backward p d z.mid (before c z.lft)

-- ---- a step

module _ {A : Type 0} where
  -- "the first index whose key is above the place (forward At ..) or not below it (forward Seeked ..), 0 for forward Start";
  -- "Forward End .. none"; "no root means .. none"
  abbrev pub forward_entry : Place → Store A → Option (Sep A)
  forward_entry p (bare fs) = none
  forward_entry Start (rooted t) = walk_forward A never (suc t.depth) t.root none
  forward_entry (At k) (rooted t) = walk_forward A (not_above k) (suc t.depth) t.root none
  forward_entry (Seeked k) (rooted t) = walk_forward A (below k) (suc t.depth) t.root none
  forward_entry End (rooted t) = none

  -- "above the place (.. backward Seeked) or not below it (.. backward At), .. the separator count for backward End";
  -- "backward Start .. none"
  abbrev pub backward_entry : Place → Store A → Option (Sep A)
  backward_entry p (bare fs) = none
  backward_entry End (rooted t) = walk_backward A always (suc t.depth) t.root none
  backward_entry (Seeked k) (rooted t) = walk_backward A (not_above k) (suc t.depth) t.root none
  backward_entry (At k) (rooted t) = walk_backward A (below k) (suc t.depth) t.root none
  backward_entry Start (rooted t) = none

  -- "An entry moves the cursor to At; none moves it to End (forward) or Start (backward)."
  abbrev pub moved_to : Place → Option (Sep A) → Place
  moved_to p none = p
  moved_to p (some e) = At e.key

  abbrev pub forward : Place → Store A → Step A
  forward p s = let o : Option (Sep A) = forward_entry p s in record { entry = o; place = moved_to End o }

  abbrev pub backward : Place → Store A → Step A
  backward p s = let o : Option (Sep A) = backward_entry p s in record { entry = o; place = moved_to Start o }

-- ---- what a step means on entries

module _ {A : Type 0} where
  -- the first and the last of which p holds
  abbrev pub first_of : (Sep A → Bool) → List (Sep A) → Option (Sep A)
  first_of p [] = none
  first_of p (s ∷ l) = cond (p s) (some s) (first_of p l)

  abbrev pub last_or : (Sep A → Bool) → Option (Sep A) → List (Sep A) → Option (Sep A)
  last_or p c [] = c
  last_or p c (s ∷ l) = last_or p (cond (p s) (some s) c) l

  abbrev pub last_of : (Sep A → Bool) → List (Sep A) → Option (Sep A)
  last_of p l = last_or p none l

  abbrev pub not_below : Key → Sep A → Bool
  not_below k s = not (below k s)

  abbrev pub above : Key → Sep A → Bool
  above k s = is_lt (cmp k s.key)

  -- what is ahead of a place: "Forward: Start gives the smallest key, Seeked the first not below, At the first above, End none."
  abbrev pub ahead : Place → Sep A → Bool
  ahead Start s = true
  ahead (Seeked k) s = not_below k s
  ahead (At k) s = above k s
  ahead End s = false

  abbrev pub next_of : Place → List (Sep A) → Option (Sep A)
  next_of p es = first_of (ahead p) es

  -- what is behind it: "Backward: End the largest, Seeked the last not above, At the last below, Start none."
  abbrev pub behind : Place → Sep A → Bool
  behind End s = true
  behind (Seeked k) s = not_above k s
  behind (At k) s = below k s
  behind Start s = false

  abbrev pub previous_of : Place → List (Sep A) → Option (Sep A)
  previous_of p es = last_of (behind p) es

  -- the entries of which p holds
  abbrev pub keep : (Sep A → Bool) → List (Sep A) → List (Sep A)
  keep p [] = []
  keep p (s ∷ l) = cond (p s) (s ∷ keep p l) (keep p l)

  -- ---- several steps: the entries met until none, n steps at most

  abbrev pub then_more : Option (Sep A) → List (Sep A) → List (Sep A)
  then_more none es = []
  then_more (some e) es = e ∷ es

  abbrev pub forwards : ℕ → Place → Store A → List (Sep A)
  forwards zero p s = []
  forwards (suc n) p s = let st : Step A = forward p s in then_more st.entry (forwards n st.place s)

  abbrev pub backwards : ℕ → Place → Store A → List (Sep A)
  backwards zero p s = []
  backwards (suc n) p s = let st : Step A = backward p s in then_more st.entry (backwards n st.place s)
