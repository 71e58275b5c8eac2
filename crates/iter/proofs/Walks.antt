-- On an audited store the walks over bytes are the tree's walks: lookup is the map's, each step is the map's, and steps one
-- after another give the entries ahead of the cursor, or behind it. Assumes nothing.
use mathlib.Core.Path.{◌≡◌, refl, ap, ◌∙◌}
use mathlib.Core.List.{List, [], ◌∷◌, ◌++◌}
use mathlib.Core.Bool.{Bool, false, cond}
use mathlib.Core.Option.{Option, none, some}
use Rattle.std.specs.Prelude.{Some, None, Ok, Err}
use Prim.Native.Nat.{ℕ, zero, suc, ◌-◌, ◌^◌, ◌≤◌, ◌<◌}
use lib.ListN.{length, take, replicate}
use lib.Seq.{take_at}
use lib.Dec.{ltb, eqb}
use native.Mathlib.Omega.{arith}
use borrow.Author.Tests.{le-ltb, eq-eqb, ne_eqb}
use Rattle.word.specs.Pick.{pick, pick_t, pick_f}
use Rattle.word.specs.Key.{Key}
use Rattle.tree.specs.Map.{Sep, get}
use Rattle.tree.specs.Tree.{Node, Kid, Tree, Zip, read_rest, read, only, none_of, entries, slots, seek, at, below, always, never, same}
use Rattle.tree.specs.Lookup.{look_here, look}
use Rattle.tree.specs.Free.{occurs}
use Rattle.tree.specs.State.{State, AllRight, Good, Store, bare, rooted, store_entries, GoodStore}
use Rattle.tree.specs.Walk.{lookup, not_above, after, before, first_of, last_or, next_of, previous_of, then_more, forward_entry, backward_entry, forwards, backwards}
use Rattle.tree.specs.Walk as tree
use Rattle.tree.proofs.Cases.{by_bool, by_cond}
use Rattle.tree.proofs.Zipper.{seek_all, seek_read}
use Rattle.tree.proofs.Slots.{occurs_append}
use Rattle.tree.proofs.WalkLaws.{lookup_get, forward_next, backward_previous}
use Rattle.node.specs.Chain.{FitAll, longest_key, child_of, value_of, padded}
use Rattle.slots.specs.Limits.{most_depth}
use Rattle.slots.specs.Layout.{root_of, depth_of}
use Rattle.slots.specs.Stands.{label, map_right, map_node, Holds, Based, StandsTree, Stands, Audited}
use Rattle.slots.specs.Code.{misfits, when_fit, read_node_at}
use Rattle.slots.proofs.Framing.{Within, first_within, read_tree}
use Rattle.slots.proofs.StoreLaws.{based_root}
use Rattle.slots.proofs.Building.{root_read}
use Rattle.slots.proofs.CodeLaws.{RestFits, chain_fits_lem}
use Rattle.slots.proofs.AuditedLaws.{audited_store, audited_shallow, audited_rising}
use Rattle.iter.specs.declared.Place.{Place}
use Rattle.iter.specs.declared.Place.TheVariants.{Start, End, At, Seeked}
use Rattle.iter.specs.declared.Cursor.{Cursor}
use Rattle.iter.specs.declared.Stepped.{Stepped}
use Rattle.iter.specs.Answer.{Answer}
use Rattle.iter.specs.Walk.{found_here, look_from, lookup_of, Walked, walked, forward_from, backward_from}
use Rattle.iter.specs.Cursor.{cursor_with, is_long, key_of, moved_to, stepped_of, walk_forward, walk_backward, forward_of, backward_of}

-- ---- a map over a node's children commutes with the walk along it

module _ {A C D : Type 0} (f : C → D) where
  abbrev map_left : List (C × Sep A) → List (D × Sep A)
  map_left [] = []
  map_left (x ∷ l) = (f x.0, x.1) ∷ map_left l

  abbrev map_zip : Zip A C → Zip A D
  map_zip z = record { lft = map_left z.lft; mid = f z.mid; rgt = map_right f z.rgt }

  seek_map : (p : Sep A → Bool) (l : List (C × Sep A)) (c : C) (r : List (Sep A × C)) → seek p (map_left l) (f c) (map_right f r) ≡ map_zip (seek p l c r)
  seek_map p l c [] = refl
  seek_map p l c (x ∷ r) = by_bool (p x.0) (λ e. rw e (seek_map p ((c, x.0) ∷ l) x.1 r)) (λ e. rw e)

  at_map : (p : Sep A → Bool) (m : Node A C) → at p (map_node f m) ≡ map_zip (at p m)
  at_map p m = seek_map p [] m.first m.rest

  after_map : (c : Option (Sep A)) (r : List (Sep A × C)) → after c (map_right f r) ≡ after c r
  after_map c [] = refl
  after_map c (x ∷ r) = refl

  before_map : (c : Option (Sep A)) (l : List (C × Sep A)) → before c (map_left l) ≡ before c l
  before_map c [] = refl
  before_map c (x ∷ l) = refl

-- ---- lookup's answer

-- the map's value as lookup answers it
abbrev pub answered : Option ℕ → Answer
answered none = Ok None
answered (some v) = Ok (Some (value_of v))

here_look : {C : Type 0} (f : C → ℕ) (k : Key) (b : Answer) (o : Option ℕ) (r : List (Sep ℕ × C)) → b ≡ answered o → found_here k b (map_right f r) ≡ answered (look_here k o r)
here_look f k b o [] e = e
here_look f k b o (x ∷ r) e = by_bool (same k x.0) (λ t. rw t) (λ t. rw t e)

-- ---- a tree that the bytes hold

-- a child's number fits the depth: 0 below a leaf, a slot above
label_fits : (n d : ℕ) (t : Kid ℕ d) → Within n (slots ℕ d t) → misfits d (child_of (label d t)) ≡ false
label_fits n zero t a = refl
label_fits n (suc d) t a = ne_eqb t.slot 0 (omega (arith, (first_within n t.slot (read none_of (slots ℕ d) t) (a t.slot)).0))

labels_fit : (n d : ℕ) (r : List (Sep ℕ × Kid ℕ d)) → Within n (read_rest none_of (slots ℕ d) r) → RestFits d (map_right (label d) r)
labels_fit n d [] a = tt
labels_fit n d (x ∷ r) a = (label_fits n d x.1 (λ v. omega (arith, simp occurs_append at (a v))), labels_fit n d r (λ v. omega (arith, simp occurs_append at (a v))))

module _ (n root depth : ℕ) (small : n < 2 ^ 32) (s fs : List ℕ) (b : Based n root depth s fs) where
  -- what is asked of a tree: it stands in its slots, each once
  record Stood (d : ℕ) (t : Kid ℕ d) : Type 0 where
    holds : Holds s d t
    once : Within n (slots ℕ d t)

  read_at_lem : (d : ℕ) (m : Tree ℕ d) → Stood (suc d) m → read_node_at d s m.slot ≡ some (map_node (label d) m)
  unfolding read_node_at
  read_at_lem d m h =
      ap (when_fit d) (read_tree n root depth small s fs d m b h.holds h.once)
      ∙ pick_t _ _ (chain_fits_lem d (label d m.first) (map_right (label d) m.rest)
      (label_fits n d m.first (λ v. omega (arith, simp occurs_append at (h.once v))))
      (labels_fit n d m.rest (λ v. omega (arith, simp occurs_append at (h.once v)))))

  down : (p : Sep ℕ → Bool) (d : ℕ) (m : Tree ℕ d) → Stood (suc d) m → Stood d (at p m).mid
  down p d m h = record {
    holds = (seek_all (Holds s d) p [] m.first m.rest tt h.holds.1 h.holds.2).here;
    once = λ v. omega (arith, simp occurs_append at (ap (occurs v) (seek_read none_of (slots ℕ d) p [] m.first m.rest)), simp occurs_append at (h.once v));
  }

  look_is : (k : Key) (d : ℕ) (t : Kid ℕ d) → Stood d t → look_from k d s (label d t) ≡ answered (look ℕ k d t)
  unfolding look_from
  look_is k zero t h = refl
  look_is k (suc d) m h =
      let z : Zip ℕ (Kid ℕ d) = at (below k) m in
      rw (read_at_lem d m h, at_map (label d) (below k) m)
      (here_look (label d) k (look_from k d s (label d z.mid)) (look ℕ k d z.mid) z.rgt (look_is k d z.mid (down (below k) d m h)))

  module _ (p : Sep ℕ → Bool) where
    forward_is : (d : ℕ) (t : Kid ℕ d) (c : Option (Sep ℕ)) → Stood d t → forward_from p d s (label d t) c ≡ walked (tree.walk_forward ℕ p d t c)
    unfolding forward_from
    forward_is zero t c h = refl
    forward_is (suc d) m c h =
        let z : Zip ℕ (Kid ℕ d) = at p m in
        rw (read_at_lem d m h, at_map (label d) p m, after_map (label d) c z.rgt) (forward_is d z.mid (after c z.rgt) (down p d m h))

    backward_is : (d : ℕ) (t : Kid ℕ d) (c : Option (Sep ℕ)) → Stood d t → backward_from p d s (label d t) c ≡ walked (tree.walk_backward ℕ p d t c)
    unfolding backward_from
    backward_is zero t c h = refl
    backward_is (suc d) m c h =
        let z : Zip ℕ (Kid ℕ d) = at p m in
        rw (read_at_lem d m h, at_map (label d) p m, before_map (label d) c z.lft) (backward_is d z.mid (before c z.lft) (down p d m h))

-- ---- keys of what is met fit a cursor

abbrev AllShort : List (Sep ℕ) → Type 0
AllShort [] = Unit {0}
AllShort (e ∷ l) = (length e.key ≤ longest_key) × AllShort l

abbrev IfShort : Option (Sep ℕ) → Type 0
IfShort none = Unit {0}
IfShort (some e) = length e.key ≤ longest_key

short_append : (l m : List (Sep ℕ)) → AllShort l → AllShort m → AllShort (l ++ m)
short_append [] m h g = g
short_append (e ∷ l) m h g = (h.0, short_append l m h.1 g)

module _ (s : List ℕ) where
  rest_short : (d : ℕ) → ((t : Kid ℕ d) → Holds s d t → AllShort (entries ℕ d t)) → (r : List (Sep ℕ × Kid ℕ d)) → FitAll (map_right (label d) r) → AllRight (Holds s d) r
      → AllShort (read_rest only (entries ℕ d) r)
  rest_short d ih [] f h = tt
  rest_short d ih (x ∷ r) f h = (f.0.short, short_append (entries ℕ d x.1) (read_rest only (entries ℕ d) r) (ih x.1 h.0) (rest_short d ih r f.2 h.1))

  short_entries : (d : ℕ) (t : Kid ℕ d) → Holds s d t → AllShort (entries ℕ d t)
  short_entries zero t h = tt
  short_entries (suc d) t h =
      short_append (entries ℕ d t.first) (read_rest only (entries ℕ d) t.rest) (short_entries d t.first h.1)
      (rest_short d (short_entries d) t.rest h.0.fine.rest h.2)

  store_short : (n : ℕ) (st : Store ℕ) → Stands n s st → AllShort (store_entries st)
  store_short n (bare fs) h = tt
  store_short n (rooted t) h = short_entries (suc t.depth) t.root h.tree

module _ (p : Sep ℕ → Bool) where
  first_short : (l : List (Sep ℕ)) → AllShort l → IfShort (first_of p l)
  first_short [] h = tt
  first_short (e ∷ l) h = by_cond IfShort (p e) (λ t. h.0) (λ t. first_short l h.1)

  last_short : (c : Option (Sep ℕ)) (l : List (Sep ℕ)) → IfShort c → AllShort l → IfShort (last_or p c l)
  last_short c [] k h = k
  last_short c (e ∷ l) k h = last_short (cond (p e) (some e) c) l (by_cond IfShort (p e) (λ t. h.0) (λ t. k)) h.1

-- ---- a cursor's place, as the tree has it

abbrev pub placed : Cursor → Place → tree.Place
placed c Start = tree.Start
placed c End = tree.End
placed c (At n) = tree.At (key_of c n)
placed c (Seeked n) = tree.Seeked (key_of c n)

abbrev pub place_of : Cursor → tree.Place
place_of c = placed c c.place

-- ---- from the root of a store

module _ (n : ℕ) (small : n < 2 ^ 32) (s : List ℕ) where
  no_root : {X : Type 0} (x y : X) (fs : List ℕ) → Based n 0 0 s fs → pick (eqb (root_of s) 0) x y ≡ x
  no_root x y fs b = pick_t _ _ (eq-eqb (root_of s) 0 (based_root n 0 0 s fs b (omega arith)))

  module _ (t : State ℕ) (h : StandsTree n s t) (g : Good n t) where
    at_root : {X : Type 0} (x y : X) → pick (eqb (root_of s) 0) x y ≡ y
    at_root x y = let r = root_read n s t small h g in pick_f _ _ (ne_eqb (root_of s) 0 (omega arith))

    root_stood : Stood n t.root.slot t.depth small s t.free h.base (suc t.depth) t.root
    root_stood = record { holds = h.tree; once = λ x. omega (arith, g.once x) }

    look_root : (k : Key) → look_from k (suc (depth_of s)) s (root_of s) ≡ answered (look ℕ k (suc t.depth) t.root)
    look_root k =
        let r = root_read n s t small h g in
        rw (r.root, r.depth) (look_is n t.root.slot t.depth small s t.free h.base k (suc t.depth) t.root root_stood)

    forward_root : (p : Sep ℕ → Bool) → forward_from p (suc (depth_of s)) s (root_of s) none ≡ walked (tree.walk_forward ℕ p (suc t.depth) t.root none)
    forward_root p =
        let r = root_read n s t small h g in
        rw (r.root, r.depth) (forward_is n t.root.slot t.depth small s t.free h.base p (suc t.depth) t.root none root_stood)

    backward_root : (p : Sep ℕ → Bool) → backward_from p (suc (depth_of s)) s (root_of s) none ≡ walked (tree.walk_backward ℕ p (suc t.depth) t.root none)
    backward_root p =
        let r = root_read n s t small h g in
        rw (r.root, r.depth) (backward_is n t.root.slot t.depth small s t.free h.base p (suc t.depth) t.root none root_stood)

    forward_places : (c : Cursor) (p : Place) → walk_forward s c p ≡ walked (forward_entry (placed c p) (rooted t))
    forward_places c Start = forward_root never
    forward_places c End = refl
    forward_places c (At m) = forward_root (not_above (key_of c m))
    forward_places c (Seeked m) = forward_root (below (key_of c m))

    backward_places : (c : Cursor) (p : Place) → walk_backward s c p ≡ walked (backward_entry (placed c p) (rooted t))
    backward_places c Start = refl
    backward_places c End = backward_root always
    backward_places c (At m) = backward_root (below (key_of c m))
    backward_places c (Seeked m) = backward_root (not_above (key_of c m))

  look_store : (k : Key) (st : Store ℕ) → Stands n s st → GoodStore n st → pick (eqb (root_of s) 0) (Ok None) (look_from k (suc (depth_of s)) s (root_of s)) ≡ answered (lookup k st)
  look_store k (bare fs) h g = no_root _ _ fs h
  look_store k (rooted t) h g = at_root t h g _ _ ∙ look_root t h g k

  forward_store : (c : Cursor) (st : Store ℕ) → Stands n s st → GoodStore n st
      → pick (eqb (root_of s) 0) (walked none) (walk_forward s c c.place) ≡ walked (forward_entry (place_of c) st)
  forward_store c (bare fs) h g = no_root _ _ fs h
  forward_store c (rooted t) h g = at_root t h g _ _ ∙ forward_places t h g c c.place

  backward_store : (c : Cursor) (st : Store ℕ) → Stands n s st → GoodStore n st
      → pick (eqb (root_of s) 0) (walked none) (walk_backward s c c.place) ≡ walked (backward_entry (place_of c) st)
  backward_store c (bare fs) h g = no_root _ _ fs h
  backward_store c (rooted t) h g = at_root t h g _ _ ∙ backward_places t h g c c.place

-- ---- several steps: the entries met until none, n steps at most; each one's key is the cursor's

abbrev pub key_in : Cursor → Place → Key
key_in c Start = []
key_in c End = []
key_in c (At n) = key_of c n
key_in c (Seeked n) = key_of c n

abbrev pub met : Answer → Cursor → List (Sep ℕ) → List (Sep ℕ)
met (Ok (Some v)) c es = record { key = key_in c c.place; val = v.0 } ∷ es
met (Ok None) c es = []
met (Err e) c es = []

abbrev pub forwards_of : ℕ → List ℕ → Cursor → List (Sep ℕ)
forwards_of zero s c = []
forwards_of (suc n) s c = let r : Stepped = forward_of s c in met r.step r.cursor (forwards_of n s r.cursor)

abbrev pub backwards_of : ℕ → List ℕ → Cursor → List (Sep ℕ)
backwards_of zero s c = []
backwards_of (suc n) s c = let r : Stepped = backward_of s c in met r.step r.cursor (backwards_of n s r.cursor)

-- the key that a cursor was moved to
pub own_key : (k : Key) → take (length k) (padded 288 0 k) ≡ k
unfolding padded
own_key k = take_at k (replicate (288 - length k) 0) (length k) refl

-- ---- an audited store

module _ (s : List ℕ) (h : Audited s) where
  abbrev st : Store ℕ
  st = h.store

  small : h.count < 2 ^ 32
  small = let m = h.most in omega arith

  shallow : ltb most_depth (depth_of s) ≡ false
  shallow = le-ltb most_depth (depth_of s) (audited_shallow s h)

  pub lookup_is : (k : Key) → length k ≤ longest_key → lookup_of s k ≡ answered (get k (store_entries st))
  unfolding lookup_of
  lookup_is k l =
      pick_t _ _ (audited_store s h) ∙ pick_f _ _ (le-ltb longest_key (length k) l) ∙ pick_f _ _ shallow ∙ look_store h.count small s k st h.stands h.good
      ∙ ap answered (lookup_get k st (audited_rising s h))

  module _ (c : Cursor) (l : is_long c.place ≡ false) where
    stepped : (p : Place) (w : Walked) → stepped_of s c p w ≡ moved_to c p (pick (eqb (root_of s) 0) (walked none) w)
    unfolding stepped_of
    stepped p w = pick_t _ _ (audited_store s h) ∙ pick_f _ _ l ∙ pick_f _ _ shallow

    pub forward_moves : forward_of s c ≡ moved_to c End (walked (forward_entry (place_of c) st))
    unfolding forward_of
    forward_moves = stepped End (walk_forward s c c.place) ∙ ap (moved_to c End) (forward_store h.count small s c st h.stands h.good)

    pub backward_moves : backward_of s c ≡ moved_to c Start (walked (backward_entry (place_of c) st))
    unfolding backward_of
    backward_moves = stepped Start (walk_backward s c c.place) ∙ ap (moved_to c Start) (backward_store h.count small s c st h.stands h.good)

    pub forward_is_next : forward_of s c ≡ moved_to c End (walked (next_of (place_of c) (store_entries st)))
    forward_is_next = forward_moves ∙ ap (λ (o : Option (Sep ℕ)). moved_to c End (walked o)) (forward_next (place_of c) st (audited_rising s h))

    pub backward_is_previous : backward_of s c ≡ moved_to c Start (walked (previous_of (place_of c) (store_entries st)))
    backward_is_previous = backward_moves ∙ ap (λ (o : Option (Sep ℕ)). moved_to c Start (walked o)) (backward_previous (place_of c) st (audited_rising s h))

  forward_short : (p : tree.Place) → IfShort (forward_entry p st)
  forward_short p = rw (forward_next p st (audited_rising s h)) (first_short (tree.ahead p) (store_entries st) (store_short s h.count st h.stands))

  backward_short : (p : tree.Place) → IfShort (backward_entry p st)
  backward_short p = rw (backward_previous p st (audited_rising s h)) (last_short (tree.behind p) none (store_entries st) tt (store_short s h.count st h.stands))

  -- what a step on bytes and then more of them meet
  abbrev met_then : (Cursor → List (Sep ℕ)) → Stepped → List (Sep ℕ)
  met_then more r = met r.step r.cursor (more r.cursor)

  -- a step's answer and then n more are the tree's, where those from every short place are
  moved_on : (more : Cursor → List (Sep ℕ)) (tree-more : tree.Place → List (Sep ℕ)) → ((c : Cursor) → is_long c.place ≡ false → more c ≡ tree-more (place_of c))
      → (c : Cursor) (p : Place) (q : tree.Place) (o : Option (Sep ℕ)) → IfShort o → met_then more (moved_to c p (walked o)) ≡ then_more o (tree-more (tree.moved_to q o))
  moved_on more tree-more ih c p q none k = refl
  moved_on more tree-more ih c p q (some e) k =
      let m : Cursor = cursor_with (At (length e.key)) e.key in
      let f : more m ≡ tree-more (tree.At e.key) = ih m (le-ltb longest_key (length e.key) k) ∙ ap (λ (x : Key). tree-more (tree.At x)) (own_key e.key) in
      ap (λ (x : Key). record { key = x; val = e.val } ∷ more m) (own_key e.key) ∙ ap (λ (l : List (Sep ℕ)). e ∷ l) f

  pub forwards_are : (i : ℕ) (c : Cursor) → is_long c.place ≡ false → forwards_of i s c ≡ forwards i (place_of c) st
  forwards_are zero c l = refl
  forwards_are (suc i) c l =
      ap (met_then (forwards_of i s)) (forward_moves c l)
      ∙ moved_on (forwards_of i s) (λ p. forwards i p st) (forwards_are i) c End tree.End (forward_entry (place_of c) st) (forward_short (place_of c))

  pub backwards_are : (i : ℕ) (c : Cursor) → is_long c.place ≡ false → backwards_of i s c ≡ backwards i (place_of c) st
  backwards_are zero c l = refl
  backwards_are (suc i) c l =
      ap (met_then (backwards_of i s)) (backward_moves c l)
      ∙ moved_on (backwards_of i s) (λ p. backwards i p st) (backwards_are i) c Start tree.Start (backward_entry (place_of c) st) (backward_short (place_of c))
