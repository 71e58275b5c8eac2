-- Lookup is the map's; a step of the cursor gives the map's neighbour; steps one after another give all that is ahead of the
-- place, or behind it. Assumes nothing.
use mathlib.Core.Path.{◌≡◌, refl, sym, ap, subst, ◌∙◌}
use mathlib.Core.List.{List, [], ◌∷◌, ◌++◌, append_assoc, reverse, reverse-append}
use mathlib.Core.Bool.{Bool, true, false, cond, not}
use mathlib.Core.Option.{Option, none, some}
use lib.ListN.{take}
use native.Mathlib.Omega.{arith}
use Prim.Native.Nat.{ℕ, zero, suc}
use Rattle.word.specs.Key.{Key, cmp, is_lt, Lt}
use Rattle.tree.specs.Map.{Sep, get, AllBelow, AllAbove, Rising}
use Rattle.tree.specs.Tree.{Kid, Tree, Zip, read_rest, read_left, only, entries, at, below, same, always, never}
use Rattle.tree.specs.Lookup.{look_here, look}
use Rattle.tree.specs.State.{state_entries, Store, bare, rooted, store_entries}
use Rattle.tree.specs.Walk.{lookup, Place, Start, End, At, Seeked, not_above, above, after, before, walk_forward, walk_backward, forward_entry, backward_entry, first_of, last_or, ahead, next_of, behind, previous_of, keep, forwards, backwards}
use Rattle.word.proofs.KeyOrder.{lt_gt, cmp_refl, lt_trans}
use Rattle.tree.proofs.Cases.{by_cond, by_bool, is_lt_lem, is_eq, is_above_lem}
use Rattle.tree.proofs.MapLaws.{HeadAbove, get_left, get_right, get_here, rising_mid, rising_before}
use Rattle.tree.proofs.Zipper.{read_zip, seek_read, Before, After, seek_edge, left_below}

-- ---- lookup

module _ {A C : Type 0} (f : C → List (Sep A)) (k : Key) (l : List (C × Sep A)) (c : C) (o : Option A) (step : Rising (f c) → o ≡ get k (f c)) where
  look_below : (r : List (Sep A × C)) → Before (below k) l → HeadAbove k (read_rest only f r) → Rising (read_zip only f l c r) → o ≡ get k (read_zip only f l c r)
  look_below r b a h = step (rising_mid (read_left only f l) (f c) (read_rest only f r) h)
      ∙ sym (get_left k (read_left only f l) (f c ++ read_rest only f r) (left_below f k l (f c ++ read_rest only f r) b h) ∙ get_right k (f c) (read_rest only f r) a)

  look_at : (r : List (Sep A × C)) → Before (below k) l → After (below k) r → Rising (read_zip only f l c r) → look_here k o r ≡ get k (read_zip only f l c r)
  look_at [] b a h = look_below [] b tt h
  look_at (x ∷ r) b a h = by_cond (λ (q : Option A). q ≡ get k (read_zip only f l c (x ∷ r))) (same k x.0)
      (λ p. sym (get_here k (read_left only f l ++ f c) (f x.1 ++ read_rest only f r) x.0 (is_eq (cmp k x.0.key) p) (rw append_assoc h)) ∙ rw append_assoc)
      (λ p. look_below (x ∷ r) b (is_above_lem k x.0 a p) h)

module _ (A : Type 0) where
  pub look_get : (k : Key) (d : ℕ) (t : Kid A d) → Rising (entries A d t) → look A k d t ≡ get k (entries A d t)
  look_get k zero t h = refl
  look_get k (suc d) n h =
      let z : Zip A (Kid A d) = at (below k) n in
      let edge = seek_edge (below k) [] n.first n.rest tt in
      let whole = seek_read only (entries A d) (below k) [] n.first n.rest in
      look_at (entries A d) k z.lft z.mid (look A k d z.mid) (look_get k d z.mid) z.rgt edge.0 edge.1 (rw whole h) ∙ rw whole

pub lookup_get : {A : Type 0} (k : Key) (s : Store A) → Rising (store_entries s) → lookup k s ≡ get k (store_entries s)
lookup_get k (bare fs) h = refl
lookup_get {A} k (rooted t) h = look_get A k (suc t.depth) t.root h

-- ---- one step down the tree. p holds of every separator below one of which it holds.

module _ {A : Type 0} (p : Sep A → Bool) where
  -- the first of which p does not hold, or else c; the last of those in front of which p holds, or else c
  abbrev first_not : List (Sep A) → Option (Sep A) → Option (Sep A)
  first_not [] c = c
  first_not (s ∷ l) c = cond (p s) (first_not l c) (some s)

  abbrev last_yes : List (Sep A) → Option (Sep A) → Option (Sep A)
  last_yes [] c = c
  last_yes (s ∷ l) c = cond (p s) (last_yes l (some s)) c

  abbrev All : Bool → List (Sep A) → Type 0
  All b [] = Unit {0}
  All b (s ∷ l) = (p s ≡ b) × All b l

  abbrev pub Downward : Type 0
  Downward = (a b : Sep A) → Lt a.key b.key → p b ≡ true → p a ≡ true

  first_append : (xs ys : List (Sep A)) (c : Option (Sep A)) → first_not (xs ++ ys) c ≡ first_not xs (first_not ys c)
  first_append [] ys c = refl
  first_append (x ∷ xs) ys c = rw (first_append xs ys c)

  first_left : (xs ys : List (Sep A)) (c : Option (Sep A)) → All true xs → first_not (xs ++ ys) c ≡ first_not ys c
  first_left [] ys c h = refl
  first_left (x ∷ xs) ys c h = rw h.0 (first_left xs ys c h.1)

  last_snoc : (xs ys : List (Sep A)) (s : Sep A) (c : Option (Sep A)) → All true (xs ++ (s ∷ [])) → last_yes ((xs ++ (s ∷ [])) ++ ys) c ≡ last_yes ys (some s)
  last_snoc [] ys s c h = rw h.0
  last_snoc (x ∷ xs) ys s c h = rw h.0 (last_snoc xs ys s (some x) h.1)

  module _ (down : Downward) where
    all_down : (xs : List (Sep A)) (s : Sep A) → AllBelow xs s.key → p s ≡ true → All true (xs ++ (s ∷ []))
    all_down [] s h e = (e, tt)
    all_down (x ∷ xs) s h e = (down x s h.0 e, all_down xs s h.1 e)

    left_all : {C : Type 0} (f : C → List (Sep A)) (l : List (C × Sep A)) (y : List (Sep A)) → Before p l → Rising (read_left only f l ++ y) → All true (read_left only f l)
    left_all f [] y b h = tt
    left_all f (x ∷ l) y b h =
        let xs : List (Sep A) = read_left only f l ++ f x.0 in
        let e : read_left only f (x ∷ l) ++ y ≡ xs ++ x.1 ∷ y = simp append_assoc in
        rw (← append_assoc) (all_down xs x.1 (rising_before xs y x.1 (rw e at h)) b)

  module _ {C : Type 0} (f : C → List (Sep A)) where
    first_after : (r : List (Sep A × C)) (c : Option (Sep A)) → After p r → first_not (read_rest only f r) c ≡ after c r
    first_after [] c a = refl
    first_after (x ∷ r) c a = rw a

    last_left : (l : List (C × Sep A)) (ys : List (Sep A)) (c : Option (Sep A)) → All true (read_left only f l) → last_yes (read_left only f l ++ ys) c ≡ last_yes ys (before c l)
    last_left [] ys c h = refl
    last_left (x ∷ l) ys c h = rw (← append_assoc) (last_snoc (read_left only f l ++ f x.0) ys x.1 c (rw append_assoc h))

    last_right : (ys : List (Sep A)) (r : List (Sep A × C)) (c : Option (Sep A)) → After p r → last_yes (ys ++ read_rest only f r) c ≡ last_yes ys c
    last_right [] [] c a = refl
    last_right [] (x ∷ r) c a = rw a
    last_right (y ∷ ys) r c a = rw (last_right ys r (some y) a)

module _ {A : Type 0} (p : Sep A → Bool) (down : Downward p) where
  -- where a step stands in a node: what it reads left of the child, and right of it
  record Stands (d : ℕ) (n : Tree A d) (lefts rights : List (Sep A)) : Type 0 where
    passed : All p true lefts
    next : After p (at p n).rgt
    rising : Rising (entries A d (at p n).mid)
    whole : lefts ++ (entries A d (at p n).mid ++ rights) ≡ entries A (suc d) n

  stands : (d : ℕ) (n : Tree A d) → Rising (entries A (suc d) n) → Stands d n (read_left only (entries A d) (at p n).lft) (read_rest only (entries A d) (at p n).rgt)
  stands d n h =
      let z : Zip A (Kid A d) = at p n in
      let f : Kid A d → List (Sep A) = entries A d in
      let edge = seek_edge p [] n.first n.rest tt in
      let whole = seek_read only f p [] n.first n.rest in
      let up : Rising (read_zip only f z.lft z.mid z.rgt) = rw whole h in
      record {
        passed = left_all p down f z.lft (f z.mid ++ read_rest only f z.rgt) edge.0 up;
        next = edge.1;
        rising = rising_mid (read_left only f z.lft) (f z.mid) (read_rest only f z.rgt) up;
        whole = whole;
      }

  forward_first : (d : ℕ) (t : Kid A d) (c : Option (Sep A)) → Rising (entries A d t) → walk_forward A p d t c ≡ first_not p (entries A d t) c
  forward_first zero t c h = refl
  forward_first (suc d) n c h =
      let z : Zip A (Kid A d) = at p n in
      let f : Kid A d → List (Sep A) = entries A d in
      let R : List (Sep A) = read_rest only f z.rgt in
      let q = stands d n h in
      forward_first d z.mid (after c z.rgt) q.rising
      ∙ ap (first_not p (f z.mid)) (sym (first_after p f z.rgt c q.next))
      ∙ sym (first_append p (f z.mid) R c)
      ∙ sym (first_left p (read_left only f z.lft) (f z.mid ++ R) c q.passed)
      ∙ ap (λ (l : List (Sep A)). first_not p l c) q.whole

  backward_last : (d : ℕ) (t : Kid A d) (c : Option (Sep A)) → Rising (entries A d t) → walk_backward A p d t c ≡ last_yes p (entries A d t) c
  backward_last zero t c h = refl
  backward_last (suc d) n c h =
      let z : Zip A (Kid A d) = at p n in
      let f : Kid A d → List (Sep A) = entries A d in
      let q = stands d n h in
      backward_last d z.mid (before c z.lft) q.rising
      ∙ sym (last_right p f (f z.mid) z.rgt (before c z.lft) q.next)
      ∙ sym (last_left p f z.lft (f z.mid ++ read_rest only f z.rgt) c q.passed)
      ∙ ap (λ (l : List (Sep A)). last_yes p l c) q.whole

-- ---- the step's answer is the map's

module _ {A : Type 0} where
  first_of_lem : (p q : Sep A → Bool) (l : List (Sep A)) → ((s : Sep A) → q s ≡ not (p s)) → first_not p l none ≡ first_of q l
  first_of_lem p q [] h = refl
  first_of_lem p q (s ∷ l) h = by_bool (p s) (λ e. rw (h s, e) (first_of_lem p q l h)) (λ e. rw (h s, e))

  -- past the first of which p does not hold it holds of none
  last_none : (p : Sep A → Bool) → Downward p → (s : Sep A) (l : List (Sep A)) (c : Option (Sep A)) → p s ≡ false → AllAbove s.key l → last_or p c l ≡ c
  last_none p down s [] c e h = refl
  last_none p down s (x ∷ l) c e h =
      let n : p x ≡ false = by_bool (p x) (λ g. cc (down s x h.0 g)) (λ g. g) in
      rw n (last_none p down s l c e h.1)

  last_of_lem : (p : Sep A → Bool) → Downward p → (l : List (Sep A)) (c : Option (Sep A)) → Rising l → last_yes p l c ≡ last_or p c l
  last_of_lem p down [] c h = refl
  last_of_lem p down (s ∷ l) c h = by_bool (p s) (λ e. rw e (last_of_lem p down l (some s) h.1)) (λ e. rw e (sym (last_none p down s l c e h.0)))

  below_down : (k : Key) → Downward {A = A} (below k)
  below_down k a b h e = rw (lt_trans a.key b.key k h (is_lt_lem (cmp b.key k) e))

  not_above_down : (k : Key) → Downward {A = A} (not_above k)
  not_above_down k a b h e = by_bool (is_lt (cmp k a.key))
      (λ g. let w = rw (lt_trans k a.key b.key (is_lt_lem (cmp k a.key) g) h) at e in cc) (λ g. rw g)

  pub forward_next : (p : Place) (s : Store A) → Rising (store_entries s) → forward_entry p s ≡ next_of p (store_entries s)
  forward_next p (bare fs) h = refl
  forward_next Start (rooted t) h = forward_first never (λ a b l e. e) (suc t.depth) t.root none h ∙ first_of_lem never (ahead Start) (state_entries t) (λ s. refl)
  forward_next (Seeked k) (rooted t) h = forward_first (below k) (below_down k) (suc t.depth) t.root none h ∙ first_of_lem (below k) (ahead (Seeked k)) (state_entries t) (λ s. refl)
  forward_next (At k) (rooted t) h = forward_first (not_above k) (not_above_down k) (suc t.depth) t.root none h
      ∙ first_of_lem (not_above k) (ahead (At k)) (state_entries t) (λ s. by_bool (is_lt (cmp k s.key)) (λ e. rw e) (λ e. rw e))
  forward_next End (rooted t) h = sym (nothing_of (state_entries t))
    where
      nothing_of : (l : List (Sep A)) → first_of (ahead End) l ≡ none
      nothing_of [] = refl
      nothing_of (s ∷ l) = nothing_of l

  pub backward_previous : (p : Place) (s : Store A) → Rising (store_entries s) → backward_entry p s ≡ previous_of p (store_entries s)
  backward_previous p (bare fs) h = refl
  backward_previous End (rooted t) h = backward_last always (λ a b l e. refl) (suc t.depth) t.root none h ∙ last_of_lem always (λ a b l e. refl) (state_entries t) none h
  backward_previous (Seeked k) (rooted t) h = backward_last (not_above k) (not_above_down k) (suc t.depth) t.root none h ∙ last_of_lem (not_above k) (not_above_down k) (state_entries t) none h
  backward_previous (At k) (rooted t) h = backward_last (below k) (below_down k) (suc t.depth) t.root none h ∙ last_of_lem (below k) (below_down k) (state_entries t) none h
  backward_previous Start (rooted t) h = sym (nothing_of (state_entries t))
    where
      nothing_of : (l : List (Sep A)) → last_or (behind Start) none l ≡ none
      nothing_of [] = refl
      nothing_of (s ∷ l) = nothing_of l

-- ---- several steps

module _ {A : Type 0} where
  above_keep : (q : Sep A → Bool) (k : Key) (l : List (Sep A)) → AllAbove k l → AllAbove k (keep q l)
  above_keep q k [] h = tt
  above_keep q k (s ∷ l) h = by_cond (AllAbove k) (q s) (λ e. (h.0, above_keep q k l h.1)) (λ e. above_keep q k l h.1)

  -- a key's own separator is neither above nor below it, and what stands above it is not below
  keep_above : (s : Sep A) (l : List (Sep A)) → AllAbove s.key l → keep (above s.key) l ≡ l
  keep_above s [] h = refl
  keep_above s (x ∷ l) h = rw (h.0, keep_above s l h.1)

  keep_below : (s : Sep A) (l : List (Sep A)) → AllAbove s.key l → keep (below s.key) l ≡ []
  keep_below s [] h = refl
  keep_below s (x ∷ l) h = rw (lt_gt s.key x.key h.0, keep_below s l h.1)

  -- ahead of a place is its first, and what is above that; or nothing
  abbrev pub Upward : (Sep A → Bool) → Type 0
  Upward q = (a b : Sep A) → Lt a.key b.key → q a ≡ true → q b ≡ true

  record First (q : Sep A → Bool) (l : List (Sep A)) (e : Sep A) (rest : List (Sep A)) : Type 0 where
    kept : keep q l ≡ e ∷ rest
    found : first_of q l ≡ some e
    later : keep (above e.key) l ≡ rest

  abbrev FirstIf : (Sep A → Bool) → List (Sep A) → List (Sep A) → Type 0
  FirstIf q l [] = first_of q l ≡ none
  FirstIf q l (e ∷ rest) = First q l e rest

  all_kept : (q : Sep A → Bool) → Upward q → (s : Sep A) (l : List (Sep A)) → q s ≡ true → AllAbove s.key l → keep q l ≡ l
  all_kept q up s [] e h = refl
  all_kept q up s (x ∷ l) e h = rw (up s x h.0 e, all_kept q up s l e h.1)

  first_if : (q : Sep A → Bool) → Upward q → (l : List (Sep A)) → Rising l → (m : List (Sep A)) → keep q l ≡ m → FirstIf q l m
  first_if q up [] h [] g = refl
  first_if q up [] h (e ∷ m) g = absurd (let w : ◌≡◌ {A = ℕ} 0 1 = cc in omega arith)
  first_if q up (s ∷ l) h [] g = by_bool (q s) (λ p. let w = rw p at g in absurd (let v : ◌≡◌ {A = ℕ} 0 1 = cc in omega arith)) (λ p. rw p (first_if q up l h.1 [] (rw p at g)))
  first_if q up (s ∷ l) h (e ∷ m) g = by_bool (q s)
      (λ p.
      let w = rw p at g in
      let it : s ≡ e = cc in
      let more : keep q l ≡ m = cc in
      let rest : l ≡ m = sym (all_kept q up s l p h.0) ∙ more in
      record { kept = g; found = rw p (rw it); later = subst (λ (x : Sep A). keep (above {A = A} x.key) (s ∷ l) ≡ m) it (rw (cmp_refl s.key) (keep_above s l h.0 ∙ rest)) })
      (λ p.
      let ih = first_if q up l h.1 (e ∷ m) (rw p at g) in
      let lt : Lt s.key e.key = (rw ih.kept at (above_keep q s.key l h.0)).0 in
      record { kept = g; found = rw p ih.found; later = rw (lt_gt s.key e.key lt) ih.later })

  -- behind a place is its last, and what is below that; or nothing
  data Last (q : Sep A → Bool) (l : List (Sep A)) : Type 0 where
    no : keep q l ≡ [] → ((c : Option (Sep A)) → last_or q c l ≡ c) → Last q l
    yes : (e : Sep A) (earlier : List (Sep A)) → q e ≡ true → ((k : Key) → AllAbove k l → Lt k e.key)
        → keep q l ≡ earlier ++ (e ∷ []) → ((c : Option (Sep A)) → last_or q c l ≡ some e) → keep (below e.key) l ≡ earlier → Last q l

  last_if : (q : Sep A → Bool) → Downward q → (l : List (Sep A)) → Rising l → Last q l
  last_if q down [] h = no refl (λ c. refl)
  last_if q down (s ∷ l) h = by_bool (q s) (λ p. kept_lem p (last_if q down l h.1)) (λ p. dropped p (last_if q down l h.1))
    where
      kept_lem : q s ≡ true → Last q l → Last q (s ∷ l)
      kept_lem p (no k f) = yes s [] p (λ j a. a.0) (rw (p, k)) (λ c. rw p (f (some s))) (rw (cmp_refl s.key) (keep_below s l h.0))
      kept_lem p (yes e earlier t m k f b) = yes e (s ∷ earlier) t (λ j a. m j a.1) (rw (p, k)) (λ c. rw p (f (some s))) (rw (m s.key h.0, b))

      dropped : q s ≡ false → Last q l → Last q (s ∷ l)
      dropped p (no k f) = no (rw p k) (λ c. rw p (f c))
      dropped p (yes e earlier t m k f b) = absurd (let w = down s e (m s.key h.0) t in let v : ◌≡◌ {A = ℕ} 0 1 = cc in omega arith)

  ahead_up : (p : Place) → Upward (ahead p)
  ahead_up Start a b h e = refl
  ahead_up (Seeked k) a b h e = by_bool (below k b) (λ g. let w = rw (below_down k a b h g) at e in cc) (λ g. rw g)
  ahead_up (At k) a b h e = rw (lt_trans k a.key b.key (is_lt_lem (cmp k a.key) e) h)
  ahead_up End a b h e = e

  behind_down : (p : Place) → Downward {A = A} (behind p)
  behind_down End a b h e = refl
  behind_down (Seeked k) a b h e = not_above_down k a b h e
  behind_down (At k) a b h e = below_down k a b h e
  behind_down Start a b h e = e

module _ {A : Type 0} (s : Store A) (h : Rising (store_entries s)) where
  pub forwards_ahead : (n : ℕ) (p : Place) → forwards n p s ≡ take n (keep (ahead p) (store_entries s))
  forwards_ahead zero p = refl
  forwards_ahead (suc n) p = go (keep (ahead p) (store_entries s)) refl (first_if (ahead p) (ahead_up p) (store_entries s) h (keep (ahead p) (store_entries s)) refl) (forwards_ahead n)
    where
      go : (m : List (Sep A)) → keep (ahead p) (store_entries s) ≡ m → FirstIf (ahead p) (store_entries s) m
          → ((p : Place) → forwards n p s ≡ take n (keep (ahead p) (store_entries s))) → forwards (suc n) p s ≡ take (suc n) m
      go [] e f ih = rw (forward_next p s h ∙ f)
      go (x ∷ rest) e f ih = rw (forward_next p s h ∙ f.found) (rw (ih (At x.key), f.later))

  pub backwards_behind : (n : ℕ) (p : Place) → backwards n p s ≡ take n (reverse (keep (behind p) (store_entries s)))
  backwards_behind zero p = refl
  backwards_behind (suc n) p = go (last_if (behind p) (behind_down p) (store_entries s) h) (backwards_behind n)
    where
      go : Last (behind p) (store_entries s) → ((p : Place) → backwards n p s ≡ take n (reverse (keep (behind p) (store_entries s))))
          → backwards (suc n) p s ≡ take (suc n) (reverse (keep (behind p) (store_entries s)))
      go (no k f) ih = rw (backward_previous p s h ∙ f none, k)
      go (yes e earlier t m k f b) ih = rw (backward_previous p s h ∙ f none, k, reverse-append earlier (e ∷ [])) (rw (ih (At e.key), b))
