-- What a seek and a step leave in a cursor, and what they do not look at, on any bytes. Assumes nothing.
use mathlib.Core.Path.{◌≡◌, refl, sym, ap, subst, ◌∙◌}
use mathlib.Core.List.{List, []}
use mathlib.Core.Bool.{Bool, true, false}
use mathlib.Core.Option.{none, some}
use Rattle.std.specs.Prelude.{None, Ok}
use Prim.Native.Nat.{ℕ, suc, ◌-◌, ◌≤◌, ◌<◌}
use lib.ListN.{length, drop, replicate}
use lib.Seq.{drop_at}
use lib.Dec.{ltb, eqb}
use native.Mathlib.Omega.{arith}
use borrow.Author.Tests.{ltb-true, le-ltb, lt-ltb}
use Rattle.word.specs.Pick.{pick, pick_t, pick_f, by_test}
use Rattle.word.specs.Key.{Key}
use Rattle.tree.specs.Tree.{below}
use Rattle.tree.specs.Walk.{not_above}
use Rattle.tree.specs.Walk as tree
use Rattle.node.specs.Chain.{longest_key, padded}
use Rattle.slots.specs.Limits.{most_depth}
use Rattle.slots.specs.Layout.{is_store, root_of, depth_of}
use Rattle.iter.specs.declared.Place.{Place}
use Rattle.iter.specs.declared.Place.TheVariants.{Start, End, At, Seeked}
use Rattle.iter.specs.declared.Cursor.{Cursor}
use Rattle.iter.specs.declared.Stepped.{Stepped}
use Rattle.iter.specs.declared.Sought.{Sought}
use Rattle.iter.specs.Walk.{Walked, bad, walked, forward_from, backward_from}
use Rattle.iter.specs.Cursor.{cursor_with, sought_number, sought_of, step_number, is_long, moved_to, stepped_of, walk_forward, walk_backward, forward_of, backward_of}
use Rattle.iter.specs.Mirror.{length_of}
use Rattle.iter.proofs.Walks.{place_of, key_in, own_key}

-- ---- zero behind the key

-- "bytes past the key are .. zero": all 288 for Start and End, which have no key
abbrev pub ZeroBehind : Cursor → Type 0
ZeroBehind c = drop (length_of c.place) c.key ≡ replicate (288 - length_of c.place) 0

zero_past : (k : Key) → drop (length k) (padded 288 0 k) ≡ replicate (288 - length k) 0
unfolding padded
zero_past k = drop_at k (replicate (288 - length k) 0) (length k) refl

-- an accepted step leaves zeros behind the key; "store, cursor unchanged" by any other
pub record Left (c : Cursor) (r : Stepped) : Type 0 where
  pub accepted : step_number r.step ≡ 0 → ZeroBehind r.cursor
  pub refused : (step_number r.step ≡ 0 → ⊥) → r.cursor ≡ c

moved_left : (c : Cursor) (p : Place) (w : Walked) → length_of p ≡ 0 → Left c (moved_to c p w)
moved_left c p bad z = record { accepted = λ e. absurd (omega (arith, e)); refused = λ e. refl }
moved_left c p (walked none) z = record { accepted = λ e. rw z (zero_past []); refused = λ e. absurd (e refl) }
moved_left c p (walked (some e)) z = record { accepted = λ x. zero_past e.key; refused = λ x. absurd (x refl) }

stepped_left : (s : List ℕ) (c : Cursor) (p : Place) (w : Walked) → length_of p ≡ 0 → Left c (stepped_of s c p w)
unfolding stepped_of
stepped_left s c p w z =
    by_test (Left c) (is_store s)
    (λ a.
    by_test (Left c) (is_long c.place) (λ b. record { accepted = λ e. absurd (omega (arith, e)); refused = λ e. refl })
    (λ b.
    by_test (Left c) (ltb most_depth (depth_of s)) (λ d. record { accepted = λ e. absurd (omega (arith, e)); refused = λ e. refl })
    (λ d. moved_left c p (pick (eqb (root_of s) 0) (walked none) w) z)))
    (λ a. record { accepted = λ e. absurd (omega (arith, e)); refused = λ e. refl })

pub forward_left : (s : List ℕ) (c : Cursor) → Left c (forward_of s c)
unfolding forward_of
forward_left s c = stepped_left s c End (walk_forward s c c.place) refl

pub backward_left : (s : List ℕ) (c : Cursor) → Left c (backward_of s c)
unfolding backward_of
backward_left s c = stepped_left s c Start (walk_backward s c c.place) refl

-- ---- a seek

module _ (k : Key) where
  -- what a seek gives for a key that is not too long
  pub record Seeks (r : Sought) : Type 0 where
    pub number : sought_number r ≡ 0
    pub place : r.cursor.place ≡ Seeked (length k)
    pub key : place_of r.cursor ≡ tree.Seeked k
    pub zeros : ZeroBehind r.cursor

  pub seek_gives : length k ≤ longest_key → Seeks (sought_of k)
  unfolding sought_of
  seek_gives l =
      by_test Seeks (ltb longest_key (length k)) (λ e. absurd (is_short e))
      (λ e. record { number = pick_t _ _ refl; place = refl; key = ap tree.Seeked (own_key k); zeros = zero_past k })
    where
      is_short : ltb longest_key (length k) ≡ true → ⊥
      is_short e = omega (arith, ltb-true longest_key (length k) e)

  pub seek_refuses : longest_key < length k → sought_number (sought_of k) ≡ 4
  unfolding sought_of
  seek_refuses l = ap sought_number (pick_t _ _ (lt-ltb longest_key (length k) l)) ∙ pick_f _ _ refl

-- ---- bytes past the key are ignored

-- the same answer; the same cursor too where it is accepted, and where not each has its own
pub record Alike (r q : Stepped) : Type 0 where
  pub step : r.step ≡ q.step
  pub cursor : step_number r.step ≡ 0 → r.cursor ≡ q.cursor

pick_alike : (b : Bool) {x y v w : Stepped} → Alike x v → Alike y w → Alike (pick b x y) (pick b v w)
unfolding pick
pick_alike true f g = f
pick_alike false f g = g

test_alike : {a b : Bool} → a ≡ b → {x y v w : Stepped} → Alike x v → Alike y w → Alike (pick a x y) (pick b v w)
test_alike {a} e {x} {y} {v} {w} f g = subst (λ (t : Bool). Alike (pick a x y) (pick t v w)) e (pick_alike a f g)

module _ (s : List ℕ) (c d : Cursor) where
  moved_alike : (p : Place) (w : Walked) → Alike (moved_to c p w) (moved_to d p w)
  moved_alike p bad = record { step = refl; cursor = λ e. absurd (omega (arith, e)) }
  moved_alike p (walked none) = record { step = refl; cursor = λ e. refl }
  moved_alike p (walked (some e)) = record { step = refl; cursor = λ x. refl }

  stepped_alike : (p : Place) (w : Walked) → c.place ≡ d.place → Alike (stepped_of s c p w) (stepped_of s d p w)
  unfolding stepped_of
  stepped_alike p w e =
      pick_alike (is_store s)
      (test_alike (ap is_long e) (record { step = refl; cursor = λ x. absurd (omega (arith, x)) })
      (pick_alike (ltb most_depth (depth_of s)) (record { step = refl; cursor = λ x. absurd (omega (arith, x)) })
      (moved_alike p (pick (eqb (root_of s) 0) (walked none) w))))
      (record { step = refl; cursor = λ x. absurd (omega (arith, x)) })

  forward_alike : (p : Place) → key_in c p ≡ key_in d p → walk_forward s c p ≡ walk_forward s d p
  forward_alike Start e = refl
  forward_alike End e = refl
  forward_alike (At n) e = ap (λ (k : Key). forward_from (not_above k) (suc (depth_of s)) s (root_of s) none) e
  forward_alike (Seeked n) e = ap (λ (k : Key). forward_from (below k) (suc (depth_of s)) s (root_of s) none) e

  backward_alike : (p : Place) → key_in c p ≡ key_in d p → walk_backward s c p ≡ walk_backward s d p
  backward_alike Start e = refl
  backward_alike End e = refl
  backward_alike (At n) e = ap (λ (k : Key). backward_from (below k) (suc (depth_of s)) s (root_of s) none) e
  backward_alike (Seeked n) e = ap (λ (k : Key). backward_from (not_above k) (suc (depth_of s)) s (root_of s) none) e

  pub forward_ignores : (p : Place) → c.place ≡ p → d.place ≡ p → key_in c p ≡ key_in d p → Alike (forward_of s c) (forward_of s d)
  unfolding forward_of
  forward_ignores p a b e =
      let same : walk_forward s c c.place ≡ walk_forward s d d.place = ap (walk_forward s c) a ∙ forward_alike p e ∙ ap (walk_forward s d) (sym b) in
      subst (λ (w : Walked). Alike (stepped_of s c End (walk_forward s c c.place)) (stepped_of s d End w)) same (stepped_alike End (walk_forward s c c.place) (a ∙ sym b))

  pub backward_ignores : (p : Place) → c.place ≡ p → d.place ≡ p → key_in c p ≡ key_in d p → Alike (backward_of s c) (backward_of s d)
  unfolding backward_of
  backward_ignores p a b e =
      let same : walk_backward s c c.place ≡ walk_backward s d d.place = ap (walk_backward s c) a ∙ backward_alike p e ∙ ap (walk_backward s d) (sym b) in
      subst (λ (w : Walked). Alike (stepped_of s c Start (walk_backward s c c.place)) (stepped_of s d Start w)) same (stepped_alike Start (walk_backward s c c.place) (a ∙ sym b))

-- ---- no node is read

module _ (s : List ℕ) (c : Cursor) (store : is_store s ≡ true) (shallow : depth_of s ≤ most_depth) where
  nothing_read : (p : Place) → is_long c.place ≡ false → stepped_of s c p (walked none) ≡ record { step = Ok None; cursor = cursor_with p [] }
  unfolding stepped_of
  nothing_read p l =
      pick_t _ _ store ∙ pick_f _ _ l ∙ pick_f _ _ (le-ltb most_depth (depth_of s) shallow)
      ∙ ap (moved_to c p) (by_test (λ (w : Walked). w ≡ walked none) (eqb (root_of s) 0) (λ e. refl) (λ e. refl))

  pub end_forward : c.place ≡ End → forward_of s c ≡ record { step = Ok None; cursor = cursor_with End [] }
  unfolding forward_of
  end_forward e = ap (λ (p : Place). stepped_of s c End (walk_forward s c p)) e ∙ nothing_read End (rw e)

  pub start_backward : c.place ≡ Start → backward_of s c ≡ record { step = Ok None; cursor = cursor_with Start [] }
  unfolding backward_of
  start_backward e = ap (λ (p : Place). stepped_of s c Start (walk_backward s c p)) e ∙ nothing_read Start (rw e)
