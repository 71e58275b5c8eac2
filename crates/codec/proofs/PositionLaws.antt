-- What `position` finds: on any keys it is the search of specs/Position.antt from index 0; with keys in order the index is the
-- number of keys below (or not above) the given one, and it is found exactly if it is there; and it is the index of tree's
-- zipper. Assumes nothing.
use mathlib.Core.Path.{◌≡◌, refl, sym, ap, ◌∙◌}
use mathlib.Core.List.{List, [], ◌∷◌, ◌++◌, map, append_assoc}
use mathlib.Core.Bool.{Bool, true, false, cond, ◌||◌}
use Prim.Native.Nat.{Ordering}
use Prim.Native.Nat.{ℕ, zero, suc, ◌+◌, ◌≤◌}
use lib.ListN.{length, get_or, drop, length-append}
use native.Mathlib.Omega.{arith}
use borrow.Author.Tests.{le-leb, lt-leb}
use Rattle.word.specs.Key.{Key, cmp, Lt, order_of}
use Rattle.std.specs.Ordering.{is_eq}
use Rattle.std.specs.declared.cmp.Ordering.{Ordering as Order}
use Rattle.word.specs.Pick.{pick, pick_t, pick_f}
use Rattle.word.specs.Part.{part}
use Rattle.word.proofs.KeyOrder.{cmp_swap, lt_trans, gt_lt, lt_gt}
use Rattle.tree.specs.Map.{Sep, AllAbove, Rising}
use Rattle.tree.specs.Tree.{Node, at, below, same}
use Rattle.tree.specs.Walk.{not_above}
use Rattle.tree.proofs.Cases.{by_bool, by_order, is_lt_lem, is_above_lem}
use Rattle.tree.proofs.Zipper.{position, seek_position}
use Rattle.codec.specs.declared.position.Found.{Found}
use Rattle.node.specs.Chain.{Step}
use Rattle.codec.specs.Codec.{Spot, Scan, scan, step_of}
use Rattle.codec.specs.Layout.{layout, places_of}
use Rattle.codec.specs.Position.{leading, is_next, found_in, found_past, found, goes_on, order_at, position_from, position_of}
use Rattle.node.proofs.ChainLaws.{get_or_padded, get_or_mapped}
use Rattle.codec.proofs.ScanLaws.{scan_lies}

-- ---- tree's zipper stands at this index

module _ {A C : Type 0} (p : Sep A → Bool) where
  leading_position : (r : List (Sep A × C)) → position p r ≡ leading p r
  leading_position [] = refl
  leading_position (x ∷ r) = rw (leading_position r)

  pub zipper_index : (n : Node A C) → length (at p n).lft ≡ leading p n.rest
  zipper_index n = seek_position p [] n.first n.rest ∙ omega (arith, leading_position n.rest)

  -- the children don't matter
  pub leading_mapped : {D : Type 0} (f : C → D) (r : List (Sep A × C)) → leading p (map (λ (x : Sep A × C). (x.0, f x.1)) r) ≡ leading p r
  leading_mapped f [] = refl
  leading_mapped f (x ∷ r) = rw (leading_mapped f r)

-- ---- keys in order

module _ {A : Type 0} where
  -- what holds of a separator holds of those with smaller keys
  abbrev Downward : (Sep A → Bool) → Type 0
  Downward p = (a b : Sep A) → Lt a.key b.key → p a ≡ false → p b ≡ false

  below_down : (k : Key) → Downward (below k)
  below_down k a b h e = by_bool (below k b) (λ t. cc (lt_trans a.key b.key k h (is_lt_lem (cmp b.key k) t))) (λ f. f)

  not_above_false : (k : Key) (s : Sep A) → not_above k s ≡ false → Lt k s.key
  not_above_false k s e = by_order (cmp k s.key) (λ p. p) (λ p. cc) (λ p. cc)

  above_not : (k : Key) (s : Sep A) → Lt k s.key → not_above k s ≡ false
  above_not k s e = rw e

  past_down : (k : Key) → Downward (not_above k)
  past_down k a b h e = above_not k b (lt_trans k a.key b.key (not_above_false k a e) h)

  below_not_same : (k : Key) (s : Sep A) → below k s ≡ true → same k s ≡ false
  below_not_same k s e = rw (lt_gt s.key k (is_lt_lem (cmp s.key k) e))

  above_not_same : (k : Key) (s : Sep A) → Lt k s.key → same k s ≡ false
  above_not_same k s e = rw e

module _ {A C : Type 0} where
  abbrev pub seps_of : List (Sep A × C) → List (Sep A)
  seps_of r = map (λ (x : Sep A × C). x.0) r

  -- of how many p holds
  abbrev pub counted : (Sep A → Bool) → List (Sep A × C) → ℕ
  counted p [] = 0
  counted p (x ∷ r) = cond (p x.0) (suc (counted p r)) (counted p r)

  abbrev pub has_key : Key → List (Sep A × C) → Bool
  has_key k [] = false
  has_key k (x ∷ r) = same k x.0 || has_key k r

  none_above : (p : Sep A → Bool) → Downward p → (a : Sep A) → p a ≡ false → (r : List (Sep A × C)) → AllAbove a.key (seps_of r) → counted p r ≡ 0
  none_above p down a e [] h = refl
  none_above p down a e (x ∷ r) h = rw (down a x.0 h.0 e) (none_above p down a e r h.1)

  leading_counts : (p : Sep A → Bool) → Downward p → (r : List (Sep A × C)) → Rising (seps_of r) → leading p r ≡ counted p r
  leading_counts p down [] h = refl
  leading_counts p down (x ∷ r) h =
      by_bool (p x.0) (λ e. rw e (ap suc (leading_counts p down r h.1))) (λ e. rw e (sym (none_above p down x.0 e r h.0)))

  -- the index is the number of keys below k
  pub index_below : (k : Key) (r : List (Sep A × C)) → Rising (seps_of r) → leading (below k) r ≡ counted (below k) r
  index_below k r h = leading_counts (below k) (below_down k) r h

  -- the index past k is the number of keys not above k
  pub index_past : (k : Key) (r : List (Sep A × C)) → Rising (seps_of r) → leading (not_above k) r ≡ counted (not_above k) r
  index_past k r h = leading_counts (not_above k) (past_down k) r h

  absent_above : (k : Key) (r : List (Sep A × C)) → AllAbove k (seps_of r) → has_key k r ≡ false
  absent_above k [] h = refl
  absent_above k (x ∷ r) h = rw (above_not_same k x.0 h.0) (absent_above k r h.1)

  all_up : (k j : Key) (r : List (Sep A × C)) → Lt k j → AllAbove j (seps_of r) → AllAbove k (seps_of r)
  all_up k j [] h g = tt
  all_up k j (x ∷ r) h g = (lt_trans k j x.0.key h g.0, all_up k j r h g.1)

  -- it is found exactly if it is there
  pub found_there : (k : Key) (r : List (Sep A × C)) → Rising (seps_of r) → is_next k (drop (leading (below k) r) r) ≡ has_key k r
  found_there k [] h = refl
  found_there k (x ∷ r) h =
      by_bool (below k x.0) (λ e. rw (e, below_not_same k x.0 e) (found_there k r h.1))
      (λ e. by_bool (same k x.0) (λ t. rw (e, t))
      (λ f. rw (e, f) (sym (absent_above k r (all_up k x.0.key r (is_above_lem k x.0 e f) h.0)))))

-- ---- the places of node bytes

pub step_start : (c : Scan) (p : List (Spot × ℕ)) (x : Spot × ℕ) (q : List (Spot × ℕ)) → c.rest ≡ p ++ (x ∷ q) → get_or (layout c).starts (length p) 0 ≡ x.0.start
unfolding layout
step_start c p x q e =
    let f : Spot × ℕ → ℕ = λ y. y.0.start in
    get_or_padded 8 0 (map f c.rest) (length p) ∙ rw e (get_or_mapped f 0 p x q)

pub step_len : (c : Scan) (p : List (Spot × ℕ)) (x : Spot × ℕ) (q : List (Spot × ℕ)) → c.rest ≡ p ++ (x ∷ q) → get_or (layout c).lens (length p) 0 ≡ x.0.len
unfolding layout
step_len c p x q e =
    let f : Spot × ℕ → ℕ = λ y. y.0.len in
    get_or_padded 8 0 (map f c.rest) (length p) ∙ rw e (get_or_mapped f 0 p x q)

pub layout_count : (c : Scan) → (layout c).count ≡ length c.rest
unfolding layout
layout_count c = refl

-- what is found among r, past k or at it
unfoldable pub found_by : Bool → Key → List Step → Found
found_by past k r = pick past (found_past k r) (found_in k r)

abbrev pub behind : ℕ → Found → Found
behind i f = found (i + f.index.0) f.at

pub front_lem : (f : Found) → behind 0 f ≡ f
front_lem f = let e : 0 + f.index.0 ≡ f.index.0 = omega arith in rw e

-- each answer moved i on
pub spread : (b : Bool) (i : ℕ) (e : Bool) (f : Found) → pick b (behind (i + 1) f) (found i e) ≡ behind i (pick b (behind 1 f) (found 0 e))
unfolding pick
spread true i e f = let q : i + (1 + f.index.0) ≡ i + 1 + f.index.0 = omega arith in rw q
spread false i e f = let q : i + 0 ≡ i = omega arith in rw q

one_more_lem : (n : ℕ) (b : Bool) → found (suc n) b ≡ found (1 + n) b
one_more_lem n b = let e : suc n ≡ 1 + n = omega arith in rw e

module _ (k : Key) where
  pub found_none : (past : Bool) → found_by past k [] ≡ found 0 false
  unfolding found_by found_in found_past pick
  found_none true = refl
  found_none false = refl

  -- the search goes on behind a smaller key, and past an equal one
  pub found_turn : (past : Bool) (x : Step) (r : List Step)
      → let o : Order = order_of (cmp k x.0.key) in found_by past k (x ∷ r) ≡ pick (goes_on past o) (behind 1 (found_by past k r)) (found 0 (is_eq o))
  unfolding found_by found_in found_past pick
  found_turn true x r =
      let n : ℕ = leading (not_above k) r in
      by_order (cmp k x.0.key) (λ e. rw e) (λ e. rw e (one_more_lem n false)) (λ e. rw e (one_more_lem n false))
  found_turn false x r =
      let n : ℕ = leading (below k) r in
      by_order (cmp k x.0.key) (λ e. rw (lt_gt k x.0.key e, e)) (λ e. rw (same_key e, e)) (λ e. rw (gt_lt k x.0.key e, e) (one_more_lem n (is_next k (drop n r))))
    where
      same_key : cmp k x.0.key ≡ Ordering.eq → cmp x.0.key k ≡ Ordering.eq
      same_key e = cc (cmp_swap k x.0.key)

  module _ (s : List ℕ) (past : Bool) where
    order_there : (c : Scan) (p : List (Spot × ℕ)) (x : Spot × ℕ) (q : List (Spot × ℕ)) → c.rest ≡ p ++ (x ∷ q)
        → order_at (layout c) s k (length p) ≡ order_of (cmp k (part s x.0.start x.0.len))
    unfolding order_at
    order_there c p x q e = rw (step_start c p x q e, step_len c p x q e)

    position_from_lem : (c : Scan) (p q : List (Spot × ℕ)) (n : ℕ) → c.rest ≡ p ++ q → length p + n ≡ 8 → length q ≤ n
        → position_from (layout c) s k past (length p) n ≡ behind (length p) (found_by past k (map (step_of s) q))
    unfolding position_from
    position_from_lem c p [] zero e h g = let f : length p + 0 ≡ 8 = omega arith in rw (found_none past, f)
    position_from_lem c p (x ∷ q) zero e h g = absurd (omega arith)
    position_from_lem c p [] (suc n) e h g =
        let l : (layout c).count ≡ length p = layout_count c ∙ ap length e ∙ simp length-append (omega arith) in
        let f : length p + 0 ≡ length p = omega arith in
        pick_t _ _ (le-leb (layout c).count (length p) (omega arith)) ∙ rw (found_none past, f)
    position_from_lem c p (x ∷ q) (suc n) e h g =
        let l : (layout c).count ≡ length p + suc (length q) = layout_count c ∙ ap length e ∙ simp length-append in
        let r : List Step = map (step_of s) q in
        let o : order_at (layout c) s k (length p) ≡ order_of (cmp k (part s x.0.start x.0.len)) = order_there c p x q e in
        let ih = position_from_lem c (p ++ (x ∷ [])) q n (e ∙ sym (append_assoc p (x ∷ []) q)) (simp length-append (omega arith)) (omega arith) in
        let m : length (p ++ (x ∷ [])) ≡ length p + 1 = simp length-append in
        let next : position_from (layout c) s k past (length p + 1) n ≡ behind (length p + 1) (found_by past k r) = rw m at ih in
        pick_f _ _ (lt-leb (layout c).count (length p) (omega arith))
        ∙ rw (o, next, found_turn past (step_of s x) r) (spread (goes_on past (order_of (cmp k (part s x.0.start x.0.len)))) (length p) (is_eq (order_of (cmp k (part s x.0.start x.0.len)))) (found_by past k r))

-- "`position` compares separators from index 0": on the places of node bytes it is the search among what the bytes hold
pub position_places : (s : List ℕ) (k : Key) (past : Bool) → position_of (places_of s) s k past ≡ found_by past k (map (step_of s) (scan s).rest)
unfolding position_of places_of
position_places s k past =
    position_from_lem k s past (scan s) [] (scan s).rest 8 refl refl (scan_lies s).most ∙ front_lem (found_by past k (map (step_of s) (scan s).rest))

pub position_finds : (s : List ℕ) (k : Key) → position_of (places_of s) s k false ≡ found_in k (map (step_of s) (scan s).rest)
unfolding found_by pick
position_finds s k = position_places s k false

pub position_past : (s : List ℕ) (k : Key) → position_of (places_of s) s k true ≡ found_past k (map (step_of s) (scan s).rest)
unfolding found_by pick
position_past s k = position_places s k true
