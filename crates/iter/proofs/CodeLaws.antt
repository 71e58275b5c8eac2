-- Each way through this crate's functions, in the words of specs/Mirror (a law NAME-k is of the k-th return); and the ties from
-- the mirror's walk to the walks and steps of specs/Walk and specs/Cursor. Assumes nothing.
use mathlib.Core.Path.{◌≡◌, refl, sym, ap, subst, ◌∙◌}
use mathlib.Core.List.{List, [], ◌∷◌, map, map-map}
use mathlib.Core.Bool.{Bool, true, false, not}
use mathlib.Core.Option.{Option, none, some}
use Rattle.std.specs.Prelude.{Some, None, Ok, Err, option_map}
use Prim.Native.Nat.{ℕ, zero, suc, ◌+◌, ◌-◌, ◌≤◌, ◌<◌}
use lib.ListN.{length, take, drop, get_or, replicate, length-map, length-drop, get_or-map}
use lib.Dec.{ltb, eqb}
use native.Mathlib.Omega.{arith}
use borrow.Author.Tests.{not-true, not-false, le-leb, lt-leb, le-ltb, lt-ltb, ltb-true, ltb-false, eq-eqb, ne_eqb}
use Rattle.word.specs.Pick.{pick, pick_t, pick_f, by_test}
use Rattle.word.specs.Key.{Key}
use Rattle.word.specs.Part.{part, over}
use Rattle.word.proofs.AtLaws.{copy_at_in}
use Rattle.word.specs.At.{copy_at}
use Rattle.word.proofs.PartLaws.{length_part, part_whole}
use Rattle.tree.specs.Map.{Sep}
use Rattle.tree.specs.Tree.{Node, seek, at, below, same, always, never}
use Rattle.tree.specs.Walk.{not_above, after, before}
use Rattle.tree.proofs.Cases.{by_bool}
use Rattle.node.specs.declared.Child.{Child}
use Rattle.node.specs.declared.Value.{Value}
use Rattle.codec.specs.declared.Places.{Places}
use Rattle.codec.specs.declared.position.Found.{Found}
use Rattle.node.specs.Chain.{Step, longest_key, child_of, value_of, padded}
use Rattle.codec.specs.Codec.{Spot, scan, step_of, is_accepted}
use Rattle.codec.specs.Layout.{layout, places_of}
use Rattle.codec.specs.Position.{leading, is_next, found_in, found_past}
use Rattle.node.proofs.ChainLaws.{get_or_padded}
use Rattle.codec.proofs.ScanLaws.{AllLie, scan_lies}
use Rattle.node.proofs.EditCode.{keys_part, copy_to_zeros}
use Rattle.codec.proofs.PositionLaws.{position_finds, position_past}
use Rattle.slots.specs.Limits.{most_depth}
use Rattle.slots.specs.Layout.{is_store, root_of, depth_of}
use Rattle.slots.specs.Code.{raw_in, bytes_in, places_in, places_at, first_in, rest_in, node_in, read_node_at}
use Rattle.slots.proofs.CodeLaws.{accepted_at, refused_at, ending_at}
use Rattle.iter.specs.declared.Place.{Place}
use Rattle.iter.specs.declared.Place.TheVariants.{Start, End, At, Seeked}
use Rattle.iter.specs.declared.Cursor.{Cursor}
use Rattle.iter.specs.declared.WalkError.TheVariants as error
use Rattle.iter.specs.declared.Stepped.{Stepped}
use Rattle.search.specs.declared.Turn.{Turn}
use Rattle.search.specs.declared.Turn.TheVariants.{First, NotBelow, Above, Last}
use Rattle.iter.specs.declared.Aim.{Aim}
use Rattle.iter.specs.declared.Aim.TheVariants.{Same, There, Before}
use Rattle.iter.specs.declared.Spot as place
use Rattle.iter.specs.declared.WalkError.{WalkError}
use Rattle.search.specs.declared.Spot as within
use Rattle.search.specs.declared.Sight.{Sight}
use Rattle.search.specs.Search.{turn_at, Sees}
use Rattle.slots.specs.Search.{SawAt, SeesAt}
use Rattle.slots.proofs.SearchLaws.{sees_at}
use Rattle.iter.specs.Answer.{MaybeValue, Answer}
use Rattle.iter.specs.Walk.{found_here, look_on, look_from, lookup_of, Walked, bad, walked, on_forward, on_backward, forward_from, backward_from}
use Rattle.iter.specs.Cursor.{sought_of, is_long, key_of, moved_to, stepped_of, walk_forward, walk_backward, forward_of, backward_of}
use Rattle.iter.specs.Mirror.{Way, Candidate, Ended, Checked, length_of, turn_forward, turn_backward, spot_of, step_by, stops_at, spot_at, taken_at, candidate_at, here_of, before_of, taken_of, turned, walk_down, down_by, walk_of, check_of, when, walked_to, leaves_it, moves_it}

below_suc : (d : ℕ) → (d ≡ 0 → ⊥) → d ≡ suc (d - 1)
below_suc zero z = absurd (z refl)
below_suc (suc d) z = omega arith

-- ---- the zipper of a chain by its index, the number of separators in front that p holds of

module _ (p : Sep ℕ → Bool) where
  leading_most : (r : List Step) → leading p r ≤ length r
  leading_most [] = omega arith
  leading_most (x ∷ r) = by_bool (p x.0) (λ e. rw e (omega (arith, leading_most r))) (λ e. rw e (omega arith))

  zip_child : (l : List (ℕ × Sep ℕ)) (c : ℕ) (r : List Step) → (seek p l c r).mid ≡ get_or (c ∷ map (λ (x : Step). x.1) r) (leading p r) 0
  zip_child l c [] = refl
  zip_child l c (x ∷ r) = by_bool (p x.0) (λ e. rw e (zip_child ((c, x.0) ∷ l) x.1 r)) (λ e. rw e)

  zip_right : (l : List (ℕ × Sep ℕ)) (c : ℕ) (r : List Step) → (seek p l c r).rgt ≡ drop (leading p r) r
  zip_right l c [] = refl
  zip_right l c (x ∷ r) = by_bool (p x.0) (λ e. rw e (zip_right ((c, x.0) ∷ l) x.1 r)) (λ e. rw e)

-- the separator before an index, or the candidate o
abbrev sep_before : Option (Sep ℕ) → ℕ → List Step → Option (Sep ℕ)
sep_before o zero r = o
sep_before o (suc i) r = after o (drop i r)

after_there : (a b : Option (Sep ℕ)) (i : ℕ) (r : List Step) → i < length r → after a (drop i r) ≡ after b (drop i r)
after_there a b i [] h = absurd (omega arith)
after_there a b zero (x ∷ r) h = refl
after_there a b (suc i) (x ∷ r) h = after_there a b i r (omega arith)

before_first : (o : Option (Sep ℕ)) (i : ℕ) (x : Step) (r : List Step) → i ≤ length r → sep_before (some x.0) i r ≡ after o (drop i (x ∷ r))
before_first o zero x r h = refl
before_first o (suc i) x r h = after_there (some x.0) o i r (omega arith)

zip_left : (p : Sep ℕ → Bool) (o : Option (Sep ℕ)) (l : List (ℕ × Sep ℕ)) (c : ℕ) (r : List Step) → before o (seek p l c r).lft ≡ sep_before (before o l) (leading p r) r
zip_left p o l c [] = refl
zip_left p o l c (x ∷ r) =
    by_bool (p x.0)
    (λ e. rw e (zip_left p o ((c, x.0) ∷ l) x.1 r ∙ before_first (before o l) (leading p r) x r (leading_most p r)))
    (λ e. rw e)

-- ---- where a walk turns

-- what holds of the separators before a turn
abbrev pub passed : Turn → Key → Sep ℕ → Bool
passed First k = never
passed NotBelow k = below k
passed Above k = not_above k
passed Last k = always

leading_never : (r : List Step) → leading never r ≡ 0
leading_never [] = refl
leading_never (x ∷ r) = refl

leading_always : (r : List Step) → leading always r ≡ length r
leading_always [] = refl
leading_always (x ∷ r) = ap suc (leading_always r)

module _ (b : List ℕ) where
  abbrev spots : List (Spot × ℕ)
  spots = (scan b).rest

  abbrev chain : List Step
  chain = map (step_of b) spots

  places_count : (places_of b).count ≡ length spots
  unfolding places_of layout
  places_count = refl

  turn_index : (t : Turn) (k : Key) → (turn_at t (places_of b) b k).index.0 ≡ leading (passed t k) chain
  unfolding found_in found_past
  turn_index First k = sym (leading_never chain)
  turn_index NotBelow k = ap (λ (f : Found). f.index.0) (position_finds b k)
  turn_index Above k = ap (λ (f : Found). f.index.0) (position_past b k)
  turn_index Last k = places_count ∙ sym (leading_always chain ∙ length-map spots (step_of b))

  turn_at_lem : (k : Key) → (turn_at NotBelow (places_of b) b k).at ≡ is_next k (drop (leading (below k) chain) chain)
  unfolding found_in
  turn_at_lem k = ap (λ (f : Found). f.at) (position_finds b k)

  -- the children, one more than the separators
  child_is : (i : ℕ) → (get_or (places_of b).children i (child_of 0)).0 ≡ get_or ((scan b).first ∷ map (λ (x : Step). x.1) chain) i 0
  unfolding places_of layout
  child_is i =
      let kids : List ℕ = (scan b).first ∷ map (λ (x : Spot × ℕ). x.1) spots in
      let same : map (λ (x : Spot × ℕ). child_of x.1) spots ≡ map child_of (map (λ (x : Spot × ℕ). x.1) spots) = sym (map-map child_of (λ (x : Spot × ℕ). x.1) spots) in
      let same-kids : map (λ (x : Step). x.1) chain ≡ map (λ (x : Spot × ℕ). x.1) spots = map-map (λ (x : Step). x.1) (step_of b) spots in
      ap (λ (c : Child). c.0) (get_or_padded 9 (child_of 0) (child_of (scan b).first ∷ map (λ (x : Spot × ℕ). child_of x.1) spots) i)
      ∙ ap (λ (l : List Child). (get_or (child_of (scan b).first ∷ l) i (child_of 0)).0) same
      ∙ ap (λ (c : Child). c.0) (get_or-map child_of kids i 0)
      ∙ ap (λ (l : List ℕ). get_or ((scan b).first ∷ l) i 0) (sym same-kids)

-- ---- a candidate

module _ {A : Type 0} where
  -- what stands first behind i is what stands at i
  drop_none : (l : List A) (i : ℕ) → drop i l ≡ [] → length l ≤ i
  drop_none l i e = omega (arith, length-drop i l, ap length e)

  drop_some : (l : List A) (i : ℕ) (y : A) (v : List A) → drop i l ≡ y ∷ v → i < length l
  drop_some l i y v e = omega (arith, length-drop i l, ap length e)

  module _ {B : Type 0} (f : A → B) where
    get_or_first : (z : B) (l : List A) (i : ℕ) (y : A) (v : List A) → drop i l ≡ y ∷ v → get_or (map f l) i z ≡ f y
    get_or_first z [] zero y v e = cc
    get_or_first z [] (suc i) y v e = cc
    get_or_first z (x ∷ l) zero y v e = cc
    get_or_first z (x ∷ l) (suc i) y v e = get_or_first z l i y v e

    drop_mapped : (l : List A) (i : ℕ) → drop i (map f l) ≡ map f (drop i l)
    drop_mapped [] zero = refl
    drop_mapped [] (suc i) = refl
    drop_mapped (x ∷ l) zero = refl
    drop_mapped (x ∷ l) (suc i) = drop_mapped l i

all_drop : (b : List ℕ) (l : List (Spot × ℕ)) (i : ℕ) → AllLie b l → AllLie b (drop i l)
all_drop b [] zero h = h
all_drop b [] (suc i) h = h
all_drop b (x ∷ l) zero h = h
all_drop b (x ∷ l) (suc i) h = all_drop b l i h.1

-- its key lies in its node's bytes, and fits a cursor
abbrev pub Lies : List ℕ → Candidate → Type 0
Lies s None = Unit {0}
Lies s (Some x) = (x.start + x.len ≤ length (bytes_in s x.child.0)) × (x.len ≤ longest_key)

-- and a walk is refused for a bad node alone
abbrev pub Ends : List ℕ → Ended → Type 0
Ends s (Err e) = e ≡ error.Bad
Ends s (Ok c) = Lies s c

-- a walk that ends with this candidate
abbrev keep : Candidate → Ended
keep c = Ok c

abbrev kept_to : List ℕ → Candidate → Walked
kept_to s c = walked_to s (Ok c)

module _ (s : List ℕ) (x : Child) (c : Candidate) where
  abbrev bytes : List ℕ
  bytes = bytes_in s x.0

  -- there is a separator at i, or there is none
  spot_none : (i : ℕ) → drop i (spots bytes) ≡ [] → spot_at (places_of bytes) x i c ≡ c
  unfolding spot_at
  spot_none i e = pick_t _ _ (le-leb (places_of bytes).count i (omega (arith, places_count bytes, drop_none (spots bytes) i e)))

  spot_some : (i : ℕ) (y : Spot × ℕ) (v : List (Spot × ℕ)) → drop i (spots bytes) ≡ y ∷ v
      → spot_at (places_of bytes) x i c ≡ Some (record { child = x; start = y.0.start; len = y.0.len; value = value_of y.0.value })
  unfolding spot_at places_of layout
  spot_some i y v e =
      let n = drop_some (spots bytes) i y v e in
      let m = (scan_lies bytes).most in
      let f : Spot × ℕ → ℕ = λ z. z.0.start in
      let g : Spot × ℕ → ℕ = λ z. z.0.len in
      let h : Spot × ℕ → Value = λ z. value_of z.0.value in
      let p : get_or (padded 8 0 (map f (spots bytes))) i 0 ≡ y.0.start = get_or_padded 8 0 (map f (spots bytes)) i ∙ get_or_first f 0 (spots bytes) i y v e in
      let q : get_or (padded 8 0 (map g (spots bytes))) i 0 ≡ y.0.len = get_or_padded 8 0 (map g (spots bytes)) i ∙ get_or_first g 0 (spots bytes) i y v e in
      let w : get_or (padded 8 (value_of 0) (map h (spots bytes))) i (value_of 0) ≡ value_of y.0.value = get_or_padded 8 (value_of 0) (map h (spots bytes)) i ∙ get_or_first h (value_of 0) (spots bytes) i y v e in
      pick_f _ _ (lt-leb (length (spots bytes)) i n) ∙ pick_f _ _ (le-ltb 7 i (omega arith))
      ∙ (λ j. Some (record { child = x; start = p j; len = q j; value = w j }))

  spot_lies : (i : ℕ) → Lies s c → Lies s (spot_at (places_of bytes) x i c)
  spot_lies i l = go (drop i (spots bytes)) refl (all_drop bytes (spots bytes) i (scan_lies bytes).spots)
    where
      go : (q : List (Spot × ℕ)) → drop i (spots bytes) ≡ q → AllLie bytes q → Lies s (spot_at (places_of bytes) x i c)
      go [] e h = subst (Lies s) (sym (spot_none i e)) l
      go (y ∷ v) e h = subst (Lies s) (sym (spot_some i y v e)) (h.0.within, h.0.short)

  module _ (o : Option (Sep ℕ)) (w : kept_to s c ≡ walked o) where
    spot_is : (i : ℕ) → kept_to s (spot_at (places_of bytes) x i c) ≡ walked (after o (drop i (chain bytes)))
    spot_is i = go (drop i (spots bytes)) refl
      where
        go : (q : List (Spot × ℕ)) → drop i (spots bytes) ≡ q → kept_to s (spot_at (places_of bytes) x i c) ≡ walked (after o (drop i (chain bytes)))
        go [] e =
            ap (kept_to s) (spot_none i e) ∙ w
            ∙ ap (λ (r : List Step). walked (after o r)) (sym (drop_mapped (step_of bytes) (spots bytes) i ∙ ap (map (step_of bytes)) e))
        go (y ∷ v) e =
            ap (kept_to s) (spot_some i y v e)
            ∙ ap (λ (r : List Step). walked (after o r)) (sym (drop_mapped (step_of bytes) (spots bytes) i ∙ ap (map (step_of bytes)) e))

    before_is : (i : ℕ) → kept_to s (taken_at Before (places_of bytes) x i c) ≡ walked (sep_before o i (chain bytes))
    before_is zero = ap (kept_to s) (pick_t _ _ (lt-ltb 0 1 (omega arith))) ∙ w
    before_is (suc i) =
        let n : suc i - 1 ≡ i = omega arith in
        ap (kept_to s) (pick_f _ _ (le-ltb (suc i) 1 (omega arith)) ∙ ap (λ (j : ℕ). spot_at (places_of bytes) x j c) n) ∙ spot_is i

-- ---- the walk down

module _ (s : List ℕ) (d : ℕ) (x : Child) where
  abbrev here : List ℕ
  here = bytes_in s x.0

  -- a node that is read
  record Read : Type 0 where
    places : places_at d s x.0 ≡ places_of here
    node : read_node_at d s x.0 ≡ some (node_in s x.0)

  is_read : is_accepted (places_at d s x.0).ending ≡ true → Read
  unfolding places_in
  is_read e =
      let a = accepted_at s x.0 d (ap is_accepted (sym (ending_at s x.0 d)) ∙ e) in
      record { places = a.places; node = a.found }

  not_read : is_accepted (places_at d s x.0).ending ≡ false → read_node_at d s x.0 ≡ none
  not_read e = refused_at s x.0 d (ap is_accepted (sym (ending_at s x.0 d)) ∙ e)

module _ (s : List ℕ) (t : Turn) (a : Aim) (k : Key) where
  -- the walk in a node that is read, and in one that is not
  down_read : (d : ℕ) (x : Child) (c : Candidate) → is_accepted (places_at d s x.0).ending ≡ true
      → walk_down t a k (suc d) s x c ≡ turned t a k (walk_down t a k d s) (places_of (bytes_in s x.0)) x c (turn_at t (places_of (bytes_in s x.0)) (bytes_in s x.0) k)
  unfolding walk_down
  down_read d x c e =
      pick_t _ _ e
      ∙ ap (λ (p : Places). turned t a k (walk_down t a k d s) p x c (turn_at t p (bytes_in s x.0) k)) (is_read s d x e).places

  down_bad : (d : ℕ) (x : Child) (c : Candidate) → is_accepted (places_at d s x.0).ending ≡ false → walk_down t a k (suc d) s x c ≡ Err error.Bad
  unfolding walk_down
  down_bad d x c e = pick_f _ _ e

  taken_lies : (x : Child) (i : ℕ) (c : Candidate) → Lies s c → Lies s (taken_at a (places_of (bytes_in s x.0)) x i c)
  taken_lies x i c l = go a
    where
      go : (a : Aim) → Lies s (taken_at a (places_of (bytes_in s x.0)) x i c)
      go Same = l
      go There = spot_lies s x c i l
      go Before = by_test (Lies s) (ltb i 1) (λ e. l) (λ e. spot_lies s x c (i - 1) l)

  down_lies : (d : ℕ) (x : Child) (c : Candidate) → Lies s c → Ends s (walk_down t a k d s x c)
  unfolding walk_down
  down_lies zero x c l = l
  down_lies (suc d) x c l =
      let p : Places = places_of (bytes_in s x.0) in
      let f : Found = turn_at t p (bytes_in s x.0) k in
      by_bool (is_accepted (places_at d s x.0).ending)
      (λ e.
      subst (Ends s) (sym (down_read d x c e))
      (by_test (Ends s) (stops_at a f.at) (λ q. spot_lies s x c f.index.0 l)
      (λ q. down_lies d (get_or p.children f.index.0 (child_of 0)) (taken_at a p x f.index.0 c) (taken_lies x f.index.0 c l))))
      (λ e. subst (Ends s) (sym (down_bad d x c e)) refl)

-- the walk goes on in the child where it turns
module _ (s : List ℕ) (t : Turn) (k : Key) (x : Child) where
  abbrev node : Node ℕ ℕ
  node = node_in s x.0

  abbrev index : ℕ
  index = (turn_at t (places_of (bytes_in s x.0)) (bytes_in s x.0) k).index.0

  next_child : (get_or (places_of (bytes_in s x.0)).children index (child_of 0)).0 ≡ (at (passed t k) node).mid
  next_child =
      child_is (bytes_in s x.0) index
      ∙ ap (λ (i : ℕ). get_or (first_in s x.0 ∷ map (λ (y : Step). y.1) (rest_in s x.0)) i 0) (turn_index (bytes_in s x.0) t k)
      ∙ sym (zip_child (passed t k) [] (first_in s x.0) (rest_in s x.0))

  right_is : (at (passed t k) node).rgt ≡ drop index (rest_in s x.0)
  right_is =
      zip_right (passed t k) [] (first_in s x.0) (rest_in s x.0)
      ∙ ap (λ (i : ℕ). drop i (rest_in s x.0)) (sym (turn_index (bytes_in s x.0) t k))

  left_is : (o : Option (Sep ℕ)) → before o (at (passed t k) node).lft ≡ sep_before o index (rest_in s x.0)
  left_is o =
      zip_left (passed t k) o [] (first_in s x.0) (rest_in s x.0)
      ∙ ap (λ (i : ℕ). sep_before o i (rest_in s x.0)) (sym (turn_index (bytes_in s x.0) t k))

module _ (s : List ℕ) (t : Turn) (k : Key) where
  pub there_is : (d : ℕ) (x : Child) (c : Candidate) (o : Option (Sep ℕ)) → kept_to s c ≡ walked o → walked_to s (walk_down t There k d s x c) ≡ forward_from (passed t k) d s x.0 o
  unfolding walk_down forward_from
  there_is zero x c o w = w
  there_is (suc d) x c o w =
      let p : Places = places_of (bytes_in s x.0) in
      let i : ℕ = index s t k x in
      let y : Child = get_or p.children i (child_of 0) in
      by_bool (is_accepted (places_at d s x.0).ending)
      (λ e.
      ap (walked_to s) (down_read s t There k d x c e ∙ pick_f _ _ refl)
      ∙ there_is d y (spot_at p x i c) (after o (drop i (rest_in s x.0))) (spot_is s x c o w i)
      ∙ ap (λ (z : ℕ). forward_from (passed t k) d s z (after o (drop i (rest_in s x.0)))) (next_child s t k x)
      ∙ ap (λ (r : List Step). forward_from (passed t k) d s (at (passed t k) (node_in s x.0)).mid (after o r)) (sym (right_is s t k x))
      ∙ ap (on_forward (passed t k) (forward_from (passed t k) d s) o) (sym (is_read s d x e).node))
      (λ e. ap (walked_to s) (down_bad s t There k d x c e) ∙ ap (on_forward (passed t k) (forward_from (passed t k) d s) o) (sym (not_read s d x e)))

  pub before_walk : (d : ℕ) (x : Child) (c : Candidate) (o : Option (Sep ℕ)) → kept_to s c ≡ walked o → walked_to s (walk_down t Before k d s x c) ≡ backward_from (passed t k) d s x.0 o
  unfolding walk_down backward_from
  before_walk zero x c o w = w
  before_walk (suc d) x c o w =
      let p : Places = places_of (bytes_in s x.0) in
      let i : ℕ = index s t k x in
      let y : Child = get_or p.children i (child_of 0) in
      by_bool (is_accepted (places_at d s x.0).ending)
      (λ e.
      ap (walked_to s) (down_read s t Before k d x c e ∙ pick_f _ _ refl)
      ∙ before_walk d y (taken_at Before p x i c) (sep_before o i (rest_in s x.0)) (before_is s x c o w i)
      ∙ ap (λ (z : ℕ). backward_from (passed t k) d s z (sep_before o i (rest_in s x.0))) (next_child s t k x)
      ∙ ap (backward_from (passed t k) d s (at (passed t k) (node_in s x.0)).mid) (sym (left_is s t k x o))
      ∙ ap (on_backward (passed t k) (backward_from (passed t k) d s) o) (sym (is_read s d x e).node))
      (λ e. ap (walked_to s) (down_bad s t Before k d x c e) ∙ ap (on_backward (passed t k) (backward_from (passed t k) d s) o) (sym (not_read s d x e)))

-- ---- lookup: the walk to the key itself

abbrev pub looked_by : Walked → Answer
looked_by bad = Err error.Bad
looked_by (walked none) = Ok None
looked_by (walked (some e)) = Ok (Some (value_of e.val))

module _ (s : List ℕ) (k : Key) where
  -- in a node: what stands right of the zipper tells whether the key is there
  same_node : (below' : Answer) (r : List Step) (c : Candidate) (b : Bool) (m : Ended) → b ≡ is_next k r → kept_to s c ≡ walked (after none r) → looked_by (walked_to s m) ≡ below'
      → looked_by (walked_to s (pick b (Ok c) m)) ≡ found_here k below' r
  same_node below' [] c b m h w e = ap (λ (z : Ended). looked_by (walked_to s z)) (pick_f _ _ h) ∙ e
  same_node below' (y ∷ r) c b m h w e =
      by_bool (same k y.0)
      (λ q. rw q (ap (λ (z : Ended). looked_by (walked_to s z)) (pick_t _ _ (h ∙ q)) ∙ ap looked_by w))
      (λ q. rw q (ap (λ (z : Ended). looked_by (walked_to s z)) (pick_f _ _ (h ∙ q)) ∙ e))

  pub same_is : (d : ℕ) (x : Child) → looked_by (walked_to s (walk_down NotBelow Same k d s x None)) ≡ look_from k d s x.0
  unfolding walk_down look_from
  same_is zero x = refl
  same_is (suc d) x =
      let b : List ℕ = bytes_in s x.0 in
      let p : Places = places_of b in
      let i : ℕ = index s NotBelow k x in
      let y : Child = get_or p.children i (child_of 0) in
      let ends : (turn_at NotBelow p b k).at ≡ is_next k (at (below k) (node_in s x.0)).rgt =
      turn_at_lem b k ∙ ap (is_next k) (sym (zip_right (below k) [] (first_in s x.0) (rest_in s x.0))) in
      let spot : kept_to s (spot_at p x i None) ≡ walked (after none (at (below k) (node_in s x.0)).rgt) =
      spot_is s x None none refl i ∙ ap (λ (r : List Step). walked (after none r)) (sym (right_is s NotBelow k x)) in
      by_bool (is_accepted (places_at d s x.0).ending)
      (λ e.
      ap (λ (z : Ended). looked_by (walked_to s z)) (down_read s NotBelow Same k d x None e)
      ∙ same_node (look_from k d s (at (below k) (node_in s x.0)).mid) (at (below k) (node_in s x.0)).rgt (spot_at p x i None) (turn_at NotBelow p b k).at
      (walk_down NotBelow Same k d s y None) ends spot (same_is d y ∙ ap (look_from k d s) (next_child s NotBelow k x))
      ∙ ap (look_on k (look_from k d s)) (sym (is_read s d x e).node))
      (λ e.
      ap (λ (z : Ended). looked_by (walked_to s z)) (down_bad s NotBelow Same k d x None e)
      ∙ ap (look_on k (look_from k d s)) (sym (not_read s d x e)))

-- ---- the ways through the functions: in a node

abbrev some_spot : place.Spot → Candidate
some_spot x = Some x

module _ (p : Places) (x : Child) (i : ℕ) (c : Candidate) where
  spot_1 : p.count ≤ i → c ≡ spot_at p x i c
  unfolding spot_at
  spot_1 h = sym (pick_t _ _ (le-leb p.count i h))

  spot_3 : i < p.count → i ≤ 7 → Some (record { child = x; start = get_or p.starts i 0; len = get_or p.lens i 0; value = get_or p.values i (value_of 0) }) ≡ spot_at p x i c
  unfolding spot_at
  spot_3 l h = sym (pick_f _ _ (lt-leb p.count i l) ∙ pick_f _ _ (le-ltb 7 i h))

pub here_1 : (v : Sight) (x : Child) (c : Candidate) → not v.turned ≡ true → c ≡ here_of v x c
unfolding here_of
here_1 v x c h = sym (pick_f _ _ (not-true v.turned h))

pub here_2 : (v : Sight) (x : Child) (c : Candidate) {r : place.Spot} → not v.turned ≡ false → r ≡ candidate_at x v.here → Some r ≡ here_of v x c
unfolding here_of
here_2 v x c h q = ap some_spot q ∙ sym (pick_t _ _ (not-false v.turned h))

-- in an arm for u, the answer is what it would be for u
module _ {a u : Aim} (v : Sight) (x : Child) (c : Candidate) {r : Candidate} (e : a ≡ u) where
  pub taken_arm : r ≡ taken_of u v x c → r ≡ taken_of a v x c
  taken_arm q = rw e q

pub taken_first : (v : Sight) (x : Child) (c : Candidate) → v.found.index.0 < 1 → c ≡ before_of v x c
unfolding before_of
taken_first v x c h = sym (pick_t _ _ (lt-ltb v.found.index.0 1 h))

pub taken_before : (v : Sight) (x : Child) (c : Candidate) {r : place.Spot} → 1 ≤ v.found.index.0 → r ≡ candidate_at x v.before → Some r ≡ before_of v x c
unfolding before_of
taken_before v x c h q = ap some_spot q ∙ sym (pick_f _ _ (le-ltb v.found.index.0 1 h))

-- ---- what is seen in a node that is read

abbrev seen_at : Child → within.Spot → Candidate
seen_at x y = Some (candidate_at x y)

module _ (s : List ℕ) (d : ℕ) (x : Child) (t : Turn) (k : Key) {v : Sight} (saw : SawAt t d s x.0 k v) where
  abbrev places : Places
  places = places_at d s x.0

  is_seen : SeesAt t d s x.0 k v
  is_seen = sees_at t d s x.0 k saw

  module _ (good : not v.good ≡ false) where
    seen : Sees t places (bytes_in s x.0) k v
    seen = is_seen.sees (not-false v.good good)

    read_lem : Read s d x
    read_lem = is_read s d x (sym is_seen.good_is ∙ not-false v.good good)

    count_most : places.count ≤ 8
    count_most = omega (arith, ap (λ (p : Places). p.count) read_lem.places, places_count (bytes_in s x.0), (scan_lies (bytes_in s x.0)).most)

    index_most : v.found.index.0 ≤ places.count
    index_most =
        let b : List ℕ = bytes_in s x.0 in
        let i : v.found.index.0 ≡ leading (passed t k) (chain b) = ap (λ (f : Found). f.index.0) seen.found_is ∙ ap (λ (p : Places). (turn_at t p b k).index.0) read_lem.places ∙ turn_index b t k in
        omega (arith, i, leading_most (passed t k) (chain b), length-map (spots b) (step_of b), places_count b, ap (λ (p : Places). p.count) read_lem.places)

    here_is : (c : Candidate) → here_of v x c ≡ spot_at places x v.found.index.0 c
    unfolding here_of
    here_is c =
        by_bool v.turned
        (λ e.
        let l : v.found.index.0 < places.count = ltb-true v.found.index.0 places.count (sym seen.turned_is ∙ e) in
        pick_t _ _ e ∙ ap (seen_at x) (seen.here_is e) ∙ spot_3 places x v.found.index.0 c l (omega (arith, count_most)))
        (λ e. pick_f _ _ e ∙ spot_1 places x v.found.index.0 c (ltb-false v.found.index.0 places.count (sym seen.turned_is ∙ e)))

    before_here : (c : Candidate) → before_of v x c ≡ taken_at Before places x v.found.index.0 c
    unfolding before_of
    before_here c = go v.found.index.0 refl
      where
        go : (i : ℕ) → v.found.index.0 ≡ i → before_of v x c ≡ taken_at Before places x v.found.index.0 c
        go zero e = pick_t _ _ (lt-ltb v.found.index.0 1 (omega arith)) ∙ sym (pick_t _ _ (lt-ltb v.found.index.0 1 (omega arith)))
        go (suc i) e =
            pick_f _ _ (le-ltb v.found.index.0 1 (omega arith))
            ∙ ap (seen_at x) (seen.before_is (omega arith))
            ∙ spot_3 places x (v.found.index.0 - 1) c (omega (arith, index_most)) (omega (arith, index_most, count_most))
            ∙ sym (pick_f _ _ (le-ltb v.found.index.0 1 (omega arith)))

    taken_is : (a : Aim) (c : Candidate) → taken_of a v x c ≡ taken_at a places x v.found.index.0 c
    taken_is Same c = refl
    taken_is There c = here_is c
    taken_is Before c = before_here c

-- ---- the ways through the walk

module _ (t : Turn) (a : Aim) (k : Key) (s : List ℕ) where
  -- the invariant of the loop: what is left of the walk makes the whole
  abbrev pub WalkLeft : Ended → ℕ → Child → Candidate → Type 0
  WalkLeft whole d x c = whole ≡ walk_down t a k (suc d) s x c

  module _ (whole : Ended) (d : ℕ) (x : Child) (c : Candidate) (left : WalkLeft whole d x c) {v : Sight} (saw : SawAt t d s x.0 k v) where
    abbrev at_depth : Places
    at_depth = places_at d s x.0

    pub down_1 : not v.good ≡ true → Err error.Bad ≡ whole
    down_1 h = sym (left ∙ down_bad s t a k d x c (sym (is_seen s d x t k saw).good_is ∙ not-true v.good h))

    module _ (h : not v.good ≡ false) {e : Bool} (ends : e ≡ stops_at a v.found.at) where
      -- the node is read, with the function's own facts
      node_walk : whole ≡ turned t a k (walk_down t a k d s) at_depth x c v.found
      unfolding walk_down
      node_walk =
          left ∙ pick_t _ _ (sym (is_seen s d x t k saw).good_is ∙ not-false v.good h)
          ∙ ap (turned t a k (walk_down t a k d s) at_depth x c) (sym (seen s d x t k saw h).found_is)

      pub down_2 : {r : Candidate} → e ≡ true → r ≡ here_of v x c → Ok r ≡ whole
      down_2 q w = ap keep (w ∙ here_is s d x t k saw h c) ∙ sym (node_walk ∙ pick_t _ _ (sym ends ∙ q))

      module _ (q : e ≡ false) {m : Candidate} (takes : m ≡ taken_of a v x c) where
        goes_on_lem : whole ≡ walk_down t a k d s v.child m
        goes_on_lem =
            node_walk ∙ pick_f _ _ (sym ends ∙ q)
            ∙ ap (λ (y : Child). walk_down t a k d s y (taken_at a at_depth x v.found.index.0 c)) (sym (seen s d x t k saw h).child_is)
            ∙ ap (walk_down t a k d s v.child) (sym (takes ∙ taken_is s d x t k saw h a c))

        pub down_3 : d ≡ 0 → Ok m ≡ whole
        unfolding walk_down
        down_3 z = sym (goes_on_lem ∙ ap (λ (n : ℕ). walk_down t a k n s v.child m) z)

        pub down_4 : (d ≡ 0 → ⊥) → WalkLeft whole (d - 1) v.child m
        down_4 z = goes_on_lem ∙ ap (λ (n : ℕ). walk_down t a k n s v.child m) (below_suc d z)

module _ (w : Way) (a : Aim) (k : Key) (s : List ℕ) (root : Child) (reads : root.0 ≡ root_of s) where
  pub walk_1 : root.0 ≡ 0 → Ok None ≡ walk_of w a k s
  unfolding walk_of
  walk_1 z = sym (pick_t _ _ (eq-eqb (root_of s) 0 (sym reads ∙ z)))

  module _ (z : root.0 ≡ 0 → ⊥) where
    there : eqb (root_of s) 0 ≡ false
    there = ne_eqb (root_of s) 0 (λ q. z (reads ∙ q))

    pub walk_2 : w ≡ None → Ok None ≡ walk_of w a k s
    unfolding walk_of
    walk_2 q = sym (pick_f _ _ there ∙ ap (λ (v : Way). down_by v a k s) q)

    pub walk_3 : {t : Turn} {d : ℕ} {r : Ended} → w ≡ Some t → d ≡ depth_of s → r ≡ walk_down t a k (suc d) s root None → r ≡ walk_of w a k s
    unfolding walk_of
    walk_3 {t} {d} {r} q e h =
        let y : root ≡ child_of (root_of s) = λ i. record { 0 = reads i } in
        h ∙ ap (λ (m : ℕ). walk_down t a k (suc m) s root None) e ∙ ap (λ (v : Child). walk_down t a k (suc (depth_of s)) s v None) y
        ∙ sym (pick_f _ _ there ∙ ap (λ (v : Way). down_by v a k s) q)

by_lies : (w : Way) (a : Aim) (k : Key) (s : List ℕ) → Ends s (down_by w a k s)
by_lies None a k s = tt
by_lies (Some t) a k s = down_lies s t a k (suc (depth_of s)) (child_of (root_of s)) None tt

walk_lies : (w : Way) (a : Aim) (k : Key) (s : List ℕ) → Ends s (walk_of w a k s)
unfolding walk_of
walk_lies w a k s = by_test (Ends s) (eqb (root_of s) 0) (λ e. tt) (λ e. by_lies w a k s)

-- ---- the refusals before a walk

module _ (s : List ℕ) (n : ℕ) where
  module _ {b : Bool} (store : b ≡ is_store s) where
    pub check_1 : not b ≡ true → Err error.NotStore ≡ check_of s n
    unfolding check_of
    check_1 h = sym (pick_f _ _ (sym store ∙ not-true b h))

    module _ (h : not b ≡ false) where
      pub check_2 : longest_key < n → Err error.LongKey ≡ check_of s n
      unfolding check_of
      check_2 l = sym (pick_t _ _ (sym store ∙ not-false b h) ∙ pick_t _ _ (lt-ltb longest_key n l))

      module _ (l : n ≤ longest_key) {d : ℕ} (depth : d ≡ depth_of s) where
        pub check_3 : most_depth < d → Err error.Bad ≡ check_of s n
        unfolding check_of
        check_3 g = sym (pick_t _ _ (sym store ∙ not-false b h) ∙ pick_f _ _ (le-ltb longest_key n l) ∙ pick_t _ _ (lt-ltb most_depth (depth_of s) (rw depth at g)))

        pub check_4 : d ≤ most_depth → Ok tt ≡ check_of s n
        unfolding check_of
        check_4 g = sym (pick_t _ _ (sym store ∙ not-false b h) ∙ pick_f _ _ (le-ltb longest_key n l) ∙ pick_f _ _ (le-ltb most_depth (depth_of s) (rw depth at g)))

  -- the tests of a check, wherever they are made
  check_is : {A : Type 0} (f : WalkError → A) (y : A)
      → when (check_of s n) f y ≡ pick (is_store s) (pick (ltb longest_key n) (f error.LongKey) (pick (ltb most_depth (depth_of s)) (f error.Bad) y)) (f error.NotStore)
  unfolding check_of pick
  check_is {A} f y = go (is_store s) (ltb longest_key n) (ltb most_depth (depth_of s))
    where
      go : (a b d : Bool) → when (pick a (pick b (Err error.LongKey) (pick d (Err error.Bad) (Ok tt))) (Err error.NotStore)) f y ≡ pick a (pick b (f error.LongKey) (pick d (f error.Bad) y)) (f error.NotStore)
      go false b d = refl
      go true true d = refl
      go true false true = refl
      go true false false = refl

  -- an accepted length fits
  pub check_fits : {q : Checked} → q ≡ check_of s n → {u : Unit} → q ≡ Ok u → n ≤ longest_key
  unfolding check_of pick
  check_fits {q} e {u} h = go (is_store s) (ltb longest_key n) refl (sym e ∙ h)
    where
      go : (a b : Bool) → ltb longest_key n ≡ b → pick a (pick b (Err error.LongKey) (pick (ltb most_depth (depth_of s)) (Err error.Bad) (Ok tt))) (Err error.NotStore) ≡ Ok u → n ≤ longest_key
      go false b t c = cc
      go true true t c = cc
      go true false t c = ltb-false longest_key n t

-- ---- lookup

module _ (s : List ℕ) (k : Key) where
  root_same : pick (eqb (root_of s) 0) (Ok None) (look_from k (suc (depth_of s)) s (root_of s)) ≡ looked_by (walked_to s (walk_of (Some NotBelow) Same k s))
  unfolding walk_of
  root_same =
      by_bool (eqb (root_of s) 0)
      (λ e. pick_t _ _ e ∙ ap (λ (c : Ended). looked_by (walked_to s c)) (sym (pick_t _ _ e)))
      (λ e.
      pick_f _ _ e ∙ sym (same_is s k (suc (depth_of s)) (child_of (root_of s)))
      ∙ ap (λ (c : Ended). looked_by (walked_to s c)) (sym (pick_f _ _ e)))

  lookup_when : when (check_of s (length k)) (λ e. Err e) (looked_by (walked_to s (walk_of (Some NotBelow) Same k s))) ≡ lookup_of s k
  unfolding lookup_of
  lookup_when = check_is s (length k) (λ e. Err e) (looked_by (walked_to s (walk_of (Some NotBelow) Same k s))) ∙ rw (← root_same)

  module _ {q : Checked} (checked : q ≡ check_of s (length k)) where
    after_check : when q (λ e. Err e) (looked_by (walked_to s (walk_of (Some NotBelow) Same k s))) ≡ lookup_of s k
    after_check = ap (λ (q : Checked). when q (λ e. Err e) (looked_by (walked_to s (walk_of (Some NotBelow) Same k s)))) checked ∙ lookup_when

    pub lookup_1 : {e : WalkError} → q ≡ Err e → Err e ≡ lookup_of s k
    lookup_1 h = ap (λ (q : Checked). when q (λ e. Err e) (looked_by (walked_to s (walk_of (Some NotBelow) Same k s)))) (sym h) ∙ after_check

    module _ {u : Unit} (h : q ≡ Ok u) {w : Ended} (walks : w ≡ walk_of (Some NotBelow) Same k s) where
      lookup_by_walk : looked_by (walked_to s w) ≡ lookup_of s k
      lookup_by_walk =
          ap (λ (z : Ended). looked_by (walked_to s z)) walks
          ∙ ap (λ (q : Checked). when q (λ e. Err e) (looked_by (walked_to s (walk_of (Some NotBelow) Same k s)))) (sym h) ∙ after_check

      pub lookup_2 : {e : WalkError} → w ≡ Err e → Err e ≡ lookup_of s k
      lookup_2 {e} f =
          let bad : e ≡ error.Bad = subst (Ends s) (sym walks ∙ f) (walk_lies (Some NotBelow) Same k s) in
          ap refuse bad ∙ ap (λ (z : Ended). looked_by (walked_to s z)) (sym f) ∙ lookup_by_walk
        where
          refuse : WalkError → Answer
          refuse e = Err e

      pub lookup_3 : {c : Candidate} {o : MaybeValue} → w ≡ Ok c → o ≡ option_map (λ (x : place.Spot). x.value) c → Ok o ≡ lookup_of s k
      lookup_3 {c} f a = ap looked_ok a ∙ looked_kept c ∙ ap (λ (z : Ended). looked_by (walked_to s z)) (sym f) ∙ lookup_by_walk
        where
          looked_ok : MaybeValue → Answer
          looked_ok o = Ok o

          looked_kept : (c : Candidate) → Ok (option_map (λ (x : place.Spot). x.value) c) ≡ looked_by (kept_to s c)
          looked_kept None = refl
          looked_kept (Some x) = refl

-- ---- the cursor

pub empty_key : replicate {A = ℕ} 288 0 ≡ padded 288 0 []
unfolding padded
empty_key = refl

-- a copy out of a node that was read is one out of the bytes there
copied_raw : (s : List ℕ) (x start len : ℕ) (d : List ℕ) → start + len ≤ length (bytes_in s x) → copy_at d 0 (raw_in s x) start len ≡ copy_at d 0 (bytes_in s x) start len
unfolding bytes_in
copied_raw s x start len d =
    by_test (λ (b : List ℕ). start + len ≤ length b → copy_at d 0 (raw_in s x) start len ≡ copy_at d 0 b start len) (places_of (raw_in s x)).standard
    (λ e h. refl)
    (λ e h. let z : start ≡ 0 = omega arith in let n : len ≡ 0 = omega arith in rw (z, n) (none (raw_in s x) ∙ sym (none [])))
  where
    none : (b : List ℕ) → copy_at d 0 b 0 0 ≡ over d 0 []
    none b = unfold part in copy_at_in d 0 b 0 0 (omega arith) (omega arith)

pub copied_key : (b : List ℕ) (start len : ℕ) {o : List ℕ} → start + len ≤ length b → len ≤ longest_key → o ≡ copy_at (replicate 288 0) 0 b start len → o ≡ padded 288 0 (part b start len)
copied_key b start len h g e = keys_part b start len 288 h g (copy_to_zeros 288 b start len e)

module _ (k : Key) where
  pub seek_1 : longest_key < length k → record { accepted = false; cursor = record { place = Start; key = replicate 288 0 } } ≡ sought_of k
  unfolding sought_of
  seek_1 h = ap (λ (o : List ℕ). record { accepted = false; cursor = record { place = Start; key = o } }) empty_key ∙ sym (pick_t _ _ (lt-ltb longest_key (length k) h))

  pub seek_2 : {o : List ℕ} → length k ≤ longest_key → o ≡ copy_at (replicate 288 0) 0 k 0 (length k)
      → record { accepted = true; cursor = record { place = Seeked (length k); key = o } } ≡ sought_of k
  unfolding sought_of
  seek_2 {o} h e =
      let q : o ≡ padded 288 0 k = copied_key k 0 (length k) (omega arith) h e ∙ ap (padded 288 0) (part_whole k) in
      ap (λ (o : List ℕ). record { accepted = true; cursor = record { place = Seeked (length k); key = o } }) q ∙ sym (pick_f _ _ (le-ltb longest_key (length k) h))

module _ (s : List ℕ) (c : Cursor) (w : Way) (a : Aim) where
  abbrev walked_for : Ended
  walked_for = walk_of w a (key_of c (length_of c.place)) s

  module _ {n : ℕ} (len : n ≡ length_of c.place) {q : Checked} (checked : q ≡ check_of s n) where
    behind_check : when q (λ e. Err e) walked_for ≡ spot_of s c w a
    unfolding spot_of
    behind_check = ap (λ (q : Checked). when q (λ e. Err e) walked_for) (checked ∙ ap (check_of s) len)

    pub spot_for_1 : {e : WalkError} → q ≡ Err e → Err e ≡ spot_of s c w a
    spot_for_1 h = ap (λ (q : Checked). when q (λ e. Err e) walked_for) (sym h) ∙ behind_check

    pub spot_for_2 : {u : Unit} {r : Ended} → q ≡ Ok u → r ≡ walk_of w a (take n c.key) s → r ≡ spot_of s c w a
    spot_for_2 h e = e ∙ ap (λ (m : ℕ). walk_of w a (take m c.key) s) len ∙ ap (λ (q : Checked). when q (λ e. Err e) walked_for) (sym h) ∙ behind_check

  module _ (p : Place) {r : Ended} (spots : r ≡ spot_of s c w a) where
    -- a refusal before the walk, or the walk's
    pub step_1 : {e : WalkError} → r ≡ Err e → record { step = Err e; cursor = c } ≡ step_by s c w a p
    unfolding step_by spot_of
    step_1 {e} h = go (check_of s (length_of c.place)) (sym spots ∙ h)
      where
        go : (q : Checked) → when q (λ x. Err x) walked_for ≡ Err e → leaves_it e c ≡ when q (λ x. leaves_it x c) (moved_to c p (walked_to s walked_for))
        go (Err x) f = cc
        go (Ok u) f =
            let bad : e ≡ error.Bad = subst (Ends s) f (walk_lies w a (key_of c (length_of c.place)) s) in
            ap (λ (x : WalkError). leaves_it x c) bad ∙ ap (λ (z : Ended). moved_to c p (walked_to s z)) (sym f)

    module _ {y : Candidate} (h : r ≡ Ok y) where
      step_walks : walked_for ≡ Ok y
      unfolding spot_of
      step_walks = go (check_of s (length_of c.place)) (sym spots ∙ h)
        where
          go : (q : Checked) → when q (λ x. Err x) walked_for ≡ Ok y → walked_for ≡ Ok y
          go (Err x) f = cc
          go (Ok u) f = f

      step_moves : moved_to c p (kept_to s y) ≡ step_by s c w a p
      unfolding step_by spot_of
      step_moves = go (check_of s (length_of c.place)) (sym spots ∙ h)
        where
          go : (q : Checked) → when q (λ x. Err x) walked_for ≡ Ok y → moved_to c p (kept_to s y) ≡ when q (λ x. leaves_it x c) (moved_to c p (walked_to s walked_for))
          go (Err x) f = cc
          go (Ok u) f = ap (λ (z : Ended). moved_to c p (walked_to s z)) (sym f)

      step_lies : Lies s y
      step_lies = subst (Ends s) step_walks (walk_lies w a (key_of c (length_of c.place)) s)

    pub step_2 : {m : Stepped} {y : Candidate} → r ≡ Ok y → y ≡ None → m ≡ moves_it None p (replicate 288 0) → m ≡ step_by s c w a p
    step_2 g e q = let h : r ≡ Ok None = g ∙ ap keep e in q ∙ ap (moves_it None p) empty_key ∙ step_moves h

    pub step_3 : {m : Stepped} {x z : place.Spot} {bytes o : List ℕ} {y : Candidate} → r ≡ Ok y → y ≡ Some z → x ≡ z → bytes ≡ raw_in s x.child.0 → o ≡ copy_at (replicate 288 0) 0 bytes x.start x.len
        → m ≡ moves_it (Some x.value) (At x.len) o → m ≡ step_by s c w a p
    step_3 {m} {x} {z} {bytes} {o} g e same there copies moved =
        let h : r ≡ Ok (Some x) = g ∙ ap keep (e ∙ ap some_spot (sym same)) in
        let lies : Lies s (Some x) = step_lies h in
        let k : Key = part (bytes_in s x.child.0) x.start x.len in
        let q : o ≡ padded 288 0 k = copied_key (bytes_in s x.child.0) x.start x.len lies.0 lies.1 (rw there at copies ∙ copied_raw s x.child.0 x.start x.len (replicate 288 0) lies.0) in
        let l : x.len ≡ length k = sym (length_part (bytes_in s x.child.0) x.start x.len lies.0) in
        moved ∙ (λ i. moves_it (Some x.value) (At (l i)) (q i)) ∙ step_moves h

-- ---- a step from each place

module _ (s : List ℕ) (c : Cursor) where
  is_long_lem : (p : Place) → ltb longest_key (length_of p) ≡ is_long p
  is_long_lem Start = refl
  is_long_lem End = refl
  is_long_lem (At n) = refl
  is_long_lem (Seeked n) = refl

  -- the walk from the root with a turn that is somewhere
  root_there : (t : Turn) (k : Key)
      → walked_to s (walk_of (Some t) There k s) ≡ pick (eqb (root_of s) 0) (walked none) (forward_from (passed t k) (suc (depth_of s)) s (root_of s) none)
  unfolding walk_of
  root_there t k =
      by_bool (eqb (root_of s) 0)
      (λ e. ap (walked_to s) (pick_t _ _ e) ∙ sym (pick_t _ _ e))
      (λ e. ap (walked_to s) (pick_f _ _ e) ∙ there_is s t k (suc (depth_of s)) (child_of (root_of s)) None none refl ∙ sym (pick_f _ _ e))

  root_before : (t : Turn) (k : Key)
      → walked_to s (walk_of (Some t) Before k s) ≡ pick (eqb (root_of s) 0) (walked none) (backward_from (passed t k) (suc (depth_of s)) s (root_of s) none)
  unfolding walk_of
  root_before t k =
      by_bool (eqb (root_of s) 0)
      (λ e. ap (walked_to s) (pick_t _ _ e) ∙ sym (pick_t _ _ e))
      (λ e. ap (walked_to s) (pick_f _ _ e) ∙ before_walk s t k (suc (depth_of s)) (child_of (root_of s)) None none refl ∙ sym (pick_f _ _ e))

  -- with none it reads no node
  root_nowhere : (a : Aim) (k : Key) → walked_to s (walk_of None a k s) ≡ pick (eqb (root_of s) 0) (walked none) (walked none)
  unfolding walk_of
  root_nowhere a k =
      by_bool (eqb (root_of s) 0)
      (λ e. ap (walked_to s) (pick_t _ _ e) ∙ sym (pick_t _ _ e))
      (λ e. ap (walked_to s) (pick_f _ _ e) ∙ sym (pick_f _ _ e))

  forward_from_lem : (p : Place) → walked_to s (walk_of (turn_forward p) There (key_of c (length_of p)) s) ≡ pick (eqb (root_of s) 0) (walked none) (walk_forward s c p)
  forward_from_lem Start = root_there First (key_of c 0)
  forward_from_lem End = root_nowhere There (key_of c 0)
  forward_from_lem (At n) = root_there Above (key_of c n)
  forward_from_lem (Seeked n) = root_there NotBelow (key_of c n)

  backward_from_lem : (p : Place) → walked_to s (walk_of (turn_backward p) Before (key_of c (length_of p)) s) ≡ pick (eqb (root_of s) 0) (walked none) (walk_backward s c p)
  backward_from_lem Start = root_nowhere Before (key_of c 0)
  backward_from_lem End = root_before Last (key_of c 0)
  backward_from_lem (At n) = root_before NotBelow (key_of c n)
  backward_from_lem (Seeked n) = root_before Above (key_of c n)

  stepped_is : (t : Way) (a : Aim) (p : Place) (w : Walked) → walked_to s (walk_of t a (key_of c (length_of c.place)) s) ≡ pick (eqb (root_of s) 0) (walked none) w → step_by s c t a p ≡ stepped_of s c p w
  unfolding step_by stepped_of
  stepped_is t a p w e =
      check_is s (length_of c.place) (λ x. leaves_it x c) (moved_to c p (walked_to s (walk_of t a (key_of c (length_of c.place)) s))) ∙ rw (is_long_lem c.place, e)

  pub forward_1 : {t : Way} {r : Stepped} → t ≡ turn_forward c.place → r ≡ step_by s c t There End → r ≡ forward_of s c
  unfolding forward_of
  forward_1 e q = q ∙ ap (λ (t : Way). step_by s c t There End) e ∙ stepped_is (turn_forward c.place) There End (walk_forward s c c.place) (forward_from_lem c.place)

  pub backward_1 : {t : Way} {r : Stepped} → t ≡ turn_backward c.place → r ≡ step_by s c t Before Start → r ≡ backward_of s c
  unfolding backward_of
  backward_1 e q = q ∙ ap (λ (t : Way). step_by s c t Before Start) e ∙ stepped_is (turn_backward c.place) Before Start (walk_backward s c c.place) (backward_from_lem c.place)
