-- What `search` sees, by the places of the bytes: it is good exactly where they are in standard form and their children fit; and then
-- the child and the separators beside the place where the walk turns are those of the places. Assumes nothing.
use mathlib.Core.Path.{◌≡◌, refl, sym, ap, subst, ◌∙◌}
use mathlib.Core.List.{List, [], ◌∷◌, ◌++◌, map, append_assoc}
use mathlib.Core.Bool.{Bool, true, false, ◌&&◌, not}
use Prim.Native.Nat.{ℕ, suc, ◌+◌, ◌-◌, ◌<◌}
use lib.ListN.{length, get_or, replicate, length-append, length-map}
use lib.Seq.{take_at}
use native.Mathlib.Omega.{arith}
use native.Mathlib.Numerals.{add-one}
use borrow.Author.Tests.{lt-ltb, le-ltb}
use Rattle.word.specs.Pick.{pick, pick_t, pick_f, by_test}
use Rattle.word.specs.Key.{Key}
use Rattle.std.specs.declared.cmp.Ordering.{Ordering}
use Rattle.tree.proofs.Cases.{by_bool}
use Rattle.node.specs.declared.Child.{Child}
use Rattle.node.specs.declared.Value.{Value}
use Rattle.codec.specs.declared.Places.{Places}
use Rattle.codec.specs.declared.position.Found.{Found}
use Rattle.search.specs.declared.Turn.{Turn}
use Rattle.search.specs.declared.Turn.TheVariants.{First, NotBelow, Above, Last}
use Rattle.search.specs.declared.Spot.{Spot}
use Rattle.search.specs.declared.Sight.{Sight}
use Rattle.codec.specs.Codec as codec
use Rattle.codec.specs.Codec.{Scan, scan_from, settle, scan, step_of}
use Rattle.node.specs.Chain.{padded, child_of, value_of}
use Rattle.codec.specs.Layout.{is_whole, layout, places_of, any_of}
use Rattle.codec.specs.Position.{found}
use Rattle.search.specs.Search.{passes, meets, misfits, no_spot, empty_sight, met_child, met_spot, spot_of, order_with, along, fits_kind, sight_in, sight_of, turn_at, spot_in, Sees, fits_places}
use Rattle.node.proofs.ChainLaws.{get_or_padded, get_or_mapped}
use Rattle.codec.proofs.ScanLaws.{and_left}
use Rattle.codec.proofs.StrictLaws.{settle_whole, whole_ends}
use Rattle.codec.proofs.PositionLaws.{step_start, step_len, layout_count, found_by, behind, front_lem, spread, found_none, found_turn, position_places}

-- ---- a walk changes nothing about whether the sight is good

child_good : (v : Sight) (c : Child) → (met_child v c).good ≡ v.good
unfolding met_child
child_good v c = by_test (λ (u : Sight). u.good ≡ v.good) v.turned (λ e. refl) (λ e. refl)

spot_good : (t : Turn) (v : Sight) (x : Spot) (o : Ordering) → (met_spot t v x o).good ≡ v.good
unfolding met_spot
spot_good t v x o =
    by_test (λ (u : Sight). u.good ≡ v.good) v.turned (λ e. refl)
    (λ e. by_test (λ (u : Sight). u.good ≡ v.good) (passes t o) (λ f. refl) (λ f. refl))

along_good : (t : Turn) (s : List ℕ) (k : Key) (v : Sight) (c : ℕ) (r : List (codec.Spot × ℕ)) → (along t s k v c r).good ≡ v.good
unfolding along
along_good t s k v c [] = child_good v (child_of c)
along_good t s k v c (x ∷ r) =
    let u : Sight = met_child v (child_of c) in
    along_good t s k (met_spot t u (spot_of x.0) (order_with s k x.0)) x.1 r
    ∙ spot_good t u (spot_of x.0) (order_with s k x.0) ∙ child_good v (child_of c)

-- ---- what places hold from an index on

-- from index i on p holds the child c, and then the separators and children of r up to its end
abbrev Holds : Places → ℕ → ℕ → List (codec.Spot × ℕ) → Type 0
Holds p i c [] = (p.count ≡ i) × (get_or p.children i (child_of 0) ≡ child_of c)
Holds p i c (x ∷ r) = (get_or p.children i (child_of 0) ≡ child_of c) × (spot_in p i ≡ spot_of x.0) × Holds p (i + 1) x.1 r

module _ (a : Scan) where
  spot_there : (p : List (codec.Spot × ℕ)) (x : codec.Spot × ℕ) (q : List (codec.Spot × ℕ)) → a.rest ≡ p ++ (x ∷ q) → spot_in (layout a) (length p) ≡ spot_of x.0
  spot_there p x q e = rw (step_start a p x q e, step_len a p x q e, step_value)
    where
      step_value : get_or (layout a).values (length p) (value_of 0) ≡ value_of x.0.value
      step_value = unfold layout in
          let f : codec.Spot × ℕ → Value = λ y. value_of y.0.value in
          get_or_padded 8 (value_of 0) (map f a.rest) (length p) ∙ rw e (get_or_mapped f (value_of 0) p x q)

  child_behind : (p : List (codec.Spot × ℕ)) (x : codec.Spot × ℕ) (q : List (codec.Spot × ℕ)) → a.rest ≡ p ++ (x ∷ q)
      → get_or (layout a).children (length p + 1) (child_of 0) ≡ child_of x.1
  unfolding layout
  child_behind p x q e =
      let f : codec.Spot × ℕ → Child = λ y. child_of y.1 in
      get_or_padded 9 (child_of 0) (child_of a.first ∷ map f a.rest) (length p + 1) ∙ rw add-one (rw e (get_or_mapped f (child_of 0) p x q))

  first_child_lem : get_or (layout a).children 0 (child_of 0) ≡ child_of a.first
  unfolding layout padded
  first_child_lem = refl

  holds_from : (p q : List (codec.Spot × ℕ)) (i c : ℕ) → length p ≡ i → a.rest ≡ p ++ q → get_or (layout a).children i (child_of 0) ≡ child_of c → Holds (layout a) i c q
  holds_from p [] i c l e h = (layout_count a ∙ ap length e ∙ simp length-append (omega arith), h)
  holds_from p (x ∷ q) i c l e h =
      let m : length (p ++ (x ∷ [])) ≡ i + 1 = simp length-append (omega arith) in
      let f : a.rest ≡ (p ++ (x ∷ [])) ++ q = e ∙ sym (append_assoc p (x ∷ []) q) in
      (h, rw (← l) (spot_there p x q e), holds_from (p ++ (x ∷ [])) q (i + 1) x.1 m f (rw (← l) (child_behind p x q e)))

  holds_all : Holds (layout a) 0 a.first a.rest
  holds_all = holds_from [] a.rest 0 a.first refl refl first_child_lem

-- ---- where a walk turns

-- among what is scanned
abbrev turn_in : Turn → List ℕ → Key → List (codec.Spot × ℕ) → Found
turn_in First s k r = found 0 false
turn_in NotBelow s k r = found_by false k (map (step_of s) r)
turn_in Above s k r = found_by true k (map (step_of s) r)
turn_in Last s k r = found (length r) false

turn_none : (t : Turn) (s : List ℕ) (k : Key) → turn_in t s k [] ≡ found 0 false
turn_none First s k = refl
turn_none NotBelow s k = found_none k false
turn_none Above s k = found_none k true
turn_none Last s k = refl

turn_step : (t : Turn) (s : List ℕ) (k : Key) (x : codec.Spot × ℕ) (r : List (codec.Spot × ℕ))
    → let o : Ordering = order_with s k x.0 in turn_in t s k (x ∷ r) ≡ pick (passes t o) (behind 1 (turn_in t s k r)) (found 0 (meets t o))
turn_step First s k x r = sym (pick_f _ _ refl)
turn_step NotBelow s k x r = found_turn k false (step_of s x) (map (step_of s) r)
turn_step Above s k x r = found_turn k true (step_of s x) (map (step_of s) r)
turn_step Last s k x r =
    let e : suc (length r) ≡ 1 + length r = omega arith in
    ap (λ (n : ℕ). found n false) e ∙ sym (pick_t _ _ refl)

turn_start : (t : Turn) (s : List ℕ) (k : Key) → turn_at t (places_of s) s k ≡ behind 0 (turn_in t s k (scan s).rest)
turn_start t s k = go t ∙ sym (front_lem (turn_in t s k (scan s).rest))
  where
    go : (t : Turn) → turn_at t (places_of s) s k ≡ turn_in t s k (scan s).rest
    go First = refl
    go NotBelow = position_places s k false
    go Above = position_places s k true
    go Last = unfold places_of in ap (λ (n : ℕ). found n false) (layout_count (scan s))

-- ---- the walk

-- before it turns, i separators are behind it
abbrev going : Bool → ℕ → Child → Spot → Spot → Sight
going g i c here before = record { good = g; turned = false; count = i; found = found i false; child = c; here = here; before = before }

-- after it turned at index i it only counts
abbrev gone : Bool → ℕ → ℕ → Bool → Child → Spot → Spot → Sight
gone g n i at c here before = record { good = g; turned = true; count = n; found = found i at; child = c; here = here; before = before }

module _ (t : Turn) (s : List ℕ) (k : Key) (p : Places) (g : Bool) where
  gone_sees : (n i : ℕ) (at : Bool) (c : Child) (here before : Spot) (d : ℕ) (r : List (codec.Spot × ℕ)) → Holds p n d r → i < n
      → turn_at t p s k ≡ found i at → c ≡ get_or p.children i (child_of 0) → here ≡ spot_in p i → (0 < i → before ≡ spot_in p (i - 1))
      → Sees t p s k (along t s k (gone g n i at c here before) d r)
  unfolding along met_child met_spot pick
  gone_sees n i at c here before d [] h l e kid sep prev = record {
    count_is = sym h.0;
    found_is = sym e;
    child_is = kid;
    turned_is = sym (lt-ltb i p.count (omega (arith, h.0)));
    here_is = λ b. sep;
    before_is = prev;
  }
  gone_sees n i at c here before d (x ∷ r) h l e kid sep prev = gone_sees (n + 1) i at c here before x.1 r h.2 (omega arith) e kid sep prev

  going_step : (i : ℕ) (c : Child) (here before : Spot) (d : ℕ) (x : codec.Spot × ℕ) (r : List (codec.Spot × ℕ))
      → let o : Ordering = order_with s k x.0 in
      along t s k (going g i c here before) d (x ∷ r)
      ≡ along t s k (pick (passes t o) (going g (i + 1) (child_of d) here (spot_of x.0)) (gone g (i + 1) i (meets t o) (child_of d) (spot_of x.0) before)) x.1 r
  unfolding along met_child met_spot pick
  going_step i c here before d x r = refl

  going_end : (i : ℕ) (c : Child) (here before : Spot) (d : ℕ) → along t s k (going g i c here before) d [] ≡ going g i (child_of d) here before
  unfolding along met_child pick
  going_end i c here before d = refl

  going_sees : (i : ℕ) (c : Child) (here before : Spot) (d : ℕ) (r : List (codec.Spot × ℕ)) → Holds p i d r
      → turn_at t p s k ≡ behind i (turn_in t s k r) → (0 < i → before ≡ spot_in p (i - 1))
      → Sees t p s k (along t s k (going g i c here before) d r)
  going_sees i c here before d [] h e prev =
      let z : i + 0 ≡ i = omega arith in
      let f : turn_at t p s k ≡ found i false = e ∙ ap (behind i) (turn_none t s k) ∙ ap (λ (n : ℕ). found n false) z in
      let w : Sees t p s k (going g i (child_of d) here before) = record {
        count_is = sym h.0;
        found_is = sym f;
        child_is = sym h.1;
        turned_is = sym (le-ltb i p.count (omega (arith, h.0)));
        here_is = λ b. let k : ◌≡◌ {A = ℕ} 0 1 = cc in absurd (omega arith);
        before_is = prev;
      } in
      subst (Sees t p s k) (sym (going_end i c here before d)) w
  going_sees i c here before d (x ∷ r) h e prev =
      let o : Ordering = order_with s k x.0 in
      let f : turn_at t p s k ≡ pick (passes t o) (behind (i + 1) (turn_in t s k r)) (found i (meets t o)) =
      e ∙ ap (behind i) (turn_step t s k x r) ∙ sym (spread (passes t o) i (meets t o) (turn_in t s k r)) in
      let last : i + 1 - 1 ≡ i = omega arith in
      subst (Sees t p s k) (sym (going_step i c here before d x r))
      (by_test (λ (v : Sight). Sees t p s k (along t s k v x.1 r)) (passes t o)
      (λ b. going_sees (i + 1) (child_of d) here (spot_of x.0) x.1 r h.2 (f ∙ pick_t _ _ b) (λ l. rw last (sym h.1)))
      (λ b. gone_sees (i + 1) i (meets t o) (child_of d) (spot_of x.0) before x.1 r h.2 (omega arith) (f ∙ pick_f _ _ b) (sym h.0) (sym h.1) prev))

-- ---- the reading

module _ (s : List ℕ) where
  whole_is : (places_of s).standard ≡ is_whole (scan_from s 8 0)
  unfolding places_of layout scan
  whole_is = sym (settle_whole (scan_from s 8 0))

  scan_is : is_whole (scan_from s 8 0) ≡ true → scan s ≡ scan_from s 8 0
  unfolding scan settle
  scan_is e = pick_t _ _ (whole_ends (scan_from s 8 0) e)

fits_layout : (leaf : Bool) (r : Scan) → fits_places leaf (layout r) ≡ fits_kind leaf r
unfolding fits_places fits_kind layout padded
fits_layout leaf r =
    let f : codec.Spot × ℕ → Child = λ x. child_of x.1 in
    let l : List Child = child_of r.first ∷ map f r.rest in
    ap (λ (m : List Child). not (any_of (misfits leaf) m)) (take_at l (replicate (9 - length l) (child_of 0)) (length r.rest + 1) (omega (arith, length-map r.rest f)))

module _ (t : Turn) (leaf : Bool) (s : List ℕ) (k : Key) where
  fits_is : is_whole (scan_from s 8 0) ≡ true → fits_places leaf (places_of s) ≡ fits_kind leaf (scan_from s 8 0)
  unfolding places_of
  fits_is e = ap (λ (r : Scan). fits_places leaf (layout r)) (scan_is s e) ∙ fits_layout leaf (scan_from s 8 0)

  good_is : (sight_of t leaf s k).good ≡ (is_whole (scan_from s 8 0) && fits_kind leaf (scan_from s 8 0))
  unfolding sight_of sight_in
  good_is =
      let r : Scan = scan_from s 8 0 in
      let b : Bool = is_whole r && fits_kind leaf r in
      by_test (λ (v : Sight). v.good ≡ b) b (λ e. along_good t s k (empty_sight true) r.first r.rest ∙ sym e) (λ e. sym e)

  pub sight_good : (sight_of t leaf s k).good ≡ ((places_of s).standard && fits_places leaf (places_of s))
  sight_good =
      let a : Bool = is_whole (scan_from s 8 0) in
      good_is ∙ by_bool a (λ e. ap (λ (b : Bool). a && b) (sym (fits_is e))) (λ e. rw e) ∙ ap (λ (m : Bool). m && fits_places leaf (places_of s)) (sym (whole_is s))

  whole_good : (sight_of t leaf s k).good ≡ true → is_whole (scan_from s 8 0) ≡ true
  whole_good h = and_left (is_whole (scan_from s 8 0)) (fits_kind leaf (scan_from s 8 0)) (sym good_is ∙ h)

  sight_is : (sight_of t leaf s k).good ≡ true → sight_of t leaf s k ≡ along t s k (empty_sight true) (scan s).first (scan s).rest
  unfolding sight_of sight_in
  sight_is h =
      pick_t _ _ (sym good_is ∙ h)
      ∙ ap (λ (r : Scan). along t s k (empty_sight true) r.first r.rest) (sym (scan_is s (whole_good h)))

  along_sees : Sees t (places_of s) s k (along t s k (empty_sight true) (scan s).first (scan s).rest)
  along_sees =
      going_sees t s k (places_of s) true 0 (child_of 0) no_spot no_spot (scan s).first (scan s).rest
      (unfold places_of in holds_all (scan s)) (turn_start t s k) (λ l. absurd (omega arith))

  pub sight_sees : (sight_of t leaf s k).good ≡ true → Sees t (places_of s) s k (sight_of t leaf s k)
  sight_sees h = subst (Sees t (places_of s) s k) (sym (sight_is h)) along_sees
