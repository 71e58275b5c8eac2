-- The walk of the tree, way by way. Assumes nothing.
use mathlib.Core.Path.{◌≡◌, refl, sym, ap, ◌∙◌}
use mathlib.Core.List.{List}
use mathlib.Core.Bool.{Bool, true, false, cond, not, ◌&&◌}
use mathlib.Core.Option.{Option, none, some}
use Prim.Native.Nat.{ℕ, suc, ◌+◌, ◌-◌, ◌≤◌, ◌<◌}
use lib.ListN.{length, get_or}
use lib.Dec.{leb, eqb}
use native.Mathlib.Omega.{arith}
use borrow.Author.Tests.{eq-eqb, ne_eqb, not-true, not-false}
use Rattle.std.specs.Prelude as rust
use Rattle.std.specs.Prelude.{None, Ok, Err}
use Rattle.word.specs.Pick.{pick, pick_t, pick_f}
use Rattle.word.specs.Part.{part}
use Rattle.word.specs.Key.{Key}
use Rattle.word.specs.Num.{Bytes}
use Rattle.word.proofs.AtLaws.{fits_in_lem}
use Rattle.tree.proofs.Cases.{by_bool}
use Rattle.codec.specs.declared.Places.{Places}
use Rattle.node.specs.declared.Slot.{Slot}
use Rattle.node.specs.Chain.{Step, child_of}
use Rattle.slots.specs.Layout.{start, count_of}
use Rattle.slots.specs.Code.{slot_of, some_slot, raw_in, places_in, first_in, rest_in, node_in}
use Rattle.audit.specs.declared.Place.{Place}
use Rattle.audit.specs.declared.Broken.{Broken}
use Rattle.audit.specs.Marks.{words_for}
use Rattle.audit.specs.Walk.{in_words, is_clear, marked, Seen, is_above, bind, read_written, visit_rest, visit_node, visit}
use Rattle.audit.specs.Code.{has_zeros, enters, is_rising, key_of, seen_of, visit_in, rest_from}
use Rattle.codec.specs.Layout.{places_of}
use Rattle.codec.proofs.ReadLaws.{places_few}
use Rattle.slots.proofs.CodeLaws.{same_flag, same_places}
use Rattle.audit.proofs.ReadCode.{no_way, standard_some, count_is, starts_eight, lens_eight, children_nine, first_is, read_loose, standard_slot, read_written_lem, read_soiled, steps_are, key_fits}

abbrev SeenWords : Type 0
SeenWords = Seen (List ℕ)

-- ---- below the last level

module _ (s : List ℕ) (h least x : ℕ) (w : SeenWords) (bottom : h ≡ 0) where
  at_bottom : visit_in s h least x w ≡ cond (eqb x 0) (some w) none
  unfolding visit_in
  at_bottom = rw bottom

module _ (s : List ℕ) (h least x : ℕ) (ws : List ℕ) (l : rust.Option Place) (bottom : h ≡ 0) where
  pub bottom_none : x ≡ 0 → seen_of s (Ok l) ws ≡ visit_in s h least x (record { marks = ws; last = key_of s l })
  bottom_none e = sym (at_bottom s h least x (record { marks = ws; last = key_of s l }) bottom ∙ rw (eq-eqb x 0 e))

  pub bottom_child : (x ≡ 0 → ⊥) → none ≡ visit_in s h least x (record { marks = ws; last = key_of s l })
  bottom_child e = sym (at_bottom s h least x (record { marks = ws; last = key_of s l }) bottom ∙ rw (ne_eqb x 0 e))

-- ---- a node

module _ (s : List ℕ) (bs : Bytes s) (d least x : ℕ) (w : SeenWords) where
  opens : visit_in s (d + 1) least x w ≡ visit_node (in_words (words_for (count_of s))) (read_written s) (visit_in s d 4) least w (read_written s x)
  unfolding visit_in
  opens = let one : d + 1 ≡ suc d = omega arith in ap (λ (h : ℕ). visit (in_words (words_for (count_of s))) (read_written s) h least x w) one

  -- what follows in a node that may be walked into
  abbrev inside : Option SeenWords
  inside = bind (visit_in s d 4 (first_in s x) (record { marks = marked w.marks x; last = w.last })) (rest_from s d (start x + 4) (places_in s x) 0 (places_in s x).count)

  abbrev may : Bool
  may = enters s (slot_of s x) (places_in s x).standard (places_in s x).count least w.marks

  loose : (places_in s x).standard ≡ false → may ≡ false
  unfolding enters
  loose e = rw e

  module _ (e : (places_in s x).standard ≡ true) where
    tests : may ≡ (leb least (places_in s x).count && (has_zeros s x && is_clear w.marks x))
    unfolding enters
    tests = rw (e, standard_slot s bs x e)

    walked_lem : visit_node (in_words (words_for (count_of s))) (read_written s) (visit_in s d 4) least w (some (node_in s x)) ≡ cond (leb least (places_in s x).count && is_clear w.marks x) inside none
    unfolding rest_from
    walked_lem =
        let below : ℕ → SeenWords → Option SeenWords = visit_in s d 4 in
        let first : Option SeenWords = below (first_in s x) (record { marks = marked w.marks x; last = w.last }) in
        ap (λ (n : ℕ). cond (leb least n && is_clear w.marks x) (bind first (λ u. visit_rest (in_words (words_for (count_of s))) (read_written s) below (rest_in s x) u)) none) (sym (count_is s x))
        ∙ ap (λ (r : List Step). cond (leb least (places_in s x).count && is_clear w.marks x) (bind first (λ u. visit_rest (in_words (words_for (count_of s))) (read_written s) below r u)) none) (sym (steps_are s bs x e))

  node_is : visit_in s (d + 1) least x w ≡ pick may inside none
  node_is =
      by_bool (places_in s x).standard
      (λ e. by_bool (has_zeros s x)
      (λ z. opens ∙ ap (visit_node (in_words (words_for (count_of s))) (read_written s) (visit_in s d 4) least w) (read_written_lem s bs x e z) ∙ walked_lem e ∙ go (leb least (places_in s x).count && is_clear w.marks x) (tests e ∙ rw z))
      (λ z. opens ∙ ap (visit_node (in_words (words_for (count_of s))) (read_written s) (visit_in s d 4) least w) (read_soiled s bs x e z) ∙ sym (pick_f _ _ (tests e ∙ rw z (none_of_lem (leb least (places_in s x).count))))))
      (λ e. opens ∙ ap (visit_node (in_words (words_for (count_of s))) (read_written s) (visit_in s d 4) least w) (read_loose s bs x e) ∙ sym (pick_f _ _ (loose e)))
    where
      none_of_lem : (b : Bool) → (b && false) ≡ false
      none_of_lem true = refl
      none_of_lem false = refl

      go : (b : Bool) → may ≡ b → cond b inside none ≡ pick may inside none
      go true q = sym (pick_t _ _ q)
      go false q = sym (pick_f _ _ q)

  -- no node where there is no slot
  pub visit_nowhere : {o : rust.Option Slot} → o ≡ some_slot (slot_of s x) → o ≡ None → none ≡ visit_in s (d + 1) least x w
  visit_nowhere slot gone = sym (node_is ∙ pick_f _ _ (by_bool (places_in s x).standard (λ e. absurd (standard_some s bs x e slot gone)) loose))

  -- what the code knows when it has tried to walk into the node: its slot, its places, and the answer of `enter`
  module _ {y : ℕ} {p : Places} {r : Bool} {vs : List ℕ} (slot : y ≡ slot_of s x) (places : p ≡ places_of (raw_in s x))
      (tried : (r ≡ enters s y p.standard p.count least w.marks) × (vs ≡ pick (enters s y p.standard p.count least w.marks) (marked w.marks y) w.marks))
    where
      answer_lem : r ≡ may
      answer_lem =
          tried.0 ∙ ap (λ (z : ℕ). enters s z p.standard p.count least w.marks) slot ∙ ap (λ (q : Places). enters s (slot_of s x) q.standard q.count least w.marks) places
          ∙ by_bool (places_in s x).standard (λ e. ap (λ (q : Places). enters s (slot_of s x) q.standard q.count least w.marks) (same_places s x e)) (λ e. wrong (places_of (raw_in s x)).standard (places_of (raw_in s x)).count (same_flag s x ∙ e) ∙ sym (loose e))
        where
          wrong : (b : Bool) (n : ℕ) → b ≡ false → enters s (slot_of s x) b n least w.marks ≡ false
          wrong b n e = unfold enters in rw e

      pub visit_shut : not r ≡ true → none ≡ visit_in s (d + 1) least x w
      visit_shut n = sym (node_is ∙ pick_f _ _ (sym answer_lem ∙ not-true r n))

      module _ (n : not r ≡ false) where
        yes : may ≡ true
        yes = sym answer_lem ∙ not-false r n

        standard : (places_in s x).standard ≡ true
        standard = by_bool (places_in s x).standard (λ e. e) (λ e. no_way (sym yes ∙ loose e))

        in_places : p ≡ places_in s x
        in_places = places ∙ same_places s x standard

        same_slot : y ≡ x
        same_slot = slot ∙ standard_slot s bs x standard

        marks_are : vs ≡ marked w.marks x
        marks_are = tried.1 ∙ pick_t _ _ (sym tried.0 ∙ not-false r n) ∙ ap (marked w.marks) same_slot

        pub from_is : {at : ℕ} → at ≡ start y → at ≡ start x
        from_is a = a ∙ ap start same_slot

        -- every key lies in the store
        pub keys_fit : {at : ℕ} → at ≡ start y → (i : ℕ) → at + 4 + get_or p.starts i 0 + get_or p.lens i 0 ≤ length s
        keys_fit a i = rw (from_is a, in_places) (key_fits s bs x standard i)

        -- the node's first child was walked
        pub visit_entered : {at : ℕ} {o : Option SeenWords} → at ≡ start y → o ≡ visit_in s d 4 (get_or p.children 0 (child_of 0)).0 (record { marks = vs; last = w.last })
            → visit_in s (d + 1) least x w ≡ bind o (rest_from s d (at + 4) p 0 p.count)
        visit_entered {at} {o} a q =
            let c : (get_or p.children 0 (child_of 0)).0 ≡ first_in s x = ap (λ (t : Places). (get_or t.children 0 (child_of 0)).0) in_places ∙ first_is s x in
            let o_is : o ≡ visit_in s d 4 (first_in s x) (record { marks = marked w.marks x; last = w.last }) =
            q ∙ ap (λ (z : ℕ). visit_in s d 4 z (record { marks = vs; last = w.last })) c ∙ ap (λ (us : List ℕ). visit_in s d 4 (first_in s x) (record { marks = us; last = w.last })) marks_are in
            node_is ∙ pick_t _ _ yes
            ∙ ap (λ (t : Option SeenWords). bind t (rest_from s d (start x + 4) (places_in s x) 0 (places_in s x).count)) (sym o_is)
            ∙ ap (λ (t : Places). bind o (rest_from s d (start x + 4) t 0 t.count)) (sym in_places)
            ∙ ap (λ (z : ℕ). bind o (rest_from s d (z + 4) p 0 p.count)) (sym (from_is a))

module _ (s : List ℕ) (x : ℕ) {p : Places} (places : p ≡ places_of (raw_in s x)) where
  pub few_separators : p.count ≤ 8
  few_separators = rw places (places_few (raw_in s x))

  pub eight_starts : length p.starts ≡ 8
  eight_starts = rw places (starts_eight (raw_in s x))

  pub eight_lens : length p.lens ≡ 8
  eight_lens = rw places (lens_eight (raw_in s x))

  pub nine_children : length p.children ≡ 9
  nine_children = rw places (children_nine (raw_in s x))

-- ---- along the node: the invariant is the rest of the walk

module _ (s : List ℕ) (d from : ℕ) (p : Places) (n : ℕ) (whole : Option SeenWords) where
  abbrev pub VisitLeft : rust.Option Place → List ℕ → ℕ → Type 0
  VisitLeft l ws i = whole ≡ rest_from s d from p i (n - i) (record { marks = ws; last = key_of s l })

  no_more : (i : ℕ) (w : SeenWords) → rest_from s d from p i 0 w ≡ some w
  unfolding rest_from
  no_more i w = refl

  -- what a child's walk answers decides
  module _ (r : rust.Result (rust.Option Place) Broken) (us : List ℕ) (i : ℕ) (left : whole ≡ bind (seen_of s r us) (rest_from s d from p i (n - i))) where
    pub child_right : {l : rust.Option Place} → r ≡ Ok l → VisitLeft l us i
    child_right e = left ∙ ap (λ (q : rust.Result (rust.Option Place) Broken). bind (seen_of s q us) (rest_from s d from p i (n - i))) e

    pub child_wrong : {e : Broken} (q : rust.Result (rust.Option Place) Broken) (vs : List ℕ) → r ≡ Err e → rust.IsErr q → seen_of s q vs ≡ whole
    child_wrong (Ok l) vs e h = absurd (cc)
    child_wrong (Err f) vs e h = sym (left ∙ ap (λ (q : rust.Result (rust.Option Place) Broken). bind (seen_of s q us) (rest_from s d from p i (n - i))) e)

  pub visit_first : (o : Option SeenWords) → whole ≡ bind o (rest_from s d from p 0 n) → whole ≡ bind o (rest_from s d from p 0 (n - 0))
  visit_first o e = let z : n - 0 ≡ n = omega arith in rw z e

  module _ (l : rust.Option Place) (ws : List ℕ) (i : ℕ) (left : VisitLeft l ws i) where
    pub visit_ends : n ≤ i → seen_of s (Ok l) ws ≡ whole
    visit_ends e = let z : n - i ≡ 0 = omega arith in sym (left ∙ ap (λ (m : ℕ). rest_from s d from p i m (record { marks = ws; last = key_of s l })) z ∙ no_more i (record { marks = ws; last = key_of s l }))

    module _ (more : i < n) (fits : from + get_or p.starts i 0 + get_or p.lens i 0 ≤ length s) where
      abbrev k : Key
      k = part s (from + get_or p.starts i 0) (get_or p.lens i 0)

      step : whole ≡ cond (is_above (key_of s l) k) (bind (visit_in s d 4 (get_or p.children (i + 1) (child_of 0)).0 (record { marks = ws; last = some k })) (rest_from s d from p (i + 1) (n - (i + 1)))) none
      step = let z : n - i ≡ suc (n - (i + 1)) = omega arith in left ∙ ap (λ (m : ℕ). rest_from s d from p i m (record { marks = ws; last = key_of s l })) z ∙ go
        where
          go : rest_from s d from p i (suc (n - (i + 1))) (record { marks = ws; last = key_of s l })
              ≡ cond (is_above (key_of s l) k) (bind (visit_in s d 4 (get_or p.children (i + 1) (child_of 0)).0 (record { marks = ws; last = some k })) (rest_from s d from p (i + 1) (n - (i + 1)))) none
          go = unfold rest_from in refl

      module _ {b : Bool} (test : b ≡ is_rising s (key_of s l) (from + get_or p.starts i 0) (get_or p.lens i 0)) where
        above_lem : b ≡ is_above (key_of s l) k
        above_lem = test ∙ go
          where
            go : is_rising s (key_of s l) (from + get_or p.starts i 0) (get_or p.lens i 0) ≡ is_above (key_of s l) k
            go = unfold is_rising in rw (fits_in_lem (length s) (from + get_or p.starts i 0) (get_or p.lens i 0) fits)

        pub visit_falls : not b ≡ true → none ≡ whole
        visit_falls e = sym (step ∙ rw (sym above_lem ∙ not-true b e))

        pub visit_turn : (o : Option SeenWords) → not b ≡ false → o ≡ visit_in s d 4 (get_or p.children (i + 1) (child_of 0)).0 (record { marks = ws; last = some k })
            → whole ≡ bind o (rest_from s d from p (i + 1) (n - (i + 1)))
        visit_turn o e g = step ∙ rw (sym above_lem ∙ not-false b e) (ap (λ (t : Option SeenWords). bind t (rest_from s d from p (i + 1) (n - (i + 1)))) (sym g))
