-- A separator put in among the bytes of the node in a slot, or given another value there: each way through `insert_bytes` and
-- `write_value`, and that they write the longer node, or the one with that value, where the bytes are in standard form. Assumes
-- nothing.
use mathlib.Core.Path.{◌≡◌, refl, sym, ap, ◌∙◌}
use mathlib.Core.List.{List, ◌∷◌, ◌++◌}
use mathlib.Core.Bool.{Bool, true, false, ◌&&◌, not}
use Prim.Native.Nat.{ℕ, ◌+◌, ◌-◌, ◌≤◌}
use lib.ListN.{length, take, drop, length-append, length-drop}
use lib.Seq.{take-take, length-take-le}
use lib.Dec.{leb, ltb, eqb}
use native.Mathlib.Omega.{arith}
use borrow.Author.Tests.{not-true, not-false, leb-true, ltb-false, le-ltb, ne_eqb}
use Rattle.std.specs.Prelude.{Option, Some, None}
use Rattle.word.specs.Pick.{pick_t, pick_f, by_test}
use Rattle.word.specs.Part.{part, over}
use Rattle.word.specs.Num.{le, un, zeros, Bytes}
use Rattle.word.specs.At.{fits_in, read_at, write_at, clear_at}
use Rattle.word.proofs.NumLaws.{length_le, le_un, bytes_part}
use Rattle.word.proofs.PartLaws.{length_part, length_over, part_before, over_part, over_in}
use Rattle.word.proofs.AtLaws.{fits_in_lem, fits_true, read_at_in, write_at_in, length_write_at, clear_at_in}
use Rattle.tree.specs.Map.{Sep}
use Rattle.node.specs.Chain.{Step, longest_key, Fit, Writable}
use Rattle.codec.specs.Codec.{encode}
use Rattle.codec.specs.Splice.{spliced, splice_at, splice_width, Spliced, new_length, splice_in}
use Rattle.codec.proofs.EncodeLaws.{length_sep, scan_finds}
use Rattle.codec.proofs.Theorems.{standard_most, flagged_standard}
use Rattle.codec.proofs.SpliceLaws.{splice_encode, splice_within, splice_place, revalue_within, revalue_encode}
use Rattle.slots.specs.Limits.{slot_size, least_node, most_node}
use Rattle.slots.specs.Layout.{start}
use Rattle.slots.specs.Mirror.{is_slot, length_at, node_bytes, holds_node, write_node}
use Rattle.slots.specs.Code.{raw_in, bytes_in, places_in, first_in, rest_in, node_room}
use Rattle.slots.specs.Splice.{laid, inserted_bytes, revalued_bytes}
use Rattle.slots.proofs.CodeLaws.{both_true, whole, given_back, bytes_small, raw_in_lem}

-- ---- lengths

pub length_spliced : (s : List ℕ) (p : ℕ) (e : Sep ℕ) (b : ℕ) → p ≤ length s → length (spliced s p e b) ≡ length s + splice_width e
unfolding spliced
length_spliced s p e b h =
    simp length-append (omega (arith, length-take-le p s h, length_sep e, length_le 8 b, length-drop p s))

module _ (d : List ℕ) (n p : ℕ) (e : Sep ℕ) (b : ℕ) where
  abbrev pub Keeps : Spliced → Type 0
  Keeps g = (g.len ≤ length d) × (length g.bytes ≡ length d)

  pub splice_keeps : Keeps (splice_in d n p e b)
  unfolding splice_in
  splice_keeps =
      by_test Keeps (ltb longest_key (length e.key)) (λ h. (omega arith, refl)) λ h.
      by_test Keeps (fits_in (length d) n (splice_width e)) (λ f.
      by_test Keeps (ltb n p) (λ o. (omega arith, refl)) λ o. fitting_lem (fits_true (length d) n (splice_width e) f) (ltb-false n p o))
      (λ f. (omega arith, refl))
    where
      fitting_lem : n + splice_width e ≤ length d → p ≤ n → Keeps (record { len = n + splice_width e; bytes = over d 0 (spliced (take n d) p e b) })
      fitting_lem f o =
          let l = length-take-le n d (omega arith) in
          let m = length_spliced (take n d) p e b (omega arith) in
          (f, length_over d 0 (spliced (take n d) p e b) (omega arith))

-- ---- each way through `insert_bytes`

none_made : (g : Spliced) → new_length g ≡ None → eqb g.len 0 ≡ true
none_made g = by_test (λ (o : Option ℕ). o ≡ None → eqb g.len 0 ≡ true) (eqb g.len 0) (λ t z. t) (λ t z. cc)

some_made : (g : Spliced) (len : ℕ) → new_length g ≡ Some len → (len ≡ g.len) × (eqb g.len 0 ≡ false)
some_made g len = by_test (λ (o : Option ℕ). o ≡ Some len → (len ≡ g.len) × (eqb g.len 0 ≡ false)) (eqb g.len 0) (λ t z. cc) (λ t z. (cc, t))

module _ (s : List ℕ) (x p : ℕ) (e : Sep ℕ) (b : ℕ) {f : Bool} (test : f ≡ is_slot s x) where
  pub insert_bytes_1 : not f ≡ true → s ≡ inserted_bytes s x p e b
  unfolding inserted_bytes
  insert_bytes_1 h = sym (pick_f _ _ (sym test ∙ not-true f h))

  module _ (h : not f ≡ false) {at n : ℕ} (begins : at ≡ start x) (says : n ≡ read_at 4 s at) where
    there : is_slot s x ≡ true
    there = sym test ∙ not-false f h

    pub insert_room : at + slot_size ≤ length s
    insert_room = rw begins (whole s x there).within

    room_is : take ((at + slot_size) - (at + 4)) (drop (at + 4) s) ≡ part s (at + 4) node_room
    unfolding part
    room_is = let q : (at + slot_size) - (at + 4) ≡ node_room = omega arith in rw q

    length_room : length (part s (at + 4) node_room) ≡ node_room
    length_room = length_part s (at + 4) node_room (omega (arith, insert_room))

    -- what `codec::splice` makes of the part that is lent to it
    abbrev made : Spliced
    made = splice_in (part s (at + 4) node_room) n p e b

    inserted_is : inserted_bytes s x p e b ≡ laid s at made
    unfolding inserted_bytes length_at
    inserted_is = pick_t _ _ there ∙ rw (says, begins)

    module _ {r : Option ℕ} {d : List ℕ}
        (answer : r ≡ new_length (splice_in (take ((at + slot_size) - (at + 4)) (drop (at + 4) s)) n p e b))
        (left : d ≡ (splice_in (take ((at + slot_size) - (at + 4)) (drop (at + 4) s)) n p e b).bytes)
      where
        abbrev pub after : List ℕ
        after = take (at + 4) s ++ (d ++ drop ((at + slot_size) - (at + 4)) (drop (at + 4) s))

        made_length : r ≡ new_length made
        made_length = rw room_is at answer

        bytes_is : d ≡ made.bytes
        bytes_is = rw room_is at left

        back : length d ≡ node_room → after ≡ over s (at + 4) d
        back l = let q : (at + slot_size) - (at + 4) ≡ node_room = omega arith in rw q (given_back s (at + 4) node_room d l)

        after_is : after ≡ over s (at + 4) made.bytes
        after_is =
            let k = splice_keeps (part s (at + 4) node_room) n p e b in
            back (ap length bytes_is ∙ k.1 ∙ length_room) ∙ ap (over s (at + 4)) bytes_is

        pub insert_bytes_2 : r ≡ None → after ≡ inserted_bytes s x p e b
        insert_bytes_2 z = after_is ∙ sym (inserted_is ∙ pick_t _ _ (none_made made (sym made_length ∙ z)))

        module _ {len : ℕ} (got : r ≡ Some len) where
          len_is : (len ≡ made.len) × (eqb made.len 0 ≡ false)
          len_is = some_made made len (sym made_length ∙ got)

          pub inserted_small : len ≤ node_room
          inserted_small = omega (arith, len_is.0, (splice_keeps (part s (at + 4) node_room) n p e b).0, length_room)

          pub insert_bytes_3 : {u v : List ℕ} → u ≡ write_at 4 after at len → v ≡ clear_at u (at + 4 + len) (node_room - len) → v ≡ inserted_bytes s x p e b
          insert_bytes_3 i j =
              j ∙ ap (λ (u : List ℕ). clear_at u (at + 4 + len) (node_room - len)) (i ∙ ap (λ (t : List ℕ). write_at 4 t at len) after_is)
              ∙ ap (λ (m : ℕ). clear_at (write_at 4 (over s (at + 4) made.bytes) at m) (at + 4 + m) (node_room - m)) len_is.0
              ∙ sym (inserted_is ∙ pick_f _ _ len_is.1)

-- ---- the longer node is written

module _ (s : List ℕ) (x i : ℕ) (e : Sep ℕ) (b : ℕ) (small : Bytes s) (held : holds_node s x ≡ true) (plain : (places_in s x).standard ≡ true) (within : i ≤ (places_in s x).count) (fit : Fit e) where
  abbrev pub longer : List Step
  longer = take i (rest_in s x) ++ ((e, b) ∷ drop i (rest_in s x))

  bytes_are : bytes_in s x ≡ node_bytes s x
  unfolding raw_in
  bytes_are = raw_in_lem s x plain ∙ pick_t _ _ held

  record Sits : Type 0 where
    slot : is_slot s x ≡ true
    most : length_at s x ≤ most_node
    room : start x + slot_size ≤ length s
    size : length (bytes_in s x) ≡ length_at s x

  sits : Sits
  unfolding holds_node node_bytes
  sits =
      let p = both_true (is_slot s x) (leb least_node (length_at s x) && leb (length_at s x) most_node) held in
      let q = both_true (leb least_node (length_at s x)) (leb (length_at s x) most_node) p.1 in
      let m = leb-true (length_at s x) most_node q.1 in
      let w = (whole s x p.0).within in
      record { slot = p.0; most = m; room = w; size = ap length bytes_are ∙ length_part s (start x + 4) (length_at s x) (omega arith) }

  -- the bytes are standard form of the chain that they are read as
  pub standard_is : bytes_in s x ≡ encode (first_in s x) (rest_in s x)
  unfolding places_in
  standard_is =
      let c : List ℕ = bytes_in s x in
      let t = flagged_standard c (bytes_small s x small) plain in
      let g = scan_finds c t.first t.rest t.fine.first t.fine.rest t.fine.most t.bytes in
      t.bytes ∙ rw (g.first, g.rest)

  abbrev pub place : ℕ
  place = splice_at (places_in s x) i

  pub place_is : place ≡ length (encode (first_in s x) (take i (rest_in s x)))
  unfolding places_in
  place_is = splice_place (bytes_in s x) i plain within

  pub place_within : place ≤ length_at s x
  place_within = omega (arith, place_is, splice_within (first_in s x) (rest_in s x) i, ap length standard_is, sits.size)

  pub longer_is : spliced (bytes_in s x) place e b ≡ encode (first_in s x) longer
  longer_is = ap (λ (t : List ℕ). spliced t place e b) standard_is ∙ ap (λ (m : ℕ). spliced (encode (first_in s x) (rest_in s x)) m e b) place_is ∙ sym (splice_encode (first_in s x) (rest_in s x) i e b)

  longer_length : length (encode (first_in s x) longer) ≡ length_at s x + splice_width e
  longer_length = sym (ap length longer_is) ∙ length_spliced (bytes_in s x) place e b (omega (arith, place_within, sits.size)) ∙ ap (λ (m : ℕ). m + splice_width e) sits.size

  front_is : take (length_at s x) (part s (start x + 4) node_room) ≡ bytes_in s x
  unfolding part node_bytes
  front_is = take-take (length_at s x) node_room (drop (start x + 4) s) (omega (arith, sits.most)) ∙ sym bytes_are

  module _ (fine : Writable (first_in s x) longer) where
    made_is : splice_in (part s (start x + 4) node_room) (length_at s x) place e b
        ≡ record { len = length (encode (first_in s x) longer); bytes = over (part s (start x + 4) node_room) 0 (encode (first_in s x) longer) }
    unfolding splice_in
    made_is =
        let d : List ℕ = part s (start x + 4) node_room in
        let l : length d ≡ node_room = length_part s (start x + 4) node_room (omega (arith, sits.room)) in
        let m = standard_most (first_in s x) longer fine in
        let fits = fits_in_lem (length d) (length_at s x) (splice_width e) (omega (arith, longer_length)) in
        pick_f _ _ (le-ltb longest_key (length e.key) fit.short) ∙ pick_t _ _ fits ∙ pick_f _ _ (le-ltb (length_at s x) place place_within)
        ∙ rw (front_is, longer_is, longer_length)

    pub inserts_node : inserted_bytes s x place e b ≡ write_node s (record { slot = x; first = first_in s x; rest = longer })
    unfolding inserted_bytes write_node
    inserts_node =
        let c : List ℕ = encode (first_in s x) longer in
        let a : ℕ = start x in
        let r = sits.room in
        let m = standard_most (first_in s x) longer fine in
        let z : a + 4 + 0 ≡ a + 4 = omega arith in
        let o : over s (a + 4) (over (part s (a + 4) node_room) 0 c) ≡ over s (a + 4) c = sym (rw z at (over_in s (a + 4) 0 node_room c (omega arith) (omega arith))) in
        let t : List ℕ = write_at 4 (over s (a + 4) c) a (length c) in
        let k : length t ≡ length s = length_write_at 4 (over s (a + 4) c) a (length c) ∙ length_over s (a + 4) c (omega arith) in
        let n : eqb (length c) 0 ≡ false = ne_eqb (length c) 0 (λ y. omega (arith, y, longer_length, sep_some)) in
        pick_t _ _ sits.slot ∙ ap (laid s a) made_is ∙ pick_f _ _ n
        ∙ ap (λ (y : List ℕ). clear_at (write_at 4 y a (length c)) (a + 4 + length c) (node_room - length c)) o
        ∙ clear_at_in t (a + 4 + length c) (node_room - length c) (omega arith)
        ∙ rw sits.slot
      where
        sep_some : 8 ≤ splice_width e
        sep_some = omega arith

  -- ---- the node whose separator at the index has another value, that of e

  module _ (y : Step) (q : List Step) (there : drop i (rest_in s x) ≡ y ∷ q) (same : e.key ≡ y.0.key) where
    abbrev pub again : List Step
    again = take i (rest_in s x) ++ ((e, y.1) ∷ q)

    again_is : encode (first_in s x) again ≡ over (bytes_in s x) place (le 8 e.val)
    again_is =
        revalue_encode (first_in s x) (rest_in s x) i y q there e same
        ∙ ap (λ (t : List ℕ). over t (length (encode (first_in s x) (take i (rest_in s x)))) (le 8 e.val)) (sym standard_is)
        ∙ ap (λ (m : ℕ). over (bytes_in s x) m (le 8 e.val)) (sym place_is)

    value_within : place + 8 ≤ length_at s x
    value_within = omega (arith, place_is, revalue_within (first_in s x) (rest_in s x) i y q there, ap length standard_is, sits.size)

    again_length : length (encode (first_in s x) again) ≡ length_at s x
    again_length = ap length again_is ∙ length_over (bytes_in s x) place (le 8 e.val) (omega (arith, value_within, sits.size, length_le 8 e.val)) ∙ sits.size

    abbrev valued : List ℕ
    valued = over s (start x + 4 + place) (le 8 e.val)

    -- the length stays, so writing it again changes nothing
    keeps_length : write_at 4 valued (start x) (length_at s x) ≡ valued
    unfolding length_at
    keeps_length =
        let a : ℕ = start x in
        let r = sits.room in
        let w = value_within in
        let m = sits.most in
        let l : length valued ≡ length s = length_over s (a + 4 + place) (le 8 e.val) (omega (arith, length_le 8 e.val)) in
        let b : part valued a 4 ≡ part s a 4 = part_before s (a + 4 + place) a 4 (le 8 e.val) (omega arith) (omega arith) in
        let k : length (part s a 4) ≡ 4 = length_part s a 4 (omega arith) in
        let g : le 4 (read_at 4 s a) ≡ part s a 4 = ap (le 4) (read_at_in 4 s a (omega arith)) ∙ ap (λ (n : ℕ). le n (un (part s a 4))) (sym k) ∙ le_un (part s a 4) (bytes_part s a 4 small) in
        write_at_in 4 valued a (read_at 4 s a) (omega arith) ∙ ap (over valued a) (g ∙ sym b) ∙ over_part valued a 4 (omega arith)

    pub revalues_node : revalued_bytes s x place e.val ≡ write_node s (record { slot = x; first = first_in s x; rest = again })
    unfolding revalued_bytes write_node node_bytes
    revalues_node =
        let c : List ℕ = encode (first_in s x) again in
        let a : ℕ = start x in
        let n : ℕ = length_at s x in
        let v : ℕ = e.val in
        let r = sits.room in
        let m = sits.most in
        let w = value_within in
        let o : over s (a + 4) c ≡ valued = ap (over s (a + 4)) (again_is ∙ ap (λ (t : List ℕ). over t place (le 8 v)) bytes_are) ∙ sym (over_in s (a + 4) place n (le 8 v) (omega arith) (omega (arith, length_le 8 v))) in
        let l : length valued ≡ length s = length_over s (a + 4 + place) (le 8 v) (omega (arith, length_le 8 v)) in
        let done : over (write_at 4 (over s (a + 4) c) a (length c)) (a + 4 + length c) (zeros (node_room - length c)) ≡ over valued (a + 4 + n) (zeros (node_room - n)) =
        ap (λ (t : List ℕ). over (write_at 4 t a (length c)) (a + 4 + length c) (zeros (node_room - length c))) o
        ∙ ap (λ (k : ℕ). over (write_at 4 valued a k) (a + 4 + k) (zeros (node_room - k))) again_length
        ∙ ap (λ (t : List ℕ). over t (a + 4 + n) (zeros (node_room - n))) keeps_length in
        pick_t _ _ sits.slot ∙ pick_f _ _ (le-ltb node_room n (omega arith)) ∙ pick_t _ _ (fits_in_lem n place 8 w)
        ∙ ap (λ (t : List ℕ). clear_at t (a + 4 + n) (node_room - n)) (write_at_in 8 s (a + 4 + place) v (omega arith))
        ∙ clear_at_in valued (a + 4 + n) (node_room - n) (omega arith)
        ∙ rw sits.slot (sym done)
