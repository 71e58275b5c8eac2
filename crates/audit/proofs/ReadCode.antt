-- How the code reads a node (its places in standard form, zeros behind it) is how the walk reads it. Assumes nothing.
use mathlib.Core.Path.{◌≡◌, refl, sym, ap, ◌∙◌}
use mathlib.Core.List.{List, [], ◌∷◌, ◌++◌, map, append_assoc, append-nil}
use mathlib.Core.Bool.{Bool, true, false, cond, ◌&&◌}
use mathlib.Core.Option.{none, some}
use Rattle.std.specs.Prelude as std
use Rattle.std.specs.Prelude.{None}
use Prim.Native.Nat.{ℕ, ◌+◌, ◌-◌, ◌≤◌}
use lib.ListN.{length, get_or, length-append, length-map}
use lib.Dec.{leb}
use native.Mathlib.Omega.{arith}
use native.Mathlib.Numerals.{add-one}
use borrow.Author.Tests.{leb-true, le-leb}
use Rattle.word.specs.Part.{part}
use Rattle.word.specs.Num.{Bytes, le, un, zeros}
use Rattle.word.specs.At.{zero_at}
use Rattle.word.proofs.PartLaws.{length_part, part_add, part_part, part_seam}
use Rattle.word.proofs.NumLaws.{length_zeros, le_un, bytes_part}
use Rattle.word.proofs.AtLaws.{read_at_in, zero_at_is, zero_at_true}
use Rattle.tree.proofs.Cases.{by_bool}
use Rattle.node.specs.declared.Slot.{Slot}
use Rattle.codec.specs.declared.Ending.{Ending}
use Rattle.codec.specs.Codec.{Spot, Scan, encode, scan, step_of, is_accepted, is_no_byte_left}
use Rattle.node.specs.Chain.{padded, value_of, child_of}
use Rattle.codec.specs.Layout.{layout, places_of, reading_of, all_plain}
use Rattle.codec.proofs.ScanLaws.{refused_not_whole, AllLie, scan_lies, scan_sound}
use Rattle.node.proofs.ChainLaws.{get_or_padded, get_or_mapped, length_padded}
use Rattle.codec.proofs.ReadLaws.{ends_within}
use Rattle.slots.specs.Limits.{least_node, most_node, slot_size}
use Rattle.slots.specs.Layout.{start, slot_at, used}
use Rattle.slots.specs.Mirror.{is_slot, length_at, node_bytes, holds_node}
use Rattle.slots.specs.Entries.{same_bytes, as_written}
use Rattle.slots.specs.Code.{node_room, slot_of, some_slot, bytes_in, places_in, reading_in, first_in, rest_in, node_in}
use Rattle.slots.proofs.HeaderLaws.{and_both}
use Rattle.slots.proofs.PlaceLaws.{slot_is, slot_part}
use Rattle.slots.proofs.CodeLaws.{whole, bytes_small, read_accepted, read_refused, accepted_holds, accepted_standard, accepted_bytes, accepted_slot, accepted_some}
use Rattle.slots.proofs.Building.{same_bytes_true, same_bytes_refl}
use Rattle.audit.specs.Walk.{read_written}
use Rattle.audit.specs.Code.{has_zeros, steps_at}

pub no_way : {A : Type 0} → true ≡ false → A
no_way e = let k : ◌≡◌ {A = ℕ} 0 1 = cc in absurd (omega arith)

-- ---- the separators of a node, by its places in the store

module _ (s : List ℕ) (from n : ℕ) (b : List ℕ) (here : b ≡ part s from n) (fits : from + n ≤ length s) where
  key_there : (a m : ℕ) → a + m ≤ length b → part s (from + a) m ≡ part b a m
  key_there a m h = let l : length b ≡ n = ap length here ∙ length_part s from n fits in rw here (sym (part_part s from n a m (omega arith)))

  module _ (r : Scan) where
    steps_from_lem : (p q : List (Spot × ℕ)) (i : ℕ) → r.rest ≡ p ++ q → length p ≡ i → AllLie b q → steps_at s from (layout r) i (length q) ≡ map (step_of b) q
    unfolding layout
    steps_from_lem p [] i e l h = refl
    steps_from_lem p (x ∷ q) i e l h =
        let same : p ++ x ∷ q ≡ (p ++ (x ∷ [])) ++ q = sym (append_assoc p (x ∷ []) q) in
        let st : get_or (padded 8 0 (map (λ (y : Spot × ℕ). y.0.start) r.rest)) i 0 ≡ x.0.start = rw (e, ← l) (get_or_padded 8 0 (map (λ (y : Spot × ℕ). y.0.start) (p ++ x ∷ q)) (length p) ∙ get_or_mapped (λ (y : Spot × ℕ). y.0.start) 0 p x q) in
        let ln : get_or (padded 8 0 (map (λ (y : Spot × ℕ). y.0.len) r.rest)) i 0 ≡ x.0.len = rw (e, ← l) (get_or_padded 8 0 (map (λ (y : Spot × ℕ). y.0.len) (p ++ x ∷ q)) (length p) ∙ get_or_mapped (λ (y : Spot × ℕ). y.0.len) 0 p x q) in
        let vl : get_or (padded 8 (value_of 0) (map (λ (y : Spot × ℕ). value_of y.0.value) r.rest)) i (value_of 0) ≡ value_of x.0.value = rw (e, ← l) (get_or_padded 8 (value_of 0) (map (λ (y : Spot × ℕ). value_of y.0.value) (p ++ x ∷ q)) (length p) ∙ get_or_mapped (λ (y : Spot × ℕ). value_of y.0.value) (value_of 0) p x q) in
        let kid : get_or (padded 9 (child_of 0) (child_of r.first ∷ map (λ (y : Spot × ℕ). child_of y.1) r.rest)) (i + 1) (child_of 0) ≡ child_of x.1 = rw (e, ← l) (get_or_padded 9 (child_of 0) (child_of r.first ∷ map (λ (y : Spot × ℕ). child_of y.1) (p ++ x ∷ q)) (length p + 1) ∙ rw add-one (get_or_mapped (λ (y : Spot × ℕ). child_of y.1) (child_of 0) p x q)) in
        let ih = steps_from_lem (p ++ (x ∷ [])) q (i + 1) (e ∙ same) (simp length-append (omega arith)) h.1 in
        rw (st, ln, vl, kid, key_there x.0.start x.0.len h.0.within, ih)

  steps_of_lem : steps_at s from (places_of b) 0 (places_of b).count ≡ map (step_of b) (scan b).rest
  unfolding places_of
  steps_of_lem = go
    where
      go : steps_at s from (layout (scan b)) 0 (layout (scan b)).count ≡ map (step_of b) (scan b).rest
      go = unfold layout in steps_from_lem (scan b) [] (scan b).rest 0 refl refl (scan_lies b).spots

-- ---- the sizes of places

module _ (b : List ℕ) where
  few : length (scan b).rest ≤ 8
  few = (scan_lies b).most

  pub starts_eight : length (places_of b).starts ≡ 8
  unfolding places_of layout
  starts_eight = length_padded 8 0 (map (λ (y : Spot × ℕ). y.0.start) (scan b).rest) (omega (arith, few, length-map (scan b).rest (λ (y : Spot × ℕ). y.0.start)))

  pub lens_eight : length (places_of b).lens ≡ 8
  unfolding places_of layout
  lens_eight = length_padded 8 0 (map (λ (y : Spot × ℕ). y.0.len) (scan b).rest) (omega (arith, few, length-map (scan b).rest (λ (y : Spot × ℕ). y.0.len)))

  pub children_nine : length (places_of b).children ≡ 9
  unfolding places_of layout
  children_nine = length_padded 9 (child_of 0) (child_of (scan b).first ∷ map (λ (y : Spot × ℕ). child_of y.1) (scan b).rest) (omega (arith, few, length-map (scan b).rest (λ (y : Spot × ℕ). child_of y.1)))

module _ (s : List ℕ) (x : ℕ) where
  pub count_is : (places_in s x).count ≡ length (rest_in s x)
  unfolding places_in places_of layout
  count_is = sym (length-map (scan (bytes_in s x)).rest (step_of (bytes_in s x)))

  pub first_is : (get_or (places_in s x).children 0 (child_of 0)).0 ≡ first_in s x
  unfolding places_in places_of layout padded
  first_is = refl

-- ---- a node whose bytes are in standard form

whole_accepted : (e : Ending) → is_no_byte_left e ≡ true → is_accepted e ≡ true
whole_accepted e h = by_bool (is_accepted e) (λ a. a) (λ a. no_way (sym h ∙ refused_not_whole e a))

module _ (s : List ℕ) (bs : Bytes s) (x : ℕ) where
  -- a slot that holds a node, and where its bytes stand
  record Held : Type 0 where
    least : 1 ≤ x
    within : start x + slot_size ≤ length s
    short : least_node ≤ length_at s x
    long : length_at s x ≤ most_node
    bytes : bytes_in s x ≡ part s (start x + 4) (length_at s x)

  held : is_accepted (reading_in s x).ending ≡ true → Held
  unfolding node_bytes
  held ok =
      let p = parts (accepted_holds s x ok) in
      let q = and_both (leb least_node (length_at s x)) (leb (length_at s x) most_node) p.1 in
      let w = whole s x p.0 in
      record {
        least = w.least;
        within = w.within;
        short = leb-true least_node (length_at s x) q.0;
        long = leb-true (length_at s x) most_node q.1;
        bytes = accepted_bytes s x ok;
      }
    where
      parts : holds_node s x ≡ true → (is_slot s x ≡ true) × ((leb least_node (length_at s x) && leb (length_at s x) most_node) ≡ true)
      parts = unfold holds_node in (λ h. and_both (is_slot s x) (leb least_node (length_at s x) && leb (length_at s x) most_node) h)

  -- a slot's bytes are its node's as written, if those are the node's and zeros stand behind
  module _ (o : Held) (same : bytes_in s x ≡ encode (first_in s x) (rest_in s x)) where
    abbrev l : ℕ
    l = length_at s x

    node_lem : encode (first_in s x) (rest_in s x) ≡ part s (start x + 4) l
    node_lem = sym same ∙ o.bytes

    node_length : length (encode (first_in s x) (rest_in s x)) ≡ l
    node_length = ap length node_lem ∙ length_part s (start x + 4) l (omega (arith, o.within, o.long))

    says : le 4 l ≡ part s (start x) 4
    unfolding length_at
    says =
        let k = length_part s (start x) 4 (omega (arith, o.within)) in
        ap (le 4) (read_at_in 4 s (start x) (omega (arith, o.within))) ∙ ap (λ (j : ℕ). le j (un (part s (start x) 4))) (sym k) ∙ le_un (part s (start x) 4) (bytes_part s (start x) 4 bs)

    used_is : used (first_in s x) (rest_in s x) ≡ part s (start x) 4 ++ (part s (start x + 4) l ++ zeros (node_room - l))
    unfolding used
    used_is = rw (node_length, node_lem, says)

    slot_parts : slot_at s x ≡ part s (start x) 4 ++ (part s (start x + 4) l ++ part s (start x + 4 + l) (node_room - l))
    slot_parts =
        let k = o.long in
        let e : 2556 ≡ l + (node_room - l) = omega arith in
        slot_is s x o.least ∙ part_add s (start x) 4 2556
        ∙ ap (λ (t : List ℕ). part s (start x) 4 ++ t) (ap (part s (start x + 4)) e ∙ part_add s (start x + 4) l (node_room - l))

    behind_lem : slot_at s x ≡ used (first_in s x) (rest_in s x) → part s (start x + 4 + l) (node_room - l) ≡ zeros (node_room - l)
    behind_lem h =
        let k = o.long in
        let a : start x + 4 + l ≡ start x + (4 + l) = omega arith in
        let front : List ℕ = part s (start x) 4 ++ part s (start x + 4) l in
        let four = length_part s (start x) 4 (omega (arith, o.within)) in
        let more = length_part s (start x + 4) l (omega (arith, o.within)) in
        let g : used (first_in s x) (rest_in s x) ≡ front ++ (zeros (node_room - l) ++ []) = used_is ∙ rw (append-nil (zeros (node_room - l))) (sym (append_assoc (part s (start x) 4) (part s (start x + 4) l) (zeros (node_room - l)))) in
        ap (λ (i : ℕ). part s i (node_room - l)) a ∙ slot_part s x (4 + l) (node_room - l) o.least (omega arith)
        ∙ ap (λ (t : List ℕ). part t (4 + l) (node_room - l)) (h ∙ g)
        ∙ part_seam front (zeros (node_room - l)) [] (4 + l) (node_room - l) (simp length-append (omega arith)) (length_zeros (node_room - l))

    zeros_same : same_bytes (slot_at s x) (used (first_in s x) (rest_in s x)) ≡ has_zeros s x
    unfolding has_zeros
    zeros_same =
        let k = o.long in
        let u : List ℕ = used (first_in s x) (rest_in s x) in
        rw (le-leb l node_room (omega arith))
        (by_bool (zero_at s (start x + 4 + l) (node_room - l))
        (λ z. let t : slot_at s x ≡ u = slot_parts ∙ ap (λ (r : List ℕ). part s (start x) 4 ++ (part s (start x + 4) l ++ r)) (zero_at_true s (start x + 4 + l) (node_room - l) z).1 ∙ sym used_is in
        ap (λ (r : List ℕ). same_bytes r u) t ∙ same_bytes_refl u ∙ sym z)
        (λ z. by_bool (same_bytes (slot_at s x) u)
        (λ e. no_way (sym (zero_at_is s (start x + 4 + l) (node_room - l) (omega (arith, o.within)) (behind_lem (same_bytes_true (slot_at s x) u e))) ∙ z))
        (λ e. e ∙ sym z)))

  -- ---- read and accepted

  module _ (ok : is_accepted (reading_in s x).ending ≡ true) where
    read_some : read_written s x ≡ cond (same_bytes (slot_at s x) (used (first_in s x) (rest_in s x))) (some (node_in s x)) none
    read_some = ap (as_written (slot_at s x)) (read_accepted s x ok)

  pub read_loose : (places_in s x).standard ≡ false → read_written s x ≡ none
  read_loose h =
      by_bool (is_accepted (reading_in s x).ending)
      (λ ok. no_way (sym (accepted_standard s x ok) ∙ h))
      (λ no. ap (as_written (slot_at s x)) (read_refused s x no))

  module _ (h : (places_in s x).standard ≡ true) where
    flags : (all_plain (scan (bytes_in s x)).rest ≡ true) × (is_no_byte_left (scan (bytes_in s x)).ending ≡ true)
    flags = go h
      where
        go : (places_in s x).standard ≡ true → (all_plain (scan (bytes_in s x)).rest ≡ true) × (is_no_byte_left (scan (bytes_in s x)).ending ≡ true)
        go = unfold places_in places_of layout in (λ h. and_both (all_plain (scan (bytes_in s x)).rest) (is_no_byte_left (scan (bytes_in s x)).ending) h)

    ending_ok : is_accepted (reading_in s x).ending ≡ true
    ending_ok = unfold reading_in reading_of in whole_accepted (scan (bytes_in s x)).ending flags.1

    pub standard_slot : slot_of s x ≡ x
    standard_slot = (accepted_slot s x ending_ok).1

    pub standard_some : {o : std.Option Slot} → o ≡ some_slot (slot_of s x) → o ≡ None → ⊥
    standard_some = accepted_some s x ending_ok

    stands : Held
    stands = held ending_ok

    encoded_lem : bytes_in s x ≡ encode (first_in s x) (rest_in s x)
    encoded_lem = (scan_sound (bytes_in s x) (bytes_small s x bs)).same flags.0 flags.1

    read_is : read_written s x ≡ cond (has_zeros s x) (some (node_in s x)) none
    read_is = read_some ending_ok ∙ ap (λ (b : Bool). cond b (some (node_in s x)) none) (zeros_same stands encoded_lem)

    pub read_written_lem : has_zeros s x ≡ true → read_written s x ≡ some (node_in s x)
    read_written_lem z = read_is ∙ rw z

    pub read_soiled : has_zeros s x ≡ false → read_written s x ≡ none
    read_soiled z = read_is ∙ rw z

    -- its separators, as the code finds them in the store
    pub steps_are : steps_at s (start x + 4) (places_in s x) 0 (places_in s x).count ≡ rest_in s x
    unfolding places_in
    steps_are = steps_of_lem s (start x + 4) (length_at s x) (bytes_in s x) stands.bytes (omega (arith, stands.within, stands.long))

    pub key_fits : (i : ℕ) → start x + 4 + get_or (places_in s x).starts i 0 + get_or (places_in s x).lens i 0 ≤ length s
    unfolding places_in
    key_fits i =
        let k : length (bytes_in s x) ≡ length_at s x = ap length stands.bytes ∙ length_part s (start x + 4) (length_at s x) (omega (arith, stands.within, stands.long)) in
        omega (arith, ends_within (bytes_in s x) {p = places_of (bytes_in s x)} refl i, k, stands.within, stands.long)
