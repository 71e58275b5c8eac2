-- One more separator among node bytes: standard form of the longer chain, and where an index begins, by the lengths of the
-- keys and by the place of the key before it. Assumes nothing.
use mathlib.Core.Path.{◌≡◌, refl, sym, ap, ◌∙◌}
use mathlib.Core.List.{List, [], ◌∷◌, ◌++◌, map, append_assoc}
use mathlib.Core.Bool.{Bool, true, false, not}
use Prim.Native.Nat.{ℕ, zero, suc, ◌+◌, ◌-◌, ◌≤◌, ◌<◌}
use lib.ListN.{length, take, drop, get_or, replicate, length-append, length-map, take-append-drop}
use lib.Seq.{take_at, drop_at, take-append-le, take-take, length-take-le}
use lib.Dec.{leb, ltb, eqb}
use native.Mathlib.Omega.{arith}
use borrow.Author.Tests.{ltb-true, leb-true, lt-ltb, le-ltb, ne_eqb, not-true, not-false}
use Rattle.std.specs.Prelude.{Option, Some, None, Result, Ok, Err}
use Rattle.word.specs.Pick.{pick_t, pick_f, by_test}
use Rattle.word.specs.Part.{part, over}
use Rattle.word.specs.Num.{le}
use Rattle.word.specs.At.{fits_in, read_at, write_at, move_at}
use Rattle.word.proofs.NumLaws.{length_le}
use Rattle.word.proofs.PartLaws.{length_part, length_over, drop_take, over_beside, over_seam}
use Rattle.word.proofs.AtLaws.{fits_in_lem, fits_true, write_at_in}
use Rattle.word.proofs.MoveLaws.{move_at_in, over_ahead}
use Rattle.tree.specs.Map.{Sep}
use Rattle.codec.specs.declared.Head.{Head}
use Rattle.codec.specs.declared.Ending.{Ending}
use Rattle.node.specs.Chain.{Step, longest_key, padded}
use Rattle.codec.specs.Codec.{sized, sep_length, rest_length, encode_sep, encode_rest, encode, is_accepted, is_no_byte_left, Spot, Scan, key_at, size_at, head_at, follow, scan_from, settle, scan, step_of}
use Rattle.codec.specs.Layout.{all_plain, layout, places_of, place_in, key_place}
use Rattle.codec.specs.Mirror.{width_all, width_first, put_sep}
use Rattle.codec.specs.Splice.{spliced, splice_at, splice_width, Spliced, new_length, splice_in}
use Rattle.codec.proofs.EncodeLaws.{length_sep, rest_append, length_encode, sep_short, sep_long}
use Rattle.codec.proofs.ScanLaws.{and_left, and_right, AllLie, scan_lies}
use Rattle.codec.proofs.ReadLaws.{starts_at, lens_at}

-- ---- the bytes

encode_append : (c : ℕ) (p q : List Step) → encode c (p ++ q) ≡ encode c p ++ encode_rest q
unfolding encode
encode_append c p q = rw (rest_append p q) (sym (append_assoc (le 8 c) (encode_rest p) (encode_rest q)))

module _ (c : ℕ) (r : List Step) (i : ℕ) where
  -- the bytes before an index, and behind it
  encode_parts : encode c r ≡ encode c (take i r) ++ encode_rest (drop i r)
  encode_parts = ap (encode c) (sym (take-append-drop i r)) ∙ encode_append c (take i r) (drop i r)

  pub splice_within : length (encode c (take i r)) ≤ length (encode c r)
  splice_within = omega (arith, ap length encode_parts, length-append (encode c (take i r)) (encode_rest (drop i r)))

  -- standard form of the chain with one more is the old bytes with the new ones between
  pub splice_encode : (e : Sep ℕ) (b : ℕ) → encode c (take i r ++ ((e, b) ∷ drop i r)) ≡ spliced (encode c r) (length (encode c (take i r))) e b
  unfolding spliced encode_rest
  splice_encode e b =
      let p : List ℕ = encode c (take i r) in
      let q : List ℕ = encode_rest (drop i r) in
      encode_append c (take i r) ((e, b) ∷ drop i r)
      ∙ sym (rw (encode_parts, take_at p q (length p) refl, drop_at p q (length p) refl))

-- ---- another value for the separator at an index: the value stands where the separator begins

value_first : (e : Sep ℕ) (b : ℕ) (q : List Step) → encode_rest ((e, b) ∷ q) ≡ le 8 e.val ++ (sized e.key ++ (le 8 b ++ encode_rest q))
unfolding encode_rest encode_sep
value_first e b q = append_assoc (le 8 e.val) (sized e.key) (le 8 b ++ encode_rest q)

module _ (c : ℕ) (r : List Step) (i : ℕ) (y : Step) (q : List Step) (there : drop i r ≡ y ∷ q) where
  abbrev behind : List ℕ
  behind = sized y.0.key ++ (le 8 y.1 ++ encode_rest q)

  value_there : encode c r ≡ encode c (take i r) ++ (le 8 y.0.val ++ behind)
  value_there = encode_parts c r i ∙ ap (λ (l : List ℕ). encode c (take i r) ++ l) (ap encode_rest there ∙ value_first y.0 y.1 q)

  pub revalue_within : length (encode c (take i r)) + 8 ≤ length (encode c r)
  revalue_within =
      let l : length (encode c r) ≡ length (encode c (take i r)) + (8 + length behind) = ap length value_there ∙ length-append (encode c (take i r)) (le 8 y.0.val ++ behind) ∙ ap (λ (n : ℕ). length (encode c (take i r)) + n) (length-append (le 8 y.0.val) behind ∙ ap (λ (n : ℕ). n + length behind) (length_le 8 y.0.val)) in
      omega arith

  pub revalue_encode : (e : Sep ℕ) → e.key ≡ y.0.key → encode c (take i r ++ ((e, y.1) ∷ q)) ≡ over (encode c r) (length (encode c (take i r))) (le 8 e.val)
  revalue_encode e same =
      let p : List ℕ = encode c (take i r) in
      encode_append c (take i r) ((e, y.1) ∷ q) ∙ ap (λ (l : List ℕ). p ++ l) (value_first e y.1 q ∙ ap (λ (k : List ℕ). le 8 e.val ++ (sized k ++ (le 8 y.1 ++ encode_rest q))) same)
      ∙ sym (over_seam p (le 8 y.0.val) (le 8 e.val) behind (length p) refl (length_le 8 y.0.val ∙ sym (length_le 8 e.val)))
      ∙ ap (λ (l : List ℕ). over l (length p) (le 8 e.val)) (sym value_there)

-- ---- the place, by the lengths of the keys

spots_width : (s : List ℕ) (a i : ℕ) (r : List (Spot × ℕ)) → AllLie s r → width_all a (take i (map (λ (x : Spot × ℕ). x.0.len) r)) ≡ a + rest_length (take i (map (step_of s) r))
spots_width s a zero r h = omega arith
spots_width s a (suc i) [] h = omega arith
spots_width s a (suc i) (x ∷ r) h =
    let l = length_part s x.0.start x.0.len h.0.within in
    spots_width s (a + (sep_length x.0.len + 8)) i r h.1 ∙ rw l (omega arith)

-- the bytes before an index of what was read
abbrev pub front_of : List ℕ → ℕ → List ℕ
front_of s i = encode (scan s).first (take i (map (step_of s) (scan s).rest))

pub splice_width_lem : (s : List ℕ) (i : ℕ) → i ≤ (places_of s).count → width_first 8 i (places_of s).lens ≡ length (front_of s i)
unfolding places_of layout width_first padded
splice_width_lem s i h =
    let r : List (Spot × ℕ) = (scan s).rest in
    let l : List ℕ = map (λ (x : Spot × ℕ). x.0.len) r in
    ap (width_all 8) (take-append-le i l (replicate (8 - length l) 0) (omega (arith, length-map r (λ (x : Spot × ℕ). x.0.len))))
    ∙ spots_width s 8 i r (scan_lies s).spots ∙ sym (length_encode (scan s).first (take i (map (step_of s) r)))

-- ---- the place, by the key before it

-- where a separator at a place ends, that is written as standard form has it
abbrev HeadEnds : ℕ → Result Head Ending → Type 0
HeadEnds at (Ok h) = h.plain ≡ true → h.start + h.len ≡ at + sep_length h.len
HeadEnds at (Err e) = Unit {0}

-- the same of each that was read, the first behind the child at a place
abbrev Ends : ℕ → List (Spot × ℕ) → Type 0
Ends at [] = Unit {0}
Ends at (x ∷ r) = (x.0.start + x.0.len ≡ at + 8 + sep_length x.0.len) × Ends (x.0.start + x.0.len) r

abbrev ScanEnds : ℕ → Scan → Type 0
ScanEnds at f = all_plain f.rest ≡ true → Ends at f.rest

module _ (s : List ℕ) where
  key_ends : (at v start len : ℕ) (plain : Bool) → (plain ≡ true → start + len ≡ at + sep_length len) → HeadEnds at (key_at s v start len plain)
  unfolding key_at
  key_ends at v start len plain h =
      by_test (HeadEnds at) (fits_in (length s) start len) (λ w.
      by_test (HeadEnds at) (eqb v 0) (λ z. tt) λ z.
      by_test (HeadEnds at) (ltb longest_key len) (λ l. tt) (λ l. h))
      (λ w. tt)

  head_ends : (at : ℕ) → HeadEnds at (head_at s at)
  unfolding head_at size_at
  head_ends at =
      let n : ℕ = get_or s (at + 8) 0 in
      let m : ℕ = read_at 4 s (at + 9) in
      by_test (HeadEnds at) (fits_in (length s) at 9) (λ w.
      by_test (HeadEnds at) (ltb n 255) (λ c. key_ends at (read_at 8 s at) (at + 9) n true (λ p. omega (arith, sep_short n (ltb-true n 255 c)))) λ c.
      by_test (HeadEnds at) (fits_in (length s) (at + 9) 4)
      (λ d. key_ends at (read_at 8 s at) (at + 13) m (leb 255 m) (λ p. omega (arith, sep_long m (leb-true 255 m p))))
      (λ d. tt))
      (λ w. tt)

  follow_ends : (at c : ℕ) (next : ℕ → Scan) → ((i : ℕ) → ScanEnds i (next i)) → (d : Result Head Ending) → HeadEnds (at + 8) d → ScanEnds at (follow s next c d)
  follow_ends at c next ih (Ok h) g p = (
    g (and_left h.plain (all_plain (next (h.start + h.len)).rest) p),
    ih (h.start + h.len) (and_right h.plain (all_plain (next (h.start + h.len)).rest) p),
  )
  follow_ends at c next ih (Err e) g p = tt

  from_ends : (k at : ℕ) → ScanEnds at (scan_from s k at)
  unfolding scan_from
  from_ends zero at =
      by_test (ScanEnds at) (fits_in (length s) at 8)
      (λ w. by_test (ScanEnds at) (eqb (at + 8) (length s)) (λ e p. tt) (λ e p. tt))
      (λ w p. tt)
  from_ends (suc k) at =
      by_test (ScanEnds at) (fits_in (length s) at 8)
      (λ w. by_test (ScanEnds at) (eqb (at + 8) (length s)) (λ e p. tt)
      (λ e. follow_ends at (read_at 8 s at) (scan_from s k) (from_ends k) (head_at s (at + 8)) (head_ends (at + 8))))
      (λ w p. tt)

  scan_ends : ScanEnds 0 (scan s)
  unfolding scan settle
  scan_ends = by_test (ScanEnds 0) (is_accepted (scan_from s 8 0).ending) (λ a. from_ends 8 0) (λ a p. tt)

  -- the key before index i + 1 ends where the child there begins
  key_before : (at i : ℕ) (r : List (Spot × ℕ)) → i < length r → AllLie s r → Ends at r
      → (place_in r i).start + (place_in r i).len + 8 ≡ at + 8 + rest_length (take (suc i) (map (step_of s) r))
  key_before at i [] h l e = absurd (omega arith)
  key_before at zero (x ∷ r) h l e = let n = length_part s x.0.start x.0.len l.0.within in rw n (omega (arith, e.0))
  key_before at (suc i) (x ∷ r) h l e =
      let n = length_part s x.0.start x.0.len l.0.within in
      key_before (x.0.start + x.0.len) i r (omega arith) l.1 e.1 ∙ rw n (omega (arith, e.0))

  pub splice_place : (i : ℕ) → (places_of s).standard ≡ true → i ≤ (places_of s).count → splice_at (places_of s) i ≡ length (front_of s i)
  unfolding places_of layout key_place
  splice_place zero e h = sym (length_encode (scan s).first [])
  splice_place (suc i) e h =
      let r : List (Spot × ℕ) = (scan s).rest in
      let k = key_before 0 i r (omega arith) (scan_lies s).spots (scan_ends (and_left (all_plain r) (is_no_byte_left (scan s).ending) e)) in
      rw (starts_at s i, lens_at s i) (k ∙ sym (length_encode (scan s).first (take (suc i) (map (step_of s) r))))

-- ---- each way through `splice`

-- a write is one of the bytes before it too
over_front : (d : List ℕ) (p : ℕ) (z : List ℕ) → p ≤ length d → over d p z ≡ over d 0 (take p d ++ z)
unfolding over
over_front d p z h =
    let l : 0 + length (take p d ++ z) ≡ p + length z = simp length-append (omega (arith, length-take-le p d h)) in
    rw l (sym (append_assoc (take p d) z (drop (p + length z) d)))

module _ (d : List ℕ) (n p : ℕ) (e : Sep ℕ) (b : ℕ) where
  abbrev Splices : Option ℕ → List ℕ → Type 0
  Splices r t = (r ≡ new_length (splice_in d n p e b)) × (t ≡ (splice_in d n p e b).bytes)

  splices : {g : Spliced} → splice_in d n p e b ≡ g → {r : Option ℕ} {t : List ℕ} → r ≡ new_length g → t ≡ g.bytes → Splices r t
  splices q x y = (x ∙ sym (ap new_length q), y ∙ sym (ap (λ (g : Spliced). g.bytes) q))

  left_alone : splice_in d n p e b ≡ record { len = 0; bytes = d } → Splices None d
  left_alone q = splices q (sym (pick_t _ _ refl)) refl

  pub splice_1 : 288 < length e.key → Splices None d
  unfolding splice_in
  splice_1 h = left_alone (pick_t _ _ (lt-ltb longest_key (length e.key) h))

  module _ {w : ℕ} {f : Bool} (short : length e.key ≤ 288) (wide : w ≡ sep_length (length e.key)) (fits : f ≡ fits_in (length d) n (w + 8)) where
    tested : f ≡ fits_in (length d) n (splice_width e)
    tested = rw wide at fits

    pub splice_2 : not f ≡ true → Splices None d
    unfolding splice_in
    splice_2 h = left_alone (pick_f _ _ (le-ltb longest_key (length e.key) short) ∙ pick_f _ _ (sym tested ∙ not-true f h))

    module _ (room : not f ≡ false) where
      pub splice_room : n + (w + 8) ≤ length d
      splice_room = fits_true (length d) n (w + 8) (sym fits ∙ not-false f room)

      pub splice_3 : n < p → Splices None d
      unfolding splice_in
      splice_3 h = left_alone (pick_f _ _ (le-ltb longest_key (length e.key) short) ∙ pick_t _ _ (sym tested ∙ not-false f room) ∙ pick_t _ _ (lt-ltb n p h))

      module _ (within : p ≤ n) where
        put_is : (t : List ℕ) → length t ≡ length d → put_sep t p e ≡ over t p (encode_sep e)
        unfolding put_sep
        put_is t l =
            pick_f _ _ (le-ltb longest_key (length e.key) short)
            ∙ pick_t _ _ (fits_in_lem (length t) p (sep_length (length e.key)) (omega (arith, l, wide, splice_room)))

        between : over d 0 (take p d ++ ((encode_sep e ++ le 8 b) ++ part d p (n - p))) ≡ over d 0 (spliced (take n d) p e b)
        unfolding spliced part
        between =
            let m : p + (n - p) ≡ n = omega arith in
            let k : drop p (take n d) ≡ take (n - p) (drop p d) = rw m at (drop_take p (n - p) d) in
            rw (take-take p n d within, k, append_assoc (encode_sep e) (le 8 b) (take (n - p) (drop p d)))

        spliced_is : {d1 d2 d3 : List ℕ} → d1 ≡ move_at d p (n - p) (w + 8) → d2 ≡ put_sep d1 p e → d3 ≡ write_at 8 d2 (p + w) b → d3 ≡ over d 0 (spliced (take n d) p e b)
        spliced_is {d1} {d2} {d3} i j k =
            let r = splice_room in
            let x : List ℕ = encode_sep e in
            let y : List ℕ = part d p (n - p) in
            let lx : length x ≡ w = length_sep e ∙ sym wide in
            let lb = length_le 8 b in
            let ly : length y ≡ n - p = length_part d p (n - p) (omega arith) in
            let lz : length (x ++ le 8 b) ≡ w + 8 = simp length-append (omega arith) in
            let m1 : d1 ≡ over d (p + (w + 8)) y = i ∙ move_at_in d p (n - p) (w + 8) (omega arith) in
            let l1 : length d1 ≡ length d = ap length m1 ∙ length_over d (p + (w + 8)) y (omega arith) in
            let m2 : d2 ≡ over d1 p x = j ∙ put_is d1 l1 in
            let l2 : length d2 ≡ length d = ap length m2 ∙ length_over d1 p x (omega arith) ∙ l1 in
            let beside : over (over d1 p x) (p + w) (le 8 b) ≡ over d1 p (x ++ le 8 b) = rw (← lx) (over_beside d1 p x (le 8 b) (omega arith)) in
            let m3 : d3 ≡ over d1 p (x ++ le 8 b) = k ∙ write_at_in 8 d2 (p + w) b (omega arith) ∙ ap (λ (t : List ℕ). over t (p + w) (le 8 b)) m2 ∙ beside in
            let ahead : over (over d (p + (w + 8)) y) p (x ++ le 8 b) ≡ over d p ((x ++ le 8 b) ++ y) = rw (← lz) (over_ahead d p (x ++ le 8 b) y (omega arith)) in
            m3 ∙ ap (λ (t : List ℕ). over t p (x ++ le 8 b)) m1 ∙ ahead ∙ over_front d p ((x ++ le 8 b) ++ y) (omega arith) ∙ between

        pub splice_4 : {d1 d2 d3 : List ℕ} → d1 ≡ move_at d p (n - p) (w + 8) → d2 ≡ put_sep d1 p e → d3 ≡ write_at 8 d2 (p + w) b → Splices (Some (n + (w + 8))) d3
        unfolding splice_in
        splice_4 i j k =
            splices (pick_f _ _ (le-ltb longest_key (length e.key) short) ∙ pick_t _ _ (sym tested ∙ not-false f room) ∙ pick_f _ _ (le-ltb n p within))
            (rw wide (sym (pick_f _ _ (ne_eqb (n + splice_width e) 0 (λ z. omega arith))))) (spliced_is i j k)
