-- What a scan finds lies within the bytes and can be written; and bytes whose scan is plain up to their end are what the
-- writer makes of what was found. Assumes nothing.
use mathlib.Core.Path.{◌≡◌, refl, sym, ap, subst, ◌∙◌}
use mathlib.Core.List.{List, [], ◌∷◌, ◌++◌, map, append_assoc}
use mathlib.Core.Bool.{Bool, true, false, ◌&&◌}
use Prim.Native.Nat.{ℕ, zero, suc, ◌+◌, ◌^◌, ◌≤◌, ◌<◌}
use lib.ListN.{length, drop, get_or, drop_of_length-le}
use lib.Dec.{leb, ltb, eqb}
use native.Mathlib.Omega.{arith}
use borrow.Author.Tests.{ltb-true, ltb-false, eqb-true, eqb-false, leb-true, lt-ltb, le-ltb}
use Rattle.word.specs.Pick.{pick_t, pick_f, by_test}
use Rattle.word.specs.Part.{part}
use Rattle.word.specs.Num.{le, Bytes}
use Rattle.word.specs.At.{fits_in, read_at}
use Rattle.word.proofs.PartLaws.{length_part}
use Rattle.tree.specs.Map.{Sep}
use Rattle.codec.specs.declared.Ending.{Ending}
use Rattle.codec.specs.declared.Ending.TheVariants.{NoByteLeft, BytesIgnored, ZeroValue, ShortChild, ShortHead, ShortSize, ShortKey, LongKey}
use Rattle.std.specs.Prelude.{Result, Ok, Err}
use Rattle.codec.specs.declared.Head.{Head}
use Rattle.node.specs.Chain.{longest_key}
use Rattle.codec.specs.Codec.{sized, encode_sep, encode_rest, encode, is_no_byte_left, is_accepted, Spot, Scan, stop, key_at, size_at, head_at, follow, scan_from, settle, scan, step_of}
use Rattle.codec.specs.Layout.{all_plain}
use Rattle.word.proofs.AtLaws.{fits_true, read_at_small}
use Rattle.codec.proofs.ByteLaws.{bytes_at, drop_part, drop_read, drop_one}

pub positive : (v : ℕ) → (v ≡ 0 → ⊥) → 0 < v
positive zero z = absurd (z refl)
positive (suc v) z = omega arith

pub and_left : (x y : Bool) → (x && y) ≡ true → x ≡ true
and_left true y p = refl
and_left false y p = p

pub and_right : (x y : Bool) → (x && y) ≡ true → y ≡ true
and_right true y p = p
and_right false y p = cc

-- what holds of each ending holds of all
pub each : (P : Ending → Type 0) → P NoByteLeft → P BytesIgnored → P ZeroValue → P ShortChild → P ShortHead → P ShortSize → P ShortKey → P LongKey → (e : Ending) → P e
each P a b c d e f g h NoByteLeft = a
each P a b c d e f g h BytesIgnored = b
each P a b c d e f g h ZeroValue = c
each P a b c d e f g h ShortChild = d
each P a b c d e f g h ShortHead = e
each P a b c d e f g h ShortSize = f
each P a b c d e f g h ShortKey = g
each P a b c d e f g h LongKey = h

pub refused_not_whole : (m : Ending) → is_accepted m ≡ false → is_no_byte_left m ≡ false
refused_not_whole = each (λ m. is_accepted m ≡ false → is_no_byte_left m ≡ false) (λ a. a) (λ a. refl) (λ a. refl) (λ a. refl) (λ a. refl) (λ a. refl) (λ a. refl) (λ a. refl)

-- ---- of any list: keys lie within it

pub record SpotLies (s : List ℕ) (x : Spot) : Type 0 where
  pub within : x.start + x.len ≤ length s
  pub short : x.len ≤ longest_key
  pub there : 0 < x.value

abbrev pub AllLie : List ℕ → List (Spot × ℕ) → Type 0
AllLie s [] = Unit {0}
AllLie s (x ∷ r) = SpotLies s x.0 × AllLie s r

pub record Lies (s : List ℕ) (k : ℕ) (r : Scan) : Type 0 where
  pub most : length r.rest ≤ k
  pub spots : AllLie s r.rest

module _ (s : List ℕ) where
  abbrev HeadLies : Result Head Ending → Type 0
  HeadLies (Ok h) = SpotLies s (record { value = h.value.0; start = h.start; len = h.len; plain = h.plain })
  HeadLies (Err e) = Unit {0}

  key_lies : (v start len : ℕ) (plain : Bool) → HeadLies (key_at s v start len plain)
  unfolding key_at
  key_lies v start len plain =
      by_test HeadLies (fits_in (length s) start len) (λ w.
      by_test HeadLies (eqb v 0) (λ z. tt) λ z.
      by_test HeadLies (ltb longest_key len) (λ l. tt) λ l.
      record { within = fits_true (length s) start len w; short = ltb-false longest_key len l; there = positive v (eqb-false v 0 z) })
      (λ w. tt)

  head_lies : (at : ℕ) → HeadLies (head_at s at)
  unfolding head_at size_at
  head_lies at =
      by_test HeadLies (fits_in (length s) at 9) (λ w.
      by_test HeadLies (ltb (get_or s (at + 8) 0) 255) (λ c. key_lies (read_at 8 s at) (at + 9) (get_or s (at + 8) 0) true) λ c.
      by_test HeadLies (fits_in (length s) (at + 9) 4) (λ d. key_lies (read_at 8 s at) (at + 13) (read_at 4 s (at + 9)) (leb 255 (read_at 4 s (at + 9)))) (λ d. tt))
      (λ w. tt)

  -- the end of a key that was found
  pub head_within : (at : ℕ) {d : Result Head Ending} {h : Head} → d ≡ head_at s at → d ≡ Ok h → h.start + h.len ≤ length s
  head_within at e q = let l : HeadLies (Ok _) = subst HeadLies (sym e ∙ q) (head_lies at) in l.within

  -- what stands where a separator may never ends the node with no byte left
  abbrev HeadGoes : Result Head Ending → Type 0
  HeadGoes (Ok h) = Unit {0}
  HeadGoes (Err e) = is_no_byte_left e ≡ false

  key_goes : (v start len : ℕ) (plain : Bool) → HeadGoes (key_at s v start len plain)
  unfolding key_at
  key_goes v start len plain =
      by_test HeadGoes (fits_in (length s) start len) (λ w.
      by_test HeadGoes (eqb v 0) (λ z. refl) λ z.
      by_test HeadGoes (ltb longest_key len) (λ l. refl) (λ l. tt))
      (λ w. refl)

  pub head_ends : (at : ℕ) {h : Result Head Ending} {e : Ending} → h ≡ head_at s at → h ≡ Err e → is_no_byte_left e ≡ false
  head_ends at {h} {e} p q = let g : HeadGoes (Err e) = subst HeadGoes (sym p ∙ q) go in g
    where
      go : HeadGoes (head_at s at)
      go = unfold head_at size_at in
          by_test HeadGoes (fits_in (length s) at 9) (λ w.
          by_test HeadGoes (ltb (get_or s (at + 8) 0) 255) (λ c. key_goes (read_at 8 s at) (at + 9) (get_or s (at + 8) 0) true) λ c.
          by_test HeadGoes (fits_in (length s) (at + 9) 4) (λ d. key_goes (read_at 8 s at) (at + 13) (read_at 4 s (at + 9)) (leb 255 (read_at 4 s (at + 9)))) (λ d. refl))
          (λ w. refl)

  stop_lies : (k : ℕ) (e : Ending) (c : ℕ) → Lies s k (stop e c)
  stop_lies k e c = record { most = omega arith; spots = tt }

  follow_lies : (k c : ℕ) (next : ℕ → Scan) → ((i : ℕ) → Lies s k (next i)) → (d : Result Head Ending) → HeadLies d → Lies s (suc k) (follow s next c d)
  follow_lies k c next ih (Ok h) l = let r = ih (h.start + h.len) in record { most = omega (arith, r.most); spots = (l, r.spots) }
  follow_lies k c next ih (Err e) l = stop_lies (suc k) e c

  from_lies : (k at : ℕ) → Lies s k (scan_from s k at)
  unfolding scan_from
  from_lies zero at =
      by_test (Lies s zero) (fits_in (length s) at 8)
      (λ w. by_test (Lies s zero) (eqb (at + 8) (length s)) (λ e. stop_lies zero NoByteLeft (read_at 8 s at)) (λ e. stop_lies zero BytesIgnored (read_at 8 s at)))
      (λ w. stop_lies zero ShortChild 0)
  from_lies (suc k) at =
      by_test (Lies s (suc k)) (fits_in (length s) at 8)
      (λ w. by_test (Lies s (suc k)) (eqb (at + 8) (length s)) (λ e. stop_lies (suc k) NoByteLeft (read_at 8 s at))
      (λ e. follow_lies k (read_at 8 s at) (scan_from s k) (from_lies k) (head_at s (at + 8)) (head_lies (at + 8))))
      (λ w. stop_lies (suc k) ShortChild 0)

  pub few_from : (k at : ℕ) → length (scan_from s k at).rest ≤ k
  few_from k at = (from_lies k at).most

  pub scan_lies : Lies s 8 (scan s)
  unfolding scan settle
  scan_lies = by_test (Lies s 8) (is_accepted (scan_from s 8 0).ending) (λ a. from_lies 8 0) (λ a. stop_lies 8 (scan_from s 8 0).ending 0)

-- ---- of bytes: numbers fit, and a plain scan up to the end is of standard form

abbrev pub AllSmall : List (Spot × ℕ) → Type 0
AllSmall [] = Unit {0}
AllSmall (x ∷ r) = (x.0.value < 2 ^ 64) × (x.1 < 2 ^ 64) × AllSmall r

pub record Sound (s : List ℕ) (at : ℕ) (r : Scan) : Type 0 where
  pub first : r.first < 2 ^ 64
  pub small : AllSmall r.rest
  pub same : all_plain r.rest ≡ true → is_no_byte_left r.ending ≡ true → drop at s ≡ encode r.first (map (step_of s) r.rest)

module _ (s : List ℕ) (b : Bytes s) where
  -- the separator of a spot
  abbrev sep_of : Spot → Sep ℕ
  sep_of x = record { key = part s x.start x.len; val = x.value }

  record SepSound (at : ℕ) (x : Spot) : Type 0 where
    small : x.value < 2 ^ 64
    same : x.plain ≡ true → drop at s ≡ encode_sep (sep_of x) ++ drop (x.start + x.len) s

  abbrev HeadSound : ℕ → Result Head Ending → Type 0
  HeadSound at (Ok h) = SepSound at (record { value = h.value.0; start = h.start; len = h.len; plain = h.plain })
  HeadSound at (Err e) = is_no_byte_left e ≡ false

  sized_short : (v at : ℕ) → at + 9 ≤ length s → v ≡ read_at 8 s at → get_or s (at + 8) 0 < 255 → (n : ℕ) → n ≡ get_or s (at + 8) 0 → at + 9 + n ≤ length s
      → drop at s ≡ encode_sep (record { key = part s (at + 9) n; val = v }) ++ drop (at + 9 + n) s
  unfolding encode_sep sized
  sized_short v at h e short n q w =
      let l = length_part s (at + 9) n w in
      let nine : at + 8 + 1 ≡ at + 9 = omega arith in
      rw (l, pick_t (n ∷ part s (at + 9) n) (255 ∷ (le 4 n ++ part s (at + 9) n)) (lt-ltb n 255 (omega arith)), append_assoc)
      (drop_read 8 s at (omega arith) b ∙ rw (e, drop_one s (at + 8) (omega arith), nine, ← q, drop_part s (at + 9) n))

  sized_long : (v at : ℕ) → at + 13 ≤ length s → v ≡ read_at 8 s at → get_or s (at + 8) 0 ≡ 255 → (n : ℕ) → n ≡ read_at 4 s (at + 9) → 255 ≤ n → at + 13 + n ≤ length s
      → drop at s ≡ encode_sep (record { key = part s (at + 13) n; val = v }) ++ drop (at + 13 + n) s
  unfolding encode_sep sized
  sized_long v at h e full n q big w =
      let l = length_part s (at + 13) n w in
      let nine : at + 8 + 1 ≡ at + 9 = omega arith in
      let thirteen : at + 9 + 4 ≡ at + 13 = omega arith in
      rw (l, pick_f (n ∷ part s (at + 13) n) (255 ∷ (le 4 n ++ part s (at + 13) n)) (le-ltb n 255 big))
      (simp append_assoc
      (drop_read 8 s at (omega arith) b ∙ rw (e, drop_one s (at + 8) (omega arith), nine, full, drop_read 4 s (at + 9) (omega arith) b, ← q, thirteen, drop_part s (at + 13) n)))

  key_sound : (at v start len : ℕ) (plain : Bool) → v < 2 ^ 64
      → (plain ≡ true → start + len ≤ length s → drop at s ≡ encode_sep (record { key = part s start len; val = v }) ++ drop (start + len) s)
      → HeadSound at (key_at s v start len plain)
  unfolding key_at
  key_sound at v start len plain small same =
      by_test (HeadSound at) (fits_in (length s) start len) (λ w.
      by_test (HeadSound at) (eqb v 0) (λ z. refl) λ z.
      by_test (HeadSound at) (ltb longest_key len) (λ l. refl) λ l.
      record {
        small = small;
        same = λ p. same p (fits_true (length s) start len w);
      })
      (λ w. refl)

  head_sound : (at : ℕ) → HeadSound at (head_at s at)
  unfolding head_at size_at
  head_sound at =
      by_test (HeadSound at) (fits_in (length s) at 9) (λ w.
      let h = fits_true (length s) at 9 w in
      let v = read_at_small 8 s at b in
      by_test (HeadSound at) (ltb (get_or s (at + 8) 0) 255)
      (λ c. key_sound at (read_at 8 s at) (at + 9) (get_or s (at + 8) 0) true v
      (λ p f. sized_short (read_at 8 s at) at h refl (ltb-true (get_or s (at + 8) 0) 255 c) (get_or s (at + 8) 0) refl f)) λ c.
      let full : get_or s (at + 8) 0 ≡ 255 = omega (arith, ltb-false (get_or s (at + 8) 0) 255 c, bytes_at s (at + 8) b) in
      by_test (HeadSound at) (fits_in (length s) (at + 9) 4)
      (λ d. key_sound at (read_at 8 s at) (at + 13) (read_at 4 s (at + 9)) (leb 255 (read_at 4 s (at + 9))) v
      (λ p f. sized_long (read_at 8 s at) at (omega (arith, fits_true (length s) (at + 9) 4 d)) refl full (read_at 4 s (at + 9)) refl (leb-true 255 (read_at 4 s (at + 9)) p) f))
      (λ d. refl))
      (λ w. refl)

  -- a separator, and what follows is sound
  follow_sound : (at c : ℕ) → at + 8 ≤ length s → c ≡ read_at 8 s at → (next : ℕ → Scan) → ((i : ℕ) → Sound s i (next i)) → (d : Result Head Ending) → HeadSound (at + 8) d → Sound s at (follow s next c d)
  unfolding encode encode_rest
  follow_sound at c w e next ih (Ok h) g =
      let r = ih (h.start + h.len) in
      let x : Spot = record { value = h.value.0; start = h.start; len = h.len; plain = h.plain } in
      record {
        first = rw e (read_at_small 8 s at b);
        small = (g.small, r.first, r.small);
        same = λ p q. drop_read 8 s at w b ∙ rw (← e) (ap (λ (t : List ℕ). le 8 c ++ t) (g.same (and_left h.plain (all_plain (next (h.start + h.len)).rest) p)
            ∙ ap (λ (t : List ℕ). encode_sep (sep_of x) ++ t) (r.same (and_right h.plain (all_plain (next (h.start + h.len)).rest) p) q)));
      }
  follow_sound at c w e next ih (Err m) g = record {
    first = rw e (read_at_small 8 s at b);
    small = tt;
    same = λ p q. cc;
  }

  stop_sound : (at c : ℕ) (m : Ending) → c < 2 ^ 64 → is_no_byte_left m ≡ false → Sound s at (stop m c)
  stop_sound at c m h z = record { first = h; small = tt; same = λ p q. cc }

  -- the last child, and no byte behind it
  last_sound : (at : ℕ) → at + 8 ≡ length s → Sound s at (stop NoByteLeft (read_at 8 s at))
  unfolding encode encode_rest
  last_sound at h = record {
    first = read_at_small 8 s at b;
    small = tt;
    same = λ p q. drop_read 8 s at (omega arith) b ∙ ap (λ (t : List ℕ). le 8 (read_at 8 s at) ++ t) (drop_of_length-le s {i = at + 8} (omega arith));
  }

  from_sound : (k at : ℕ) → Sound s at (scan_from s k at)
  unfolding scan_from
  from_sound zero at =
      by_test (Sound s at) (fits_in (length s) at 8) (λ w.
      by_test (Sound s at) (eqb (at + 8) (length s)) (λ e. last_sound at (eqb-true (at + 8) (length s) e))
      (λ e. stop_sound at (read_at 8 s at) BytesIgnored (read_at_small 8 s at b) refl))
      (λ w. stop_sound at 0 ShortChild (omega arith) refl)
  from_sound (suc k) at =
      by_test (Sound s at) (fits_in (length s) at 8) (λ w.
      by_test (Sound s at) (eqb (at + 8) (length s)) (λ e. last_sound at (eqb-true (at + 8) (length s) e))
      (λ e. follow_sound at (read_at 8 s at) (fits_true (length s) at 8 w) refl (scan_from s k) (from_sound k) (head_at s (at + 8)) (head_sound (at + 8))))
      (λ w. stop_sound at 0 ShortChild (omega arith) refl)

  pub scan_sound : Sound s 0 (scan s)
  unfolding scan settle
  scan_sound = by_test (Sound s 0) (is_accepted (scan_from s 8 0).ending) (λ a. from_sound 8 0)
      (λ a. stop_sound 0 0 (scan_from s 8 0).ending (omega arith) (refused_not_whole (scan_from s 8 0).ending a))
