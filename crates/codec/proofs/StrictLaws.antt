-- What the strict reading says of bytes, beside the lenient one: it goes along the same separators, so it ends as the lenient
-- one does where every size is as standard form has it, and at the first other one else. Assumes nothing.
use mathlib.Core.Path.{◌≡◌, refl, sym, ap, subst, ◌∙◌}
use mathlib.Core.Logic.{◌⊎◌, inl, inr}
use mathlib.Core.List.{List, [], ◌∷◌, map}
use mathlib.Core.Bool.{Bool, true, false, cond, ◌&&◌}
use Prim.Native.Nat.{ℕ, zero, suc, ◌+◌, ◌≤◌, ◌<◌}
use lib.ListN.{length, get_or}
use lib.Dec.{leb, ltb, eqb}
use native.Mathlib.Omega.{arith}
use borrow.Author.Tests.{eqb-true, eqb-false, ltb-true, ltb-false, lt-ltb, le-leb}
use Rattle.word.specs.Pick.{pick, pick_t, pick_f, by_test}
use Rattle.word.specs.Num.{Bytes}
use Rattle.word.specs.At.{fits_in, read_at}
use Rattle.codec.specs.declared.Ending.{Ending}
use Rattle.codec.specs.declared.Ending.TheVariants.{NoByteLeft, BytesIgnored, ZeroValue, ShortChild, ShortHead, ShortSize, ShortKey, LongKey}
use Rattle.std.specs.Prelude.{Result, Ok, Err}
use Rattle.codec.specs.declared.Head.{Head}
use Rattle.codec.specs.declared.Reading.{Reading}
use Rattle.codec.specs.declared.Strict.{Strict}
use Rattle.codec.specs.declared.Strict.TheVariants.{LowSize, EndsIn}
use Rattle.codec.specs.declared.Stopped.{Stopped}
use Rattle.codec.specs.declared.StrictReading.{StrictReading}
use Rattle.node.specs.declared.Node.{Node}
use Rattle.node.specs.Chain.{Step, longest_key, Writable, node_of}
use Rattle.codec.specs.Codec.{encode, Standard, ending_number, is_accepted, is_no_byte_left, Spot, Scan, stop, before, key_at, size_at, head_at, follow, scan_from, settle, scan, step_of, Decoded, refused, accepted, decode}
use Rattle.codec.specs.Layout.{all_plain, is_whole, layout, places_of, reading_of, any_of}
use Rattle.codec.specs.Strict.{end_number, strict_number, is_strict, is_low, ends_at, judge, strict_from, strict_end, strict_of, strict_reading}
use Rattle.word.proofs.AtLaws.{fits_in_lem, fits_true}
use Rattle.codec.proofs.ScanLaws.{and_left, and_right, each, refused_not_whole, scan_sound}
use Rattle.codec.proofs.ReadLaws.{reads_none}
use Rattle.codec.proofs.EncodeLaws.{scan_finds}
use Rattle.codec.proofs.Theorems.{Numbered, decoded_node, read_decodes, scan_writable, standard_flagged}

-- ---- the numbers of endings

-- no two endings have one number
abbrev numbered : ℕ → Ending
numbered n =
    cond (eqb n 20) BytesIgnored
    (cond (eqb n 19) ZeroValue
    (cond (eqb n 11) ShortChild
    (cond (eqb n 12) ShortHead
    (cond (eqb n 13) ShortSize
    (cond (eqb n 14) ShortKey
    (cond (eqb n 4) LongKey NoByteLeft))))))

end_only : (e f : Ending) → end_number e ≡ end_number f → e ≡ f
end_only e f h = sym (back e) ∙ ap numbered h ∙ back f
  where
    back : (e : Ending) → numbered (end_number e) ≡ e
    back = each (λ e. numbered (end_number e) ≡ e) refl refl refl refl refl refl refl refl

end_whole : (e : Ending) → eqb (end_number e) 0 ≡ is_no_byte_left e
end_whole = each (λ e. eqb (end_number e) 0 ≡ is_no_byte_left e) refl refl refl refl refl refl refl refl

is_none_lem : (e : Ending) → is_no_byte_left e ≡ true → e ≡ NoByteLeft
is_none_lem e h = end_only e NoByteLeft (eqb-true (end_number e) 0 (end_whole e ∙ h))

-- 4 and 11 to 14 are the lenient reading's numbers
lenient_number : (e : Ending) → ending_number e ≡ cond (ltb (end_number e) 18) (end_number e) 0
lenient_number = each (λ e. ending_number e ≡ cond (ltb (end_number e) 18) (end_number e) 0) refl refl refl refl refl refl refl refl

same_number : (e : Ending) → end_number e < 18 → ending_number e ≡ end_number e
same_number e h = lenient_number e ∙ rw (lt-ltb (end_number e) 18 h)

refused_number : (e : Ending) → is_accepted e ≡ false → end_number e ≡ ending_number e
refused_number e a = go (ltb (end_number e) 18) (lenient_number e)
  where
    go : (b : Bool) → ending_number e ≡ cond b (end_number e) 0 → end_number e ≡ ending_number e
    go true h = sym h
    go false h = absurd (eqb-false (ending_number e) 0 a h)

-- the numbers of a strict reading
pub strict_numbers : (e : Strict) → any_of (eqb (strict_number e)) (0 ∷ 4 ∷ 11 ∷ 12 ∷ 13 ∷ 14 ∷ 18 ∷ 19 ∷ 20 ∷ []) ≡ true
strict_numbers LowSize = refl
strict_numbers (EndsIn e) = each (λ e. any_of (eqb (end_number e)) (0 ∷ 4 ∷ 11 ∷ 12 ∷ 13 ∷ 14 ∷ 18 ∷ 19 ∷ 20 ∷ []) ≡ true) refl refl refl refl refl refl refl refl e

-- ---- the two readings, side by side, and what stands where the strict one stopped

module _ (s : List ℕ) where
  -- what stands at a place where a reading ended so
  abbrev pub EndsThere : Ending → ℕ → Type 0
  EndsThere NoByteLeft at = at ≡ length s
  EndsThere BytesIgnored at = at < length s
  EndsThere ShortChild at = fits_in (length s) at 8 ≡ false
  EndsThere ZeroValue at = head_at s at ≡ Err ZeroValue
  EndsThere ShortHead at = head_at s at ≡ Err ShortHead
  EndsThere ShortSize at = head_at s at ≡ Err ShortSize
  EndsThere ShortKey at = head_at s at ≡ Err ShortKey
  EndsThere LongKey at = head_at s at ≡ Err LongKey

  abbrev pub StopsThere : Strict → ℕ → Type 0
  StopsThere LowSize at = is_low s at ≡ true
  StopsThere (EndsIn e) at = EndsThere e at

  abbrev Agrees : Scan → Strict → Type 0
  Agrees r LowSize = is_whole r ≡ false
  Agrees r (EndsIn e) = (e ≡ r.ending) × (all_plain r.rest ≡ true)

  record Beside (r : Scan) (t : Stopped) : Type 0 where
    agrees : Agrees r t.ending
    there : StopsThere t.ending t.at

  -- ---- one separator

  -- a head that is no separator is what stands there; one that is, with its size not as standard form has it, has a low one
  abbrev HeadTold : ℕ → Result Head Ending → Type 0
  HeadTold at (Ok h) = h.plain ≡ false → is_low s at ≡ true
  HeadTold at (Err e) = head_at s at ≡ Err e → EndsThere e at

  key_told : (at v start len : ℕ) (plain : Bool) → (plain ≡ false → is_low s at ≡ true) → HeadTold at (key_at s v start len plain)
  unfolding key_at
  key_told at v start len plain h =
      by_test (HeadTold at) (fits_in (length s) start len) (λ w.
      by_test (HeadTold at) (eqb v 0) (λ z e. e) λ z.
      by_test (HeadTold at) (ltb longest_key len) (λ l e. e) (λ l. h))
      (λ w e. e)

  head_told : (at : ℕ) → HeadTold at (head_at s at)
  unfolding head_at size_at is_low
  head_told at =
      by_test (HeadTold at) (fits_in (length s) at 9) (λ w.
      by_test (HeadTold at) (ltb (get_or s (at + 8) 0) 255) (λ c. key_told at (read_at 8 s at) (at + 9) (get_or s (at + 8) 0) true (λ p. cc)) λ c.
      by_test (HeadTold at) (fits_in (length s) (at + 9) 4)
      (λ d. key_told at (read_at 8 s at) (at + 13) (read_at 4 s (at + 9)) (leb 255 (read_at 4 s (at + 9)))
      (λ p. rw (fits_in_lem (length s) at 13 (omega (arith, fits_true (length s) (at + 9) 4 d)), le-leb 255 (get_or s (at + 8) 0) (ltb-false (get_or s (at + 8) 0) 255 c), p)))
      (λ d e. e))
      (λ w e. e)

  ends_beside : (at c : ℕ) (e : Ending) → EndsThere e at → Beside (stop e c) (record { ending = ends_at s at e; at = at })
  unfolding ends_at
  ends_beside at c e h =
      by_test (λ (x : Strict). Beside (stop e c) (record { ending = x; at = at })) (eqb (end_number e) 19 && is_low s at)
      (λ b. record {
        agrees = sym (end_whole e) ∙ ap (λ (n : ℕ). eqb n 0) (eqb-true (end_number e) 19 (and_left (eqb (end_number e) 19) (is_low s at) b));
        there = and_right (eqb (end_number e) 19) (is_low s at) b;
      })
      (λ b. record { agrees = (refl, refl); there = h })

  judge_beside : (at c : ℕ) (low : ℕ → Scan) (high : ℕ → Stopped) → ((i : ℕ) → Beside (low i) (high i))
      → (d : Result Head Ending) → head_at s at ≡ d → HeadTold at d → Beside (follow s low c d) (judge s high at d)
  judge_beside at c low high ih (Ok h) q told =
      by_test (Beside (before c x (low (h.start + h.len)))) h.plain
      (λ p. let b = ih (h.start + h.len) in record { agrees = keep_lem (low (h.start + h.len)) (high (h.start + h.len)).ending p b.agrees; there = b.there })
      (λ p. record { agrees = rw p; there = told p })
    where
      x : Spot
      x = record { value = h.value.0; start = h.start; len = h.len; plain = h.plain }

      keep_lem : (r : Scan) (e : Strict) → h.plain ≡ true → Agrees r e → Agrees (before c x r) e
      keep_lem r LowSize p g = rw p g
      keep_lem r (EndsIn e) p g = (g.0, rw p g.1)
  judge_beside at c low high ih (Err e) q told = ends_beside at c e (told q)

  -- a child, and what is said of the bytes behind it
  child_beside : (at : ℕ) (r : Scan) (t : Stopped) → (at + 8 ≤ length s → (at + 8 ≡ length s → ⊥) → Beside r t)
      → Beside (pick (fits_in (length s) at 8) (pick (eqb (at + 8) (length s)) (stop NoByteLeft (read_at 8 s at)) r) (stop ShortChild 0))
      (pick (fits_in (length s) at 8) (pick (eqb (at + 8) (length s)) (record { ending = EndsIn NoByteLeft; at = at + 8 }) t) (record { ending = EndsIn ShortChild; at = at }))
  unfolding pick
  child_beside at r t h = go (fits_in (length s) at 8) (eqb (at + 8) (length s)) refl refl
    where
      go : (a b : Bool) → fits_in (length s) at 8 ≡ a → eqb (at + 8) (length s) ≡ b
          → Beside (pick a (pick b (stop NoByteLeft (read_at 8 s at)) r) (stop ShortChild 0))
          (pick a (pick b (record { ending = EndsIn NoByteLeft; at = at + 8 }) t) (record { ending = EndsIn ShortChild; at = at }))
      go true true f e = record { agrees = (refl, refl); there = eqb-true (at + 8) (length s) e }
      go true false f e = h (fits_true (length s) at 8 f) (eqb-false (at + 8) (length s) e)
      go false b f e = record { agrees = (refl, refl); there = f }

  less : (n m : ℕ) → n ≤ m → (n ≡ m → ⊥) → n < m
  less n m h z = ltb-true n m (go (ltb n m) refl)
    where
      go : (b : Bool) → ltb n m ≡ b → ltb n m ≡ true
      go true e = e
      go false e = absurd (z (omega (arith, ltb-false n m e)))

  from_beside : (k at : ℕ) → Beside (scan_from s k at) (strict_from s k at)
  unfolding scan_from strict_from
  from_beside zero at =
      child_beside at (stop BytesIgnored (read_at 8 s at)) (record { ending = EndsIn BytesIgnored; at = at + 8 })
      (λ f z. record { agrees = (refl, refl); there = less (at + 8) (length s) f z })
  from_beside (suc k) at =
      child_beside at (follow s (scan_from s k) (read_at 8 s at) (head_at s (at + 8))) (judge s (strict_from s k) (at + 8) (head_at s (at + 8)))
      (λ f z. judge_beside (at + 8) (read_at 8 s at) (scan_from s k) (strict_from s k) (from_beside k) (head_at s (at + 8)) refl (head_told (at + 8)))

  beside : Beside (scan_from s 8 0) (strict_end s)
  unfolding strict_end
  beside = from_beside 8 0

  -- what stands where the strict reading stopped
  pub strict_there : StopsThere (strict_end s).ending (strict_end s).at
  strict_there = beside.there

-- ---- the strict reading accepts exactly what the places' flag marks

-- the one ending that is accepted
pub ends_whole : (e : Strict) → is_strict e ≡ true → e ≡ EndsIn NoByteLeft
ends_whole LowSize h = cc
ends_whole (EndsIn e) h = ap EndsIn (is_none_lem e (sym (end_whole e) ∙ h))

-- and it stops at the end of the bytes
pub stops_whole : (s : List ℕ) → is_strict (strict_end s).ending ≡ true → (strict_end s).at ≡ length s
stops_whole s h = subst (λ (e : Strict). StopsThere s e (strict_end s).at) (ends_whole (strict_end s).ending h) (strict_there s)

pub settle_whole : (r : Scan) → is_whole r ≡ is_whole (settle r)
unfolding settle
settle_whole r =
    by_test (λ (t : Scan). is_whole r ≡ is_whole t) (is_accepted r.ending) (λ a. refl)
    (λ a. and_false (all_plain r.rest) (is_no_byte_left r.ending) (refused_not_whole r.ending a) ∙ sym (refused_not_whole r.ending a))
  where
    and_false : (a b : Bool) → b ≡ false → (a && b) ≡ false
    and_false true b h = h
    and_false false b h = refl

pub strict_flag : (s : List ℕ) → is_strict (strict_end s).ending ≡ (places_of s).standard
unfolding places_of layout scan
strict_flag s = go (strict_end s).ending (beside s).agrees ∙ settle_whole (scan_from s 8 0)
  where
    go : (e : Strict) → Agrees s (scan_from s 8 0) e → is_strict e ≡ is_whole (scan_from s 8 0)
    go LowSize h = sym h
    go (EndsIn e) h = rw (h.1, ← h.0) (end_whole e)

-- ---- what an answer says

-- of the lenient reading
abbrev DecodesTo : List ℕ → Decoded → Type 0
DecodesTo s (refused m) = (is_accepted (scan s).ending ≡ false) × (m ≡ ending_number (scan s).ending)
DecodesTo s (accepted c r) = (is_accepted (scan s).ending ≡ true) × (c ≡ (scan s).first) × (r ≡ map (step_of s) (scan s).rest)

decodes_to : (s : List ℕ) → DecodesTo s (decode s)
unfolding decode
decodes_to s = by_test (DecodesTo s) (is_accepted (scan s).ending) (λ a. (a, refl, refl)) (λ a. (a, refl))

-- of the strict one
abbrev StrictTo : List ℕ → Decoded → Type 0
StrictTo s (refused m) = (is_strict (strict_end s).ending ≡ false) × (m ≡ strict_number (strict_end s).ending)
StrictTo s (accepted c r) = (is_strict (strict_end s).ending ≡ true) × (decode s ≡ accepted c r)

-- a scan that is whole is accepted
pub whole_ends : (r : Scan) → is_whole r ≡ true → is_accepted r.ending ≡ true
whole_ends r h = ap is_accepted (is_none_lem r.ending (and_right (all_plain r.rest) (is_no_byte_left r.ending) h))

whole_accepted : (s : List ℕ) → is_strict (strict_end s).ending ≡ true → is_accepted (scan s).ending ≡ true
unfolding places_of layout
whole_accepted s a = whole_ends (scan s) (sym (strict_flag s) ∙ a)

decode_whole : (s : List ℕ) → is_accepted (scan s).ending ≡ true → decode s ≡ accepted (scan s).first (map (step_of s) (scan s).rest)
unfolding decode
decode_whole s a = pick_t _ _ a

strict_to : (s : List ℕ) → StrictTo s (strict_of s)
unfolding strict_of
strict_to s =
    by_test (StrictTo s) (is_strict (strict_end s).ending)
    (λ a. let e = decode_whole s (whole_accepted s a) in subst (StrictTo s) (sym e) (a, e))
    (λ a. (a, refl))

accepted_to : (s : List ℕ) (c : ℕ) (r : List Step) → strict_of s ≡ accepted c r → StrictTo s (accepted c r)
accepted_to s c r e = subst (StrictTo s) e (strict_to s)

refused_to : (s : List ℕ) (m : ℕ) → strict_of s ≡ refused m → StrictTo s (refused m)
refused_to s m e = subst (StrictTo s) e (strict_to s)

pub strict_not_0 : (s : List ℕ) (m : ℕ) → strict_of s ≡ refused m → m ≡ 0 → ⊥
strict_not_0 s m e z = let t = refused_to s m e in eqb-false (strict_number (strict_end s).ending) 0 t.0 (sym t.1 ∙ z)

-- ---- "With it, two byte strings read as the same node only if they are the same bytes."

-- it accepts exactly standard form, as what was written
pub strict_encode : (c : ℕ) (r : List Step) → Writable c r → strict_of (encode c r) ≡ accepted c r
unfolding strict_of
strict_encode c r w =
    let s : List ℕ = encode c r in
    let f = scan_finds s c r w.first w.rest w.most refl in
    pick_t _ _ (strict_flag s ∙ standard_flagged s (record { first = c; rest = r; fine = w; bytes = refl }))
    ∙ decode_whole s (ap is_accepted f.ending) ∙ rw (f.first, f.rest)

pub record Reads (s : List ℕ) (c : ℕ) (r : List Step) : Type 0 where
  pub bytes : s ≡ encode c r
  pub fine : Writable c r

pub strict_standard : (s : List ℕ) (c : ℕ) (r : List Step) → Bytes s → strict_of s ≡ accepted c r → Reads s c r
strict_standard s c r b e =
    let t = accepted_to s c r e in
    let d : DecodesTo s (accepted c r) = subst (DecodesTo s) t.1 (decodes_to s) in
    let flag : (all_plain (scan s).rest && is_no_byte_left (scan s).ending) ≡ true = unfold places_of layout in sym (strict_flag s) ∙ t.0 in
    let same : s ≡ encode (scan s).first (map (step_of s) (scan s).rest) =
    (scan_sound s b).same (and_left (all_plain (scan s).rest) (is_no_byte_left (scan s).ending) flag) (and_right (all_plain (scan s).rest) (is_no_byte_left (scan s).ending) flag) in
    rw (d.1, d.2) (record { bytes = same; fine = scan_writable s b })

pub strict_same : (s t : List ℕ) (c : ℕ) (r : List Step) → Bytes s → Bytes t → strict_of s ≡ accepted c r → strict_of t ≡ accepted c r → s ≡ t
strict_same s t c r b d e f = (strict_standard s c r b e).bytes ∙ sym (strict_standard t c r d f).bytes

-- what it accepts the lenient reading accepts, as the same node
pub strict_lenient : (s : List ℕ) (c : ℕ) (r : List Step) → strict_of s ≡ accepted c r → decode s ≡ accepted c r
strict_lenient s c r e = (accepted_to s c r e).1

-- ---- its refusals beside the lenient ones

-- what is refused is not in standard form, whatever the number
pub refused_sloppy : (s : List ℕ) (m : ℕ) → strict_of s ≡ refused m → Standard s → ⊥
refused_sloppy s m e h =
    let k : false ≡ true = sym (refused_to s m e).0 ∙ strict_flag s ∙ standard_flagged s h in
    let z : ◌≡◌ {A = ℕ} 0 1 = cc in omega arith

scan_ending : (s : List ℕ) → (scan s).ending ≡ (scan_from s 8 0).ending
unfolding scan settle
scan_ending s = by_test (λ (r : Scan). r.ending ≡ (scan_from s 8 0).ending) (is_accepted (scan_from s 8 0).ending) (λ a. refl) (λ a. refl)

decode_refused : (s : List ℕ) (e : Ending) → (scan s).ending ≡ e → is_accepted e ≡ false → decode s ≡ refused (ending_number e)
unfolding decode
decode_refused s e h a = pick_f _ _ (ap is_accepted h ∙ a) ∙ ap (λ (x : Ending). refused (ending_number x)) h

strict_refused : (s : List ℕ) {e : Strict} → (strict_end s).ending ≡ e → is_strict e ≡ false → strict_of s ≡ refused (strict_number e)
unfolding strict_of
strict_refused s h a = pick_f _ _ (ap is_strict h ∙ a) ∙ ap (λ (x : Strict). refused (strict_number x)) h

-- where it refuses with 4 or 11 to 14, the lenient reading refuses with the same
pub strict_alike : (s : List ℕ) (m : ℕ) → strict_of s ≡ refused m → m < 18 → decode s ≡ refused m
strict_alike s m q h = let t = refused_to s m q in go (strict_end s).ending (beside s).agrees t.0 t.1
  where
    go : (e : Strict) → Agrees s (scan_from s 8 0) e → is_strict e ≡ false → m ≡ strict_number e → decode s ≡ refused m
    go LowSize g a n = absurd (omega arith)
    go (EndsIn e) g a n =
        let u : ending_number e ≡ end_number e = same_number e (omega arith) in
        decode_refused s e (scan_ending s ∙ sym g.0) (ap (λ (k : ℕ). eqb k 0) u ∙ a) ∙ ap refused (u ∙ sym n)

-- what the lenient reading refuses it refuses with the same number, or with 18 for a size before that place
pub lenient_alike : (s : List ℕ) (m : ℕ) → decode s ≡ refused m → (strict_of s ≡ refused m) ⊎ (strict_of s ≡ refused 18)
lenient_alike s m q = let t : DecodesTo s (refused m) = subst (DecodesTo s) q (decodes_to s) in go (strict_end s).ending refl (beside s).agrees t.0 t.1
  where
    go : (e : Strict) → (strict_end s).ending ≡ e → Agrees s (scan_from s 8 0) e → is_accepted (scan s).ending ≡ false → m ≡ ending_number (scan s).ending → (strict_of s ≡ refused m) ⊎ (strict_of s ≡ refused 18)
    go LowSize h g a n = inr (strict_refused s h refl)
    go (EndsIn e) h g a n =
        let is : (scan s).ending ≡ e = scan_ending s ∙ sym g.0 in
        let not_so : is_accepted e ≡ false = sym (ap is_accepted is) ∙ a in
        let u : end_number e ≡ ending_number e = refused_number e not_so in
        inl (strict_refused s h (ap (λ (k : ℕ). eqb k 0) u ∙ not_so) ∙ ap refused (u ∙ sym (ap ending_number is) ∙ sym n))

-- a value 0 that ends a node lies within the bytes
module _ (s : List ℕ) (at : ℕ) where
  abbrev IfZero : Result Head Ending → Type 0
  IfZero (Ok h) = Unit {0}
  IfZero (Err e) = e ≡ ZeroValue → (at + 9 ≤ length s) × (read_at 8 s at ≡ 0)

  other : (e : Ending) → eqb (end_number e) 19 ≡ false → IfZero (Err e)
  other e n q = absurd (eqb-false (end_number e) 19 n (ap end_number q))

  key_zero : (start len : ℕ) (plain : Bool) → at + 9 ≤ length s → IfZero (key_at s (read_at 8 s at) start len plain)
  unfolding key_at
  key_zero start len plain h =
      by_test IfZero (fits_in (length s) start len) (λ w.
      by_test IfZero (eqb (read_at 8 s at) 0) (λ z q. (h, eqb-true (read_at 8 s at) 0 z)) λ z.
      by_test IfZero (ltb longest_key len) (λ l. other LongKey refl) (λ l. tt))
      (λ w. other ShortKey refl)

  head_zero : IfZero (head_at s at)
  unfolding head_at size_at
  head_zero =
      by_test IfZero (fits_in (length s) at 9) (λ w.
      let h = fits_true (length s) at 9 w in
      by_test IfZero (ltb (get_or s (at + 8) 0) 255) (λ c. key_zero (at + 9) (get_or s (at + 8) 0) true h) λ c.
      by_test IfZero (fits_in (length s) (at + 9) 4) (λ d. key_zero (at + 13) (read_at 4 s (at + 9)) (leb 255 (read_at 4 s (at + 9))) h) (λ d. other ShortSize refl))
      (λ w. other ShortHead refl)

  zero_there : head_at s at ≡ Err ZeroValue → (at + 9 ≤ length s) × (read_at 8 s at ≡ 0)
  zero_there e = let h : IfZero (Err ZeroValue) = subst IfZero e head_zero in h refl

-- ---- 18, 19 and 20: what stands where the reading stopped, and that the bytes are not in standard form

pub record Sloppy (s : List ℕ) (there : ℕ → Type 0) : Type 1 where
  pub stands : there (strict_end s).at
  pub sloppy : Standard s → ⊥

-- 0xFF and a length below 255
pub strict_18 : (s : List ℕ) → strict_of s ≡ refused 18 → Sloppy s (λ at. is_low s at ≡ true)
strict_18 s q = record { stands = go (strict_end s).ending (strict_there s) (refused_to s 18 q).1; sloppy = refused_sloppy s 18 q }
  where
    not_18 : (e : Ending) → eqb 18 (end_number e) ≡ false
    not_18 = each (λ e. eqb 18 (end_number e) ≡ false) refl refl refl refl refl refl refl refl

    go : (e : Strict) → StopsThere s e (strict_end s).at → 18 ≡ strict_number e → is_low s (strict_end s).at ≡ true
    go LowSize h n = h
    go (EndsIn e) h n = absurd (eqb-false 18 (end_number e) (not_18 e) n)

-- where the number of a lenient ending is given, the lenient reading ends so
ends_in : (s : List ℕ) (f : Ending) → (end_number f ≡ 18 → ⊥) → strict_of s ≡ refused (end_number f) → ((reading_of s).ending ≡ f) × EndsThere s f (strict_end s).at
unfolding reading_of
ends_in s f other-than q = go (strict_end s).ending (beside s).agrees (strict_there s) (refused_to s (end_number f) q).1
  where
    go : (e : Strict) → Agrees s (scan_from s 8 0) e → StopsThere s e (strict_end s).at → end_number f ≡ strict_number e → ((scan s).ending ≡ f) × EndsThere s f (strict_end s).at
    go LowSize g h n = absurd (other-than n)
    go (EndsIn e) g h n =
        let is : e ≡ f = end_only e f (sym n) in
        (scan_ending s ∙ sym g.0 ∙ is, subst (λ (x : Ending). EndsThere s x (strict_end s).at) is h)

-- a separator with value 0, at which the lenient reading ends
pub strict_19 : (s : List ℕ) → strict_of s ≡ refused 19 → Sloppy s (λ at. (at + 9 ≤ length s) × (read_at 8 s at ≡ 0) × ((reading_of s).ending ≡ ZeroValue))
strict_19 s q = let h = ends_in s ZeroValue (λ n. omega arith) q in
    let z = zero_there s (strict_end s).at h.1 in
    record { stands = (z.0, z.1, h.0); sloppy = refused_sloppy s 19 q }

-- bytes behind the ninth child, which the lenient reading ignores
pub strict_20 : (s : List ℕ) → strict_of s ≡ refused 20 → Sloppy s (λ at. (at < length s) × ((reading_of s).ending ≡ BytesIgnored))
strict_20 s q = let h = ends_in s BytesIgnored (λ n. omega arith) q in
    record { stands = (h.1, h.0); sloppy = refused_sloppy s 20 q }

-- ---- what `read_strict` answers is the definition, and two results are the same (docs/UNIQUE.md)

pub strict_decodes : (s : List ℕ) → ◌≡◌ {A = Numbered} (record { number = strict_number (strict_reading s).ending; node = (strict_reading s).node }) (decoded_node (strict_of s))
unfolding strict_reading strict_of pick
strict_decodes s = rw (← strict_flag s) (go (is_strict (strict_end s).ending) refl)
  where
    nothing : (reading_of []).node ≡ node_of 0 []
    nothing = ap (λ (x : Reading). x.node) (sym (reads_none refl))

    go : (b : Bool) → is_strict (strict_end s).ending ≡ b
        → ◌≡◌ {A = Numbered} (record { number = strict_number (strict_end s).ending; node = (reading_of (pick b s [])).node }) (decoded_node (pick b (decode s) (refused (strict_number (strict_end s).ending))))
    go true a =
        let n : strict_number (strict_end s).ending ≡ 0 = eqb-true (strict_number (strict_end s).ending) 0 a in
        let m : ending_number (reading_of s).ending ≡ 0 = unfold reading_of in eqb-true (ending_number (scan s).ending) 0 (whole_accepted s a) in
        rw n (ap (λ (k : ℕ). record { number = k; node = (reading_of s).node }) (sym m) ∙ read_decodes s)
    go false a = ap (λ (x : Node). record { number = strict_number (strict_end s).ending; node = x }) nothing

pub read_strict_once : (s : List ℕ) {r q : StrictReading} → r ≡ strict_reading s → q ≡ strict_reading s → r ≡ q
read_strict_once s p q = p ∙ sym q
