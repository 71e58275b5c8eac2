-- The strict reading: each way through the code. Assumes nothing.
use mathlib.Core.Path.{◌≡◌, refl, sym, ap, ◌∙◌}
use mathlib.Core.List.{List, []}
use mathlib.Core.Bool.{Bool, true, false, not}
use Prim.Native.Nat.{ℕ, suc, ◌+◌, ◌-◌, ◌≤◌, ◌<◌}
use lib.ListN.{length, get_or, take, drop}
use lib.Dec.{leb, ltb, eqb}
use native.Mathlib.Omega.{arith}
use borrow.Author.Tests.{eq-eqb, ne_eqb, ltb-true, ltb-false, le-leb, lt-leb, not-true, not-false}
use Rattle.word.specs.Pick.{pick, pick_t, pick_f}
use Rattle.word.specs.Part.{part}
use Rattle.word.specs.At.{fits_in, read_at}
use Rattle.codec.specs.declared.Ending.{Ending}
use Rattle.codec.specs.declared.Ending.TheVariants.{NoByteLeft, BytesIgnored, ZeroValue, ShortChild, ShortHead, ShortSize, ShortKey, LongKey}
use Rattle.std.specs.Prelude.{Result, Ok, Err}
use Rattle.codec.specs.declared.Head.{Head}
use Rattle.codec.specs.declared.Places.{Places}
use Rattle.codec.specs.declared.Strict.{Strict}
use Rattle.codec.specs.declared.Strict.TheVariants.{LowSize, EndsIn}
use Rattle.codec.specs.declared.Reading.{Reading}
use Rattle.codec.specs.declared.Stopped.{Stopped}
use Rattle.codec.specs.Codec.{head_at, scan_from, settle, scan}
use Rattle.codec.specs.Layout.{places_of, reading_of, key_place}
use Rattle.codec.specs.Strict.{is_low, ends_at, judge, strict_from, strict_end, standard_of, strict_reading}

-- ---- a size below 255 behind 0xFF

below_255 : (n : ℕ) → ltb n 255 ≡ not (leb 255 n)
below_255 n = go (ltb n 255) refl
  where
    go : (b : Bool) → ltb n 255 ≡ b → ltb n 255 ≡ not (leb 255 n)
    go true e = e ∙ sym (ap not (lt-leb 255 n (ltb-true n 255 e)))
    go false e = e ∙ sym (ap not (le-leb 255 n (ltb-false n 255 e)))

module _ (s : List ℕ) (at : ℕ) {b : Bool} (f : b ≡ fits_in (length s) at 13) where
  pub low_1 : not b ≡ true → false ≡ is_low s at
  unfolding is_low
  low_1 t = rw (sym f ∙ not-true b t)

  pub low_2 : not b ≡ false → get_or s (at + 8) 0 < 255 → leb 255 (get_or s (at + 8) 0) ≡ is_low s at
  unfolding is_low
  low_2 t l = rw (sym f ∙ not-false b t, lt-leb 255 (get_or s (at + 8) 0) l)

  pub low_3 : {n : ℕ} → not b ≡ false → 255 ≤ get_or s (at + 8) 0 → n ≡ read_at 4 s (at + 9) → ltb n 255 ≡ is_low s at
  unfolding is_low
  low_3 {n} t h e = rw (sym f ∙ not-false b t, le-leb 255 (get_or s (at + 8) 0) h, ← e) (below_255 n)

module _ (s : List ℕ) (at : ℕ) {b : Bool} (f : b ≡ is_low s at) where
  pub ends_1 : b ≡ true → LowSize ≡ ends_at s at ZeroValue
  unfolding ends_at
  ends_1 t = sym (pick_t _ _ (sym f ∙ t))

  pub ends_2 : b ≡ false → EndsIn ZeroValue ≡ ends_at s at ZeroValue
  unfolding ends_at
  ends_2 t = sym (pick_f _ _ (sym f ∙ t))

pub ends_3 : (s : List ℕ) (at : ℕ) (e : Ending) → (e ≡ ZeroValue → ⊥) → EndsIn e ≡ ends_at s at e
unfolding ends_at
ends_3 s at NoByteLeft n = sym (pick_f _ _ refl)
ends_3 s at LongKey n = sym (pick_f _ _ refl)
ends_3 s at ShortChild n = sym (pick_f _ _ refl)
ends_3 s at ShortHead n = sym (pick_f _ _ refl)
ends_3 s at ShortSize n = sym (pick_f _ _ refl)
ends_3 s at ShortKey n = sym (pick_f _ _ refl)
ends_3 s at ZeroValue n = absurd (n refl)
ends_3 s at BytesIgnored n = sym (pick_f _ _ refl)

-- ---- the loop

abbrev stopped : Strict → ℕ → Stopped
stopped e at = record { ending = e; at = at }

module _ (s : List ℕ) where
  -- what is left to read makes the whole
  abbrev pub LeftOver : ℕ → ℕ → Type 0
  LeftOver at i = strict_end s ≡ strict_from s (8 - i) at

  pub strict_start : LeftOver 0 0
  unfolding strict_end
  strict_start = refl

  module _ (at i : ℕ) (l : LeftOver at i) (h : i < 8) where
    from_index : strict_from s (8 - i) at ≡
        pick (fits_in (length s) at 8)
        (pick (eqb (at + 8) (length s)) (stopped (EndsIn NoByteLeft) (at + 8)) (judge s (strict_from s (8 - (i + 1))) (at + 8) (head_at s (at + 8))))
        (stopped (EndsIn ShortChild) at)
    unfolding strict_from
    from_index = let e : 8 - i ≡ suc (8 - (i + 1)) = omega arith in rw e

    module _ {b : Bool} (f : b ≡ fits_in (length s) at 8) where
      pub strict_short : not b ≡ true → stopped (EndsIn ShortChild) at ≡ strict_end s
      strict_short t = sym (l ∙ from_index ∙ pick_f _ _ (sym f ∙ not-true _ t))

      module _ (t : not b ≡ false) where
        pub strict_whole : at + 8 ≡ length s → stopped (EndsIn NoByteLeft) (at + 8) ≡ strict_end s
        strict_whole e = sym (l ∙ from_index ∙ pick_t _ _ (sym f ∙ not-false _ t) ∙ pick_t _ _ (eq-eqb _ _ e))

        module _ (n : at + 8 ≡ length s → ⊥) {d : Result Head Ending} (a : d ≡ head_at s (at + 8)) where
          judged_lem : {q : Result Head Ending} → d ≡ q → strict_end s ≡ judge s (strict_from s (8 - (i + 1))) (at + 8) q
          judged_lem k = l ∙ from_index ∙ pick_t _ _ (sym f ∙ not-false _ t) ∙ pick_f _ _ (ne_eqb _ _ n) ∙ ap (judge s (strict_from s (8 - (i + 1))) (at + 8)) (sym a ∙ k)

          pub strict_ends : {e : Ending} {r : Strict} → d ≡ Err e → r ≡ ends_at s (at + 8) e → stopped r (at + 8) ≡ strict_end s
          strict_ends k q = ap (λ (x : Strict). stopped x (at + 8)) q ∙ sym (judged_lem k)

          module _ {g : Head} (k : d ≡ Ok g) where
            pub strict_low : not g.plain ≡ true → stopped LowSize (at + 8) ≡ strict_end s
            strict_low p = sym (judged_lem k ∙ pick_f _ _ (not-true g.plain p))

            pub strict_turn : not g.plain ≡ false → LeftOver (g.start + g.len) (i + 1)
            strict_turn p = judged_lem k ∙ pick_t _ _ (not-false g.plain p)

  -- behind the eighth separator
  pub strict_last : (at i : ℕ) {r : Stopped} → LeftOver at i → 8 ≤ i → i ≤ 8 → r ≡ strict_from s 0 at → r ≡ strict_end s
  strict_last at i l h k e = let z : 8 - i ≡ 0 = omega arith in e ∙ sym (l ∙ rw z)

  module _ (at : ℕ) {b : Bool} (f : b ≡ fits_in (length s) at 8) where
    pub last_short : not b ≡ true → stopped (EndsIn ShortChild) at ≡ strict_from s 0 at
    unfolding strict_from
    last_short t = sym (pick_f _ _ (sym f ∙ not-true _ t))

    pub last_whole : not b ≡ false → at + 8 ≡ length s → stopped (EndsIn NoByteLeft) (at + 8) ≡ strict_from s 0 at
    unfolding strict_from
    last_whole t e = sym (pick_t _ _ (sym f ∙ not-false _ t) ∙ pick_t _ _ (eq-eqb _ _ e))

    pub last_behind : not b ≡ false → (at + 8 ≡ length s → ⊥) → stopped (EndsIn BytesIgnored) (at + 8) ≡ strict_from s 0 at
    unfolding strict_from
    last_behind t e = sym (pick_t _ _ (sym f ∙ not-false _ t) ∙ pick_f _ _ (ne_eqb _ _ e))

-- ---- the bytes in standard form

module _ (s : List ℕ) {p : Places} (h : p ≡ places_of s) where
  -- what f makes of them
  module _ {A : Type 0} (f : List ℕ → A) {a : A} where
    pub of_none : not p.standard ≡ true → a ≡ f [] → a ≡ f (standard_of s)
    of_none n e = e ∙ ap f (sym (pick_f s [] (ap (λ (q : Places). q.standard) (sym h) ∙ not-true _ n)))

    pub of_all : not p.standard ≡ false → a ≡ f s → a ≡ f (standard_of s)
    of_all n e = e ∙ ap f (sym (pick_t s [] (ap (λ (q : Places). q.standard) (sym h) ∙ not-false _ n)))

pub strict_read : (s : List ℕ) {t : Stopped} {r : Reading} → t ≡ strict_end s → r ≡ reading_of (standard_of s) → record { ending = t.ending; at = t.at; node = r.node } ≡ strict_reading s
unfolding strict_reading
strict_read s e q = (λ i. record { ending = (e i).ending; at = (e i).at; node = (q i).node })

-- an empty part, as of no bytes
pub no_key : (s : List ℕ) (i : ℕ) → take (0 - 0) (drop 0 s) ≡ part s (key_place [] i).start (key_place [] i).len
unfolding part key_place scan settle scan_from pick fits_in
no_key s i = refl
