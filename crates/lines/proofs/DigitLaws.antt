-- Digits and decimals: the ways through `digit`, `is_padded` and `decimal`. Assumes nothing.
use mathlib.Core.Path.{◌≡◌, refl, sym, ap, ◌∙◌}
use mathlib.Core.List.{List, [], ◌∷◌}
use mathlib.Core.Bool.{Bool, true, false, ◌&&◌}
use Prim.Native.Nat.{ℕ, ◌+◌, ◌-◌, ◌*◌, ◌^◌, ◌≤◌, ◌<◌}
use lib.ListN.{length, get_or, drop, drop_of_length-le}
use lib.Seq.{drop-cons}
use lib.Dec.{eqb, ltb}
use native.Mathlib.Numerals.{add-one}
use native.Mathlib.Omega.{arith}
use borrow.Author.Tests.{lt-ltb, le-ltb, le-leb, lt-leb, ltb-true, ltb-false}
use Rattle.std.specs.Prelude.{Option, Some, None}
use Rattle.word.specs.Pick.{pick, pick_t, pick_f, by_test}
use Rattle.lines.specs.Digits.{digit_of, are_digits, decimal_from, is_padded, is_decimal}
use Rattle.lines.specs.Mirror.{digit_at, amount_of}

-- ---- an answer that a test decides

pub picked : (c : Bool) (n v : ℕ) → pick c (Some n) None ≡ Some v → (c ≡ true) × (n ≡ v)
unfolding pick
picked true n v e = (refl, cc)
picked false n v e = cc

pub unpicked : (c : Bool) (n : ℕ) → pick c (Some n) None ≡ None → c ≡ false
unfolding pick
unpicked true n e = cc
unpicked false n e = refl

-- ---- one digit

module _ (b : ℕ) where
  pub digit_1 : b < 48 → 16 ≡ digit_of b
  unfolding digit_of
  digit_1 h = sym (pick_t _ _ (lt-ltb _ _ h))

  pub digit_2 : 48 ≤ b → b ≤ 57 → b - 48 ≡ digit_of b
  unfolding digit_of
  digit_2 h g = sym (pick_f _ _ (le-ltb _ _ h) ∙ pick_t _ _ (le-leb _ _ g))

  pub digit_3 : 57 < b → b < 97 → 16 ≡ digit_of b
  unfolding digit_of
  digit_3 h g = sym (pick_f _ _ (le-ltb b 48 (omega arith)) ∙ pick_f _ _ (lt-leb _ _ h) ∙ pick_t _ _ (lt-ltb _ _ g))

  pub digit_4 : 97 ≤ b → b ≤ 102 → b - 97 + 10 ≡ digit_of b
  unfolding digit_of
  digit_4 h g =
      let e : b - 97 + 10 ≡ b - 87 = omega arith in
      e ∙ sym (pick_f _ _ (le-ltb b 48 (omega arith)) ∙ pick_f _ _ (lt-leb b 57 (omega arith)) ∙ pick_f _ _ (le-ltb _ _ h) ∙ pick_t _ _ (le-leb _ _ g))

  pub digit_5 : 102 < b → 16 ≡ digit_of b
  unfolding digit_of
  digit_5 h = sym (pick_f _ _ (le-ltb b 48 (omega arith)) ∙ pick_f _ _ (lt-leb b 57 (omega arith)) ∙ pick_f _ _ (le-ltb b 97 (omega arith)) ∙ pick_f _ _ (lt-leb _ _ h))

module _ (b : ℕ) where
  pub digit_is : {d : ℕ} → d < 16 → d ≡ digit_of b → Some d ≡ digit_at b
  unfolding digit_at
  digit_is h e = sym (pick_t _ _ (lt-ltb _ _ (rw e at h)) ∙ ap Some (sym e))

  pub digit_not : 16 ≡ digit_of b → None ≡ digit_at b
  unfolding digit_at
  digit_not e = sym (pick_f _ _ (le-ltb (digit_of b) 16 (omega arith)))

  module _ {r : Option ℕ} (digit : r ≡ digit_at b) where
    pub digit_some : {d : ℕ} → r ≡ Some d → (d ≡ digit_of b) × (d < 16)
    unfolding digit_at
    digit_some {d} q = let w = picked (ltb (digit_of b) 16) (digit_of b) d (sym digit ∙ q) in let h = ltb-true (digit_of b) 16 w.0 in (sym w.1, let e = w.1 in omega arith)

    pub digit_none : r ≡ None → 16 ≤ digit_of b
    unfolding digit_at
    digit_none q = ltb-false (digit_of b) 16 (unpicked (ltb (digit_of b) 16) (digit_of b) (sym digit ∙ q))

pub and_false : (a b : Bool) → a ≡ false → (a && b) ≡ false
and_false true b e = cc
and_false false b e = refl

pub pick_same : {A : Type 0} (b : Bool) (x y : A) → y ≡ x → pick b x y ≡ x
unfolding pick
pick_same true x y e = refl
pick_same false x y e = e

-- ---- a decimal

pub decimal_grows : (v : ℕ) (s : List ℕ) → v ≤ decimal_from v s
unfolding decimal_from
decimal_grows v [] = omega arith
decimal_grows v (x ∷ s) = let h = decimal_grows (v * 10 + digit_of x) s in omega arith

module _ (s : List ℕ) where
  pub padded_1 : length s < 2 → false ≡ is_padded s
  unfolding is_padded
  padded_1 h = sym (pick_t _ _ (lt-ltb _ _ h))

  pub padded_2 : 2 ≤ length s → eqb (get_or s 0 0) 48 ≡ is_padded s
  unfolding is_padded
  padded_2 h = sym (pick_f _ _ (le-ltb _ _ h))

  pub decimal_1 : {e : Bool} → e ≡ eqb (length s) 0 → e ≡ true → None ≡ amount_of s
  unfolding amount_of is_decimal
  decimal_1 q t = sym (pick_f _ _ (pick_t _ _ (sym q ∙ t)))

  pub decimal_2 : {p : Bool} → p ≡ is_padded s → p ≡ true → None ≡ amount_of s
  unfolding amount_of is_decimal
  decimal_2 q t = sym (pick_f _ _ (pick_same _ _ _ (pick_t _ _ (sym q ∙ t))))

  not_digits : are_digits s ≡ false → None ≡ amount_of s
  unfolding amount_of is_decimal
  not_digits e = sym (pick_f _ _ (pick_same _ _ _ (pick_same _ _ _ (pick_f _ _ e))))

  too_large : 256 ^ 8 ≤ decimal_from 0 s → None ≡ amount_of s
  unfolding amount_of is_decimal
  too_large h = sym (pick_f _ _ (pick_same _ _ _ (pick_same _ _ _ (by_test (λ (b : Bool). b ≡ false) (are_digits s) (λ t. le-ltb _ _ h) (λ t. refl)))))

  -- the first i digits are read, and count v
  pub record Counted (v i : ℕ) : Type 0 where
    pub same : are_digits s ≡ are_digits (drop i s)
    pub counts : decimal_from 0 s ≡ decimal_from v (drop i s)

  module _ (v i : ℕ) (h : Counted v i) where
    module _ (g : i < length s) {d : ℕ} (digit : d ≡ digit_of (get_or s i 0)) where
      digits_step : are_digits s ≡ (ltb d 10 && are_digits (drop (i + 1) s))
      unfolding are_digits
      digits_step = h.same ∙ rw (drop-cons s i 0 g, add-one, digit)

      decimal_step : decimal_from 0 s ≡ decimal_from (v * 10 + d) (drop (i + 1) s)
      unfolding decimal_from
      decimal_step = h.counts ∙ rw (drop-cons s i 0 g, add-one, digit)

      pub decimal_3 : 10 ≤ d → None ≡ amount_of s
      decimal_3 l = not_digits (digits_step ∙ and_false (ltb d 10) (are_digits (drop (i + 1) s)) (le-ltb _ _ l))

      pub decimal_4 : 256 ^ 8 ≤ v * 10 + d → None ≡ amount_of s
      decimal_4 l = let e = decimal_step in let k = decimal_grows (v * 10 + d) (drop (i + 1) s) in too_large (omega arith)

      pub decimal_turn : d < 10 → Counted (v * 10 + d) (i + 1)
      decimal_turn l = record { same = digits_step ∙ rw (lt-ltb d 10 l); counts = decimal_step }

    pub decimal_none : i < length s → {r : Option ℕ} → r ≡ digit_at (get_or s i 0) → r ≡ None → None ≡ amount_of s
    decimal_none g p q = decimal_3 g refl (let h = digit_none (get_or s i 0) p q in omega arith)

    pub decimal_5 : {e : Bool} → e ≡ eqb (length s) 0 → e ≡ false → {p : Bool} → p ≡ is_padded s → p ≡ false → length s ≤ i → v < 256 ^ 8 → Some v ≡ amount_of s
    unfolding amount_of is_decimal are_digits decimal_from
    decimal_5 z u q f l small =
        let n = drop_of_length-le s l in
        let digits : are_digits s ≡ true = h.same ∙ rw n in
        let value : decimal_from 0 s ≡ v = h.counts ∙ rw n in
        sym (pick_t _ _ (pick_f _ _ (sym z ∙ u) ∙ pick_f _ _ (sym q ∙ f) ∙ pick_t _ _ digits ∙ lt-ltb (decimal_from 0 s) (256 ^ 8) (rw value small)) ∙ ap Some value)
