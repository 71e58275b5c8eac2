-- Hex: the key that it stands for, and the ways through `unhex`. Assumes nothing.
use mathlib.Core.Path.{◌≡◌, refl, sym, ◌∙◌}
use mathlib.Core.List.{List, [], ◌∷◌}
use mathlib.Core.Bool.{Bool, true, false, not, ◌&&◌}
use Prim.Native.Nat.{ℕ, zero, suc, ◌+◌, ◌*◌, ◌/◌, ◌%◌, ◌≤◌, ◌<◌}
use lib.ListN.{length, get_or, set, drop, drop_of_length-le}
use lib.Seq.{drop-cons}
use lib.Dec.{ltb}
use native.Mathlib.Omega.{arith}
use borrow.Author.Tests.{lt-ltb, le-ltb, not-true, not-false}
use Rattle.word.specs.Pick.{pick_t, pick_f, by_test}
use Rattle.word.specs.Part.{part, over}
use Rattle.word.specs.At.{fits_in}
use Rattle.word.proofs.PartLaws.{part_whole}
use Rattle.word.proofs.CodeLaws.{copy_start, copy_turn}
use Rattle.tree.proofs.Cases.{by_bool}
use Rattle.changes.proofs.RecordLaws.{impossible}
use Rattle.lines.specs.Digits.{digit_of, is_hex, hex_key}
use Rattle.lines.specs.Mirror.{is_key}
use Rattle.lines.proofs.DigitLaws.{and_false}

and_false_2 : (a b : Bool) → b ≡ false → (a && b) ≡ false
and_false_2 true b e = e
and_false_2 false b e = refl

pub length_hex_key : (s : List ℕ) → length (hex_key s) ≡ length s / 2
unfolding hex_key
length_hex_key [] = omega arith
length_hex_key (a ∷ []) = omega arith
length_hex_key (a ∷ b ∷ s) = let h = length_hex_key s in omega arith

pub hex_key_at : (s : List ℕ) (i : ℕ) → i * 2 + 1 < length s → get_or (hex_key s) i 0 ≡ digit_of (get_or s (i * 2) 0) * 16 + digit_of (get_or s (i * 2 + 1) 0)
unfolding hex_key
hex_key_at [] i h = absurd (omega arith)
hex_key_at (a ∷ []) i h = absurd (omega arith)
hex_key_at (a ∷ b ∷ s) zero h = refl
hex_key_at (a ∷ b ∷ s) (suc i) h =
    let e : suc i * 2 ≡ suc (suc (i * 2)) = omega arith in
    let f : suc (suc (i * 2)) + 1 ≡ suc (suc (i * 2 + 1)) = omega arith in
    rw (e, f) (hex_key_at s i (omega arith))

hex_even : (s : List ℕ) → is_hex s ≡ true → length s % 2 ≡ 0
unfolding is_hex
hex_even [] t = omega arith
hex_even (a ∷ []) t = impossible t
hex_even (a ∷ b ∷ s) t = let h = hex_even s (by_bool (ltb (digit_of a) 16 && ltb (digit_of b) 16) (λ e. cc) (λ e. impossible (sym (and_false _ (is_hex s) e) ∙ t))) in omega arith

module _ (s : List ℕ) (i : ℕ) (h : i * 2 + 1 < length s) where
  pub hex_step : is_hex (drop (i * 2) s) ≡ ((ltb (digit_of (get_or s (i * 2) 0)) 16 && ltb (digit_of (get_or s (i * 2 + 1) 0)) 16) && is_hex (drop ((i + 1) * 2) s))
  unfolding is_hex
  hex_step =
      let e : (i + 1) * 2 ≡ suc (suc (i * 2)) = omega arith in
      let f : i * 2 + 1 ≡ suc (i * 2) = omega arith in
      rw (e, f, drop-cons s (i * 2) 0 (omega arith), drop-cons s (suc (i * 2)) 0 (omega arith))

module _ (s : List ℕ) (room at : ℕ) where
  not_key : is_hex s ≡ false → false ≡ is_key s room at
  unfolding is_key
  not_key e = sym (pick_f _ _ e)

  pub unhex_1 : (length s % 2 ≡ 0 → ⊥) → false ≡ is_key s room at
  unhex_1 h = not_key (by_bool (is_hex s) (λ t. absurd (h (hex_even s t))) (λ t. t))

  pub unhex_2 : {f : Bool} → f ≡ fits_in room at (length s / 2) → not f ≡ true → false ≡ is_key s room at
  unfolding is_key
  unhex_2 q t = by_test (λ (b : Bool). false ≡ b) (is_hex s) (λ e. sym (sym q ∙ not-true _ t)) (λ e. refl)

module _ (s d : List ℕ) (at : ℕ) where
  -- i pairs are read and stand at their place
  pub record Unhexed (i : ℕ) (e : List ℕ) : Type 0 where
    pub same : is_hex s ≡ is_hex (drop (i * 2) s)
    pub bytes : e ≡ over d at (part (hex_key s) 0 i)

  pub unhex_start : Unhexed 0 d
  unhex_start = record { same = refl; bytes = copy_start d at (hex_key s) 0 }

  module _ (i : ℕ) {e : List ℕ} (u : Unhexed i e) where
    module _ (h : i < length s / 2) {high low : ℕ} (p : high ≡ digit_of (get_or s (i * 2) 0)) (q : low ≡ digit_of (get_or s (i * 2 + 1) 0)) where
      step : is_hex s ≡ ((ltb high 16 && ltb low 16) && is_hex (drop ((i + 1) * 2) s))
      step = u.same ∙ hex_step s i (omega arith) ∙ rw (← p, ← q)

      pub unhex_3 : 16 ≤ high → false ≡ is_key s (length d) at
      unhex_3 l = not_key s (length d) at (step ∙ and_false _ _ (and_false _ _ (le-ltb high 16 l)))

      pub unhex_4 : 16 ≤ low → false ≡ is_key s (length d) at
      unhex_4 l = not_key s (length d) at (step ∙ and_false _ _ (and_false_2 _ _ (le-ltb low 16 l)))

      pub unhex_turn : high < 16 → low < 16 → at + length s / 2 ≤ length d → Unhexed (i + 1) (set e (at + i) (high * 16 + low))
      unhex_turn k l fits =
          let z : 0 + i ≡ i = omega arith in
          let v : get_or (hex_key s) (0 + i) 0 ≡ high * 16 + low = rw (z, p, q) (hex_key_at s i (omega arith)) in
          let n = length_hex_key s in
          record {
            same = step ∙ rw (lt-ltb high 16 k, lt-ltb low 16 l);
            bytes = rw (← v) (copy_turn d at (hex_key s) 0 i (omega arith) (omega arith) u.bytes);
          }

    module _ (all : i ≡ length s / 2) (even : length s % 2 ≡ 0) {f : Bool} (q : f ≡ fits_in (length d) at (length s / 2)) (t : not f ≡ false) where
      pub unhex_5 : (true ≡ is_key s (length d) at) × (e ≡ over d at (hex_key s))
      unfolding is_key is_hex
      unhex_5 =
          let past : length s ≤ i * 2 = omega arith in
          let hex : is_hex s ≡ true = u.same ∙ rw (drop_of_length-le s past) in
          let l : i ≡ length (hex_key s) = all ∙ sym (length_hex_key s) in
          (sym (pick_t _ _ hex ∙ sym q ∙ not-false _ t), u.bytes ∙ rw (l, part_whole (hex_key s)))
