-- A text cut at the first byte of a kind, and the ways through `find`. Read the files of this folder in the order CutLaws,
-- DigitLaws, HexLaws, PutLaws, LinesLaws (`parse`); WriteLaws (`write_entry`, `write_refused`); ReadBack, Bounds, Same, Table
-- (what the definitions say: `sets_back`, `key_fits`, `records_fit`, `same_parse`, `read_lem`). Assumes nothing.
use mathlib.Core.Path.{◌≡◌, refl, sym, ap, ◌∙◌}
use mathlib.Core.List.{List, [], ◌∷◌}
use mathlib.Core.Bool.{Bool, true, false, not}
use Prim.Native.Nat.{ℕ, suc, ◌+◌, ◌-◌, ◌≤◌, ◌<◌}
use lib.ListN.{length, take, drop, length-drop}
use lib.Seq.{take-length}
use lib.Dec.{eqb, ltb}
use native.Mathlib.Omega.{arith}
use borrow.Author.Tests.{eq-eqb, lt-ltb, le-ltb, ltb-true, ltb-false}
use Rattle.std.specs.Prelude.{Option, Some, None, cond, ◌==◌, position}
use Rattle.std.specs.List.{position_or_len}
use Rattle.word.specs.Pick.{pick, pick_t, pick_f, by_test}
use Rattle.tree.proofs.Cases.{by_bool}
use Rattle.lines.specs.Lines.{up_to, has, behind}

-- a part that goes on to the end, as the code lends it
abbrev pub tail : List ℕ → ℕ → List ℕ
tail s a = take (length s - a) (drop a s)

pub tail_is : (s : List ℕ) (a : ℕ) → tail s a ≡ drop a s
tail_is s a = rw (← length-drop) (take-length (drop a s))

ltb_suc : (m n : ℕ) → ltb (suc m) (suc n) ≡ ltb m n
ltb_suc m n =
    by_bool (ltb m n)
    (λ t. let h = ltb-true m n t in lt-ltb (suc m) (suc n) (omega arith) ∙ sym t)
    (λ t. let h = ltb-false m n t in le-ltb (suc m) (suc n) (omega arith) ∙ sym t)

some_of : (c : Bool) (n t : ℕ) → cond c (Some n) None ≡ Some t → (c ≡ true) × (n ≡ t)
some_of true n t e = (refl, cc)
some_of false n t e = cc

none_of : (c : Bool) (n : ℕ) → cond c (Some n) None ≡ None → c ≡ false
none_of true n e = cc
none_of false n e = refl

module _ (b : ℕ) where
  pub up_to_short : (s : List ℕ) → length (up_to b s) ≤ length s
  unfolding up_to
  up_to_short [] = omega arith
  up_to_short (x ∷ s) = by_test (λ (t : List ℕ). length t ≤ suc (length s)) (eqb x b) (λ e. omega arith) (λ e. let h = up_to_short s in omega arith)

  pub up_to_take : (s : List ℕ) → take (length (up_to b s)) s ≡ up_to b s
  unfolding up_to
  up_to_take [] = refl
  up_to_take (x ∷ s) = by_test (λ (t : List ℕ). take (length t) (x ∷ s) ≡ t) (eqb x b) (λ e. refl) (λ e. ap (λ (t : List ℕ). x ∷ t) (up_to_take s))

  module _ (x : ℕ) (s : List ℕ) where
    pub up_to_here : x ≡ b → up_to b (x ∷ s) ≡ []
    unfolding up_to
    up_to_here e = pick_t _ _ (eq-eqb x b e)

    pub has_here : x ≡ b → has b (x ∷ s) ≡ true
    unfolding has
    has_here e = rw (up_to_here e) (lt-ltb 0 (suc (length s)) (omega arith))

    pub behind_here : x ≡ b → behind b (x ∷ s) ≡ s
    unfolding behind
    behind_here e = rw (up_to_here e)

    module _ (t : eqb x b ≡ false) where
      pub up_to_there : up_to b (x ∷ s) ≡ x ∷ up_to b s
      unfolding up_to
      up_to_there = pick_f _ _ t

      pub has_there : has b (x ∷ s) ≡ has b s
      unfolding has
      has_there = rw up_to_there (ltb_suc (length (up_to b s)) (length s))

      pub behind_there : behind b (x ∷ s) ≡ behind b s
      unfolding behind
      behind_there = let e : suc (length (up_to b s)) + 1 ≡ suc (length (up_to b s) + 1) = omega arith in rw (up_to_there, e)

  -- ---- the first b, as the code looks for it

  place_next : (t : Bool) (m x : ℕ) (u : List ℕ) → m ≡ length u → cond (not t) (1 + m) 0 ≡ length (pick t [] (x ∷ u))
  unfolding pick
  place_next true m x u e = refl
  place_next false m x u e = omega arith

  pub place_is : (s : List ℕ) → position_or_len (λ x. x == b) s ≡ length (up_to b s)
  unfolding up_to
  place_is [] = refl
  place_is (x ∷ s) = place_next (eqb x b) (position_or_len (λ y. y == b) s) x (up_to b s) (place_is s)

  module _ (s : List ℕ) {r : Option ℕ} (sought : r ≡ position (λ x. x == b) s) where
    pub not_found : r ≡ None → has b s ≡ false
    unfolding has
    not_found e = rw (← place_is s) (none_of (ltb (position_or_len (λ x. x == b) s) (length s)) _ (sym sought ∙ e))

    module _ {t : ℕ} (found : r ≡ Some t) where
      is_there : (ltb (position_or_len (λ x. x == b) s) (length s) ≡ true) × (position_or_len (λ x. x == b) s ≡ t)
      is_there = some_of (ltb (position_or_len (λ x. x == b) s) (length s)) _ t (sym sought ∙ found)

      pub found_at : t ≡ length (up_to b s)
      found_at = sym is_there.1 ∙ place_is s

      pub found_inside : t < length s
      found_inside = let h = ltb-true _ (length s) is_there.0 in let e = is_there.1 in omega arith

      pub is_found : has b s ≡ true
      unfolding has
      is_found = rw (← place_is s) is_there.0

      pub found_front : take t s ≡ up_to b s
      found_front = rw found_at (up_to_take s)

      pub found_behind : tail s (t + 1) ≡ behind b s
      unfolding behind
      found_behind = tail_is s (t + 1) ∙ rw found_at
