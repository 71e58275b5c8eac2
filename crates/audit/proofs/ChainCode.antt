-- The walk along the free chain, way by way. Assumes nothing.
use mathlib.Core.Path.{◌≡◌, refl, sym, ap, ◌∙◌}
use mathlib.Core.List.{List}
use mathlib.Core.Bool.{Bool, true, false, not}
use mathlib.Core.Option.{Option, none, some}
use Prim.Native.Nat.{ℕ, zero, suc, ◌+◌, ◌-◌, ◌≤◌, ◌<◌}
use native.Mathlib.Omega.{arith}
use borrow.Author.Tests.{not-true, not-false, ne_eqb}
use Rattle.std.specs.Prelude.{Some, None}
use Rattle.word.specs.At.{read_at}
use Rattle.slots.specs.Layout.{start, first_of}
use Rattle.audit.specs.Walk.{is_clear, is_idle, next_free, linked, chain}
use Rattle.audit.specs.Code.{length_from, chain_of, chain_in}

linked_more : (i x : ℕ) (o : Option (List ℕ)) → length_from i (linked x o) ≡ length_from (i + 1) o
linked_more i x none = refl
linked_more i x (some fs) = ap some (omega arith)

module _ (s ws : List ℕ) (n : ℕ) where
  -- what is left to walk from slot x on, i steps done
  abbrev pub ChainLeft : ℕ → ℕ → Type 0
  ChainLeft i x = chain_in s ws n ≡ length_from i (chain (is_clear ws) (n - i) s x)

  pub chain_start : {x : ℕ} → x ≡ first_of s → ChainLeft 0 x
  unfolding chain_in
  chain_start e = let z : n - 0 ≡ n = omega arith in rw (e, z)

  module _ (i x : ℕ) (left : ChainLeft i x) where
    pub chain_ends : x ≡ 0 → i ≤ n → chain_of (Some i) ≡ chain_in s ws n
    chain_ends z l = sym (left ∙ go (n - i))
      where
        go : (k : ℕ) → length_from i (chain (is_clear ws) k s x) ≡ some i
        go zero = rw z (ap some (omega arith))
        go (suc k) = rw z (ap some (omega arith))

    pub chain_done : x ≡ 0 → i ≡ n → chain_of (Some n) ≡ chain_in s ws n
    chain_done z e = ap some (sym e) ∙ chain_ends z (omega arith)

    pub chain_late : (x ≡ 0 → ⊥) → i ≡ n → chain_of None ≡ chain_in s ws n
    chain_late z e = let k : n - i ≡ 0 = omega arith in sym (left ∙ rw (k, ne_eqb x 0 z))

    module _ (z : x ≡ 0 → ⊥) (l : i < n) where
      one_more_lem : n - i ≡ suc (n - (i + 1))
      one_more_lem = omega arith

      pub chain_used : {b : Bool} → b ≡ is_idle s x → not b ≡ true → chain_of None ≡ chain_in s ws n
      chain_used {b} e h = sym (left ∙ rw (one_more_lem, ne_eqb x 0 z, sym e ∙ not-true b h))

      module _ {b : Bool} (e : b ≡ is_idle s x) (h : not b ≡ false) {c : Bool} (f : c ≡ is_clear ws x) where
        pub chain_marked : not c ≡ true → chain_of None ≡ chain_in s ws n
        chain_marked g = sym (left ∙ rw (one_more_lem, ne_eqb x 0 z, sym e ∙ not-false b h, sym f ∙ not-true c g))

        pub chain_turn : {at y : ℕ} → not c ≡ false → at ≡ start x → y ≡ read_at 4 s (at + 4) → ChainLeft (i + 1) y
        chain_turn {at} {y} g p q =
            left ∙ rw (one_more_lem, ne_eqb x 0 z, sym e ∙ not-false b h, sym f ∙ not-false c g)
            (linked_more i x (chain (is_clear ws) (n - (i + 1)) s (next_free s x)) ∙ ap (λ (v : ℕ). length_from (i + 1) (chain (is_clear ws) (n - (i + 1)) s v)) next)
          where
            next : next_free s x ≡ y
            next = unfold next_free in (ap (λ (a : ℕ). read_at 4 s (a + 4)) (sym p) ∙ sym q)
