-- The check of a batch's records: a turn of it, and each way through the loop of `check`. Assumes nothing.
use mathlib.Core.Path.{◌≡◌, refl, sym, ap, ◌∙◌}
use mathlib.Core.List.{List}
use mathlib.Core.Bool.{Bool, true, false}
use Prim.Native.Nat.{ℕ, zero, suc, ◌+◌, ◌-◌, ◌≤◌, ◌<◌}
use lib.ListN.{length, take, drop}
use native.Mathlib.Omega.{arith}
use lib.Dec.{eqb}
use borrow.Author.Tests.{eq-eqb, ne_eqb, eqb-true, eqb-false}
use Rattle.std.specs.Ordering as ordering
use Rattle.std.specs.declared.cmp.Ordering.{Ordering}
use Rattle.word.specs.Pick.{pick, pick_t, pick_f}
use Rattle.word.specs.Key.{Key, cmp, is_lt, order_of}
use Rattle.word.specs.Part.{part}
use Rattle.word.proofs.PartLaws.{part_none}
use Rattle.tree.proofs.Cases.{by_bool}
use Rattle.std.specs.Prelude.{Some, Ok, Err}
use Rattle.changes.specs.declared.RecordError.{RecordError}
use Rattle.changes.specs.declared.RecordError.TheVariants.{Falls, TooMany}
use Rattle.changes.specs.declared.Change.{Change}
use Rattle.changes.specs.Records.{Checked, most_records, key_at, next_at, change_at, check_from, check_of}
use Rattle.changes.specs.Mirror.{flaw_at, or_else}
use Rattle.changes.proofs.RecordLaws.{flaw_sound, less_is, key_lent, key_is, behind_is}

or_else_pick : (b : Bool) (x y z : Checked) → or_else (pick b x y) z ≡ pick b (or_else x z) (or_else y z)
unfolding pick
or_else_pick true x y z = refl
or_else_pick false x y z = refl

same_later : (f : Checked) (b : Bool) (x y : Checked) → ((x ≡ Err TooMany → ⊥) → y ≡ x) → (or_else f (pick b (Err Falls) x) ≡ Err TooMany → ⊥) → or_else f (pick b (Err Falls) y) ≡ or_else f (pick b (Err Falls) x)
unfolding pick
same_later (Ok _) true x y h n = refl
same_later (Ok _) false x y h n = h n
same_later (Err e) b x y h n = refl

module _ (s : List ℕ) where
  pub check_ended : (k at : ℕ) (prev : Key) → at ≡ length s → check_from s k at prev ≡ Ok tt
  unfolding check_from
  check_ended zero at prev e = pick_t _ _ (eq-eqb _ _ e)
  check_ended (suc k) at prev e = pick_t _ _ (eq-eqb _ _ e)

  -- 01's 7: "a 65,536th record". No record more may come, and there is a byte.
  pub check_many : (at : ℕ) (prev : Key) → (at ≡ length s → ⊥) → check_from s 0 at prev ≡ Err TooMany
  unfolding check_from
  check_many at prev e = pick_f _ _ (ne_eqb _ _ e)

  pub check_step : (k at : ℕ) (prev : Key) → (at ≡ length s → ⊥)
      → check_from s (suc k) at prev ≡ or_else (flaw_at s at) (pick (is_lt (cmp (key_at s at) prev)) (Err Falls) (check_from s k (next_at s at) (key_at s at)))
  unfolding check_from flaw_at
  check_step k at prev e = pick_f _ _ (ne_eqb _ _ e) ∙ sym (simp or_else_pick)

  -- how many records may come decides nothing but 7
  pub check_enough : (k m at : ℕ) (prev : Key) → k ≤ m → (check_from s k at prev ≡ Err TooMany → ⊥) → check_from s m at prev ≡ check_from s k at prev
  check_enough zero m at prev h n =
      by_bool (eqb at (length s)) (λ t. check_ended m at prev (eqb-true _ _ t) ∙ sym (check_ended 0 at prev (eqb-true _ _ t)))
      (λ t. absurd (n (check_many at prev (eqb-false _ _ t))))
  check_enough (suc k) zero at prev h n = absurd (omega arith)
  check_enough (suc k) (suc m) at prev h n =
      by_bool (eqb at (length s)) (λ t. check_ended (suc m) at prev (eqb-true _ _ t) ∙ sym (check_ended (suc k) at prev (eqb-true _ _ t)))
      (λ t.
      let few = check_step k at prev (eqb-false _ _ t) in
      let many = check_step m at prev (eqb-false _ _ t) in
      many
      ∙ same_later (flaw_at s at) (is_lt (cmp (key_at s at) prev)) (check_from s k (next_at s at) (key_at s at)) (check_from s m (next_at s at) (key_at s at)) (check_enough k m (next_at s at) (key_at s at) (omega arith)) (rw few at n)
      ∙ sym few)

  -- ---- the ways through `check`

  -- what is left to check decides
  pub record Left (at before len n : ℕ) : Type 0 where
    pub rest : check_of s ≡ check_from s (most_records - n) at (part s before len)

  pub check_start : Left 0 0 0 0
  unfolding check_of
  check_start = record { rest = rw part_none }

  module _ (at before len n : ℕ) (left : Left at before len n) where
    pub check_1 : at ≡ length s → Ok tt ≡ check_of s
    check_1 e = sym (left.rest ∙ check_ended (most_records - n) at (part s before len) e)

    pub check_4 : most_records ≤ n → (at ≡ length s → ⊥) → Err TooMany ≡ check_of s
    check_4 h e = let z : most_records - n ≡ 0 = omega arith in sym (left.rest ∙ rw z (check_many at (part s before len) e))

    module _ (h : n < most_records) (more : at ≡ length s → ⊥) {f : Checked} (own : f ≡ flaw_at s at) where
      turn : check_of s ≡ or_else f (pick (is_lt (cmp (key_at s at) (part s before len))) (Err Falls) (check_from s (most_records - (n + 1)) (next_at s at) (key_at s at)))
      turn =
          let e : most_records - n ≡ suc (most_records - (n + 1)) = omega arith in
          left.rest ∙ rw (e, own) (check_step (most_records - (n + 1)) at (part s before len) more)

      pub check_2 : (e : RecordError) → f ≡ Err e → Err e ≡ check_of s
      check_2 e is = sym (turn ∙ rw is)

      module _ (fine : f ≡ Ok tt) where
        pub check_whole : next_at s at ≤ length s
        check_whole = (flaw_sound s at (sym own ∙ fine)).whole

        module _ {c : Change} {q : Ordering} {b : Bool} (read : Some c ≡ change_at s at)
            (order : q ≡ order_of (cmp (take (c.next - c.start) (drop c.start s)) (part s before len))) (less : b ≡ ordering.is_lt q) where
          key_order : q ≡ order_of (cmp (key_at s at) (part s before len))
          key_order = order ∙ ap (λ (k : Key). order_of (cmp k (part s before len))) (key_lent s at read)

          rest : check_of s ≡ pick b (Err Falls) (check_from s (most_records - (n + 1)) (next_at s at) (key_at s at))
          rest = rw (less_is (cmp (key_at s at) (part s before len)) key_order less) (turn ∙ rw fine)

          pub check_3 : b ≡ true → Err Falls ≡ check_of s
          check_3 t = sym (rest ∙ pick_t _ _ t)

          pub check_turn : b ≡ false → Left c.next c.start c.len (n + 1)
          check_turn t = record { rest = rest ∙ pick_f _ _ t ∙ rw (behind_is s at read, key_is s at read) }
