-- The ways through `has_key` and `run_end`. Assumes nothing.
use mathlib.Core.Path.{◌≡◌, sym, ap, ◌∙◌}
use mathlib.Core.List.{List}
use mathlib.Core.Bool.{Bool, true, false, not}
use Prim.Native.Nat.{ℕ, suc, ◌+◌, ◌-◌, ◌≤◌, ◌<◌}
use lib.ListN.{length, take, drop}
use native.Mathlib.Numerals.{add-one}
use native.Mathlib.Omega.{arith}
use borrow.Author.Tests.{not-true, not-false}
use Rattle.std.specs.Ordering.{is_eq}
use Rattle.std.specs.declared.cmp.Ordering.{Ordering}
use Rattle.word.specs.Pick.{pick, pick_t, pick_f, by_test}
use Rattle.word.specs.Key.{Key, cmp, order_of}
use Rattle.word.specs.Part.{part}
use Rattle.std.specs.Prelude.{Some, None}
use Rattle.tree.proofs.Cases.{by_bool}
use Rattle.changes.specs.declared.Change.{Change}
use Rattle.changes.specs.Records.{most_records, key_at, next_at, stands_at, change_at}
use Rattle.changes.specs.RunAt.{has_key, run_from, run_at}
use Rattle.changes.proofs.RecordLaws.{impossible, stands_true, stands_is, change_whole, key_lent, key_is, behind_is, equal_is}

module _ (s : List ℕ) where
  pub has_whole : (at : ℕ) (key : Key) → has_key s at key ≡ true → next_at s at ≤ length s
  unfolding has_key
  has_whole at key = by_test (λ (b : Bool). b ≡ true → next_at s at ≤ length s) (stands_at s at) (λ e t. stands_true s at e) (λ e t. impossible t)

  -- no change, no whole record
  none_stands : (at : ℕ) → None ≡ change_at s at → stands_at s at ≡ false
  unfolding change_at
  none_stands at e = by_bool (stands_at s at) (λ t. absurd (let z = e ∙ pick_t _ _ t in cc)) (λ f. f)

  module _ (at : ℕ) (key : Key) where
    pub has_1 : None ≡ change_at s at → false ≡ has_key s at key
    unfolding has_key
    has_1 e = sym (pick_f _ _ (none_stands at e))

    pub has_2 : {c : Change} {q : Ordering} {b : Bool} → Some c ≡ change_at s at → q ≡ order_of (cmp (take (c.next - c.start) (drop c.start s)) key) → b ≡ is_eq q → b ≡ has_key s at key
    unfolding has_key
    has_2 read order same =
        let e = stands_is s at (change_whole s at read) in
        let o = order ∙ ap (λ (k : Key). order_of (cmp k key)) (key_lent s at read) in
        equal_is (cmp (key_at s at) key) o same ∙ sym (pick_t _ _ e)

  run_more : (k : ℕ) (key : Key) (last size : ℕ)
      → run_from s (suc k) key last size ≡ pick (has_key s (next_at s last) key) (run_from s k key (next_at s last) (size + 1)) (record { last = last; next = next_at s last; size = size })
  unfolding run_from
  run_more k key last size = rw add-one

  -- ---- the ways through `run_end`

  module _ (at : ℕ) where
    -- what is left of the run decides
    pub record RunLeft (from len last next size : ℕ) : Type 0 where
      pub behind : next ≡ next_at s last
      pub rest : run_at s at ≡ run_from s (most_records - size) (part s from len) last size

    pub run_none : None ≡ change_at s at → record { last = at; next = at; size = 0 } ≡ run_at s at
    unfolding run_at
    run_none e = sym (pick_f _ _ (none_stands at e))

    pub run_start : {c : Change} → Some c ≡ change_at s at → RunLeft c.start c.len at c.next 1
    unfolding run_at
    run_start read = record { behind = behind_is s at read; rest = pick_t _ _ (stands_is s at (change_whole s at read)) ∙ rw (key_is s at read) }

    module _ (from len last next size : ℕ) (left : RunLeft from len last next size) where
      pub run_end : size ≡ most_records → record { last = last; next = next; size = most_records } ≡ run_at s at
      unfolding run_from
      run_end h = let z : most_records - size ≡ 0 = omega arith in sym (left.rest ∙ rw (z, left.behind, h))

      module _ (h : size < most_records) {b : Bool} (has : b ≡ has_key s next (part s from len)) where
        turn : run_at s at ≡ pick b (run_from s (most_records - (size + 1)) (part s from len) next (size + 1)) (record { last = last; next = next; size = size })
        turn =
            let e : most_records - size ≡ suc (most_records - (size + 1)) = omega arith in
            left.rest ∙ rw (e, has, left.behind) (run_more (most_records - (size + 1)) (part s from len) last size)

        pub run_ended : not b ≡ true → record { last = last; next = next; size = size } ≡ run_at s at
        run_ended t = sym (turn ∙ pick_f _ _ (not-true _ t))

        pub run_whole : not b ≡ false → next_at s next ≤ length s
        run_whole t = has_whole next (part s from len) (sym has ∙ not-false _ t)

        pub run_turn : {c : Change} → not b ≡ false → Some c ≡ change_at s next → RunLeft from len next c.next (size + 1)
        run_turn t read = record { behind = behind_is s next read; rest = turn ∙ pick_t _ _ (not-false _ t) }
