-- The tests of one node and of one free slot, way by way. Assumes nothing.
use mathlib.Core.Path.{◌≡◌, refl, sym, ap, ◌∙◌}
use mathlib.Core.List.{List, [], ◌++◌, append-nil, append_assoc}
use mathlib.Core.Bool.{Bool, true, false, not, ◌&&◌}
use mathlib.Core.Option.{Option, none, some}
use Prim.Native.Nat.{Ordering}
use Prim.Native.Nat.{ℕ, ◌+◌, ◌-◌, ◌≤◌}
use native.Mathlib.Omega.{arith}
use lib.ListN.{length, take, drop, length-append}
use borrow.Author.Tests.{not-true, not-false}
use Rattle.word.specs.Part.{part}
use Rattle.word.specs.Key.{Key, cmp, is_lt, order_of}
use Rattle.word.specs.Num.{Bytes, le, un, zeros}
use Rattle.word.specs.At.{fits_in, zero_at}
use Rattle.std.specs.Ordering.{is_gt}
use Rattle.std.specs.declared.cmp.Ordering.{Ordering as Order}
use Rattle.word.proofs.PartLaws.{length_part, part_seam, part_add}
use Rattle.word.proofs.NumLaws.{length_le, le_un, length_zeros, bytes_part}
use Rattle.word.proofs.AtLaws.{read_at_in, zero_at_is, zero_at_true}
use Rattle.word.proofs.KeyOrder.{cmp_eq, cmp_refl, gt_lt, lt_gt}
use Rattle.tree.proofs.Cases.{by_bool, by_order}
use Rattle.slots.specs.Limits.{slot_size}
use Rattle.slots.specs.Layout.{start, slot_at, idle}
use Rattle.slots.specs.Mirror.{is_slot}
use Rattle.slots.specs.Entries.{same_bytes}
use Rattle.slots.proofs.PlaceLaws.{slot_is, slot_part}
use Rattle.slots.proofs.StoreLaws.{slot_of_lem}
use Rattle.slots.proofs.CodeLaws.{whole}
use Rattle.slots.proofs.Building.{same_bytes_true, same_bytes_refl}
use Rattle.audit.specs.Walk.{is_above, next_free, is_idle}
use Rattle.audit.specs.Code.{is_rising}

-- ---- rising keys

turned_lem : (j k : Key) → is_gt (order_of (cmp k j)) ≡ is_lt (cmp j k)
turned_lem j k =
    by_order (cmp j k)
    (λ e. rw (lt_gt j k e, e))
    (λ e. let same = cmp_eq j k e in rw (e, same, cmp_refl k))
    (λ e. let w : cmp k j ≡ Ordering.lt = gt_lt j k e in rw (w, e))

module _ (s : List ℕ) (last : Option Key) (at len : ℕ) {f : Bool} (fits : f ≡ fits_in (length s) at len) where
  pub rises_1 : not f ≡ true → false ≡ is_rising s last at len
  unfolding is_rising
  rises_1 h = rw (sym fits ∙ not-true f h)

  module _ (h : not f ≡ false) where
    in_store_lem : is_rising s last at len ≡ is_above last (part s at len)
    unfolding is_rising
    in_store_lem = rw (sym fits ∙ not-false f h)

    pub rises_2 : last ≡ none → true ≡ is_rising s last at len
    rises_2 k = sym (in_store_lem ∙ ap (λ (o : Option Key). is_above o (part s at len)) k)

    pub rises_3 : (a n : ℕ) {o : Order} {r : Bool} → last ≡ some (part s a n) → o ≡ order_of (cmp (take ((at + len) - at) (drop at s)) (part s a n)) → r ≡ is_gt o
        → r ≡ is_rising s last at len
    rises_3 a n {o} k p q =
        let m : (at + len) - at ≡ len = omega arith in
        q ∙ ap is_gt (p ∙ ap (λ (i : ℕ). order_of (cmp (take i (drop at s)) (part s a n))) m)
        ∙ cut_lem ∙ turned_lem (part s a n) (part s at len) ∙ sym (in_store_lem ∙ ap (λ (o : Option Key). is_above o (part s at len)) k)
      where
        cut_lem : is_gt (order_of (cmp (take len (drop at s)) (part s a n))) ≡ is_gt (order_of (cmp (part s at len) (part s a n)))
        cut_lem = unfold part in refl

-- ---- a free slot's bytes

idle_front : (y : ℕ) → part (idle y) 0 4 ≡ zeros 4
unfolding idle
idle_front y = part_seam [] (zeros 4) (le 4 y ++ zeros 2552) 0 4 refl (length_zeros 4)

idle_back : (y : ℕ) → part (idle y) 8 2552 ≡ zeros 2552
idle_back y = ap (λ (b : List ℕ). part b 8 2552) (grouped y) ∙ part_seam (zeros 4 ++ le 4 y) (zeros 2552) [] 8 2552 (eight y) (length_zeros 2552)
  where
    grouped : (y : ℕ) → idle y ≡ (zeros 4 ++ le 4 y) ++ (zeros 2552 ++ [])
    grouped y = unfold idle in rw (append-nil (zeros 2552)) (sym (append_assoc (zeros 4) (le 4 y) (zeros 2552)))

    eight : (y : ℕ) → length (zeros 4 ++ le 4 y) ≡ 8
    eight y = simp length-append (omega (arith, length_zeros 4, length_le 4 y))

module _ (s : List ℕ) (x : ℕ) (is : is_slot s x ≡ true) where
  within_lem : start x + slot_size ≤ length s
  within_lem = (whole s x is).within

  front_zero : (y : ℕ) → slot_at s x ≡ idle y → zero_at s (start x) 4 ≡ true
  front_zero y e =
      let a : start x ≡ start x + 0 = omega arith in
      zero_at_is s (start x) 4 (omega (arith, within_lem)) (ap (λ (i : ℕ). part s i 4) a ∙ slot_part s x 0 4 (slot_of_lem s x is).least (omega arith) ∙ ap (λ (b : List ℕ). part b 0 4) e ∙ idle_front y)

  back_zero : (y : ℕ) → slot_at s x ≡ idle y → zero_at s (start x + 8) 2552 ≡ true
  back_zero y e =
      zero_at_is s (start x + 8) 2552 (omega (arith, within_lem)) (slot_part s x 8 2552 (slot_of_lem s x is).least (omega arith) ∙ ap (λ (b : List ℕ). part b 8 2552) e ∙ idle_back y)

  next_bytes : Bytes s → le 4 (next_free s x) ≡ part s (start x + 4) 4
  unfolding next_free
  next_bytes bs =
      let l = length_part s (start x + 4) 4 (omega (arith, within_lem)) in
      ap (le 4) (read_at_in 4 s (start x + 4) (omega (arith, within_lem))) ∙ ap (λ (k : ℕ). le k (un (part s (start x + 4) 4))) (sym l) ∙ le_un (part s (start x + 4) 4) (bytes_part s (start x + 4) 4 bs)

  zero_idle : Bytes s → zero_at s (start x) 4 ≡ true → zero_at s (start x + 8) 2552 ≡ true → slot_at s x ≡ idle (next_free s x)
  unfolding idle
  zero_idle bs a b =
      let e : start x + 4 + 4 ≡ start x + 8 = omega arith in
      let f = (zero_at_true s (start x) 4 a).1 in
      let g = (zero_at_true s (start x + 8) 2552 b).1 in
      slot_is s x (slot_of_lem s x is).least ∙ part_add s (start x) 4 2556
      ∙ ap (λ (t : List ℕ). part s (start x) 4 ++ t) (part_add s (start x + 4) 4 2552 ∙ ap (λ (i : ℕ). part s (start x + 4) 4 ++ part s i 2552) e)
      ∙ rw (f, g, next_bytes bs)

  same_idle : Bytes s → same_bytes (slot_at s x) (idle (next_free s x)) ≡ (zero_at s (start x) 4 && zero_at s (start x + 8) 2552)
  same_idle bs =
      by_bool (same_bytes (slot_at s x) (idle (next_free s x)))
      (λ e. let w = same_bytes_true (slot_at s x) (idle (next_free s x)) e in rw (e, front_zero (next_free s x) w, back_zero (next_free s x) w))
      (λ e. by_bool (zero_at s (start x) 4)
      (λ a. by_bool (zero_at s (start x + 8) 2552)
      (λ b. let w = zero_idle bs a b in let z : same_bytes (slot_at s x) (idle (next_free s x)) ≡ true = rw w (same_bytes_refl (idle (next_free s x))) in cc)
      (λ b. rw (e, a, b)))
      (λ a. rw (e, a)))

module _ (s : List ℕ) (x : ℕ) {f : Bool} (is : f ≡ is_slot s x) where
  module _ (bs : Bytes s) (h : not f ≡ false) {at : ℕ} (begins : at ≡ start x) {z : Bool} (front : z ≡ zero_at s at 4) where
    a_slot : is_slot s x ≡ true
    a_slot = sym is ∙ not-false f h

    front_is : zero_at s (start x) 4 ≡ z
    front_is = ap (λ (a : ℕ). zero_at s a 4) (sym begins) ∙ sym front

    pub idle_no : z ≡ false → false ≡ is_idle s x
    idle_no n = rw (a_slot, same_idle s x a_slot bs, front_is ∙ n)

    pub idle_yes : {y : Bool} → z ≡ true → y ≡ zero_at s (at + 8) 2552 → y ≡ is_idle s x
    idle_yes n e = e ∙ ap (λ (a : ℕ). zero_at s (a + 8) 2552) begins ∙ rw (a_slot, same_idle s x a_slot bs, front_is ∙ n)
