-- Where things stand in a store: its slots and its header apart from each other, and what one write leaves as it was.
-- Read the files of this folder in the order PlaceLaws, HeaderLaws, StoreLaws; Framing, Building, Unique; FormatLaws, AuditedLaws,
-- Reached, Paragraph. Theorems says beside 01's sentences what they come to: read it first, or only it. Assumes nothing.
use mathlib.Core.Path.{◌≡◌, refl, sym, ap, ◌∙◌}
use mathlib.Core.List.{List}
use Prim.Native.Nat.{ℕ, zero, suc, ◌+◌, ◌*◌, ◌≤◌}
use lib.ListN.{length, length-append}
use lib.Dec.{ltb}
use native.Mathlib.Omega.{arith}
use borrow.Author.Tests.{ltb-true, ltb-false}
use Rattle.word.specs.Part.{part, over}
use Rattle.word.proofs.PartLaws.{length_part, length_over, part_over, part_before, part_behind, part_part, over_in}
use Rattle.word.proofs.NumLaws.{length_le, length_zeros}
use Rattle.tree.proofs.Cases.{by_bool}
use Rattle.node.specs.Chain.{Step, Writable}
use Rattle.codec.proofs.Theorems.{standard_most}
use Rattle.slots.specs.Limits.{header_size, slot_size}
use Rattle.slots.specs.Layout.{used, idle, head_of, start, slot_at}

-- ---- sizes

pub length_used : (c : ℕ) (r : List Step) → Writable c r → length (used c r) ≡ slot_size
unfolding used
length_used c r w = let most = standard_most c r w in simp (length-append, length_le, length_zeros) (omega arith)

pub length_idle : (x : ℕ) → length (idle x) ≡ slot_size
unfolding idle
length_idle x = simp (length-append, length_le, length_zeros)

-- ---- what was written where

-- t is s with b in slot x and the header h: every other slot is as before
pub record Wrote (s t : List ℕ) (x : ℕ) (b h : List ℕ) : Type 0 where
  pub here : slot_at t x ≡ b
  pub other : (y : ℕ) → (y ≡ x → ⊥) → slot_at t y ≡ slot_at s y
  pub head : head_of t ≡ h
  pub size : length t ≡ length s

-- t is s with the header h: every slot is as before
pub record Headed (s t h : List ℕ) : Type 0 where
  pub slots : (y : ℕ) → slot_at t y ≡ slot_at s y
  pub head : head_of t ≡ h
  pub size : length t ≡ length s

pub slot_is : (s : List ℕ) (x : ℕ) → 1 ≤ x → slot_at s x ≡ part s (start x) slot_size
unfolding slot_at
slot_is s zero h = absurd (omega arith)
slot_is s (suc x) h = let e : 24 + 2560 * x ≡ start (suc x) = omega arith in ap (λ (i : ℕ). part s i slot_size) e

-- two stores have the same in slot x if they have it in its place
slot_same : (s t : List ℕ) (x : ℕ) → (1 ≤ x → part s (start x) slot_size ≡ part t (start x) slot_size) → slot_at s x ≡ slot_at t x
unfolding slot_at
slot_same s t zero f = refl
slot_same s t (suc x) f = let e : start (suc x) ≡ 24 + 2560 * x = omega arith in sym (ap (λ (i : ℕ). part s i slot_size) e) ∙ f (omega arith) ∙ ap (λ (i : ℕ). part t i slot_size) e

pub wrote : (s : List ℕ) (x : ℕ) (b : List ℕ) → 1 ≤ x → header_size + slot_size * x ≤ length s → length b ≡ slot_size → Wrote s (over s (start x) b) x b (head_of s)
wrote s x b lo h k = record {
  here = slot_is (over s (start x) b) x lo ∙ part_over s (start x) slot_size b (omega arith) k;
  other = λ y ne. slot_same (over s (start x) b) s y (λ l. far y l ne);
  head = unfold head_of in part_before s (start x) 0 header_size b (omega arith) (omega arith);
  size = length_over s (start x) b (omega arith);
}
  where
    far : (y : ℕ) → 1 ≤ y → (y ≡ x → ⊥) → part (over s (start x) b) (start y) slot_size ≡ part s (start y) slot_size
    far y l ne =
        by_bool (ltb y x)
        (λ e. part_before s (start x) (start y) slot_size b (omega arith) (omega (arith, ltb-true y x e)))
        (λ e. part_behind s (start x) (start y) slot_size b (omega arith) (omega (arith, ltb-false y x e)))

pub headed_lem : (s : List ℕ) (a : ℕ) (b : List ℕ) → header_size ≤ length s → a + length b ≤ header_size → Headed s (over s a b) (over (head_of s) a b)
unfolding head_of
headed_lem s a b k l = record {
  slots = λ y. slot_same (over s a b) s y (λ lo. part_behind s a (start y) slot_size b (omega arith) (omega arith));
  head = head_in;
  size = length_over s a b (omega arith);
}
  where
    head_in : head_of (over s a b) ≡ over (head_of s) a b
    head_in =
        let p = length_part s 0 header_size (omega arith) in
        let e : 0 + a ≡ a = omega arith in
        let o : over s a b ≡ over s 0 (over (part s 0 header_size) a b) = ap (λ (i : ℕ). over s i b) (sym e) ∙ over_in s 0 a header_size b (omega arith) l in
        ap (λ (t : List ℕ). part t 0 header_size) o ∙ part_over s 0 header_size (over (part s 0 header_size) a b) (omega arith) (length_over (part s 0 header_size) a b (omega arith) ∙ p)

-- a part of a slot
pub slot_part : (s : List ℕ) (x k m : ℕ) → 1 ≤ x → k + m ≤ slot_size → part s (start x + k) m ≡ part (slot_at s x) k m
slot_part s x k m lo h = rw (slot_is s x lo) (sym (part_part s (start x) slot_size k m h))
