-- The header's numbers: each read and written, on any bytes; and what refusal 1 leaves through. Assumes nothing.
use mathlib.Core.Path.{◌≡◌, refl, sym, ap, ◌∙◌}
use mathlib.Core.List.{List, [], ◌++◌, append_assoc, append-nil}
use mathlib.Core.Bool.{Bool, true, false, ◌&&◌}
use Prim.Native.Nat.{ℕ, ◌+◌, ◌*◌, ◌^◌, ◌≤◌, ◌<◌}
use lib.ListN.{length, length-append}
use lib.Dec.{leb, eqb}
use native.Mathlib.Omega.{arith}
use borrow.Author.Tests.{le-leb, leb-true, eqb-true, eq-eqb}
use Rattle.word.specs.Part.{part, over}
use Rattle.word.specs.Num.{le, un, zeros, Bytes}
use Rattle.word.specs.At.{read_at, write_at, zero_at}
use Rattle.word.proofs.PartLaws.{length_part, part_part, part_add, part_seam, over_seam}
use Rattle.word.proofs.NumLaws.{length_le, un_le, le_un, length_zeros, bytes_part}
use Rattle.word.proofs.AtLaws.{read_at_in, read_at_same, write_at_in, zero_at_is, zero_at_true}
use Rattle.slots.specs.Limits.{header_size, slot_size, most_slots}
use Rattle.slots.specs.Layout.{header, head_of, root_of, depth_of, count_of, first_of, is_store}
use Rattle.slots.proofs.PlaceLaws.{Headed, headed_lem}

pub length_header : (r d n f : ℕ) → length (header r d n f) ≡ header_size
unfolding header
length_header r d n f = simp (length-append, length_le, length_zeros)

-- ---- the header's numbers

head_part : (s : List ℕ) (at k : ℕ) → at + k ≤ header_size → part (head_of s) at k ≡ part s at k
unfolding head_of
head_part s at k h = let e : 0 + at ≡ at = omega arith in part_part s 0 header_size at k h ∙ ap (λ (i : ℕ). part s i k) e

-- a number of k bytes at `at`, with p before it and q behind
module _ (s p q : List ℕ) (at k x : ℕ) (is : head_of s ≡ p ++ (le k x ++ q)) (l : length p ≡ at) (fits : at + k ≤ header_size) (long : header_size ≤ length s) where
  field_is : x < 256 ^ k → read_at k s at ≡ x
  field_is h =
      let b : part s at k ≡ le k x = sym (head_part s at k fits) ∙ ap (λ (t : List ℕ). part t at k) is ∙ part_seam p (le k x) q at k l (length_le k x) in
      read_at_in k s at (omega arith) ∙ ap un b ∙ un_le k x h

  field_put : (y : ℕ) (h : List ℕ) → h ≡ p ++ (le k y ++ q) → Headed s (write_at k s at y) h
  field_put y h e =
      let w = length_le k y in
      let put : over (head_of s) at (le k y) ≡ h = ap (λ (t : List ℕ). over t at (le k y)) is ∙ over_seam p (le k x) (le k y) q at l (length_le k x ∙ sym w) ∙ sym e in
      rw (write_at_in k s at y (omega arith), ← put) (headed_lem s at (le k y) long (omega arith))

-- the header cut before each of its numbers
module _ (r d n f : ℕ) where
  cut_root : header r d n f ≡ [] ++ (le 8 r ++ (le 4 d ++ (le 4 n ++ (le 4 f ++ zeros 4))))
  unfolding header
  cut_root = refl

  cut_depth : header r d n f ≡ le 8 r ++ (le 4 d ++ (le 4 n ++ (le 4 f ++ zeros 4)))
  unfolding header
  cut_depth = refl

  cut_count : header r d n f ≡ (le 8 r ++ le 4 d) ++ (le 4 n ++ (le 4 f ++ zeros 4))
  unfolding header
  cut_count = simp append_assoc

  cut_first : header r d n f ≡ (le 8 r ++ (le 4 d ++ le 4 n)) ++ (le 4 f ++ zeros 4)
  unfolding header
  cut_first = simp append_assoc

  cut_zeros : header r d n f ≡ (le 8 r ++ (le 4 d ++ (le 4 n ++ le 4 f))) ++ (zeros 4 ++ [])
  unfolding header
  cut_zeros = simp (append_assoc, append-nil)

module _ (s : List ℕ) (r d n f : ℕ) (long : header_size ≤ length s) (e : head_of s ≡ header r d n f) where
  pub root_is : r < 2 ^ 64 → root_of s ≡ r
  unfolding root_of
  root_is h = field_is s [] (le 4 d ++ (le 4 n ++ (le 4 f ++ zeros 4))) 0 8 r (e ∙ cut_root r d n f) refl (omega arith) long h

  pub depth_is : d < 2 ^ 32 → depth_of s ≡ d
  unfolding depth_of
  depth_is h = field_is s (le 8 r) (le 4 n ++ (le 4 f ++ zeros 4)) 8 4 d (e ∙ cut_depth r d n f) (length_le 8 r) (omega arith) long h

  pub count_is : n < 2 ^ 32 → count_of s ≡ n
  unfolding count_of
  count_is h = field_is s (le 8 r ++ le 4 d) (le 4 f ++ zeros 4) 12 4 n (e ∙ cut_count r d n f) (simp (length-append, length_le)) (omega arith) long h

  pub first_is : f < 2 ^ 32 → first_of s ≡ f
  unfolding first_of
  first_is h = field_is s (le 8 r ++ (le 4 d ++ le 4 n)) (zeros 4) 16 4 f (e ∙ cut_first r d n f) (simp (length-append, length_le)) (omega arith) long h

  -- "four zero bytes"
  pub zeros_are : part s 20 4 ≡ zeros 4
  zeros_are =
      sym (head_part s 20 4 (omega arith)) ∙ ap (λ (t : List ℕ). part t 20 4) (e ∙ cut_zeros r d n f)
      ∙ part_seam (le 8 r ++ (le 4 d ++ (le 4 n ++ le 4 f))) (zeros 4) [] 20 4 (simp (length-append, length_le)) (length_zeros 4)

  pub put_root : (x : ℕ) → Headed s (write_at 8 s 0 x) (header x d n f)
  put_root x = field_put s [] (le 4 d ++ (le 4 n ++ (le 4 f ++ zeros 4))) 0 8 r (e ∙ cut_root r d n f) refl (omega arith) long x (header x d n f) (cut_root x d n f)

  pub put_depth : (x : ℕ) → Headed s (write_at 4 s 8 x) (header r x n f)
  put_depth x = field_put s (le 8 r) (le 4 n ++ (le 4 f ++ zeros 4)) 8 4 d (e ∙ cut_depth r d n f) (length_le 8 r) (omega arith) long x (header r x n f) (cut_depth r x n f)

  pub put_first : (x : ℕ) → Headed s (write_at 4 s 16 x) (header r d n x)
  put_first x = field_put s (le 8 r ++ (le 4 d ++ le 4 n)) (zeros 4) 16 4 f (e ∙ cut_first r d n f) (simp (length-append, length_le)) (omega arith) long x (header r d n x) (cut_first r d n x)

-- any 24 bytes that end in four zeros are the header of what they say
pub header_is : (s : List ℕ) → Bytes s → header_size ≤ length s → part s 20 4 ≡ zeros 4 → head_of s ≡ header (root_of s) (depth_of s) (count_of s) (first_of s)
unfolding header head_of root_of depth_of count_of first_of
header_is s b l z =
    let whole : part s 0 24 ≡ part s 0 8 ++ (part s 8 4 ++ (part s 12 4 ++ (part s 16 4 ++ part s 20 4))) =
    part_add s 0 8 16 ∙ ap (λ (t : List ℕ). part s 0 8 ++ t) (part_add s 8 4 12 ∙ ap (λ (t : List ℕ). part s 8 4 ++ t) (part_add s 12 4 8 ∙ ap (λ (t : List ℕ). part s 12 4 ++ t) (part_add s 16 4 4))) in
    rw (whole, back 0 8 (omega arith), back 8 4 (omega arith), back 12 4 (omega arith), back 16 4 (omega arith), z)
  where
    back : (a k : ℕ) → a + k ≤ length s → le k (read_at k s a) ≡ part s a k
    back a k h =
        rw (read_at_in k s a h) (ap (λ (m : ℕ). le m (un (part s a k))) (sym (length_part s a k h)) ∙ le_un (part s a k) (bytes_part s a k b))

-- ---- the same header reads the same

module _ (s t : List ℕ) (head : head_of t ≡ head_of s) (size : length t ≡ length s) where
  field_kept : (k at : ℕ) → at + k ≤ header_size → read_at k t at ≡ read_at k s at
  field_kept k at h = read_at_same k t s at size (sym (head_part t at k h) ∙ ap (λ (u : List ℕ). part u at k) head ∙ head_part s at k h)

  pub root_kept : root_of t ≡ root_of s
  unfolding root_of
  root_kept = field_kept 8 0 (omega arith)

  pub depth_kept : depth_of t ≡ depth_of s
  unfolding depth_of
  depth_kept = field_kept 4 8 (omega arith)

  pub count_kept : count_of t ≡ count_of s
  unfolding count_of
  count_kept = field_kept 4 12 (omega arith)

  pub first_kept : first_of t ≡ first_of s
  unfolding first_of
  first_kept = field_kept 4 16 (omega arith)

-- ---- no refusal 1

pub and_both : (a b : Bool) → (a && b) ≡ true → (a ≡ true) × (b ≡ true)
and_both true b e = (refl, e)
and_both false b e = (e, cc)

pub record Sized (s : List ℕ) : Type 0 where
  pub least : 1 ≤ count_of s
  pub most : count_of s ≤ most_slots
  pub size : length s ≡ header_size + slot_size * count_of s
  pub zero : part s 20 4 ≡ zeros 4

pub sized_lem : (s : List ℕ) → is_store s ≡ true → Sized s
unfolding is_store
sized_lem s e =
    let n : ℕ = count_of s in
    let a = and_both (leb 1 n) (leb n most_slots && (eqb (length s) (header_size + slot_size * n) && zero_at s 20 4)) e in
    let b = and_both (leb n most_slots) (eqb (length s) (header_size + slot_size * n) && zero_at s 20 4) a.1 in
    let c = and_both (eqb (length s) (header_size + slot_size * n)) (zero_at s 20 4) b.1 in
    record { least = leb-true 1 n a.0; most = leb-true n most_slots b.0; size = eqb-true (length s) (header_size + slot_size * n) c.0; zero = (zero_at_true s 20 4 c.1).1 }

pub is_store_lem : (s : List ℕ) → Sized s → is_store s ≡ true
unfolding is_store
is_store_lem s h =
    let n : ℕ = count_of s in
    let l = h.size in
    rw (le-leb 1 n h.least, le-leb n most_slots h.most, eq-eqb (length s) (header_size + slot_size * n) l, zero_at_is s 20 4 (omega arith) h.zero)
