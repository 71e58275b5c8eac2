-- What the code's tests, stores and loops make, in the words of specs/: for the proofs of this crate's functions. Assumes
-- nothing.
use mathlib.Core.Path.{◌≡◌, refl, sym, ap, ◌∙◌}
use mathlib.Core.List.{List, [], ◌∷◌, ◌++◌, append_assoc, append-nil}
use mathlib.Core.Bool.{Bool, true, false, ◌&&◌}
use Prim.Native.Nat.{Ordering}
use Prim.Native.Nat.{ℕ, zero, suc, min, max, ◌+◌, ◌-◌, ◌*◌, ◌/◌, ◌%◌, ◌^◌, ◌≤◌, ◌<◌, compare}
use lib.ListN.{length, get_or, set, take, drop, replicate, length-append, length-drop, drop_of_length-le, take-append-drop}
use lib.Seq.{drop-cons, take_all, length-take-le}
use lib.Dec.{eqb, leb}
use borrow.Author.Tests.{ne_eqb, leb-true, leb-false}
use borrow.Rule.Slice.PartMut.{put_mid}
use native.Mathlib.Nat.{div-div-eq-div-mul, div-lt_iff_lt-mul, pow-suc}
use native.Mathlib.Omega.{arith}
use Rattle.std.specs.declared.cmp.Ordering.{Ordering as Order}
use Rattle.std.specs.declared.cmp.Ordering.TheVariants.{Less, Equal, Greater}
use Rattle.std.specs.Ordering.{nat_cmp}
use Rattle.std.specs.Cmp.{nat_cmp_is}
use Rattle.std.specs.List.{copy_within}
use Rattle.std.specs.Int.{sum_through, byte_worth, bytes_low_first}
use Rattle.word.specs.Key.{cmp, pick3, order_of}
use Rattle.word.specs.Part.{part, over}
use Rattle.word.specs.Num.{le, un, be, Bytes, zeros, all_zero}
use Rattle.word.specs.At.{read_at, write_at, copy_at, move_at, clear_at, zero_at}
use Rattle.word.proofs.KeyOrder.{num_lt, num_gt, num_refl, cmp_front, cmp_eq, cmp_append, cmp_be}
use Rattle.word.proofs.PartLaws.{length_part, length_part_cut, length_over, part_none, part_more, part_add, part_part, drop_split, over_none, over_beside, set_over, put_over, paste_over}
use Rattle.word.proofs.NumLaws.{length_zeros, zeros_append, all_zero_append, all_zero_one, length_le, be_append, un_append, un_same, bytes_part}
use Rattle.word.proofs.AtLaws.{read_at_in, write_at_in, copy_at_in, clear_at_in, zero_at_in}
use Rattle.word.proofs.MoveLaws.{move_at_in}

-- a byte stored behind those that are stored already
over_more : (s : List ℕ) (a : ℕ) (b : List ℕ) (i v : ℕ) → length b ≡ i → a + i < length s → set (over s a b) (a + i) v ≡ over s a (b ++ (v ∷ []))
over_more s a b i v e h =
    rw (← e) (set_over (over s a b) (a + length b) v (omega (arith, length_over s a b (omega arith))) ∙ over_beside s a b (v ∷ []) (omega arith))

-- loops of crates above that copy or clear byte by byte: i bytes stand at their place
module _ (d : List ℕ) (at : ℕ) (s : List ℕ) (from : ℕ) where
  pub copy_start : d ≡ over d at (part s from 0)
  copy_start = rw part_none (sym (over_none d at))

  pub copy_turn : (i : ℕ) {e : List ℕ} → at + i < length d → from + i < length s → e ≡ over d at (part s from i)
      → set e (at + i) (get_or s (from + i) 0) ≡ over d at (part s from (i + 1))
  copy_turn i h g p = rw (p, part_more s from i 0 g) (over_more d at (part s from i) i (get_or s (from + i) 0) (length_part s from i (omega arith)) h)

pub clear_turn : (d : List ℕ) (at i : ℕ) {e : List ℕ} → at + i < length d → e ≡ over d at (zeros i) → set e (at + i) 0 ≡ over d at (zeros (i + 1))
clear_turn d at i h p = rw (p, ← zeros_append) (over_more d at (zeros i) i 0 (length_zeros i) h ∙ unfold zeros in refl)

-- a range from `at` on has as many as it is told
as_many_as : (at n : ℕ) → at + n - at ≡ n
as_many_as at n = omega arith

-- `copy`, `move_up` and `clear` where all lies within
pub copy_in : (d : List ℕ) (at : ℕ) (s : List ℕ) (from n : ℕ) {b : List ℕ} → at + n ≤ length d → from + n ≤ length s → b ≡ take (from + n - from) (drop from s) → put_mid at (at + n - at) d b ≡ copy_at d at s from n
copy_in d at s from n h g e =
    let q : take (from + n - from) (drop from s) ≡ part s from n = unfold part in rw (as_many_as from n) in
    let l : length (part s from n) ≡ n = length_part s from n g in
    rw (e, q, as_many_as at n) (put_over d at n (part s from n) l ∙ sym (copy_at_in d at s from n h g))

pub move_in : (s : List ℕ) (at n up : ℕ) → at + n + up ≤ length s → copy_within s at (at + n) (at + up) ≡ move_at s at n up
move_in s at n up h =
    rw (as_many_as at n) (paste_over s (at + up) s at n (omega arith) ∙ sym (move_at_in s at n up h))

zeros_are : (n : ℕ) → replicate {A = ℕ} n 0 ≡ zeros n
unfolding zeros
zeros_are n = refl

pub clear_in : (d : List ℕ) (at n : ℕ) {b : List ℕ} → at + n ≤ length d → b ≡ replicate (length (take (at + n - at) (drop at d))) 0 → put_mid at (at + n - at) d b ≡ clear_at d at n
clear_in d at n {b} h e =
    let l : length (take n (drop at d)) ≡ n = length-take-le n (drop at d) (simp length-drop (omega arith)) in
    let q : b ≡ zeros n = rw (as_many_as at n, l) at e ∙ zeros_are n in
    rw (q, as_many_as at n) (put_over d at n (zeros n) (length_zeros n) ∙ sym (clear_at_in d at n h))

-- the loop of `is_zero`: m is the largest of the first i bytes
max_zero : (m b : ℕ) → eqb (max m b) 0 ≡ (eqb m 0 && eqb b 0)
max_zero zero b = let e : max 0 b ≡ b = omega arith in rw e
max_zero (suc m) b = rw (ne_eqb (max (suc m) b) 0 (omega arith), ne_eqb (suc m) 0 (omega arith))

front_more : (l : List ℕ) (i : ℕ) → i < length l → take (i + 1) l ≡ take i l ++ (get_or l i 0 ∷ [])
unfolding part
front_more l i h = let e : 0 + i ≡ i = omega arith in rw e at (part_more l 0 i 0 (omega arith))

pub zero_start : (l : List ℕ) → true ≡ all_zero (take 0 l)
unfolding all_zero
zero_start l = refl

pub zero_turn : (l : List ℕ) (i m m' : ℕ) → i < length l → eqb m 0 ≡ all_zero (take i l) → m' ≡ max m (get_or l i 0) → eqb m' 0 ≡ all_zero (take (i + 1) l)
zero_turn l i m m' h e q = rw (q, front_more l i h, all_zero_append, all_zero_one, ← e) (max_zero m (get_or l i 0))

pub zero_end : (s : List ℕ) (at n m i : ℕ) → at + n ≤ length s → length (take (at + n - at) (drop at s)) ≤ i → eqb m 0 ≡ all_zero (take i (take (at + n - at) (drop at s))) → eqb m 0 ≡ zero_at s at n
zero_end s at n m i h g e =
    let q : take i (take (at + n - at) (drop at s)) ≡ part s at n = take_all i (take (at + n - at) (drop at s)) g ∙ unfold part in rw (as_many_as at n) in
    e ∙ ap all_zero q ∙ sym (zero_at_in s at n h)

-- the library's numbers of bytes are those of specs/Num.antt
low_front : (s : List ℕ) (k : ℕ) → k < length s → sum_through (λ (i : ℕ). byte_worth i (get_or s i 0)) k ≡ un (take (k + 1) s)
unfolding un
low_front s zero h = rw (front_more s 0 h) (omega arith)
low_front s (suc k) h =
    let l : length (take (suc k) s) ≡ suc k = length-take-le (suc k) s (omega arith) in
    let e : k + 1 ≡ suc k = omega arith in
    let ih : sum_through (λ (i : ℕ). byte_worth i (get_or s i 0)) k ≡ un (take (suc k) s) = rw e at (low_front s k (omega arith)) in
    rw (front_more s (suc k) h, un_append, l, ih) (omega arith)

pub le_un : (s : List ℕ) (k : ℕ) → length s ≡ suc k → sum_through (λ (i : ℕ). byte_worth i (get_or s i 0)) k ≡ un s
le_un s k h = low_front s k (omega arith) ∙ ap un (take_all (k + 1) s (omega arith))

low_first : (i k n : ℕ) → bytes_low_first (suc i) k n ≡ le k (n / 256 ^ suc i)
unfolding le
low_first i zero n = refl
low_first i (suc k) n =
    let e : n / 256 ^ suc i / 256 ≡ n / 256 ^ suc (suc i) = div-div-eq-div-mul n (256 ^ suc i) 256 ∙ rw (pow-suc 256 (suc i)) in
    rw e (ap (λ (t : List ℕ). n / 256 ^ suc i % 256 ∷ t) (low_first (suc i) k n))

pub to_le : (k n : ℕ) → bytes_low_first 0 (suc k) n ≡ le (suc k) n
unfolding le
to_le k n = ap (λ (t : List ℕ). n % 256 ∷ t) (low_first 0 k n)

-- a read and a write of the library's
pub read_in : (k : ℕ) (s : List ℕ) (at : ℕ) {b : List ℕ} {v : ℕ} → at + suc k ≤ length s → b ≡ part s at (suc k) → v ≡ sum_through (λ (i : ℕ). byte_worth i (get_or b i 0)) k → v ≡ read_at (suc k) s at
read_in k s at {b} h e f =
    let l : length b ≡ suc k = ap length e ∙ length_part s at (suc k) h in
    f ∙ le_un b k l ∙ ap un e ∙ sym (read_at_in (suc k) s at h)

pub write_in : (k : ℕ) (s : List ℕ) (at x : ℕ) {y : ℕ} {b : List ℕ} → at + suc k ≤ length s → b ≡ bytes_low_first 0 (suc k) y → y ≡ x → put_mid at (at + suc k - at) s b ≡ write_at (suc k) s at x
write_in k s at x h e w =
    let q = e ∙ ap (bytes_low_first 0 (suc k)) w ∙ to_le k x in
    let m = as_many_as at (suc k) in
    rw (q, m) (put_over s at (suc k) (le (suc k) x) (length_le (suc k) x) ∙ sym (write_at_in (suc k) s at x h))

-- it reads, from the second byte on, bs at a + i, a + i + 1 and so on
abbrev pub Reads : List ℕ → ℕ → ℕ → List ℕ → Type 0
Reads s a i [] = Unit {0}
Reads s a i (b ∷ bs) = (b ≡ get_or s (a + i) 0) × Reads s a (suc i) bs

reads_part : (s : List ℕ) (a i : ℕ) (bs : List ℕ) → a + i + length bs ≤ length s → Reads s a i bs → bs ≡ part s (a + i) (length bs)
unfolding part
reads_part s a i [] h r = refl
reads_part s a i (b ∷ bs) h r =
    let e : a + suc i ≡ suc (a + i) = omega arith in
    let ih = rw e at (reads_part s a (suc i) bs (omega arith) r.1) in
    rw (drop-cons s (a + i) 0 (omega arith)) (cc (r.0, ih))

-- a number of bytes read one by one is that of the part
pub reads_by : (s : List ℕ) (at b : ℕ) (bs : List ℕ) {v : ℕ} (f : List ℕ → ℕ) → v ≡ f (b ∷ bs) → at + suc (length bs) ≤ length s → b ≡ get_or s at 0 → Reads s at 1 bs → v ≡ f (part s at (suc (length bs)))
reads_by s at b bs f q h p r =
    let e : at + 0 ≡ at = omega arith in
    q ∙ ap f (rw e at (reads_part s at 0 (b ∷ bs) (omega arith) (rw e p, r)))

pub part_of : (s : List ℕ) (at n : ℕ) {b : List ℕ} → b ≡ take (at + n - at) (drop at s) → b ≡ part s at n
part_of s at n e = e ∙ unfold part in rw (as_many_as at n)

-- eight bytes with the highest first
pub be_eight : (s : List ℕ) → length s ≡ 8 → sum_through (λ (i : ℕ). byte_worth (7 - i) (get_or s i 0)) 7 ≡ be s
unfolding be
be_eight s h =
    let c0 : s ≡ get_or s 0 0 ∷ drop 1 s = drop-cons s 0 0 (omega arith) in
    let c1 : drop 1 s ≡ get_or s 1 0 ∷ drop 2 s = drop-cons s 1 0 (omega arith) in
    let c2 : drop 2 s ≡ get_or s 2 0 ∷ drop 3 s = drop-cons s 2 0 (omega arith) in
    let c3 : drop 3 s ≡ get_or s 3 0 ∷ drop 4 s = drop-cons s 3 0 (omega arith) in
    let c4 : drop 4 s ≡ get_or s 4 0 ∷ drop 5 s = drop-cons s 4 0 (omega arith) in
    let c5 : drop 5 s ≡ get_or s 5 0 ∷ drop 6 s = drop-cons s 5 0 (omega arith) in
    let c6 : drop 6 s ≡ get_or s 6 0 ∷ drop 7 s = drop-cons s 6 0 (omega arith) in
    let c7 : drop 7 s ≡ get_or s 7 0 ∷ drop 8 s = drop-cons s 7 0 (omega arith) in
    let g : length s ≤ 8 = omega arith in
    let z : drop 8 s ≡ [] = drop_of_length-le s g in
    let w : s ≡ get_or s 0 0 ∷ get_or s 1 0 ∷ get_or s 2 0 ∷ get_or s 3 0 ∷ get_or s 4 0 ∷ get_or s 5 0 ∷ get_or s 6 0 ∷ get_or s 7 0 ∷ [] = c0 ∙ rw (c1, c2, c3, c4, c5, c6, c7, z) in
    sym (ap be w ∙ omega arith)

-- eight bytes that were read, as a number either way
module _ (s : List ℕ) (at : ℕ) {b : List ℕ} (h : at + 8 ≤ length s) (e : b ≡ part s at 8) where
  eight_read : length b ≡ 8
  eight_read = ap length e ∙ length_part s at 8 h

  pub un_read : {v : ℕ} → v ≡ sum_through (λ (i : ℕ). byte_worth i (get_or b i 0)) 7 → v ≡ un (part s at 8)
  un_read f = f ∙ le_un b 7 eight_read ∙ ap un e

  pub be_read : {v : ℕ} → v ≡ sum_through (λ (i : ℕ). byte_worth (7 - i) (get_or b i 0)) 7 → v ≡ be (part s at 8)
  be_read f = f ∙ be_eight b eight_read ∙ ap be e

part_one : (s : List ℕ) (i : ℕ) → i < length s → part s i 1 ≡ get_or s i 0 ∷ []
unfolding part
part_one s i h = rw (drop-cons s i 0 h)

pub be_one : (s : List ℕ) (i : ℕ) → i < length s → get_or s i 0 ≡ be (part s i 1)
unfolding be
be_one s i h = rw (part_one s i h) (omega arith)

pub same_one : (a : List ℕ) (i : ℕ) (b : List ℕ) (j : ℕ) → i < length a → j < length b → get_or a i 0 ≡ get_or b j 0 → part a i 1 ≡ part b j 1
same_one a i b j h g e = part_one a i h ∙ ap (λ (x : ℕ). x ∷ []) e ∙ sym (part_one b j g)

-- the loops of `compare_part`: i bytes are the same
pub front_start : (a b : List ℕ) (from : ℕ) → part a 0 0 ≡ part b from 0
front_start a b from = part_none a 0 ∙ sym (part_none b from)

-- k more leave fewer
pub fewer_left : (k i n : ℕ) → 0 < k → i + k ≤ n → n - (i + k) < n - i
fewer_left k i n p h = omega arith

front_rest : (s : List ℕ) (i : ℕ) → s ≡ part s 0 i ++ drop i s
unfolding part
front_rest s i = sym (take-append-drop i s)

-- its ways
module _ (key s : List ℕ) (at n i : ℕ) (front : part key 0 i ≡ part s at i) (inside : i ≤ length (part s at n)) where
  behind_lem : cmp key (part s at n) ≡ cmp (drop i key) (drop i (part s at n))
  behind_lem =
      let p : List ℕ = part s at n in
      let z : at + 0 ≡ at = omega arith in
      let f : part p 0 i ≡ part key 0 i = part_part s at n 0 i (omega (arith, length_part_cut s at n)) ∙ rw z (sym front) in
      ap (λ (k : List ℕ). cmp k p) (front_rest key i)
      ∙ ap (λ (k : List ℕ). cmp (part key 0 i ++ drop i key) k) (front_rest p i ∙ ap (λ (k : List ℕ). k ++ drop i p) f)
      ∙ cmp_front (part key 0 i) (drop i key) (drop i p)

  -- one of both has ended, and so their lengths decide
  pub compare_rest : {len x y : ℕ} {o : Order} → len ≡ length (part s at n) → min (length key) len ≤ i → i ≤ length key → o ≡ nat_cmp x y → x ≡ length key → y ≡ len → o ≡ order_of (cmp key (part s at n))
  compare_rest {len} {x} {y} {o} e h g r p q = go (leb len (length key)) refl
    where
      a : o ≡ nat_cmp (length key) len
      a = rw (p, q) at r

      ended_lem : length key ≡ len → Equal ≡ order_of (cmp key (part s at n))
      ended_lem q = let w : length key ≤ i = omega arith in let z : length (part s at n) ≤ i = omega arith in rw (behind_lem, drop_of_length-le key w, drop_of_length-le (part s at n) z)

      longer : len < length key → Greater ≡ order_of (cmp key (part s at n))
      longer q = let w : i < length key = omega arith in let z : length (part s at n) ≤ i = omega arith in rw (behind_lem, drop-cons key i 0 w, drop_of_length-le (part s at n) z)

      shorter : length key < len → Less ≡ order_of (cmp key (part s at n))
      shorter q = let w : length key ≤ i = omega arith in let z : i < length (part s at n) = omega arith in rw (behind_lem, drop_of_length-le key w, drop-cons (part s at n) i 0 z)

      go2 : len ≤ length key → (b : Bool) → leb (length key) len ≡ b → o ≡ order_of (cmp key (part s at n))
      go2 w true t = let q = leb-true (length key) len t in let z : length key ≡ len = omega arith in a ∙ sym (nat_cmp_is (length key) len Equal z) ∙ ended_lem z
      go2 w false t = let q = leb-false (length key) len t in a ∙ sym (nat_cmp_is (length key) len Greater q) ∙ longer q

      go : (b : Bool) → leb len (length key) ≡ b → o ≡ order_of (cmp key (part s at n))
      go true t = go2 (leb-true len (length key) t) (leb (length key) len) refl
      go false t = let q = leb-false len (length key) t in a ∙ sym (nat_cmp_is (length key) len Less q) ∙ shorter q

  -- k bytes more that are the same
  pub compare_turn : (k : ℕ) → part key i k ≡ part s (at + i) k → part key 0 (i + k) ≡ part s at (i + k)
  compare_turn k e = let z : 0 + i ≡ i = omega arith in rw (part_add key 0 i k, part_add s at i k, z, front, e)

  -- k bytes more of both
  module _ (k : ℕ) (p : Bytes key) (q : Bytes s) (h : i + k ≤ length key) (g : i + k ≤ length (part s at n)) where
    in_part : part (part s at n) i k ≡ part s (at + i) k
    in_part = part_part s at n i k (omega (arith, length_part_cut s at n))

    as_many : length (part key i k) ≡ length (part s (at + i) k)
    as_many = length_part key i k h ∙ sym (length_part (part s at n) i k g) ∙ ap length in_part

    -- as they stand, the numbers x and y
    pub alike_turn : {x y : ℕ} → x ≡ un (part key i k) → y ≡ un (part s (at + i) k) → x ≡ y → part key 0 (i + k) ≡ part s at (i + k)
    alike_turn r t l = compare_turn k (un_same (part key i k) (part s (at + i) k) (bytes_part key i k p) (bytes_part s (at + i) k q) as_many (sym r ∙ l ∙ t))

    -- the highest first, the numbers v and w
    module _ {v w : ℕ} (e : v ≡ be (part key i k)) (f : w ≡ be (part s (at + i) k)) where
      numbers : cmp (part key i k) (part s (at + i) k) ≡ compare v w
      numbers = rw (e, f) (cmp_be (part key i k) (part s (at + i) k) (bytes_part key i k p) (bytes_part s (at + i) k q) as_many)

      more : cmp key (part s at n) ≡ pick3 (compare v w) Ordering.lt (cmp (drop (i + k) key) (drop (i + k) (part s at n))) Ordering.gt
      more =
          behind_lem
          ∙ rw (drop_split key i k, drop_split (part s at n) i k, in_part)
          (cmp_append (part key i k) (part s (at + i) k) (drop (i + k) key) (drop (i + k) (part s at n)) as_many ∙ rw numbers)

      pub compare_less : v < w → Less ≡ order_of (cmp key (part s at n))
      compare_less l = rw (more, num_lt v w l)

      pub compare_greater : w < v → Greater ≡ order_of (cmp key (part s at n))
      compare_greater l = rw (more, num_gt v w l)

      -- numbers that differ decide
      pub compare_number : {o : Order} → (v ≡ w → ⊥) → o ≡ nat_cmp v w → o ≡ order_of (cmp key (part s at n))
      compare_number {o} d a = go (leb w v) refl
        where
          go : (b : Bool) → leb w v ≡ b → o ≡ order_of (cmp key (part s at n))
          go true t = let l = leb-true w v t in let m : w < v = omega (arith, d) in a ∙ sym (nat_cmp_is v w Greater m) ∙ compare_greater m
          go false t = let l = leb-false w v t in a ∙ sym (nat_cmp_is v w Less l) ∙ compare_less l

      -- those that differ as they stand differ here too
      pub unlike_number : {x y l r : ℕ} {o : Order} → x ≡ un (part key i k) → y ≡ un (part s (at + i) k) → (x ≡ y → ⊥) → o ≡ nat_cmp l r → l ≡ v → r ≡ w → o ≡ order_of (cmp key (part s at n))
      unlike_number p t d c a b =
          compare_number (λ z. d (p ∙ ap un (cmp_eq (part key i k) (part s (at + i) k) (numbers ∙ rw z (num_refl w))) ∙ sym t)) (rw (a, b) at c)
