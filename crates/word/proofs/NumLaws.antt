-- Numbers in bytes: written and read back, read and written back, side by side; what is a list of bytes, and what is all
-- zero. Assumes nothing.
use mathlib.Core.Path.{◌≡◌, refl, sym, ap, ◌∙◌}
use mathlib.Core.List.{List, [], ◌∷◌, ◌++◌}
use Prim.Native.Nat.{ℕ, zero, suc, ◌+◌, ◌*◌, ◌/◌, ◌%◌, ◌^◌, ◌≤◌, ◌<◌}
use mathlib.Core.Bool.{Bool, true, false, ◌&&◌, and_assoc, and-true}
use lib.ListN.{length, get_or, take, drop, length-append, length-replicate, replicate-append-replicate}
use lib.Pow.{pow-add}
use lib.Dec.{eqb}
use borrow.Author.Tests.{eqb-true}
use native.Mathlib.Nat.{pow-suc, pow-zero, one-le-pow, mul-le-mul_right, mod-lt, div-lt_iff_lt-mul, div-add-mod'}
use native.Mathlib.Omega.{arith}
use Rattle.word.specs.Part.{part, over}
use Rattle.word.specs.Num.{le, un, be, Bytes, zeros, all_zero}

pub length_le : (k x : ℕ) → length (le k x) ≡ k
unfolding le
length_le zero x = refl
length_le (suc k) x = ap suc (length_le k (x / 256))

pub un_le : (k x : ℕ) → x < 256 ^ k → un (le k x) ≡ x
unfolding le un
un_le zero x h = let e = rw (pow-zero 256) at h in omega arith
un_le (suc k) x h = let e = rw (pow-suc 256 k) at h in let ih = un_le k (x / 256) (omega arith) in rw ih (omega arith)

pub le_un : (s : List ℕ) → Bytes s → le (length s) (un s) ≡ s
unfolding le un
le_un [] h = refl
le_un (b ∷ s) h =
    let p = h.0 in
    let m : (b + un s * 256) % 256 ≡ b = omega arith in
    let d : (b + un s * 256) / 256 ≡ un s = omega arith in
    rw (m, d, le_un s h.1)

-- as many bytes that stand for the same number are the same
pub un_same : (a b : List ℕ) → Bytes a → Bytes b → length a ≡ length b → un a ≡ un b → a ≡ b
un_same a b p q l e = sym (le_un a p) ∙ rw (l, e) (le_un b q)

pub bytes_le : (k x : ℕ) → Bytes (le k x)
unfolding le
bytes_le zero x = tt
bytes_le (suc k) x = (omega arith, bytes_le k (x / 256))

pub un_small : (s : List ℕ) → Bytes s → un s < 256 ^ length s
unfolding un
un_small [] h = rw (pow-zero 256) (omega arith)
un_small (b ∷ s) h = let p = h.0 in let ih = un_small s h.1 in rw (pow-suc 256 (length s)) (omega arith)

pub be_small : (s : List ℕ) → Bytes s → be s < 256 ^ length s
unfolding be
be_small [] h = rw (pow-zero 256) (omega arith)
be_small (b ∷ s) h =
    let p : b ≤ 255 = omega (arith, h.0) in
    let m : b * 256 ^ length s ≤ 255 * 256 ^ length s = mul-le-mul_right (256 ^ length s) p in
    rw (pow-suc 256 (length s)) (omega (arith, be_small s h.1))

-- "Bytes" of a slice's contents comes from the slice's own rule
pub bytes_of : (s : List ℕ) → ((i : ℕ) → i < length s → get_or s i 0 < 256) → Bytes s
bytes_of [] f = tt
bytes_of (b ∷ s) f = (f 0 (omega arith), bytes_of s (λ i h. f (suc i) (omega arith)))

pub bytes_append : (a b : List ℕ) → Bytes a → Bytes b → Bytes (a ++ b)
bytes_append [] b p q = q
bytes_append (x ∷ a) b p q = (p.0, bytes_append a b p.1 q)

pub bytes_take : (n : ℕ) (s : List ℕ) → Bytes s → Bytes (take n s)
bytes_take zero s p = tt
bytes_take (suc n) [] p = tt
bytes_take (suc n) (b ∷ s) p = (p.0, bytes_take n s p.1)

pub bytes_drop : (n : ℕ) (s : List ℕ) → Bytes s → Bytes (drop n s)
bytes_drop zero s p = p
bytes_drop (suc n) [] p = tt
bytes_drop (suc n) (b ∷ s) p = bytes_drop n s p.1

pub bytes_part : (s : List ℕ) (a n : ℕ) → Bytes s → Bytes (part s a n)
unfolding part
bytes_part s a n p = bytes_take n (drop a s) (bytes_drop a s p)

pub bytes_over : (s : List ℕ) (a : ℕ) (b : List ℕ) → Bytes s → Bytes b → Bytes (over s a b)
unfolding over
bytes_over s a b p q =
    bytes_append (take a s) (b ++ drop (a + length b) s) (bytes_take a s p)
    (bytes_append b (drop (a + length b) s) q (bytes_drop (a + length b) s p))

-- side by side, the lower bytes first
pub un_append : (a b : List ℕ) → un (a ++ b) ≡ un a + un b * 256 ^ length a
unfolding un
un_append [] b = rw (pow-zero 256) (omega arith)
un_append (x ∷ a) b = rw (un_append a b, pow-suc 256 (length a)) (omega arith)

-- the highest first
pub be_append : (a b : List ℕ) → be (a ++ b) ≡ be a * 256 ^ length b + be b
unfolding be
be_append [] b = omega arith
be_append (x ∷ a) b = rw (be_append a b, length-append a b, pow-add 256 (length a) (length b)) (omega arith)

pub le_append : (j k x : ℕ) → x < 256 ^ (j + k) → le j (x % 256 ^ j) ++ le k (x / 256 ^ j) ≡ le (j + k) x
le_append j k x h =
    let m : ℕ = 256 ^ j in
    let pos : 0 < m = one-le-pow j 256 (omega arith) in
    let low : List ℕ = le j (x % m) in
    let high : List ℕ = le k (x / m) in
    let top : x / m < 256 ^ k = (div-lt_iff_lt-mul pos).1 (omega (arith, pow-add 256 j k)) in
    let l : length (low ++ high) ≡ j + k = simp (length-append, length_le) in
    let u : un (low ++ high) ≡ x = rw (un_append low high, length_le, un_le j (x % m) (mod-lt x pos), un_le k (x / m) top) (omega (arith, div-add-mod' x m)) in
    sym (le_un (low ++ high) (bytes_append low high (bytes_le j (x % m)) (bytes_le k (x / m)))) ∙ rw (l, u)

pub length_zeros : (n : ℕ) → length (zeros n) ≡ n
unfolding zeros
length_zeros n = length-replicate n 0

pub zeros_append : (n m : ℕ) → zeros n ++ zeros m ≡ zeros (n + m)
unfolding zeros
zeros_append n m = replicate-append-replicate n m 0

pub bytes_zeros : (n : ℕ) → Bytes (zeros n)
unfolding zeros
bytes_zeros zero = tt
bytes_zeros (suc n) = (omega arith, bytes_zeros n)

pub un_zeros : (n : ℕ) → un (zeros n) ≡ 0
unfolding zeros un
un_zeros zero = refl
un_zeros (suc n) = rw (un_zeros n)

pub all_zero_zeros : (n : ℕ) → all_zero (zeros n) ≡ true
unfolding zeros all_zero
all_zero_zeros zero = refl
all_zero_zeros (suc n) = all_zero_zeros n

both : (a b : Bool) → (a && b) ≡ true → (a ≡ true) × (b ≡ true)
both true b e = (refl, e)
both false b e = (e, cc)

pub all_zero_true : (s : List ℕ) → all_zero s ≡ true → s ≡ zeros (length s)
unfolding zeros all_zero
all_zero_true [] e = refl
all_zero_true (b ∷ s) e = let t = both (eqb b 0) (all_zero s) e in cc (eqb-true b 0 t.0, all_zero_true s t.1)

pub all_zero_is : (s : List ℕ) → s ≡ zeros (length s) → all_zero s ≡ true
all_zero_is s e = ap all_zero e ∙ all_zero_zeros (length s)

pub all_zero_one : (b : ℕ) → all_zero (b ∷ []) ≡ eqb b 0
unfolding all_zero
all_zero_one b = and-true (eqb b 0)

pub all_zero_append : (a b : List ℕ) → all_zero (a ++ b) ≡ (all_zero a && all_zero b)
unfolding all_zero
all_zero_append [] b = refl
all_zero_append (x ∷ a) b = rw (all_zero_append a b) (sym (and_assoc (eqb x 0) (all_zero a) (all_zero b)))
