-- The order of keys is a strict total order; that the code's comparison is this order is the contract of `compare`. Assumes
-- nothing.
use mathlib.Core.Path.{◌≡◌, refl, sym, ap, ◌∙◌}
use mathlib.Core.Logic.{◌⊎◌, inl, inr}
use mathlib.Core.List.{List, [], ◌∷◌, ◌++◌}
use Prim.Native.Nat.compare
use Prim.Native.Nat.{ℕ, zero, suc, ◌+◌, ◌*◌, ◌^◌, ◌<◌, compare, Ordering}
use lib.ListN.{length}
use lib.Dec.{eqb, compare_is_eq}
use lib.Pointwise.{pointwise}
use mathlib.Core.Bool.{Bool, ◌&&◌}
use native.Mathlib.Omega.{arith}
use Rattle.word.specs.Key.{Key, cmp, pick3, Lt}
use Rattle.word.specs.Num.{be, Bytes}
use Rattle.word.proofs.NumLaws.{be_small}

abbrev pub flip : Ordering → Ordering
flip Ordering.lt = Ordering.gt
flip Ordering.eq = Ordering.eq
flip Ordering.gt = Ordering.lt

-- numbers
num_swap : (m n : ℕ) → compare n m ≡ flip (compare m n)
num_swap zero zero = rw compare.zero-zero
num_swap zero (suc n) = rw (compare.zero-suc, compare.suc-zero)
num_swap (suc m) zero = rw (compare.zero-suc, compare.suc-zero)
num_swap (suc m) (suc n) = rw (compare.suc-suc n m, compare.suc-suc m n) (num_swap m n)

num_eq : (m n : ℕ) → compare m n ≡ Ordering.eq → m ≡ n
num_eq zero zero e = refl
num_eq zero (suc n) e = cc (compare.zero-suc n)
num_eq (suc m) zero e = cc (compare.suc-zero m)
num_eq (suc m) (suc n) e = ap suc (num_eq m n (rw compare.suc-suc at e))

pub num_lt : (m n : ℕ) → m < n → compare m n ≡ Ordering.lt
num_lt m zero h = absurd (omega arith)
num_lt zero (suc n) h = compare.zero-suc n
num_lt (suc m) (suc n) h = rw compare.suc-suc (num_lt m n (omega arith))

pub num_gt : (m n : ℕ) → n < m → compare m n ≡ Ordering.gt
num_gt m n h = cc (num_swap n m, num_lt n m h)

pub num_refl : (m : ℕ) → compare m m ≡ Ordering.eq
num_refl zero = compare.zero-zero
num_refl (suc m) = rw compare.suc-suc (num_refl m)

num_trans : (a b c : ℕ) → compare a b ≡ Ordering.lt → compare b c ≡ Ordering.lt → compare a c ≡ Ordering.lt
num_trans a zero zero p q = cc
num_trans zero (suc b) zero p q = cc (compare.suc-zero b)
num_trans (suc a) (suc b) zero p q = cc (compare.suc-zero b)
num_trans zero b (suc c) p q = compare.zero-suc c
num_trans (suc a) zero (suc c) p q = cc (compare.suc-zero a)
num_trans (suc a) (suc b) (suc c) p q = rw compare.suc-suc (num_trans a b c (rw compare.suc-suc at p) (rw compare.suc-suc at q))

num_add : (k m n : ℕ) → compare (k + m) (k + n) ≡ compare m n
num_add zero m n = let e : 0 + m ≡ m = omega arith in let f : 0 + n ≡ n = omega arith in rw (e, f)
num_add (suc k) m n =
    let e : suc k + m ≡ suc (k + m) = omega arith in
    let f : suc k + n ≡ suc (k + n) = omega arith in
    rw (e, f, compare.suc-suc) (num_add k m n)

-- the higher digits count first
num_digits : (b x y u v : ℕ) → u < b → v < b → compare (x * b + u) (y * b + v) ≡ pick3 (compare x y) Ordering.lt (compare u v) Ordering.gt
num_digits b zero zero u v h g = let e : 0 * b + u ≡ u = omega arith in let f : 0 * b + v ≡ v = omega arith in rw (e, f)
num_digits b zero (suc y) u v h g = rw (compare.zero-suc y) (num_lt (0 * b + u) (suc y * b + v) (omega arith))
num_digits b (suc x) zero u v h g = rw (compare.suc-zero x) (num_gt (suc x * b + u) (0 * b + v) (omega arith))
num_digits b (suc x) (suc y) u v h g =
    let e : suc x * b + u ≡ b + (x * b + u) = omega arith in
    let f : suc y * b + v ≡ b + (y * b + v) = omega arith in
    rw (e, f, compare.suc-suc x y) (num_add b (x * b + u) (y * b + v) ∙ num_digits b x y u v h g)

-- keys
flip_pick : (o r : Ordering) → pick3 (flip o) Ordering.lt (flip r) Ordering.gt ≡ flip (pick3 o Ordering.lt r Ordering.gt)
flip_pick Ordering.lt r = refl
flip_pick Ordering.eq r = refl
flip_pick Ordering.gt r = refl

-- exchanging the keys turns the answer round
pub cmp_swap : (a b : Key) → cmp b a ≡ flip (cmp a b)
cmp_swap [] [] = refl
cmp_swap [] (b ∷ ys) = refl
cmp_swap (a ∷ xs) [] = refl
cmp_swap (a ∷ xs) (b ∷ ys) = rw (num_swap a b, cmp_swap xs ys) (flip_pick (compare a b) (cmp xs ys))

-- a key is equal to itself, and to no other
pub cmp_refl : (a : Key) → cmp a a ≡ Ordering.eq
cmp_refl [] = refl
cmp_refl (a ∷ xs) = rw num_refl (cmp_refl xs)

pub cmp_eq : (a b : Key) → cmp a b ≡ Ordering.eq → a ≡ b
cmp_eq [] [] e = refl
cmp_eq [] (b ∷ ys) e = cc
cmp_eq (a ∷ xs) [] e = cc
cmp_eq (a ∷ xs) (b ∷ ys) e = go (cmp_eq xs ys) (compare a b) refl e
  where
    go : (cmp xs ys ≡ Ordering.eq → xs ≡ ys) → (o : Ordering) → compare a b ≡ o → pick3 o Ordering.lt (cmp xs ys) Ordering.gt ≡ Ordering.eq → a ∷ xs ≡ b ∷ ys
    go ih Ordering.lt p q = cc
    go ih Ordering.eq p q = cc (num_eq a b p, ih q)
    go ih Ordering.gt p q = cc

-- a common front doesn't count
pub cmp_front : (p a b : Key) → cmp (p ++ a) (p ++ b) ≡ cmp a b
cmp_front [] a b = refl
cmp_front (x ∷ p) a b = rw num_refl (cmp_front p a b)

-- fronts of the same length count first
pick_in : (o r t : Ordering) → pick3 o Ordering.lt (pick3 r Ordering.lt t Ordering.gt) Ordering.gt ≡ pick3 (pick3 o Ordering.lt r Ordering.gt) Ordering.lt t Ordering.gt
pick_in Ordering.lt r t = refl
pick_in Ordering.eq r t = refl
pick_in Ordering.gt r t = refl

pub cmp_append : (p q a b : Key) → length p ≡ length q → cmp (p ++ a) (q ++ b) ≡ pick3 (cmp p q) Ordering.lt (cmp a b) Ordering.gt
cmp_append [] [] a b e = refl
cmp_append [] (y ∷ q) a b e = absurd (omega arith)
cmp_append (x ∷ p) [] a b e = absurd (omega arith)
cmp_append (x ∷ p) (y ∷ q) a b e = rw (cmp_append p q a b (omega arith)) (pick_in (compare x y) (cmp p q) (cmp a b))

-- the order of as many bytes is that of the numbers that they stand for, the highest first
pub cmp_be : (a b : List ℕ) → Bytes a → Bytes b → length a ≡ length b → cmp a b ≡ compare (be a) (be b)
unfolding be
cmp_be [] [] p q e = sym compare.zero-zero
cmp_be [] (y ∷ b) p q e = absurd (omega arith)
cmp_be (x ∷ a) [] p q e = absurd (omega arith)
cmp_be (x ∷ a) (y ∷ b) p q e =
    let l : length b ≡ length a = omega arith in
    rw (cmp_be a b p.1 q.1 (sym l), l) (sym (num_digits (256 ^ length a) x y (be a) (be b) (be_small a p.1) (rw l at (be_small b q.1))))

trans3 : (o₁ o₂ o₃ r₁ r₂ r₃ : Ordering) → (o₁ ≡ Ordering.lt → o₂ ≡ Ordering.lt → o₃ ≡ Ordering.lt) → (o₁ ≡ Ordering.eq → o₃ ≡ o₂) → (o₂ ≡ Ordering.eq → o₃ ≡ o₁)
    → (r₁ ≡ Ordering.lt → r₂ ≡ Ordering.lt → r₃ ≡ Ordering.lt)
    → pick3 o₁ Ordering.lt r₁ Ordering.gt ≡ Ordering.lt → pick3 o₂ Ordering.lt r₂ Ordering.gt ≡ Ordering.lt → pick3 o₃ Ordering.lt r₃ Ordering.gt ≡ Ordering.lt
trans3 Ordering.lt Ordering.lt o₃ r₁ r₂ r₃ f g h t p q = rw (f refl refl)
trans3 Ordering.lt Ordering.eq o₃ r₁ r₂ r₃ f g h t p q = rw (h refl)
trans3 Ordering.lt Ordering.gt o₃ r₁ r₂ r₃ f g h t p q = cc
trans3 Ordering.eq Ordering.lt o₃ r₁ r₂ r₃ f g h t p q = rw (g refl)
trans3 Ordering.eq Ordering.eq o₃ r₁ r₂ r₃ f g h t p q = rw (g refl) (t p q)
trans3 Ordering.eq Ordering.gt o₃ r₁ r₂ r₃ f g h t p q = cc
trans3 Ordering.gt o₂ o₃ r₁ r₂ r₃ f g h t p q = cc

-- transitive
pub lt_trans : (a b c : Key) → Lt a b → Lt b c → Lt a c
lt_trans a [] [] p q = cc
lt_trans [] (b ∷ ys) [] p q = cc
lt_trans (a ∷ xs) (b ∷ ys) [] p q = cc
lt_trans [] b (c ∷ zs) p q = refl
lt_trans (a ∷ xs) [] (c ∷ zs) p q = cc
lt_trans (a ∷ xs) (b ∷ ys) (c ∷ zs) p q =
    trans3 (compare a b) (compare b c) (compare a c) (cmp xs ys) (cmp ys zs) (cmp xs zs)
    (num_trans a b c) (λ e. rw (num_eq a b e)) (λ e. rw (num_eq b c e)) (lt_trans xs ys zs) p q

-- the other side's answer
pub gt_lt : (a b : Key) → cmp a b ≡ Ordering.gt → Lt b a
gt_lt a b e = cc (cmp_swap a b)

pub lt_gt : (a b : Key) → Lt a b → cmp b a ≡ Ordering.gt
lt_gt a b e = cc (cmp_swap a b)

-- total: of two keys one is smaller, or they are the same
pub lt_total : (a b : Key) → Lt a b ⊎ ((a ≡ b) ⊎ Lt b a)
lt_total a b = go (cmp a b) refl
  where
    go : (o : Ordering) → cmp a b ≡ o → Lt a b ⊎ ((a ≡ b) ⊎ Lt b a)
    go Ordering.lt e = inl e
    go Ordering.eq e = inr (inl (cmp_eq a b e))
    go Ordering.gt e = inr (inr (gt_lt a b e))

-- antisymmetric: not both are smaller, so none is smaller than itself
pub lt_asym : (a b : Key) → Lt a b → Lt b a → ⊥
lt_asym a b p q = let k : ◌≡◌ {A = ℕ} 0 1 = cc (lt_gt a b p) in omega arith

-- the library's test whether two slices are equal, told by the order of keys
by_head : (o : Ordering) {p : Bool} (q : Ordering) → p ≡ compare_is_eq q → (compare_is_eq o && p) ≡ compare_is_eq (pick3 o Ordering.lt q Ordering.gt)
by_head Ordering.lt q e = refl
by_head Ordering.eq q e = e
by_head Ordering.gt q e = refl

pub equal_cmp : (a b : Key) → pointwise eqb a b ≡ compare_is_eq (cmp a b)
equal_cmp [] [] = refl
equal_cmp [] (y ∷ b) = refl
equal_cmp (x ∷ a) [] = refl
equal_cmp (x ∷ a) (y ∷ b) = by_head (compare x y) (cmp a b) (equal_cmp a b)
