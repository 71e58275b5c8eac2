-- Laws of parts: the same place, a place before, a place behind, a part of a part, side by side. Assumes nothing.
use mathlib.Core.Path.{◌≡◌, refl, sym, ap, ◌∙◌}
use mathlib.Core.List.{List, [], ◌∷◌, ◌++◌, append_assoc, append-nil}
use Prim.Native.Nat.{ℕ, zero, suc, min, ◌+◌, ◌-◌, ◌≤◌, ◌<◌}
use lib.ListN.{length, get_or, set, take, drop, length-append, length-take, length-drop, take-append-drop}
use lib.Seq.{paste, take_at, drop_at, take-append-le, drop-append-add, take-take, drop-drop, length-take-le, drop-append-le, take-nil, take-add, take-suc, take-length, get_or-drop, set_split}
use borrow.Rule.Slice.PartMut.{put_mid}
use native.Mathlib.Numerals.{add-one}
use native.Mathlib.Omega.{arith}
use Rattle.word.specs.Part.{part, over}

module _ {A : Type 0} where
  pub drop_take : (a n : ℕ) (s : List A) → drop a (take (a + n) s) ≡ take n (drop a s)
  drop_take zero n s = let e : 0 + n ≡ n = omega arith in rw e
  drop_take (suc a) n [] = let e : suc a + n ≡ suc (a + n) = omega arith in rw e (sym (take-nil n))
  drop_take (suc a) n (x ∷ s) = let e : suc a + n ≡ suc (a + n) = omega arith in rw e (drop_take a n s)

  pub length_part : (s : List A) (a n : ℕ) → a + n ≤ length s → length (part s a n) ≡ n
  unfolding part
  length_part s a n h = length-take-le n (drop a s) (simp length-drop (omega arith))

  pub length_over : (s : List A) (a : ℕ) (b : List A) → a + length b ≤ length s → length (over s a b) ≡ length s
  unfolding over
  length_over s a b h = simp (length-append, length-take, length-drop) (omega arith)

  -- the same place
  pub part_over : (s : List A) (a n : ℕ) (b : List A) → a ≤ length s → length b ≡ n → part (over s a b) a n ≡ b
  unfolding part over
  part_over s a n b h e = ap (take n) (drop_at (take a s) (b ++ drop (a + length b) s) a (length-take-le a s h)) ∙ take_at b (drop (a + length b) s) n e

  -- before it
  pub part_before : (s : List A) (a c n : ℕ) (b : List A) → a ≤ length s → c + n ≤ a → part (over s a b) c n ≡ part s c n
  unfolding part over
  part_before s a c n b h k =
      sym (drop_take c n (over s a b)) ∙ ap (drop c) (take-append-le (c + n) (take a s) (b ++ drop (a + length b) s) (rw (length-take-le a s h) k) ∙ take-take (c + n) a s k) ∙ drop_take c n s

  -- behind it
  pub drop_over : (s : List A) (a c : ℕ) (b : List A) → a ≤ length s → a + length b ≤ c → drop c (over s a b) ≡ drop c s
  unfolding over
  drop_over s a c b h k =
      let j : ℕ = c - (a + length b) in
      let l : length (take a s ++ b) ≡ a + length b = simp length-append (rw (length-take-le a s h)) in
      let e : c ≡ length (take a s ++ b) + j = omega arith in
      let f : (a + length b) + j ≡ c = omega arith in
      ap (drop c) (sym (append_assoc (take a s) b (drop (a + length b) s)))
      ∙ ap (λ (i : ℕ). drop i ((take a s ++ b) ++ drop (a + length b) s)) e
      ∙ drop-append-add (take a s ++ b) (drop (a + length b) s) j
      ∙ drop-drop j (a + length b) s ∙ rw f

  pub part_behind : (s : List A) (a c n : ℕ) (b : List A) → a ≤ length s → a + length b ≤ c → part (over s a b) c n ≡ part s c n
  unfolding part
  part_behind s a c n b h k = ap (take n) (drop_over s a c b h k)

  pub part_part : (s : List A) (a n k m : ℕ) → k + m ≤ n → part (part s a n) k m ≡ part s (a + k) m
  unfolding part
  part_part s a n k m h =
      sym (drop_take k m (take n (drop a s))) ∙ ap (drop k) (take-take (k + m) n (drop a s) h) ∙ drop_take k m (drop a s) ∙ ap (take m) (drop-drop k a s)

  pub drop_split : (s : List A) (a n : ℕ) → drop a s ≡ part s a n ++ drop (a + n) s
  unfolding part
  drop_split s a n = sym (take-append-drop n (drop a s)) ∙ rw drop-drop

  -- what is before a place, in it and behind it
  pub split3 : (s : List A) (a n : ℕ) → s ≡ take a s ++ (part s a n ++ drop (a + n) s)
  split3 s a n = sym (take-append-drop a s) ∙ ap (λ (t : List A). take a s ++ t) (drop_split s a n)

  pub over_part : (s : List A) (a n : ℕ) → a + n ≤ length s → over s a (part s a n) ≡ s
  unfolding over
  over_part s a n h = rw (length_part s a n h) (sym (split3 s a n))

  rest_in_lem : (s : List A) (a k n : ℕ) (b : List A) → a + n ≤ length s → k + length b ≤ n → drop ((a + k) + length b) s ≡ drop (k + length b) (part s a n) ++ drop (a + n) s
  rest_in_lem s a k n b h g =
      let e : (a + k) + length b ≡ a + (k + length b) = omega arith in
      rw e (sym (drop-drop (k + length b) a s)
      ∙ ap (drop (k + length b)) (drop_split s a n)
      ∙ drop-append-le (k + length b) (part s a n) (drop (a + n) s) (omega (arith, length_part s a n h)))

  -- a write within a part
  pub over_in : (s : List A) (a k n : ℕ) (b : List A) → a + n ≤ length s → k + length b ≤ n → over s (a + k) b ≡ over s a (over (part s a n) k b)
  over_in s a k n b h g =
      let lo : length (over (part s a n) k b) ≡ n = length_over (part s a n) k b (omega (arith, length_part s a n h)) ∙ length_part s a n h in
      go lo
    where
      go : length (over (part s a n) k b) ≡ n → over s (a + k) b ≡ over s a (over (part s a n) k b)
      go lo = unfold over in rw (lo, take-add a k s, rest_in_lem s a k n b h g) (unfold part in rw (take-take k n (drop a s) (omega arith)) (simp append_assoc))

  -- written twice
  pub over_same : (s : List A) (a : ℕ) (b d : List A) → a ≤ length s → length b ≡ length d → over (over s a b) a d ≡ over s a d
  over_same s a b d h e = go (drop_over s a (a + length d) b h (omega arith))
    where
      go : drop (a + length d) (over s a b) ≡ drop (a + length d) s → over (over s a b) a d ≡ over s a d
      go q = unfold over in rw (take_at (take a s) (b ++ drop (a + length b) s) a (length-take-le a s h)) (ap (λ (t : List A). take a s ++ (d ++ t)) (unfold over in q))

  -- a write within what was written
  pub over_nest : (s : List A) (a k : ℕ) (b d : List A) → a + length b ≤ length s → k + length d ≤ length b → over (over s a b) (a + k) d ≡ over s a (over b k d)
  over_nest s a k b d h g =
      over_in (over s a b) a k (length b) d (rw (length_over s a b h) h) g
      ∙ rw (part_over s a (length b) b (omega arith) refl) (over_same s a b (over b k d) (omega arith) (sym (length_over b k d g)))

  -- what a write to k elements from a on leaves of a slice, and a copy of n elements of b from `from` on
  pub put_over : (s : List A) (a k : ℕ) (b : List A) → length b ≡ k → put_mid a k s b ≡ over s a b
  unfolding over
  put_over s a k b e = rw (e, drop-drop k a s)

  pub paste_over : (s : List A) (a : ℕ) (b : List A) (from n : ℕ) → from + n ≤ length b → paste s a (drop from b) n ≡ over s a (part b from n)
  unfolding over part
  paste_over s a b from n h = let l : length (take n (drop from b)) ≡ n = length-take-le n (drop from b) (simp length-drop (omega arith)) in rw (l, append_assoc)

  pub part_seam : (p m q : List A) (a n : ℕ) → length p ≡ a → length m ≡ n → part (p ++ (m ++ q)) a n ≡ m
  unfolding part
  part_seam p m q a n h k = ap (take n) (drop_at p (m ++ q) a h) ∙ take_at m q n k

  pub over_seam : (p m b q : List A) (a : ℕ) → length p ≡ a → length m ≡ length b → over (p ++ (m ++ q)) a b ≡ p ++ (b ++ q)
  unfolding over
  over_seam p m b q a h k =
      let l : length (p ++ m) ≡ a + length b = simp length-append (omega arith) in
      rw (take_at p (m ++ q) a h, ← append_assoc p m q, drop_at (p ++ m) q (a + length b) l)

  -- three writes that cover a list
  pub cover : (s x y z : List A) (a : ℕ) → length x ≡ a → length s ≡ a + (length y + length z) → over (over (over s a y) 0 x) (a + length y) z ≡ x ++ (y ++ z)
  cover s x y z a w h =
      let n : ℕ = length y in
      let p1 = length_part s a n (omega arith) in
      let p0 = length-take-le a s (omega arith) in
      let e1 : over s a y ≡ take a s ++ (y ++ drop (a + n) s) = ap (λ (t : List A). over t a y) (split3 s a n) ∙ over_seam (take a s) (part s a n) y (drop (a + n) s) a p0 p1 in
      let e2 : over (take a s ++ (y ++ drop (a + n) s)) 0 x ≡ x ++ (y ++ drop (a + n) s) = over_seam [] (take a s) x (y ++ drop (a + n) s) 0 refl (p0 ∙ sym w) in
      rw (e1, e2) last_lem
    where
      last_lem : over (x ++ (y ++ drop (a + length y) s)) (a + length y) z ≡ x ++ (y ++ z)
      last_lem =
          let q : List A = drop (a + length y) s in
          ap (λ (t : List A). over t (a + length y) z) (sym (append_assoc x y q) ∙ ap (λ (t : List A). (x ++ y) ++ t) (sym (append-nil q)))
          ∙ over_seam (x ++ y) q z [] (a + length y) (simp length-append (omega arith)) (length-drop (a + length y) s ∙ omega arith)
          ∙ rw (append-nil z) (append_assoc x y z)

  -- two parts side by side
  pub part_add : (s : List A) (a n m : ℕ) → part s a (n + m) ≡ part s a n ++ part s (a + n) m
  unfolding part
  part_add s a n m = take-add n m (drop a s) ∙ ap (λ (t : List A). take n (drop a s) ++ take m t) (drop-drop n a s)

  pub part_none : (s : List A) (a : ℕ) → part s a 0 ≡ []
  unfolding part
  part_none s a = refl

  pub part_whole : (s : List A) → part s 0 (length s) ≡ s
  unfolding part
  part_whole s = take-length s

  -- one byte more
  pub part_more : (s : List A) (a i : ℕ) (d : A) → a + i < length s → part s a (i + 1) ≡ part s a i ++ (get_or s (a + i) d ∷ [])
  unfolding part
  part_more s a i d h = rw add-one (take-suc (drop a s) i d (simp length-drop (omega arith)) ∙ rw get_or-drop)

  -- also where the list ends before the part does
  pub length_part_cut : (s : List A) (a n : ℕ) → length (part s a n) ≡ min n (length s - a)
  unfolding part
  length_part_cut s a n = rw (length-take, length-drop)

  pub over_none : (s : List A) (a : ℕ) → over s a [] ≡ s
  unfolding over
  over_none s a = let e : a + 0 ≡ a = omega arith in rw e (take-append-drop a s)

  pub set_over : (s : List A) (a : ℕ) (v : A) → a < length s → set s a v ≡ over s a (v ∷ [])
  unfolding over
  set_over s a v h = rw add-one (set_split s a v h)

  over_beside_is : (s : List A) (a : ℕ) (b d : List A) → (take a s ++ b) ++ (d ++ drop (a + length b + length d) s) ≡ over s a (b ++ d)
  unfolding over
  over_beside_is s a b d = let l : a + length b + length d ≡ a + length (b ++ d) = simp length-append (omega arith) in rw l (simp append_assoc)

  -- two writes side by side
  pub over_beside : (s : List A) (a : ℕ) (b d : List A) → a + length b + length d ≤ length s → over (over s a b) (a + length b) d ≡ over s a (b ++ d)
  over_beside s a b d h =
      let p : List A = take a s ++ b in
      let m : List A = part s (a + length b) (length d) in
      let q : List A = drop (a + length b + length d) s in
      let e : over s a b ≡ p ++ (m ++ q) = unfold over in rw (drop_split s (a + length b) (length d)) (simp append_assoc) in
      rw e
      (over_seam p m d q (a + length b) (simp length-append (rw (length-take-le a s (omega arith)))) (length_part s (a + length b) (length d) h)
      ∙ over_beside_is s a b d)
