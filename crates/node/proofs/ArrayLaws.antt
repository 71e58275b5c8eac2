-- Laws of what is copied, put in and taken out, over the element type: for arrays of any values, and for arrays that are
-- padded with zeros. Children, values, lengths and key bytes all cite these. Assumes nothing.
use mathlib.Core.Path.{◌≡◌, refl, sym, ap, ◌∙◌}
use mathlib.Core.List.{List, [], ◌∷◌, ◌++◌, map, map-append, append_assoc, append-nil}
use Prim.Native.Nat.{ℕ, zero, suc, ◌+◌, ◌-◌, ◌≤◌, ◌<◌}
use lib.ListN.{length, take, drop, set, replicate, length-append, length-take, length-drop, length-set, length-replicate, replicate-append-replicate, drop_of_length-le}
use lib.Seq.{take_all, drop-drop, drop_at, take_at, take-append-le, drop-append-le, take-append-add, drop-append-add, length-take-le, set-append_left}
use borrow.Rule.Slice.PartMut.{put_mid}
use native.Mathlib.Omega.{arith}
use Rattle.std.specs.List.{copy_within}
use Rattle.word.specs.Part.{part, over}
use Rattle.word.proofs.PartLaws.{length_over}
use Rattle.node.specs.Chain.{padded}
use Rattle.node.specs.Edit.{inserted, removed, change_at}

-- ---- writes to parts

module _ {A : Type 0} where
  pub drop_past : (l : List A) (i : ℕ) → length l ≤ i → drop i l ≡ []
  drop_past l i h = drop_of_length-le l h

  -- what is left by a write to k elements from a on
  pub put_over : (l : List A) (a k : ℕ) (b : List A) → length b ≡ k → put_mid a k l b ≡ over l a b
  unfolding over
  put_over l a k b e = rw (e, drop-drop k a l)

  -- and by one to all from a on
  pub put_end : (l : List A) (a k : ℕ) (b : List A) → length l ≤ a + k → put_mid a k l b ≡ take a l ++ b
  put_end l a k b h = rw (drop-drop k a l, drop_past l (a + k) h, append-nil b)

  -- new ones in front, and the others moved up by as many places
  pub entered_front : (l b : List A) {o : List A} → length b ≤ length l → o ≡ copy_within l 0 (length l - length b) (length b) → b ++ drop (length b) o ≡ take (length l) (b ++ l)
  entered_front l b {o} h e =
      let k : ℕ = length b in
      let j : ℕ = length l - k in
      let z : j - 0 ≡ j = omega arith in
      let q : drop (k + j) l ≡ [] = drop_past l (k + j) (omega arith) in
      let r : take k l ++ take j (drop 0 l) ++ [] ≡ take k l ++ take j l = append-nil (take k l ++ take j l) in
      let p : o ≡ take k l ++ take j l = e ∙ rw (z, q, r) in
      let d : drop k o ≡ take j l = ap (drop k) p ∙ drop_at (take k l) (take j l) k (length-take-le k l h) in
      let n : length l ≡ length b + j = omega arith in
      rw d (sym (ap (λ (m : ℕ). take m (b ++ l)) n ∙ take-append-add b l j))

  -- new ones behind, and the others moved down by as many places
  pub entered_behind : (l b : List A) {o : List A} → length b ≤ length l → o ≡ copy_within l (length b) (length l) 0
      → put_mid (length l - length b) (length o - (length l - length b)) o b ≡ drop (length b) l ++ b
  entered_behind l b {o} h e =
      let k : ℕ = length b in
      let j : ℕ = length l - k in
      let w : length (drop k l) ≡ j = length-drop k l in
      let t : take j (drop k l) ≡ drop k l = take_all j (drop k l) (omega arith) in
      let p : o ≡ drop k l ++ drop (0 + j) l = e ∙ rw t in
      let f : take j o ≡ drop k l = ap (take j) p ∙ take_at (drop k l) (drop (0 + j) l) j w in
      put_end o j (length o - j) b (omega arith) ∙ rw f

  pub part_end : (a : List A) (j k : ℕ) → length a ≡ j + k → part a j k ≡ drop j a
  unfolding part
  part_end a j k e = take_all k (drop j a) (simp length-drop (omega arith))

  -- put in or taken out before a seam, and behind it
  module _ (p q : List A) (i : ℕ) where
    pub inserted_left : (b : List A) → i ≤ length p → inserted i b (p ++ q) ≡ inserted i b p ++ q
    unfolding inserted
    inserted_left b h = rw (take-append-le i p q h, drop-append-le i p q h) (simp append_assoc)

    pub inserted_right : (b : List A) (j : ℕ) → length p + j ≡ i → inserted i b (p ++ q) ≡ p ++ inserted j b q
    unfolding inserted
    inserted_right b j e = rw (← e, take-append-add p q j, drop-append-add p q j) (append_assoc p (take j q) (b ++ drop j q))

    pub removed_left : (w : ℕ) → i + w ≤ length p → removed i w (p ++ q) ≡ removed i w p ++ q
    unfolding removed
    removed_left w h = rw (take-append-le i p q (omega arith), drop-append-le (i + w) p q h) (simp append_assoc)

    pub over_left : (b : List A) → i + length b ≤ length p → over (p ++ q) i b ≡ over p i b ++ q
    unfolding over
    over_left b h = rw (take-append-le i p q (omega arith), drop-append-le (i + length b) p q h) (simp append_assoc)

    pub over_right : (b : List A) (j : ℕ) → length p + j ≡ i → over (p ++ q) i b ≡ p ++ over q j b
    unfolding over
    over_right b j e =
        let f : length p + j + length b ≡ length p + (j + length b) = omega arith in
        rw (← e, f, take-append-add p q j, drop-append-add p q (j + length b)) (append_assoc p (take j q) (b ++ drop (j + length b) q))

  -- behind the first
  module _ (y : A) (l : List A) (i : ℕ) where
    pub inserted_behind : (b : List A) → inserted (suc i) b (y ∷ l) ≡ y ∷ inserted i b l
    unfolding inserted
    inserted_behind b = refl

    pub removed_behind : (w : ℕ) → removed (suc i) w (y ∷ l) ≡ y ∷ removed i w l
    unfolding removed
    removed_behind w = let e : suc i + w ≡ suc (i + w) = omega arith in rw e

-- ---- put in and taken out, at the end something lost or come in

module _ {A : Type 0} (a : List A) (i : ℕ) where
  pub take_inserted : (b : List A) (n : ℕ) → i ≤ length a → i + length b ≤ n → take n (inserted i b a) ≡ take i a ++ (b ++ take (n - (i + length b)) (drop i a))
  unfolding inserted
  take_inserted b n h g =
      let k : ℕ = n - (i + length b) in
      let l : length (take i a ++ b) ≡ i + length b = simp length-append (rw (length-take-le i a h)) in
      let e : n ≡ length (take i a ++ b) + k = omega arith in
      ap (take n) (sym (append_assoc (take i a) b (drop i a)))
      ∙ ap (λ (m : ℕ). take m ((take i a ++ b) ++ drop i a)) e
      ∙ take-append-add (take i a ++ b) (drop i a) k
      ∙ append_assoc (take i a) b (take k (drop i a))

  -- past the end: all of it is lost
  pub insert_past : (b : List A) (n : ℕ) → length a ≡ n → n ≤ i → a ≡ take n (inserted i b a)
  unfolding inserted
  insert_past b n e h = rw (take_all i a (omega arith)) (sym (take_at a (b ++ drop i a) n e))

  pub take_removed : (w : ℕ) (zs : List A) (n : ℕ) → length a ≡ n → length zs ≡ w → i + w ≤ n → take n (removed i w a ++ zs) ≡ take i a ++ (drop (i + w) a ++ zs)
  unfolding removed
  take_removed w zs n e f h =
      let l : length ((take i a ++ drop (i + w) a) ++ zs) ≡ n = simp (length-append, length-take, length-drop) (omega arith) in
      take_all n ((take i a ++ drop (i + w) a) ++ zs) (omega arith) ∙ append_assoc (take i a) (drop (i + w) a) zs

  pub remove_past : (w : ℕ) (zs : List A) (n : ℕ) → length a ≡ n → n ≤ i → a ≡ take n (removed i w a ++ zs)
  unfolding removed
  remove_past w zs n e h =
      rw (take_all i a (omega arith), drop_past a (i + w) (omega arith), append-nil a) (sym (take_at a zs n e))

  -- put in or taken out by a write to all from i on, which are k
  module _ (k : ℕ) (all : i + k ≡ length a) where
    those : take k (drop i a) ≡ drop i a
    those = take_all k (drop i a) (simp length-drop (omega arith))

    pub open_part : (b : List A) {c : List A} → c ≡ take (length (take k (drop i a))) (b ++ take k (drop i a)) → put_mid i k a c ≡ take (length a) (inserted i b a)
    unfolding inserted
    open_part b {c} e =
        let w : length (drop i a) ≡ k = length-drop i a ∙ omega arith in
        let f : c ≡ take k (b ++ drop i a) = rw (those, w) at e in
        let l : length (take i a) ≡ i = length-take-le i a (omega arith) in
        let n : length a ≡ length (take i a) + k = omega arith in
        put_end a i k c (omega arith) ∙ rw f (sym (ap (λ (m : ℕ). take m (take i a ++ (b ++ drop i a))) n ∙ take-append-add (take i a) (b ++ drop i a) k))

    pub close_part : (w : ℕ) (zs : List A) {c : List A} → w ≤ k → length zs ≡ w → c ≡ drop (length zs) (take k (drop i a)) ++ zs → put_mid i k a c ≡ take (length a) (removed i w a ++ zs)
    close_part w zs {c} h f e =
        let g : c ≡ drop w (drop i a) ++ zs = rw (those, f) at e in
        put_end a i k c (omega arith) ∙ rw (g, drop-drop w i a) (sym (take_removed w zs (length a) refl f (omega arith)))

-- ---- zeros

module _ {A : Type 0} (z : A) where
  take_repeated : (m k : ℕ) → m ≤ k → take m (replicate k z) ≡ replicate m z
  take_repeated zero k h = refl
  take_repeated (suc m) zero h = absurd (omega arith)
  take_repeated (suc m) (suc k) h = ap (λ (l : List A). z ∷ l) (take_repeated m k (omega arith))

  drop_repeated : (m k : ℕ) → drop m (replicate k z) ≡ replicate (k - m) z
  drop_repeated zero k = let e : k - 0 ≡ k = omega arith in rw e
  drop_repeated (suc m) zero = let e : 0 - suc m ≡ 0 = omega arith in rw e
  drop_repeated (suc m) (suc k) = let e : suc k - suc m ≡ k - m = omega arith in rw e (drop_repeated m k)

  pub over_zeros : (n : ℕ) (l : List A) → over (replicate n z) 0 l ≡ padded n z l
  unfolding over padded
  over_zeros n l = let e : 0 + length l ≡ length l = omega arith in rw (e, drop_repeated (length l) n)

  -- zeros over all from m on
  pub kept_array : (n m k : ℕ) (l : List A) {c : List A} → length l ≡ n → m + k ≡ n → c ≡ replicate (length (take k (drop m l))) z → put_mid m k l c ≡ padded n z (take m l)
  unfolding padded
  kept_array n m k l {c} e h p =
      let w : length (take k (drop m l)) ≡ n - length (take m l) = simp (length-drop, length-take) (omega arith) in
      put_end l m k c (omega arith) ∙ rw (p, w)

  -- m zeros come in behind
  pub rest_array : (n m : ℕ) (l : List A) {c : List A} → length l ≡ n → m ≤ n → c ≡ drop (length (take m (replicate n z))) l ++ take m (replicate n z) → c ≡ padded n z (drop m l)
  unfolding padded
  rest_array n m l {c} e h p =
      let w : n - length (drop m l) ≡ m = simp length-drop (omega arith) in
      let q : c ≡ drop (length (replicate m z)) l ++ replicate m z = rw (take_repeated m n h) at p in
      let r : length (replicate m z) ≡ m = length-replicate m z in
      rw r at q ∙ rw w

  pub padded_full : (n : ℕ) (l : List A) → length l ≡ n → padded n z l ≡ l
  unfolding padded
  padded_full n l e = let k : n - length l ≡ 0 = omega arith in rw k (append-nil l)

  padded_more : (n k : ℕ) (l : List A) → length l + k ≤ n → padded n z (l ++ replicate k z) ≡ padded n z l
  unfolding padded
  padded_more n k l h =
      let e : n - length (l ++ replicate k z) ≡ n - length l - k = simp (length-append, length-replicate) (omega arith) in
      let f : k + (n - length l - k) ≡ n - length l = omega arith in
      rw (e, append_assoc l (replicate k z) (replicate (n - length l - k) z), replicate-append-replicate k (n - length l - k) z, f)

  padded_is : (n : ℕ) (l : List A) → l ++ replicate (n - length l) z ≡ padded n z l
  unfolding padded
  padded_is n l = refl

  -- without what it is padded with
  pub take_own : (n k : ℕ) (l : List A) → length l ≡ k → take k (padded n z l) ≡ l
  unfolding padded
  take_own n k l e = take_at l (replicate (n - length l) z) k e

  -- ---- what is done to a padded list is done to the list

  module _ (n : ℕ) (l : List A) (fit : length l ≤ n) where
    outside : padded n z l ≡ l ++ replicate (n - length l) z
    unfolding padded
    outside = refl

    pub padded_inserted : (i : ℕ) (b : List A) → i ≤ length l → length l + length b ≤ n → take n (inserted i b (padded n z l)) ≡ padded n z (inserted i b l)
    padded_inserted i b h g =
        let k : ℕ = n - length l in
        let r : List A = inserted i b l in
        let lr : length r ≡ length l + length b = unfold inserted in simp (length-append, length-take, length-drop) (omega arith) in
        let e : n ≡ length r + (n - length r) = omega arith in
        rw (outside, inserted_left l (replicate k z) i b h) (ap (λ (m : ℕ). take m (r ++ replicate k z)) e ∙ take-append-add r (replicate k z) (n - length r) ∙ rw (take_repeated (n - length r) k (omega arith)) (padded_is n r))

    pub padded_removed : (i w : ℕ) → i + w ≤ length l → take n (removed i w (padded n z l) ++ replicate w z) ≡ padded n z (removed i w l)
    padded_removed i w h =
        let k : ℕ = n - length l in
        let r : List A = removed i w l in
        let lr : length r ≡ length l - w = unfold removed in simp (length-append, length-take, length-drop) (omega arith) in
        let e : k + w ≡ n - length r = omega arith in
        rw (outside, removed_left l (replicate k z) i w h, append_assoc r (replicate k z) (replicate w z), replicate-append-replicate k w z, e)
        (take_all n (r ++ replicate (n - length r) z) (simp (length-append, length-replicate) (omega arith)) ∙ padded_is n r)

    taken_lem : (m : ℕ) → m ≤ length l → take m (padded n z l) ≡ take m l
    unfolding padded
    taken_lem m h = take-append-le m l (replicate (n - length l) z) h

    dropped : (m : ℕ) → m ≤ length l → drop m (padded n z l) ≡ drop m l ++ replicate (n - length l) z
    unfolding padded
    dropped m h = drop-append-le m l (replicate (n - length l) z) h

    pub padded_take : (m : ℕ) → m ≤ length l → padded n z (take m (padded n z l)) ≡ padded n z (take m l)
    padded_take m h = ap (padded n z) (taken_lem m h)

    pub padded_drop : (m : ℕ) → m ≤ length l → padded n z (drop m (padded n z l)) ≡ padded n z (drop m l)
    padded_drop m h =
        ap (padded n z) (dropped m h)
        ∙ padded_more n (n - length l) (drop m l) (omega (arith, length-drop m l))

    pub padded_over : (xs : List A) (i : ℕ) → length l ≡ i → length l + length xs ≤ n → over (padded n z l) i xs ≡ padded n z (l ++ xs)
    unfolding over padded
    padded_over xs i e h =
        let k : ℕ = n - length l in
        let f : n - length (l ++ xs) ≡ k - length xs = simp length-append (omega arith) in
        let d : drop (i + length xs) (l ++ replicate k z) ≡ replicate (k - length xs) z = behind_lem xs i e in
        rw (take_at l (replicate k z) i e, d, f) (sym (append_assoc l xs (replicate (k - length xs) z)))
      where
        behind_lem : (xs : List A) (i : ℕ) → length l ≡ i → drop (i + length xs) (l ++ replicate (n - length l) z) ≡ replicate (n - length l - length xs) z
        behind_lem xs i e = rw (← e) (drop-append-add l (replicate (n - length l) z) (length xs) ∙ drop_repeated (length xs) (n - length l))

    padded_same : (m : List A) → length m ≡ length l → m ++ replicate (n - length l) z ≡ padded n z m
    unfolding padded
    padded_same m e = rw e

    pub padded_put : (i : ℕ) (b : List A) → i + length b ≤ length l → over (padded n z l) i b ≡ padded n z (over l i b)
    padded_put i b h = rw (outside, over_left l (replicate (n - length l) z) i b h) (padded_same (over l i b) (length_over l i b h))

    pub padded_set : (i : ℕ) (y : A) → i < length l → set (padded n z l) i y ≡ padded n z (set l i y)
    unfolding padded
    padded_set i y h = rw (length-set l i y) (set-append_left l (replicate (n - length l) z) i y h)

-- ---- what is done to a list is done to what each of it maps to

module _ {A B : Type 0} (f : A → B) where
  pub map_taken : (i : ℕ) (l : List A) → map f (take i l) ≡ take i (map f l)
  map_taken zero l = refl
  map_taken (suc i) [] = refl
  map_taken (suc i) (x ∷ l) = ap (λ (r : List B). f x ∷ r) (map_taken i l)

  pub map_dropped : (i : ℕ) (l : List A) → map f (drop i l) ≡ drop i (map f l)
  map_dropped zero l = refl
  map_dropped (suc i) [] = refl
  map_dropped (suc i) (x ∷ l) = map_dropped i l

  pub map_inserted : (i : ℕ) (b l : List A) → map f (inserted i b l) ≡ inserted i (map f b) (map f l)
  unfolding inserted
  map_inserted i b l = map-append f (take i l) (b ++ drop i l) ∙ rw (map-append f b (drop i l), map_taken i l, map_dropped i l)

  pub map_removed : (i w : ℕ) (l : List A) → map f (removed i w l) ≡ removed i w (map f l)
  unfolding removed
  map_removed i w l = map-append f (take i l) (drop (i + w) l) ∙ rw (map_taken i l, map_dropped (i + w) l)

  -- a change that f sees as y
  pub map_changed : (i : ℕ) (g : A → A) (y : B) (l : List A) → ((x : A) → f (g x) ≡ y) → map f (change_at i g l) ≡ set (map f l) i y
  map_changed i g y [] e = refl
  map_changed zero g y (x ∷ l) e = rw (e x)
  map_changed (suc i) g y (x ∷ l) e = ap (λ (r : List B). f x ∷ r) (map_changed i g y l e)

  -- a change that f doesn't see
  pub map_unchanged : (i : ℕ) (g : A → A) (l : List A) → ((x : A) → f (g x) ≡ f x) → map f (change_at i g l) ≡ map f l
  map_unchanged i g [] e = refl
  map_unchanged zero g (x ∷ l) e = rw (e x)
  map_unchanged (suc i) g (x ∷ l) e = ap (λ (r : List B). f x ∷ r) (map_unchanged i g l e)

pub length_changed : {A : Type 0} (i : ℕ) (g : A → A) (l : List A) → length (change_at i g l) ≡ length l
length_changed i g [] = refl
length_changed zero g (x ∷ l) = refl
length_changed (suc i) g (x ∷ l) = ap suc (length_changed i g l)
