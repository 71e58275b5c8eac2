-- The three split cases. `split_over8` speaks of a node of 9 separators; here is what that means for the full node of 8 into
-- which a separator went: seps and kids are a node's separators and children by index. Assumes nothing.
use mathlib.Core.Path.{◌≡◌, refl, sym, ap, subst, ◌∙◌}
use mathlib.Core.List.{List, [], ◌∷◌, ◌++◌, append_assoc}
use lib.ListN.{length, take, drop, get_or, take-append-drop, length-append, length-drop}
use lib.Seq.{take_at, drop_at, drop-append-add, length-take-le, take-take, drop-drop, drop-cons, get_or-take}
use native.Mathlib.Omega.{arith}
use borrow.Author.Tests.{lt-leb}
use Prim.Native.Nat.{ℕ, suc, ◌+◌, ◌≤◌, ◌<◌}
use Rattle.tree.specs.Map.{Sep}
use Rattle.tree.specs.Tree.{Node, read_rest, read_left, read, only, none_of, plug}
use Rattle.tree.specs.Free.{first_free, later_free}
use Rattle.tree.specs.Set.{two, Placed, split_at4, split_over8}
use Rattle.tree.proofs.Zipper.{read_rest_append, plug_read, plug_length, plug_slot}

module _ {A C : Type 0} where
  abbrev pub seps : Node A C → List (Sep A)
  seps n = read only none_of n

  abbrev pub kids : Node A C → List C
  kids n = read none_of only n

  left_seps : (l : List (C × Sep A)) → length (read_left {D = Sep A} only none_of l) ≡ length l
  left_seps [] = refl
  left_seps (x ∷ l) = simp length-append (omega (arith, left_seps l))

  left_kids : (l : List (C × Sep A)) → length (read_left {D = C} none_of only l) ≡ length l
  left_kids [] = refl
  left_kids (x ∷ l) = simp length-append (omega (arith, left_kids l))

  -- a separator x and its right child b go in at a zipper's index, and the child there becomes a
  pub insert_seps : (s : ℕ) (l : List (C × Sep A)) (c a b : C) (x : Sep A) (r : List (Sep A × C))
      → let S : List (Sep A) = seps (plug s l c r) in seps (plug s l a ((x, b) ∷ r)) ≡ take (length l) S ++ x ∷ drop (length l) S
  insert_seps s l c a b x r =
      let L : List (Sep A) = read_left only none_of l in
      let R : List (Sep A) = read_rest only none_of r in
      plug_read only none_of s l a ((x, b) ∷ r)
      ∙ rw (plug_read only none_of s l c r, take_at L R (length l) (left_seps l), drop_at L R (length l) (left_seps l))

  pub insert_kids : (s : ℕ) (l : List (C × Sep A)) (c a b : C) (x : Sep A) (r : List (Sep A × C))
      → let K : List C = kids (plug s l c r) in kids (plug s l a ((x, b) ∷ r)) ≡ take (length l) K ++ a ∷ b ∷ drop (suc (length l)) K
  insert_kids s l c a b x r =
      let L : List C = read_left none_of only l in
      let R : List C = read_rest none_of only r in
      let i : suc (length l) ≡ length L + 1 = omega (arith, left_kids l) in
      let e : drop (suc (length l)) (L ++ c ∷ R) ≡ R = rw i (drop-append-add L (c ∷ R) 1) in
      plug_read none_of only s l a ((x, b) ∷ r) ∙ rw (plug_read none_of only s l c r, e, take_at L (c ∷ R) (length l) (left_kids l))

  rest_seps : (r : List (Sep A × C)) → length (read_rest {D = Sep A} only none_of r) ≡ length r
  rest_seps [] = refl
  rest_seps (x ∷ r) = omega (arith, rest_seps r)

  rest_kids : (r : List (Sep A × C)) → length (read_rest {D = C} none_of only r) ≡ length r
  rest_kids [] = refl
  rest_kids (x ∷ r) = omega (arith, rest_kids r)

  -- A split: the left half keeps the slot, the right half takes the first free one; up is the promoted separator.
  pub record SplitInto (slot : ℕ) (fs : List ℕ) (leftSeps : List (Sep A)) (up : Sep A) (rightSeps : List (Sep A)) (leftKids rightKids : List C) (o : Placed A (Node A C)) : Type 0 where
    pub left : Node A C
    pub right : Node A C
    pub halves : o.parts ≡ two left up right
    pub left_slot : left.slot ≡ slot
    pub right_slot : right.slot ≡ first_free fs
    pub still_free : o.free ≡ later_free fs
    pub seps_left : seps left ≡ leftSeps
    pub seps_right : seps right ≡ rightSeps
    pub kids_left : kids left ≡ leftKids
    pub kids_right : kids right ≡ rightKids

cut_equal : {X : Type 0} (i : ℕ) (a b p q : List X) → a ++ b ≡ p ++ q → length a ≡ i → length p ≡ i → (a ≡ p) × (b ≡ q)
cut_equal i a b p q e h g = (
  sym (take_at a b i h) ∙ ap (take i) e ∙ take_at p q i g,
  sym (drop_at a b i h) ∙ ap (drop i) e ∙ drop_at p q i g,
)

module _ {A C : Type 0} (n : Node A C) (fs : List ℕ) (ls : List (Sep A)) (up : Sep A) (rs : List (Sep A)) (lk rk : List C) (big : 8 < length n.rest)
    (es : seps n ≡ ls ++ up ∷ rs) (hs : length ls ≡ 4) (ek : kids n ≡ lk ++ rk) (hk : length lk ≡ 5) where
  at_4 : (x : List (Sep A × C)) → take 4 n.rest ++ x ≡ n.rest → 0 < length x → SplitInto n.slot fs ls up rs lk rk (split_at4 n x fs)
  at_4 [] e h = absurd (omega arith)
  at_4 (y ∷ r) e h =
      let four : length (take 4 n.rest) ≡ 4 = length-take-le 4 n.rest (omega arith) in
      let S : List (Sep A) = read_rest only none_of (take 4 n.rest) in
      let K : List C = n.first ∷ read_rest none_of only (take 4 n.rest) in
      let ss = cut_equal 4 S (y.0 ∷ read_rest only none_of r) ls (up ∷ rs) (sym (read_rest_append only none_of (take 4 n.rest) (y ∷ r)) ∙ ap (read_rest only none_of) e ∙ es) (omega (arith, rest_seps (take 4 n.rest))) hs in
      let ks = cut_equal 5 K (kids (record { slot = first_free fs; first = y.1; rest = r })) lk rk
      (ap (λ (q : List C). n.first ∷ q) (sym (read_rest_append none_of only (take 4 n.rest) (y ∷ r)) ∙ ap (read_rest none_of only) e) ∙ ek) (omega (arith, rest_kids (take 4 n.rest))) hk in
      let u : y.0 ≡ up = cc ss.1 in
      let v : read_rest only none_of r ≡ rs = cc ss.1 in
      record {
        left = record { slot = n.slot; first = n.first; rest = take 4 n.rest };
        right = record { slot = first_free fs; first = y.1; rest = r };
        halves = rw u;
        left_slot = refl;
        right_slot = refl;
        still_free = refl;
        seps_left = ss.0;
        seps_right = v;
        kids_left = ks.0;
        kids_right = ks.1;
      }

  pub split_lists : SplitInto n.slot fs ls up rs lk rk (split_over8 n fs)
  split_lists = rw (lt-leb (length n.rest) 8 big) (at_4 (drop 4 n.rest) (take-append-drop 4 n.rest) (simp length-drop (omega arith)))

-- the lists that the three cases speak of
module _ {X : Type 0} (l : List X) where
  -- what is put in behind index i stands behind index j
  put_above : (m : List X) (i j : ℕ) → j ≤ i → take i l ++ m ≡ take j l ++ (drop j (take i l) ++ m)
  put_above m i j h = ap (λ (q : List X). q ++ m) (sym (take-append-drop j (take i l))) ∙ rw (take-take j i l h) (append_assoc (take j l) (drop j (take i l)) m)

  -- what is put in before index i stands before index i + k
  put_below : (m : List X) (i j k : ℕ) → i + k ≡ j → m ++ drop i l ≡ (m ++ take k (drop i l)) ++ drop j l
  put_below m i j k h =
      let e : drop k (drop i l) ≡ drop j l = drop-drop k i l ∙ rw h in
      ap (λ (q : List X). m ++ q) (sym (take-append-drop k (drop i l))) ∙ rw e (simp append_assoc)

  part_length : (i k : ℕ) → i + k ≤ length l → length (take k (drop i l)) ≡ k
  part_length i k h = length-take-le k (drop i l) (simp length-drop (omega arith))

-- The full node holds child c at index `length l`, of which a set makes the two halves a and b around x.
module _ {A C : Type 0} (s : ℕ) (l : List (C × Sep A)) (c a b : C) (x : Sep A) (r : List (Sep A × C)) (fs : List ℕ) (full : length l + length r ≡ 8) where
  abbrev pub old_seps : List (Sep A)
  old_seps = seps (plug s l c r)

  abbrev pub old_kids : List C
  old_kids = kids (plug s l c r)

  abbrev pub Splits : List (Sep A) → Sep A → List (Sep A) → List C → List C → Type 0
  Splits ls up rs lk rk = SplitInto s fs ls up rs lk rk (split_over8 (plug s l a ((x, b) ∷ r)) fs)

  eight : length old_seps ≡ 8
  eight = ap length (plug_read only none_of s l c r) ∙ simp length-append (omega (arith, left_seps l, rest_seps r))

  nine : length old_kids ≡ 9
  nine = ap length (plug_read none_of only s l c r) ∙ simp length-append (omega (arith, left_kids l, rest_kids r))

  by_lists : (ls : List (Sep A)) (up : Sep A) (rs : List (Sep A)) (lk rk : List C)
      → take (length l) old_seps ++ x ∷ drop (length l) old_seps ≡ ls ++ up ∷ rs → length ls ≡ 4
      → take (length l) old_kids ++ a ∷ b ∷ drop (suc (length l)) old_kids ≡ lk ++ rk → length lk ≡ 5 → Splits ls up rs lk rk
  by_lists ls up rs lk rk es hs ek hk =
      let n : Node A C = plug s l a ((x, b) ∷ r) in
      subst (λ (i : ℕ). SplitInto i fs ls up rs lk rk (split_over8 n fs)) (plug_slot s l a ((x, b) ∷ r))
      (split_lists n fs ls up rs lk rk (omega (arith, plug_length s l a ((x, b) ∷ r))) (insert_seps s l c a b x r ∙ es) hs (insert_kids s l c a b x r ∙ ek) hk)

  -- "inserting at index 4 promotes the new separator"
  pub split_at_4 : length l ≡ 4 → Splits (take 4 old_seps) x (drop 4 old_seps) (take 4 old_kids ++ a ∷ []) (b ∷ drop 5 old_kids)
  split_at_4 h = by_lists (take 4 old_seps) x (drop 4 old_seps) (take 4 old_kids ++ a ∷ []) (b ∷ drop 5 old_kids)
      (rw h) (length-take-le 4 old_seps (omega (arith, eight)))
      (rw h (simp append_assoc)) (simp length-append (omega (arith, length-take-le 4 old_kids (omega (arith, nine)))))

  -- "below 4 promotes old index 3"
  pub split_below_4 : (i k : ℕ) → length l ≡ i → i + k ≡ 3
      → Splits (take i old_seps ++ x ∷ take k (drop i old_seps)) (get_or old_seps 3 x) (drop 4 old_seps) (take i old_kids ++ a ∷ b ∷ take k (drop (suc i) old_kids)) (drop 4 old_kids)
  split_below_4 i k h g =
      let S : List (Sep A) = old_seps in
      let K : List C = old_kids in
      let e = eight in
      let f = nine in
      let three : drop 3 S ≡ get_or S 3 x ∷ drop 4 S = drop-cons S 3 x (omega arith) in
      by_lists (take i S ++ x ∷ take k (drop i S)) (get_or S 3 x) (drop 4 S) (take i K ++ a ∷ b ∷ take k (drop (suc i) K)) (drop 4 K)
      (rw (h, ← three) (sym (append_assoc (take i S) (x ∷ []) (drop i S)) ∙ put_below S (take i S ++ (x ∷ [])) i 3 k g ∙ simp append_assoc))
      (simp length-append (omega (arith, length-take-le i S (omega arith), part_length S i k (omega arith))))
      (rw h (sym (append_assoc (take i K) (a ∷ b ∷ []) (drop (suc i) K)) ∙ put_below K (take i K ++ (a ∷ b ∷ [])) (suc i) 4 k (omega arith) ∙ simp append_assoc))
      (simp length-append (omega (arith, length-take-le i K (omega arith), part_length K (suc i) k (omega arith))))

  -- "above 4 old index 4"; at index 8 too, where b is the right half's last child
  pub split_above_4 : (i : ℕ) → length l ≡ i → 4 < i
      → Splits (take 4 old_seps) (get_or old_seps 4 x) (drop 5 (take i old_seps) ++ x ∷ drop i old_seps) (take 5 old_kids) (drop 5 (take i old_kids) ++ a ∷ b ∷ drop (suc i) old_kids)
  split_above_4 i h g =
      let S : List (Sep A) = old_seps in
      let K : List C = old_kids in
      let e = eight in
      let f = nine in
      let t = length-take-le i S (omega arith) in
      let four : drop 4 (take i S) ≡ get_or (take i S) 4 x ∷ drop 5 (take i S) = drop-cons (take i S) 4 x (omega arith) in
      let old : get_or (take i S) 4 x ≡ get_or S 4 x = get_or-take i S 4 x g in
      by_lists (take 4 S) (get_or S 4 x) (drop 5 (take i S) ++ x ∷ drop i S) (take 5 K) (drop 5 (take i K) ++ a ∷ b ∷ drop (suc i) K)
      (rw h (put_above S (x ∷ drop i S) i 4 (omega arith) ∙ rw (four, old))) (length-take-le 4 S (omega arith))
      (rw h (put_above K (a ∷ b ∷ drop (suc i) K) i 5 g)) (length-take-le 5 K (omega arith))
