-- The ways through the edits of src/edit.rt, in the words of specs/EditMirror.antt: for the proofs of its functions.
-- Assumes nothing.
use mathlib.Core.Path.{◌≡◌, refl, sym, ap, ◌∙◌}
use mathlib.Core.List.{List, [], ◌∷◌, ◌++◌, map}
use mathlib.Core.Bool.{Bool, true, false}
use Prim.Native.Nat.{ℕ, zero, suc, min, ◌+◌, ◌*◌, ◌-◌, ◌≤◌, ◌<◌}
use lib.ListN.{length, take, drop, get_or, set, replicate, length-take, length-map, length-replicate, get_or-eq_default}
use lib.Seq.{length-take-le, set_out}
use borrow.Rule.Slice.PartMut.{put_mid}
use native.Mathlib.Omega.{arith}
use borrow.Author.Tests.{lt-ltb, le-ltb, le-leb, lt-leb}
use Rattle.word.specs.Pick.{pick_t, pick_f}
use Rattle.word.specs.Part.{part, over}
use Rattle.word.specs.Num.{zeros}
use Rattle.word.specs.At.{fits_in, copy_at}
use Rattle.word.proofs.PartLaws.{over_beside, set_over}
use Rattle.word.proofs.AtLaws.{fitted, copy_at_in}
use Rattle.node.specs.declared.Child.{Child}
use Rattle.node.specs.declared.Value.{Value}
use Rattle.node.specs.declared.Node.{Node}
use Rattle.node.specs.declared.Separator.{Separator}
use Rattle.node.specs.Chain.{padded, child_of, value_of, blocks, node_of}
use Rattle.node.specs.Edit.{inserted, removed, insert_at, remove_at, separator_of}
use Rattle.node.specs.EditMirror.{sep_at, with_separator, with_child, opened, inserted_at, closed, removed_at, kept_to, rest_from, split_node_at, joined_with}
use Rattle.node.proofs.ArrayLaws.{put_over, open_part, close_part, insert_past, remove_past, over_zeros, kept_array, rest_array}

-- ---- key bytes

module _ (s : List ℕ) (i : ℕ) (l : length s ≡ 2304) where
  -- all behind the blocks before the i-th
  abbrev pub behind : List ℕ
  behind = take (2304 - 288 * i) (drop (288 * i) s)

  pub opened_keys : (k : List ℕ) {c : List ℕ} → i < 8 → c ≡ take (length behind) (k ++ behind) → put_mid (288 * i) (2304 - 288 * i) s c ≡ take 2304 (inserted (288 * i) k s)
  opened_keys k h e = rw l at (open_part s (288 * i) (2304 - 288 * i) (omega arith) k e)

  pub opened_past : (k : List ℕ) → 8 ≤ i → s ≡ take 2304 (inserted (288 * i) k s)
  opened_past k h = insert_past s (288 * i) k 2304 l (omega arith)

  pub closed_keys : {c : List ℕ} → i < 8 → c ≡ drop (length {A = ℕ} (replicate 288 0)) behind ++ replicate 288 0 → put_mid (288 * i) (2304 - 288 * i) s c ≡ take 2304 (removed (288 * i) 288 s ++ zeros 288)
  unfolding zeros
  closed_keys h e = rw l at (close_part s (288 * i) (2304 - 288 * i) (omega arith) 288 (replicate 288 0) (omega arith) (length-replicate {A = ℕ} 288 0) e)

  pub closed_past : 8 ≤ i → s ≡ take 2304 (removed (288 * i) 288 s ++ zeros 288)
  closed_past h = remove_past s (288 * i) 288 (zeros 288) 2304 l (omega arith)

-- a part, and zeros behind it
pub keys_part : (s : List ℕ) (from m n : ℕ) {o : List ℕ} → from + m ≤ length s → m ≤ n → o ≡ copy_at (zeros n) 0 s from m → o ≡ padded n 0 (part s from m)
unfolding zeros
keys_part s from m n h g e = e ∙ copy_at_in (replicate n 0) 0 s from m (omega (arith, length-replicate {A = ℕ} n 0)) h ∙ over_zeros 0 n (part s from m)

pub copy_to_zeros : (n : ℕ) (s : List ℕ) (from m : ℕ) {o : List ℕ} → o ≡ copy_at (replicate n 0) 0 s from m → o ≡ copy_at (zeros n) 0 s from m
unfolding zeros
copy_to_zeros n s from m e = e

-- ---- nodes

-- what owning an array of structs tells of its list, as `length_unmapped` does of an array of numbers
pub length_under : (X Y : Type 0) (f : X → Y) (l : List X) (n : ℕ) → length (map f l) ≡ n → length l ≡ n
length_under X Y f l n e = sym (length-map l f) ∙ e

take_min : {A : Type 0} (m : ℕ) (k : List A) → take (length (take m k)) k ≡ take m k
take_min zero k = refl
take_min (suc m) [] = refl
take_min (suc m) (x ∷ k) = ap (λ (l : List _). x ∷ l) (take_min m k)

cut_front : (k : List ℕ) (n m : ℕ) → n ≡ length (take m k) → part k 0 n ≡ take m k
unfolding part
cut_front k n m e = rw e (take_min m k)

pub new_separator : (k : List ℕ) (v : Value) {n : ℕ} {b : List ℕ} → n ≡ min (length k) 288 → b ≡ copy_at (replicate 288 0) 0 k 0 n
    → record { value = v; len = n; key = b } ≡ separator_of (record { key = take 288 k; val = v.0 })
new_separator k v {n} {b} e f =
    let l : n ≡ length (take 288 k) = omega (arith, length-take 288 k) in
    let t : part k 0 n ≡ take 288 k = cut_front k n 288 l in
    let q : b ≡ padded 288 0 (take 288 k) = f ∙ copy_at_in (replicate 288 0) 0 k 0 n (omega (arith, length-replicate {A = ℕ} 288 0)) (omega arith) ∙ over_zeros 0 288 (part k 0 n) ∙ rw t in
    rw (q, l)

pub empty_node : record { count = 0; children = replicate 9 (child_of 0); values = replicate 8 (value_of 0); lens = replicate 8 0; keys = replicate 2304 0 } ≡ node_of 0 []
unfolding node_of padded blocks
empty_node = refl

module _ (n : Node) where
  pub separator_1 : (i : ℕ) → 7 < i → record { value = value_of 0; len = 0; key = replicate 288 0 } ≡ sep_at n i
  unfolding sep_at padded
  separator_1 i h = sym (pick_f _ _ (le-ltb i 8 h))

  pub separator_2 : (i : ℕ) {k : List ℕ} → i ≤ 7 → k ≡ take (288 * i + 288 - 288 * i) (drop (288 * i) n.keys)
      → record { value = get_or n.values i (value_of 0); len = get_or n.lens i 0; key = k } ≡ sep_at n i
  unfolding sep_at part
  separator_2 i h e = let w : 288 * i + 288 - 288 * i ≡ 288 = omega arith in rw (e, w) (sym (pick_t _ _ (lt-ltb i 8 (omega arith))))

  pub no_child : (i : ℕ) → length n.children ≡ 9 → 8 < i → child_of 0 ≡ get_or n.children i (child_of 0)
  no_child i l h = let g : length n.children ≤ i = omega arith in sym (get_or-eq_default n.children (child_of 0) g)

  pub child_1 : (i : ℕ) (c : Child) → record { count = n.count; children = set n.children i c; values = n.values; lens = n.lens; keys = n.keys } ≡ with_child n i c
  unfolding with_child
  child_1 i c = refl

  pub child_2 : (i : ℕ) (c : Child) → length n.children ≡ 9 → 9 ≤ i → n ≡ with_child n i c
  unfolding with_child
  child_2 i c l h = rw (set_out n.children i c (omega arith))

  pub set_separator_1 : (i : ℕ) (e : Separator) {k : List ℕ} → length e.key ≡ 288 → i < 8 → k ≡ e.key
      → record { count = n.count; children = n.children; values = set n.values i e.value; lens = set n.lens i e.len; keys = put_mid (288 * i) (288 * i + 288 - 288 * i) n.keys k } ≡ with_separator n i e
  unfolding with_separator
  set_separator_1 i e {k} l h p =
      let q : put_mid (288 * i) (288 * i + 288 - 288 * i) n.keys k ≡ over n.keys (288 * i) e.key = rw p (put_over n.keys (288 * i) (288 * i + 288 - 288 * i) e.key (omega arith)) in
      rw q (sym (pick_t _ _ (lt-ltb i 8 h)))

  pub set_separator_2 : (i : ℕ) (e : Separator) → 8 ≤ i → n ≡ with_separator n i e
  unfolding with_separator
  set_separator_2 i e h = sym (pick_f _ _ (le-ltb i 8 h))

  -- the arrays' lengths
  abbrev pub Sized : Type 0
  Sized = (length n.children ≡ 9) × (length n.values ≡ 8) × (length n.lens ≡ 8) × (length n.keys ≡ 2304)

  module _ (i j : ℕ) (e : Separator) (c : Child) where
    pub shift_1 : 8 ≤ n.count → n ≡ opened n i j e c
    unfolding opened
    shift_1 h = sym (pick_f _ _ (le-ltb n.count 8 h))

    pub shift_2 : {cs : List Child} {vs : List Value} {ls ks : List ℕ} → Sized → n.count < 8 → cs ≡ take (length n.children) (insert_at j c n.children) → vs ≡ take (length n.values) (insert_at i e.value n.values)
        → ls ≡ take (length n.lens) (insert_at i e.len n.lens) → ks ≡ take 2304 (inserted (288 * i) e.key n.keys)
        → record { count = n.count + 1; children = cs; values = vs; lens = ls; keys = ks } ≡ opened n i j e c
    unfolding opened
    shift_2 z h p q r s = rw (p, q, r, s, z.0, z.1, z.2) (sym (pick_t _ _ (lt-ltb n.count 8 h)))

  module _ (i : ℕ) (e : Separator) (c : Child) where
    pub insert_1 : n.count < i → n ≡ inserted_at n i e c
    unfolding inserted_at
    insert_1 h = sym (pick_f _ _ (lt-leb i n.count h))

    pub insert_2 : i ≤ n.count → 7 < n.count → n ≡ inserted_at n i e c
    unfolding inserted_at
    insert_2 h g = shift_1 i (i + 1) e c g ∙ sym (pick_t _ _ (le-leb i n.count h))

    pub insert_3 : {m : Node} → i ≤ n.count → m ≡ opened n i (i + 1) e c → m ≡ inserted_at n i e c
    unfolding inserted_at
    insert_3 h p = p ∙ sym (pick_t _ _ (le-leb i n.count h))

  module _ (i j : ℕ) where
    pub remove_1 : n.count ≤ 0 → n ≡ closed n i j
    unfolding closed
    remove_1 h = sym (pick_f _ _ (le-ltb 0 n.count h))

    pub remove_2 : {cs : List Child} {vs : List Value} {ls ks : List ℕ} → Sized → 0 < n.count → cs ≡ take (length n.children) (remove_at j n.children ++ (child_of 0 ∷ []))
        → vs ≡ take (length n.values) (remove_at i n.values ++ (value_of 0 ∷ []))
        → ls ≡ take (length n.lens) (remove_at i n.lens ++ (0 ∷ [])) → ks ≡ take 2304 (removed (288 * i) 288 n.keys ++ zeros 288)
        → record { count = n.count - 1; children = cs; values = vs; lens = ls; keys = ks } ≡ closed n i j
    unfolding closed
    remove_2 z h p q r s = rw (p, q, r, s, z.0, z.1, z.2) (sym (pick_t _ _ (lt-ltb 0 n.count h)))

  pub remove_at_1 : (i : ℕ) → n.count ≤ i → n ≡ removed_at n i
  unfolding removed_at
  remove_at_1 i h = sym (pick_f _ _ (le-ltb i n.count h))

  pub remove_at_2 : (i : ℕ) {m : Node} → i < n.count → m ≡ closed n i (i + 1) → m ≡ removed_at n i
  unfolding removed_at
  remove_at_2 i h p = p ∙ sym (pick_t _ _ (lt-ltb i n.count h))

  pub keep_1 : (m : ℕ) → 8 < m → n ≡ kept_to n m
  unfolding kept_to
  keep_1 m h = sym (pick_f _ _ (lt-leb m 8 h))

  pub rest_1 : (m : ℕ) → 8 < m → n ≡ rest_from n m
  unfolding rest_from
  rest_1 m h = sym (pick_f _ _ (lt-leb m 8 h))

  module _ (z : Sized) (m : ℕ) (h : m ≤ 8) where
    pub keep_2 : {cs : List Child} {vs : List Value} {ls ks : List ℕ} → cs ≡ replicate (length (take (length n.children - (m + 1)) (drop (m + 1) n.children))) (child_of 0) → vs ≡ replicate (length (take (length n.values - m) (drop m n.values))) (value_of 0)
        → ls ≡ replicate (length (take (length n.lens - m) (drop m n.lens))) 0 → ks ≡ replicate (length (take (length n.keys - 288 * m) (drop (288 * m) n.keys))) 0
        → record {
          count = m;
          children = put_mid (m + 1) (length n.children - (m + 1)) n.children cs;
          values = put_mid m (length n.values - m) n.values vs;
          lens = put_mid m (length n.lens - m) n.lens ls;
          keys = put_mid (288 * m) (length n.keys - 288 * m) n.keys ks;
        }
        ≡ kept_to n m
    unfolding kept_to
    keep_2 p q r s =
        let a = z.0 in
        let b = z.1 in
        let d = z.2 in
        let k = z.3 in
        rw (kept_array (child_of 0) 9 (m + 1) (length n.children - (m + 1)) n.children a (omega arith) p, kept_array (value_of 0) 8 m (length n.values - m) n.values b (omega arith) q, kept_array 0 8 m (length n.lens - m) n.lens d (omega arith) r, kept_array 0 2304 (288 * m) (length n.keys - 288 * m) n.keys k (omega arith) s)
        (sym (pick_t _ _ (le-leb m 8 h)))

    pub rest_2 : {cs : List Child} {vs : List Value} {ls ks : List ℕ} {k : ℕ} → cs ≡ drop (length (take m (replicate 9 (child_of 0)))) n.children ++ take m (replicate 9 (child_of 0))
        → vs ≡ drop (length (take m (replicate 8 (value_of 0)))) n.values ++ take m (replicate 8 (value_of 0)) → ls ≡ drop (length {A = ℕ} (take m (replicate 8 0))) n.lens ++ take m (replicate 8 0)
        → ks ≡ drop (length {A = ℕ} (take (288 * m) (replicate 2304 0))) n.keys ++ take (288 * m) (replicate 2304 0) → k ≡ n.count - m
        → record { count = k; children = cs; values = vs; lens = ls; keys = ks } ≡ rest_from n m
    unfolding rest_from
    rest_2 p q r s t =
        rw (rest_array (child_of 0) 9 m n.children z.0 (omega arith) p, rest_array (value_of 0) 8 m n.values z.1 h q, rest_array 0 8 m n.lens z.2 h r, rest_array 0 2304 (288 * m) n.keys z.3 (omega arith) s, t)
        (sym (pick_t _ _ (le-leb m 8 h)))

  module _ (i : ℕ) (e : Separator) (c : Child) {k l r : Node} where
    pub split_1 : {m : Separator} → i < 4 → k ≡ kept_to n 3 → l ≡ inserted_at k i e c → m ≡ sep_at n 3 → r ≡ rest_from n 4 → record { left = l; middle = m; right = r } ≡ split_node_at n i e c
    unfolding split_node_at
    split_1 h p q s t = rw (q, p, s, t) (sym (pick_t _ _ (lt-ltb i 4 h)))

    pub split_2 : {m : Separator} → 4 ≤ i → 4 < i → l ≡ kept_to n 4 → m ≡ sep_at n 4 → k ≡ rest_from n 5 → r ≡ inserted_at k (i - 5) e c → record { left = l; middle = m; right = r } ≡ split_node_at n i e c
    unfolding split_node_at
    split_2 g h p s q t = rw (p, t, q, s) (sym (pick_f _ _ (le-ltb i 4 g) ∙ pick_t _ _ (lt-ltb 4 i h)))

    pub split_3 : 4 ≤ i → i ≤ 4 → l ≡ kept_to n 4 → k ≡ rest_from n 4 → r ≡ with_child k 0 c → record { left = l; middle = e; right = r } ≡ split_node_at n i e c
    unfolding split_node_at
    split_3 g h p q t = rw (p, t, q) (sym (pick_f _ _ (le-ltb i 4 g) ∙ pick_f _ _ (le-ltb 4 i h)))

pub join_1 : (a b : Node) (e : Separator) {f : Bool} → f ≡ fits_in 7 a.count b.count → f ≡ false → a ≡ joined_with a e b
unfolding joined_with
join_1 a b e p t = sym (pick_f _ _ (sym p ∙ t))

-- an element stored at m, and others behind it
joined_array : {A : Type 0} (a b : List A) (x : A) (m n k : ℕ) {c : List A} → m + n < length a → n ≤ length b → k ≡ n → c ≡ take n b → put_mid (m + 1) k (set a m x) c ≡ over a m (x ∷ take n b)
joined_array a b x m n k {c} h g e p =
    let l : length (take n b) ≡ n = length-take-le n b g in
    rw (p, set_over a m x (omega arith))
    (put_over (over a m (x ∷ [])) (m + 1) k (take n b) (omega arith) ∙ over_beside a m (x ∷ []) (take n b) (omega arith))

-- a block of key bytes at `at`, and others behind it
joined_keys : (a b d : List ℕ) (at w n j k : ℕ) {c e : List ℕ} → length b ≡ w → at + w + n ≤ length a → n ≤ length d → j ≡ w → k ≡ n → c ≡ b → e ≡ take n d
    → put_mid (at + w) k (put_mid at j a c) e ≡ over a at (b ++ take n d)
joined_keys a b d at w n j k l h g ej ek p q =
    let t : length (take n d) ≡ n = length-take-le n d g in
    let f : at + w ≡ at + length b = omega arith in
    rw (p, q, put_over a at j b (omega arith))
    (put_over (over a at b) (at + w) k (take n d) (omega arith) ∙ rw f (over_beside a at b (take n d) (omega arith)))

pub join_2 : (a b : Node) (e : Separator) → Sized a → Sized b → length e.key ≡ 288 → {f : Bool} → f ≡ fits_in 7 a.count b.count → f ≡ true
    → {cs : List Child} {vs : List Value} {ls js ks : List ℕ} → cs ≡ take (b.count + 1) b.children → vs ≡ take b.count b.values → ls ≡ take b.count b.lens → js ≡ e.key → ks ≡ take (288 * b.count) b.keys
    → record {
      count = a.count + b.count + 1;
      children = put_mid (a.count + 1) (a.count + b.count + 2 - (a.count + 1)) a.children cs;
      values = put_mid (a.count + 1) (a.count + b.count + 1 - (a.count + 1)) (set a.values a.count e.value) vs;
      lens = put_mid (a.count + 1) (a.count + b.count + 1 - (a.count + 1)) (set a.lens a.count e.len) ls;
      keys = put_mid (288 * a.count + 288) (288 * (a.count + b.count + 1) - (288 * a.count + 288)) (put_mid (288 * a.count) (288 * a.count + 288 - 288 * a.count) a.keys js) ks;
    }
    ≡ joined_with a e b
unfolding joined_with
join_2 a b e za zb lk {f} p t {cs} {vs} {ls} {js} {ks} u v w x y =
    let h = fitted 7 a.count b.count p t in
    let a0 = za.0 in
    let a1 = za.1 in
    let a2 = za.2 in
    let a3 = za.3 in
    let b0 = zb.0 in
    let b1 = zb.1 in
    let b2 = zb.2 in
    let b3 = zb.3 in
    let lc : length (take (b.count + 1) b.children) ≡ b.count + 1 = length-take-le (b.count + 1) b.children (omega arith) in
    let ec : put_mid (a.count + 1) (a.count + b.count + 2 - (a.count + 1)) a.children cs ≡ over a.children (a.count + 1) (take (b.count + 1) b.children) = rw u (put_over a.children (a.count + 1) (a.count + b.count + 2 - (a.count + 1)) (take (b.count + 1) b.children) (omega arith)) in
    let ev = joined_array a.values b.values e.value a.count b.count (a.count + b.count + 1 - (a.count + 1)) (omega arith) (omega arith) (omega arith) v in
    let el = joined_array a.lens b.lens e.len a.count b.count (a.count + b.count + 1 - (a.count + 1)) (omega arith) (omega arith) (omega arith) w in
    let ek = joined_keys a.keys e.key b.keys (288 * a.count) 288 (288 * b.count) (288 * a.count + 288 - 288 * a.count) (288 * (a.count + b.count + 1) - (288 * a.count + 288)) lk (omega arith) (omega arith) (omega arith) (omega arith) x y in
    rw (ec, ev, el, ek) (sym (pick_t _ _ (sym p ∙ t)))
