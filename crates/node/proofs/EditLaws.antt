-- On the node of a chain every edit of specs/EditMirror.antt makes the node of the edited chain, unused places zero again;
-- and 01's three cases of a split. Assumes nothing.
use mathlib.Core.Path.{◌≡◌, refl, sym, ap, ◌∙◌}
use mathlib.Core.List.{List, [], ◌∷◌, ◌++◌, map, map-append, map-map, append_assoc}
use Prim.Native.Nat.{ℕ, zero, suc, ◌+◌, ◌*◌, ◌-◌, ◌^◌, ◌≤◌, ◌<◌}
use lib.ListN.{length, take, drop, get_or, set, replicate, length-append, length-take, length-drop, length-map, take-append-drop, get_or-map}
use lib.Seq.{take_at, drop_at, length-take-le, drop-cons, split_at, get_or_at, take_all}
use lib.Dec.{ltb}
use native.Mathlib.Omega.{arith}
use native.Mathlib.Numerals.{add-one}
use borrow.Author.Tests.{lt-ltb, le-ltb, le-leb, ltb-true, ltb-false}
use Rattle.word.specs.Pick.{pick_t, pick_f}
use Rattle.word.specs.Part.{part, over}
use Rattle.word.specs.Num.{zeros}
use Rattle.word.proofs.PartLaws.{over_seam, part_seam}
use Rattle.word.proofs.AtLaws.{fits_in_lem}
use Rattle.tree.specs.Map.{Sep}
use Rattle.tree.proofs.Cases.{by_bool}
use Rattle.node.specs.declared.Child.{Child}
use Rattle.node.specs.declared.Value.{Value}
use Rattle.node.specs.declared.Node.{Node}
use Rattle.node.specs.declared.Separator.{Separator}
use Rattle.node.specs.declared.edit.Halves.{Halves}
use Rattle.node.specs.Chain.{Step, longest_key, Fit, FitAll, padded, child_of, value_of, blocks, node_of}
use Rattle.node.specs.Edit.{node_from, separator_of, inserted, removed, insert_at, remove_at, change_at, replace_at, child_at, kids, push_front, pop_front, joined, step_at, parted, halves, halves_from}
use Rattle.node.specs.EditMirror.{sep_at, with_separator, with_child, opened, inserted_at, closed, removed_at, kept_to, rest_from, split_node_at, joined_with}
use Rattle.node.proofs.ChainLaws.{length_padded, get_or_padded, Short, blocks_append, length_blocks}
use Rattle.node.proofs.ArrayLaws.{drop_past, inserted_behind, removed_behind, inserted_left, inserted_right, over_right, take_own, padded_inserted, padded_removed, padded_take, padded_drop, padded_over, padded_put, padded_set, map_taken, map_dropped, map_inserted, map_removed, map_changed, map_unchanged, length_changed}

split_step : (r : List Step) (j : ℕ) → j < length r → r ≡ take j r ++ (step_at j r ∷ drop (suc j) r)
unfolding step_at
split_step r j h = split_at r j (record { key = []; val = 0 }, 0) h

-- ---- the three cases of a split

parted_at : (c : ℕ) (a : List Step) (m : Step) (b : List Step) → length a ≡ 4 → parted c (a ++ (m ∷ b)) ≡ record { left = (c, a); middle = m.0; right = (m.1, b) }
unfolding parted step_at
parted_at c a m b h =
    let d : drop 5 (a ++ (m ∷ b)) ≡ b = ap (drop 5) (sym (append_assoc a (m ∷ []) b)) ∙ drop_at (a ++ (m ∷ [])) b 5 (simp length-append (omega arith)) in
    rw (take_at a (m ∷ b) 4 h, get_or_at a m b (record { key = []; val = 0 }, 0) 4 h, d)

module _ (c : ℕ) (r : List Step) (x : Step) (full : length r ≡ 8) where
  -- "inserting at index 4 promotes the new separator"
  pub halves_at_4 : halves 4 x (c, r) ≡ record { left = (c, take 4 r); middle = x.0; right = (x.1, drop 4 r) }
  unfolding halves inserted
  halves_at_4 = parted_at c (take 4 r) x (drop 4 r) (length-take-le 4 r (omega arith))

  -- "below 4 promotes old index 3"
  pub halves_below_4 : (i : ℕ) → i < 4 → halves i x (c, r) ≡ record { left = (c, insert_at i x (take 3 r)); middle = (step_at 3 r).0; right = ((step_at 3 r).1, drop 4 r) }
  unfolding halves
  halves_below_4 i h =
      let three : length (take 3 r) ≡ 3 = length-take-le 3 r (omega arith) in
      ap (parted c) (ap (insert_at i x) (split_step r 3 (omega arith)) ∙ inserted_left (take 3 r) (step_at 3 r ∷ drop 4 r) i (x ∷ []) (omega arith))
      ∙ parted_at c (insert_at i x (take 3 r)) (step_at 3 r) (drop 4 r) (length_inserted three)
    where
      length_inserted : length (take 3 r) ≡ 3 → length (insert_at i x (take 3 r)) ≡ 4
      length_inserted three = unfold inserted in simp (length-append, length-take, length-drop) (omega arith)

  -- "above 4 old index 4"
  pub halves_above_4 : (i : ℕ) → 4 < i → halves i x (c, r) ≡ record { left = (c, take 4 r); middle = (step_at 4 r).0; right = ((step_at 4 r).1, insert_at (i - 5) x (drop 5 r)) }
  unfolding halves
  halves_above_4 i h =
      let four : length (take 4 r) ≡ 4 = length-take-le 4 r (omega arith) in
      ap (parted c) (ap (insert_at i x) (split_step r 4 (omega arith)) ∙ inserted_right (take 4 r) (step_at 4 r ∷ drop 5 r) i (x ∷ []) (suc (i - 5)) (omega arith))
      ∙ ap (λ (l : List Step). parted c (take 4 r ++ l)) (inserted_behind (step_at 4 r) (drop 5 r) (i - 5) (x ∷ []))
      ∙ parted_at c (take 4 r) (step_at 4 r) (insert_at (i - 5) x (drop 5 r)) four

  -- the slip "A full node's right half without the inserted child when insertion is at index 8": it is the last child there
  pub halves_at_8 : halves 8 x (c, r) ≡ record { left = (c, take 4 r); middle = (step_at 4 r).0; right = ((step_at 4 r).1, drop 5 r ++ (x ∷ [])) }
  halves_at_8 = halves_above_4 8 (omega arith) ∙ ap (λ (l : List Step). record { left = (c, take 4 r); middle = (step_at 4 r).0; right = ((step_at 4 r).1, l) }) at_end
    where
      at_end : insert_at 3 x (drop 5 r) ≡ drop 5 r ++ (x ∷ [])
      at_end = unfold inserted in rw (take_all 3 (drop 5 r) (simp length-drop (omega arith)), drop_past (drop 5 r) 3 (simp length-drop (omega arith)))

-- ---- the arrays of a chain

module _ {B : Type 0} (n : ℕ) (z : B) (f : Step → B) (r : List Step) (fit : length r ≤ n) where
  mapped_fit : length (map f r) ≤ n
  mapped_fit = rw (length-map r f) fit

  mapped_inserted : (i : ℕ) (x : Step) → i ≤ length r → length r < n → take n (insert_at i (f x) (padded n z (map f r))) ≡ padded n z (map f (insert_at i x r))
  mapped_inserted i x h g =
      let l = length-map r f in
      padded_inserted z n (map f r) mapped_fit i (f x ∷ []) (omega arith) (omega arith) ∙ ap (padded n z) (sym (map_inserted f i (x ∷ []) r))

  mapped_removed : (i : ℕ) → i < length r → take n (remove_at i (padded n z (map f r)) ++ (z ∷ [])) ≡ padded n z (map f (remove_at i r))
  mapped_removed i h =
      let l = length-map r f in
      padded_removed z n (map f r) mapped_fit i 1 (omega arith) ∙ ap (padded n z) (sym (map_removed f i 1 r))

  mapped_take : (m : ℕ) → m ≤ length r → padded n z (take m (padded n z (map f r))) ≡ padded n z (map f (take m r))
  mapped_take m h =
      let l = length-map r f in
      padded_take z n (map f r) mapped_fit m (omega arith) ∙ ap (padded n z) (sym (map_taken f m r))

  mapped_drop : (m : ℕ) → m ≤ length r → padded n z (drop m (padded n z (map f r))) ≡ padded n z (map f (drop m r))
  mapped_drop m h =
      let l = length-map r f in
      padded_drop z n (map f r) mapped_fit m (omega arith) ∙ ap (padded n z) (sym (map_dropped f m r))

  -- the array of another chain laid behind, of which only its own elements are taken
  mapped_over : (x : Step) (q : List Step) → length r + suc (length q) ≤ n
      → over (padded n z (map f r)) (length r) (f x ∷ take (length q) (padded n z (map f q))) ≡ padded n z (map f (r ++ (x ∷ q)))
  mapped_over x q h =
      let l = length-map r f in
      let k = length-map q f in
      rw (take_own z n (length q) (map f q) k) (padded_over z n (map f r) mapped_fit (f x ∷ map f q) (length r) l (omega arith) ∙ ap (padded n z) (sym (map-append f r (x ∷ q))))

  mapped_set : (i : ℕ) (g : Step → Step) (y : B) → i < length r → ((x : Step) → f (g x) ≡ y) → set (padded n z (map f r)) i y ≡ padded n z (map f (change_at i g r))
  mapped_set i g y h e = let l = length-map r f in padded_set z n (map f r) mapped_fit i y (omega arith) ∙ ap (padded n z) (sym (map_changed f i g y r e))

  mapped_same : (i : ℕ) (g : Step → Step) → ((x : Step) → f (g x) ≡ f x) → padded n z (map f r) ≡ padded n z (map f (change_at i g r))
  mapped_same i g e = ap (padded n z) (sym (map_unchanged f i g r e))

  get_or_array : (i : ℕ) → i < length r → get_or (padded n z (map f r)) i z ≡ f (step_at i r)
  get_or_array i h =
      get_or_padded n z (map f r) i
      ∙ ap (λ (l : List Step). get_or (map f l) i z) (split_step r i h)
      ∙ rw (map-append f (take i r) (step_at i r ∷ drop (suc i) r)) (get_or_at (map f (take i r)) (f (step_at i r)) (map f (drop (suc i) r)) z i (length-map (take i r) f ∙ length-take-le i r (omega arith)))

-- ---- the keys of a chain

short_take : (i : ℕ) (r : List Step) → Short r → Short (take i r)
short_take zero r s = tt
short_take (suc i) [] s = tt
short_take (suc i) (x ∷ r) s = (s.0, short_take i r s.1)

short_drop : (i : ℕ) (r : List Step) → Short r → Short (drop i r)
short_drop zero r s = s
short_drop (suc i) [] s = tt
short_drop (suc i) (x ∷ r) s = short_drop i r s.1

short_at : (r : List Step) → Short r → (i : ℕ) → i < length r → length (step_at i r).0.key ≤ longest_key
unfolding step_at
short_at [] s i h = absurd (omega arith)
short_at (x ∷ r) s zero h = s.0
short_at (x ∷ r) s (suc i) h = short_at r s.1 i (omega arith)

blocks_one : (x : Step) (r : List Step) → blocks (x ∷ r) ≡ padded 288 0 x.0.key ++ blocks r
unfolding blocks
blocks_one x r = refl

module _ (r : List Step) (short : Short r) (i : ℕ) (h : i ≤ length r) where
  blocks_cut : blocks r ≡ blocks (take i r) ++ blocks (drop i r)
  blocks_cut = ap blocks (sym (take-append-drop i r)) ∙ blocks_append (take i r) (drop i r)

  length_front : length (blocks (take i r)) ≡ 288 * i
  length_front = length_blocks (take i r) (short_take i r short) ∙ rw (length-take-le i r h)

  blocks_taken : blocks (take i r) ≡ take (288 * i) (blocks r)
  blocks_taken = sym (ap (take (288 * i)) blocks_cut ∙ take_at (blocks (take i r)) (blocks (drop i r)) (288 * i) length_front)

  blocks_dropped : blocks (drop i r) ≡ drop (288 * i) (blocks r)
  blocks_dropped = sym (ap (drop (288 * i)) blocks_cut ∙ drop_at (blocks (take i r)) (blocks (drop i r)) (288 * i) length_front)

blocks_inserted : (r : List Step) → Short r → (i : ℕ) → i ≤ length r → (x : Step) → blocks (insert_at i x r) ≡ inserted (288 * i) (padded 288 0 x.0.key) (blocks r)
unfolding inserted
blocks_inserted r s i h x = blocks_append (take i r) (x ∷ drop i r) ∙ rw (blocks_one x (drop i r), blocks_taken r s i h, blocks_dropped r s i h)

blocks_removed : (r : List Step) → Short r → (i : ℕ) → i < length r → blocks (remove_at i r) ≡ removed (288 * i) 288 (blocks r)
unfolding removed
blocks_removed r s i h =
    let e : 288 * i + 288 ≡ 288 * (i + 1) = omega arith in
    blocks_append (take i r) (drop (i + 1) r) ∙ rw (e, blocks_taken r s i (omega arith), blocks_dropped r s (i + 1) (omega arith))

blocks_replaced : (i : ℕ) (e : Sep ℕ) (r : List Step) → Short r → length e.key ≤ longest_key → i < length r
    → over (blocks r) (288 * i) (padded 288 0 e.key) ≡ blocks (change_at i (λ (x : Step). (e, x.1)) r)
blocks_replaced i e [] s k h = absurd (omega arith)
blocks_replaced zero e (x ∷ r) s k h =
    rw (blocks_one x r, blocks_one (e, x.1) r)
    (over_seam [] (padded 288 0 x.0.key) (padded 288 0 e.key) (blocks r) 0 refl (length_padded 288 0 x.0.key s.0 ∙ sym (length_padded 288 0 e.key k)))
blocks_replaced (suc i) e (x ∷ r) s k h =
    rw (blocks_one x r, blocks_one x (change_at i (λ (y : Step). (e, y.1)) r))
    (over_right (padded 288 0 x.0.key) (blocks r) (288 * suc i) (padded 288 0 e.key) (288 * i) (omega (arith, length_padded 288 0 x.0.key s.0))
    ∙ ap (λ (l : List ℕ). padded 288 0 x.0.key ++ l) (blocks_replaced i e r s.1 k (omega arith)))

blocks_same : (i : ℕ) (g : Step → Step) (r : List Step) → ((x : Step) → (g x).0.key ≡ x.0.key) → blocks (change_at i g r) ≡ blocks r
blocks_same i g [] e = refl
blocks_same zero g (x ∷ r) e = rw (blocks_one (g x) r, blocks_one x r, e x)
blocks_same (suc i) g (x ∷ r) e = rw (blocks_one x (change_at i g r), blocks_one x r, blocks_same i g r e)

pub length_less : (r : List Step) (i : ℕ) → i < length r → length (remove_at i r) ≡ length r - 1
unfolding removed
length_less r i h = simp (length-append, length-take, length-drop) (omega arith)

pub length_more : (r : List Step) (i : ℕ) (x : Step) → i ≤ length r → length (insert_at i x r) ≡ length r + 1
unfolding inserted
length_more r i x h = simp (length-append, length-take, length-drop) (omega arith)

-- ---- nodes

abbrev node : ℕ → List Child → List Value → List ℕ → List ℕ → Node
node n cs vs ls ks = record { count = n; children = cs; values = vs; lens = ls; keys = ks }

same_node : {m n : ℕ} {xs ys : List Child} {us vs : List Value} {hs ls js ks : List ℕ} → m ≡ n → xs ≡ ys → us ≡ vs → hs ≡ ls → js ≡ ks → node m xs us hs js ≡ node n ys vs ls ks
same_node p q r s t = cc

abbrev kid_of : Step → Child
kid_of x = child_of x.1

abbrev val_of : Step → Value
val_of x = value_of x.0.val

abbrev len_of : Step → ℕ
len_of x = length x.0.key

-- the zeros of the code and those of a padded list
zeros_are : (n : ℕ) → zeros n ≡ replicate n 0
unfolding zeros
zeros_are n = refl

module _ (c : ℕ) (r : List Step) (few : length r ≤ 8) where
  kids_fit : length (child_of c ∷ map kid_of r) ≤ 9
  kids_fit = omega (arith, length-map r kid_of)

  -- a child at an index
  pub node_child : (i : ℕ) → get_or (node_of c r).children i (child_of 0) ≡ child_of (get_or (kids (c, r)) i 0)
  unfolding node_of
  node_child i =
      get_or_padded 9 (child_of 0) (child_of c ∷ map kid_of r) i
      ∙ ap (λ (l : List Child). get_or (child_of c ∷ l) i (child_of 0)) (sym (map-map child_of (λ (x : Step). x.1) r))
      ∙ get_or-map child_of (kids (c, r)) i 0

  pub node_set_child : (i y : ℕ) → i ≤ length r → with_child (node_of c r) i (child_of y) ≡ node_from (child_at i y (c, r))
  unfolding with_child node_of child_at
  node_set_child zero y h = same_node refl (padded_set (child_of 0) 9 (child_of c ∷ map kid_of r) kids_fit 0 (child_of y) (omega arith)) refl refl refl
  node_set_child (suc i) y h =
      let g : Step → Step = λ x. (x.0, y) in
      same_node (sym (length_changed i g r))
      (padded_set (child_of 0) 9 (child_of c ∷ map kid_of r) kids_fit (suc i) (child_of y) (omega (arith, length-map r kid_of))
      ∙ ap (λ (l : List Child). padded 9 (child_of 0) (child_of c ∷ l)) (sym (map_changed kid_of i g (child_of y) r (λ x. refl))))
      (mapped_same 8 (value_of 0) val_of r few i g (λ x. refl))
      (mapped_same 8 0 len_of r few i g (λ x. refl))
      (ap (padded 2304 0) (sym (blocks_same i g r (λ x. refl))))

  module _ (short : Short r) where
    keys_length : length (blocks r) ≡ 288 * length r
    keys_length = length_blocks r short

    keys_fit : length (blocks r) ≤ 2304
    keys_fit = omega (arith, keys_length)

    key_block : (i : ℕ) → i < length r → part (padded 2304 0 (blocks r)) (288 * i) 288 ≡ padded 288 0 (step_at i r).0.key
    unfolding padded
    key_block i h =
        let x : Step = step_at i r in
        let k : List ℕ = padded 288 0 x.0.key in
        let q : List ℕ = blocks (drop (suc i) r) ++ replicate (2304 - length (blocks r)) 0 in
        let e : blocks r ≡ blocks (take i r) ++ (k ++ blocks (drop (suc i) r)) = ap blocks (split_step r i h) ∙ blocks_append (take i r) (x ∷ drop (suc i) r) ∙ rw (blocks_one x (drop (suc i) r)) in
        let w : blocks r ++ replicate (2304 - length (blocks r)) 0 ≡ blocks (take i r) ++ (k ++ q) = ap (λ (l : List ℕ). l ++ replicate (2304 - length (blocks r)) 0) e ∙ simp append_assoc in
        ap (λ (l : List ℕ). part l (288 * i) 288) w
        ∙ part_seam (blocks (take i r)) k q (288 * i) 288 (length_front r short i (omega arith)) (length_padded 288 0 x.0.key (short_at r short i h))

    -- a separator at an index
    pub node_separator : (i : ℕ) → i < length r → sep_at (node_of c r) i ≡ separator_of (step_at i r).0
    unfolding sep_at node_of
    node_separator i h =
        pick_t _ _ (lt-ltb i 8 (omega arith))
        ∙ rw (get_or_array 8 (value_of 0) val_of r few i h, get_or_array 8 0 len_of r few i h, key_block i h)

    pub node_set_separator : (i : ℕ) (e : Sep ℕ) → i < length r → length e.key ≤ longest_key → with_separator (node_of c r) i (separator_of e) ≡ node_of c (replace_at i e r)
    unfolding with_separator node_of replace_at
    node_set_separator i e h k =
        let g : Step → Step = λ x. (e, x.1) in
        pick_t _ _ (lt-ltb i 8 (omega arith))
        ∙ same_node (sym (length_changed i g r))
        (ap (λ (l : List Child). padded 9 (child_of 0) (child_of c ∷ l)) (sym (map_unchanged kid_of i g r (λ x. refl))))
        (mapped_set 8 (value_of 0) val_of r few i g (value_of e.val) h (λ x. refl))
        (mapped_set 8 0 len_of r few i g (length e.key) h (λ x. refl))
        (padded_put 0 2304 (blocks r) keys_fit (288 * i) (padded 288 0 e.key) (omega (arith, keys_length, length_padded 288 0 e.key k))
        ∙ ap (padded 2304 0) (blocks_replaced i e r short k h))

    keys_inserted : (i : ℕ) (x : Step) → length x.0.key ≤ longest_key → i ≤ length r → length r < 8
        → take 2304 (inserted (288 * i) (padded 288 0 x.0.key) (padded 2304 0 (blocks r))) ≡ padded 2304 0 (blocks (insert_at i x r))
    keys_inserted i x k h room =
        let l = length_padded 288 0 x.0.key k in
        let m = keys_length in
        padded_inserted 0 2304 (blocks r) keys_fit (288 * i) (padded 288 0 x.0.key) (omega arith) (omega arith) ∙ ap (padded 2304 0) (sym (blocks_inserted r short i h x))

    pub node_insert : (i : ℕ) (x : Step) → length x.0.key ≤ longest_key → i ≤ length r → length r < 8
        → inserted_at (node_of c r) i (separator_of x.0) (child_of x.1) ≡ node_of c (insert_at i x r)
    unfolding inserted_at opened node_of
    node_insert i x k h room =
        pick_t _ _ (le-leb i (length r) h) ∙ pick_t _ _ (lt-ltb (length r) 8 room)
        ∙ same_node (sym (length_more r i x h))
        (padded_inserted (child_of 0) 9 (child_of c ∷ map kid_of r) kids_fit (i + 1) (kid_of x ∷ []) (omega (arith, length-map r kid_of)) (omega (arith, length-map r kid_of))
        ∙ ap (padded 9 (child_of 0)) (rw add-one (inserted_behind (child_of c) (map kid_of r) i (kid_of x ∷ []) ∙ ap (λ (l : List Child). child_of c ∷ l) (sym (map_inserted kid_of i (x ∷ []) r)))))
        (mapped_inserted 8 (value_of 0) val_of r few i x h room)
        (mapped_inserted 8 0 len_of r few i x h room)
        (keys_inserted i x k h room)

    pub node_push_front : (y : ℕ) (e : Sep ℕ) → length e.key ≤ longest_key → length r < 8 → opened (node_of c r) 0 0 (separator_of e) (child_of y) ≡ node_from (push_front y e (c, r))
    unfolding opened node_of push_front inserted
    node_push_front y e k room =
        pick_t _ _ (lt-ltb (length r) 8 room)
        ∙ same_node (add-one (length r))
        (padded_inserted (child_of 0) 9 (child_of c ∷ map kid_of r) kids_fit 0 (child_of y ∷ []) (omega arith) (omega (arith, length-map r kid_of)))
        (mapped_inserted 8 (value_of 0) val_of r few 0 (e, c) (omega arith) room)
        (mapped_inserted 8 0 len_of r few 0 (e, c) (omega arith) room)
        (keys_inserted 0 (e, c) k (omega arith) room)

    keys_removed : (i : ℕ) → i < length r → take 2304 (removed (288 * i) 288 (padded 2304 0 (blocks r)) ++ zeros 288) ≡ padded 2304 0 (blocks (remove_at i r))
    keys_removed i h =
        let m = keys_length in
        rw (zeros_are 288) (padded_removed 0 2304 (blocks r) keys_fit (288 * i) 288 (omega arith) ∙ ap (padded 2304 0) (sym (blocks_removed r short i h)))

    pub node_remove : (i : ℕ) → i < length r → removed_at (node_of c r) i ≡ node_of c (remove_at i r)
    unfolding removed_at closed node_of
    node_remove i h =
        let l = length-map r kid_of in
        pick_t _ _ (lt-ltb i (length r) h) ∙ pick_t _ _ (lt-ltb 0 (length r) (omega arith))
        ∙ same_node (sym (length_less r i h))
        (padded_removed (child_of 0) 9 (child_of c ∷ map kid_of r) kids_fit (i + 1) 1 (omega arith)
        ∙ ap (padded 9 (child_of 0)) (rw (add-one i) (removed_behind (child_of c) (map kid_of r) i 1 ∙ ap (λ (l : List Child). child_of c ∷ l) (sym (map_removed kid_of i 1 r)))))
        (mapped_removed 8 (value_of 0) val_of r few i h)
        (mapped_removed 8 0 len_of r few i h)
        (keys_removed i h)

    pub node_keep : (m : ℕ) → m ≤ length r → kept_to (node_of c r) m ≡ node_of c (take m r)
    unfolding kept_to node_of
    node_keep m h =
        let l = length-map r kid_of in
        pick_t _ _ (le-leb m 8 (omega arith))
        ∙ same_node (sym (length-take-le m r h))
        (padded_take (child_of 0) 9 (child_of c ∷ map kid_of r) kids_fit (m + 1) (omega arith)
        ∙ ap (padded 9 (child_of 0)) (rw (add-one m) (ap (λ (l : List Child). child_of c ∷ l) (sym (map_taken kid_of m r)))))
        (mapped_take 8 (value_of 0) val_of r few m h)
        (mapped_take 8 0 len_of r few m h)
        (padded_take 0 2304 (blocks r) keys_fit (288 * m) (omega (arith, keys_length)) ∙ ap (padded 2304 0) (sym (blocks_taken r short m h)))

    pub node_rest : (j : ℕ) → j < length r → rest_from (node_of c r) (suc j) ≡ node_of (step_at j r).1 (drop (suc j) r)
    unfolding rest_from node_of
    node_rest j h =
        let l = length-map r kid_of in
        pick_t _ _ (le-leb (suc j) 8 (omega arith))
        ∙ same_node (sym (length-drop (suc j) r))
        (padded_drop (child_of 0) 9 (child_of c ∷ map kid_of r) kids_fit (suc j) (omega arith) ∙ ap (padded 9 (child_of 0)) (kids_from j h))
        (mapped_drop 8 (value_of 0) val_of r few (suc j) (omega arith))
        (mapped_drop 8 0 len_of r few (suc j) (omega arith))
        (padded_drop 0 2304 (blocks r) keys_fit (288 * suc j) (omega (arith, keys_length)) ∙ ap (padded 2304 0) (sym (blocks_dropped r short (suc j) (omega arith))))
      where
        kids_from : (j : ℕ) → j < length r → drop j (map kid_of r) ≡ kid_of (step_at j r) ∷ map kid_of (drop (suc j) r)
        kids_from j h = sym (map_dropped kid_of j r) ∙ unfold step_at in ap (map kid_of) (drop-cons r j (record { key = []; val = 0 }, 0) h)

pub node_pop_front : (c : ℕ) (r : List Step) → length r ≤ 8 → Short r → closed (node_of c r) 0 0 ≡ node_from (pop_front (c, r))
unfolding closed node_of pop_front removed
node_pop_front c [] few short = pick_f _ _ (le-ltb 0 0 (omega arith))
node_pop_front c (x ∷ r) few short =
    let l = length-map r kid_of in
    pick_t _ _ (lt-ltb 0 (suc (length r)) (omega arith))
    ∙ same_node (omega arith)
    (padded_removed (child_of 0) 9 (child_of c ∷ map kid_of (x ∷ r)) (kids_fit c (x ∷ r) few) 0 1 (omega arith))
    (mapped_removed 8 (value_of 0) val_of (x ∷ r) few 0 (omega arith))
    (mapped_removed 8 0 len_of (x ∷ r) few 0 (omega arith))
    (keys_removed c (x ∷ r) few short 0 (omega arith))

pub node_join : (c : ℕ) (r : List Step) (e : Sep ℕ) (d : ℕ) (q : List Step) → length r + length q ≤ 7 → Short r → length e.key ≤ longest_key → Short q
    → joined_with (node_of c r) (separator_of e) (node_of d q) ≡ node_from (joined (c, r) e (d, q))
unfolding joined_with node_of joined
node_join c r e d q fit sr k sq =
    let lr = length-map r kid_of in
    let lq = length-map q kid_of in
    let nr : length r ≤ 8 = omega arith in
    let br = length_blocks r sr in
    let bq = length_blocks q sq in
    let kk = length_padded 288 0 e.key k in
    let lk : length (padded 288 0 e.key ++ blocks q) ≡ 288 + 288 * length q = simp length-append (omega arith) in
    pick_t _ _ (fits_in_lem 7 (length r) (length q) fit)
    ∙ same_node (simp length-append (omega arith))
    (rw (take_own (child_of 0) 9 (length q + 1) (child_of d ∷ map kid_of q) (omega arith))
    (padded_over (child_of 0) 9 (child_of c ∷ map kid_of r) (kids_fit c r nr) (child_of d ∷ map kid_of q) (length r + 1) (omega arith) (omega arith)
    ∙ ap (λ (l : List Child). padded 9 (child_of 0) (child_of c ∷ l)) (sym (map-append kid_of r ((e, d) ∷ q)))))
    (mapped_over 8 (value_of 0) val_of r nr (e, d) q (omega arith))
    (mapped_over 8 0 len_of r nr (e, d) q (omega arith))
    (rw (take_own 0 2304 (288 * length q) (blocks q) bq)
    (padded_over 0 2304 (blocks r) (omega arith) (padded 288 0 e.key ++ blocks q) (288 * length r) br (omega arith)
    ∙ ap (padded 2304 0) (sym (blocks_append r ((e, d) ∷ q) ∙ rw (blocks_one (e, d) q)))))

same_halves : {l l' r r' : Node} {m m' : Separator} → l ≡ l' → m ≡ m' → r ≡ r' → ◌≡◌ {A = Halves} (record { left = l; middle = m; right = r }) (record { left = l'; middle = m'; right = r' })
same_halves p q s = cc

-- "A node holding 8 splits"
module _ (c : ℕ) (r : List Step) (x : Step) (full : length r ≡ 8) (short : Short r) (k : length x.0.key ≤ longest_key) where
  few : length r ≤ 8
  few = omega arith

  split_below : (i : ℕ) → i < 4 → split_node_at (node_of c r) i (separator_of x.0) (child_of x.1) ≡ halves_from (halves i x (c, r))
  unfolding split_node_at
  split_below i h =
      pick_t _ _ (lt-ltb i 4 h)
      ∙ same_halves
      (ap (λ (n : Node). inserted_at n i (separator_of x.0) (child_of x.1)) (node_keep c r few short 3 (omega arith))
      ∙ node_insert c (take 3 r) (omega (arith, length-take-le 3 r (omega arith))) (short_take 3 r short) i x k (omega (arith, length-take-le 3 r (omega arith))) (omega (arith, length-take-le 3 r (omega arith))))
      (node_separator c r few short 3 (omega arith))
      (node_rest c r few short 3 (omega arith))
      ∙ sym (ap halves_from (halves_below_4 c r x full i h))

  split_above : (i : ℕ) → 4 < i → i ≤ 8 → split_node_at (node_of c r) i (separator_of x.0) (child_of x.1) ≡ halves_from (halves i x (c, r))
  unfolding split_node_at
  split_above i h g =
      pick_f _ _ (le-ltb i 4 (omega arith)) ∙ pick_t _ _ (lt-ltb 4 i h)
      ∙ same_halves
      (node_keep c r few short 4 (omega arith))
      (node_separator c r few short 4 (omega arith))
      (ap (λ (n : Node). inserted_at n (i - 5) (separator_of x.0) (child_of x.1)) (node_rest c r few short 4 (omega arith))
      ∙ node_insert (step_at 4 r).1 (drop 5 r) (omega (arith, length-drop 5 r)) (short_drop 5 r short) (i - 5) x k (omega (arith, length-drop 5 r)) (omega (arith, length-drop 5 r)))
      ∙ sym (ap halves_from (halves_above_4 c r x full i h))

  split_middle : split_node_at (node_of c r) 4 (separator_of x.0) (child_of x.1) ≡ halves_from (halves 4 x (c, r))
  unfolding split_node_at child_at
  split_middle =
      pick_f _ _ (le-ltb 4 4 (omega arith)) ∙ pick_f _ _ (le-ltb 4 4 (omega arith))
      ∙ same_halves
      (node_keep c r few short 4 (omega arith))
      refl
      (ap (λ (n : Node). with_child n 0 (child_of x.1)) (node_rest c r few short 3 (omega arith))
      ∙ node_set_child (step_at 3 r).1 (drop 4 r) (omega (arith, length-drop 4 r)) 0 x.1 (omega arith))
      ∙ sym (ap halves_from (halves_at_4 c r x full))

  pub node_split : (i : ℕ) → i ≤ 8 → split_node_at (node_of c r) i (separator_of x.0) (child_of x.1) ≡ halves_from (halves i x (c, r))
  node_split i h =
      by_bool (ltb i 4) (λ t. split_below i (ltb-true i 4 t))
      (λ f. by_bool (ltb 4 i) (λ t. split_above i (ltb-true 4 i t) h)
      (λ g. let e : i ≡ 4 = omega (arith, ltb-false i 4 f, ltb-false 4 i g) in rw e split_middle))

-- ---- what can be written can be written after an edit

pub fit_append : (p q : List Step) → FitAll p → FitAll q → FitAll (p ++ q)
fit_append [] q f g = g
fit_append (x ∷ p) q f g = (f.0, f.1, fit_append p q f.2 g)

pub fit_take : (i : ℕ) (r : List Step) → FitAll r → FitAll (take i r)
fit_take zero r f = tt
fit_take (suc i) [] f = tt
fit_take (suc i) (x ∷ r) f = (f.0, f.1, fit_take i r f.2)

pub fit_drop : (i : ℕ) (r : List Step) → FitAll r → FitAll (drop i r)
fit_drop zero r f = f
fit_drop (suc i) [] f = tt
fit_drop (suc i) (x ∷ r) f = fit_drop i r f.2

pub fit_insert : (i : ℕ) (x : Step) (r : List Step) → Fit x.0 → x.1 < 2 ^ 64 → FitAll r → FitAll (insert_at i x r)
unfolding inserted
fit_insert i x r e c f = fit_append (take i r) (x ∷ drop i r) (fit_take i r f) (e, c, fit_drop i r f)

pub fit_change : (i : ℕ) (g : Step → Step) (r : List Step) → ((x : Step) → Fit x.0 → x.1 < 2 ^ 64 → Fit (g x).0 × ((g x).1 < 2 ^ 64)) → FitAll r → FitAll (change_at i g r)
fit_change i g [] k f = tt
fit_change zero g (x ∷ r) k f = let y = k x f.0 f.1 in (y.0, y.1, f.2)
fit_change (suc i) g (x ∷ r) k f = (f.0, f.1, fit_change i g r k f.2)
