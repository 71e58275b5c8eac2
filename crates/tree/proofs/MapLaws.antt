-- Laws of the map: where a change of one key acts in a list that is put together, what it leaves in order, and that a map is
-- told by its keys' values. Assumes nothing.
use mathlib.Core.Path.{◌≡◌, refl, sym, ◌∙◌}
use mathlib.Core.List.{List, [], ◌∷◌, ◌++◌, append_assoc, append-nil}
use mathlib.Core.Bool.{cond}
use mathlib.Core.Option.{Option, none, some}
use lib.Dec.{compare_is_eq}
use Prim.Native.Nat.{Ordering}
use Rattle.word.specs.Key.{Key, cmp, Lt}
use Rattle.tree.specs.Map.{Sep, entry_of, replace, get, AllBelow, AllAbove, Rising}
use Rattle.tree.specs.Batch.{change}
use Rattle.word.proofs.KeyOrder.{cmp_refl, cmp_eq, lt_trans, gt_lt, lt_gt}
use Rattle.tree.proofs.Cases.{by_pick, by_order}

module _ {A : Type 0} where
  -- the next key is above k
  abbrev pub HeadAbove : Key → List (Sep A) → Type 0
  HeadAbove k [] = Unit {0}
  HeadAbove k (s ∷ l) = Lt k s.key

  -- ---- a change between smaller and larger keys

  pub replace_left : (k : Key) (new xs ys : List (Sep A)) → AllBelow xs k → replace k new (xs ++ ys) ≡ xs ++ replace k new ys
  replace_left k new [] ys h = refl
  replace_left k new (x ∷ xs) ys h = rw (lt_gt x.key k h.0, replace_left k new xs ys h.1)

  pub replace_right : (k : Key) (new ys zs : List (Sep A)) → HeadAbove k zs → replace k new (ys ++ zs) ≡ replace k new ys ++ zs
  replace_right k new [] [] h = sym (append-nil new)
  replace_right k new [] (z ∷ zs) h = rw h
  replace_right k new (y ∷ ys) zs h = by_order (cmp k y.key) (λ p. rw p (simp append_assoc)) (λ p. rw p (simp append_assoc)) (λ p. rw (p, replace_right k new ys zs h))

  pub replace_mid : (k : Key) (new xs ys zs : List (Sep A)) → AllBelow xs k → HeadAbove k zs → replace k new (xs ++ (ys ++ zs)) ≡ xs ++ (replace k new ys ++ zs)
  replace_mid k new xs ys zs h g = rw (replace_left k new xs (ys ++ zs) h, replace_right k new ys zs g)

  -- ---- parts of a rising list

  above_left : (k : Key) (xs ys : List (Sep A)) → AllAbove k (xs ++ ys) → AllAbove k xs
  above_left k [] ys h = tt
  above_left k (x ∷ xs) ys h = (h.0, above_left k xs ys h.1)

  above_right : (k : Key) (xs ys : List (Sep A)) → AllAbove k (xs ++ ys) → AllAbove k ys
  above_right k [] ys h = h
  above_right k (x ∷ xs) ys h = above_right k xs ys h.1

  pub rising_left : (xs ys : List (Sep A)) → Rising (xs ++ ys) → Rising xs
  rising_left [] ys h = tt
  rising_left (x ∷ xs) ys h = (above_left x.key xs ys h.0, rising_left xs ys h.1)

  pub rising_right : (xs ys : List (Sep A)) → Rising (xs ++ ys) → Rising ys
  rising_right [] ys h = h
  rising_right (x ∷ xs) ys h = rising_right xs ys h.1

  pub rising_mid : (xs ys zs : List (Sep A)) → Rising (xs ++ (ys ++ zs)) → Rising ys
  rising_mid xs ys zs h = rising_left ys zs (rising_right xs (ys ++ zs) h)

  -- what stands before a separator is below it
  pub rising_before : (xs ys : List (Sep A)) (s : Sep A) → Rising (xs ++ s ∷ ys) → AllBelow xs s.key
  rising_before [] ys s h = tt
  rising_before (x ∷ xs) ys s h = ((above_right x.key xs (s ∷ ys) h.0).0, rising_before xs ys s h.1)

  pub below_up : (xs : List (Sep A)) (k m : Key) → Lt k m → AllBelow xs k → AllBelow xs m
  below_up [] k m h a = tt
  below_up (x ∷ xs) k m h a = (lt_trans x.key k m a.0 h, below_up xs k m h a.1)

  pub above_down : (xs : List (Sep A)) (k m : Key) → Lt k m → AllAbove m xs → AllAbove k xs
  above_down [] k m h a = tt
  above_down (x ∷ xs) k m h a = (lt_trans k m x.key h a.0, above_down xs k m h a.1)

  -- ---- the key is there

  pub replace_here : (k : Key) (new : List (Sep A)) (x : Sep A) (xs ys : List (Sep A)) → cmp k x.key ≡ Ordering.eq → Rising (xs ++ x ∷ ys)
      → replace k new (xs ++ x ∷ ys) ≡ xs ++ (new ++ ys)
  replace_here k new x xs ys p h = replace_left k new xs (x ∷ ys) (rw (cmp_eq k x.key p) (rising_before xs ys x h)) ∙ rw p

  pub get_left : (k : Key) (xs ys : List (Sep A)) → AllBelow xs k → get k (xs ++ ys) ≡ get k ys
  get_left k [] ys h = refl
  get_left k (x ∷ xs) ys h = rw (lt_gt x.key k h.0) (get_left k xs ys h.1)

  pub get_right : (k : Key) (ys zs : List (Sep A)) → HeadAbove k zs → get k (ys ++ zs) ≡ get k ys
  get_right k [] [] h = refl
  get_right k [] (z ∷ zs) h = rw h
  get_right k (y ∷ ys) zs h = rw (get_right k ys zs h)

  pub get_here : (k : Key) (xs ys : List (Sep A)) (x : Sep A) → cmp k x.key ≡ Ordering.eq → Rising (xs ++ x ∷ ys) → get k (xs ++ x ∷ ys) ≡ some x.val
  get_here k xs ys x p h = get_left k xs (x ∷ ys) (rw (cmp_eq k x.key p) (rising_before xs ys x h)) ∙ rw p

  pub get_none : (k : Key) (l : List (Sep A)) → AllAbove k l → get k l ≡ none
  get_none k [] h = refl
  get_none k (s ∷ l) h = rw h.0

-- ---- a change keeps the order, and changes its key's value only

module _ {A : Type 0} where
  above_append : (k : Key) (xs ys : List (Sep A)) → AllAbove k xs → AllAbove k ys → AllAbove k (xs ++ ys)
  above_append k [] ys h g = g
  above_append k (x ∷ xs) ys h g = (h.0, above_append k xs ys h.1 g)

  above_entry : (j k : Key) (o : Option A) → Lt j k → AllAbove j (entry_of k o)
  above_entry j k none h = tt
  above_entry j k (some v) h = (h, tt)

  above_replace : (j k : Key) (new l : List (Sep A)) → AllAbove j new → AllAbove j l → AllAbove j (replace k new l)
  above_replace j k new [] h g = h
  above_replace j k new (s ∷ l) h g = by_pick (AllAbove j) (cmp k s.key)
      (λ p. above_append j new (s ∷ l) h g) (λ p. above_append j new l h g.1) (λ p. (g.0, above_replace j k new l h g.1))

  rising_entry : (k : Key) (o : Option A) (l : List (Sep A)) → AllAbove k l → Rising l → Rising (entry_of k o ++ l)
  rising_entry k none l h g = g
  rising_entry k (some v) l h g = (h, g)

  pub rising_change : (k : Key) (o : Option A) (l : List (Sep A)) → Rising l → Rising (change k o l)
  rising_change k none [] h = tt
  rising_change k (some v) [] h = (tt, tt)
  rising_change k o (s ∷ l) h = by_pick Rising (cmp k s.key)
      (λ p. rising_entry k o (s ∷ l) (p, above_down l k s.key p h.0) h)
      (λ p. rising_entry k o l (rw (cmp_eq k s.key p) h.0) h.1)
      (λ p. (above_replace s.key k (entry_of k o) l (above_entry s.key k o (gt_lt k s.key p)) h.0, rising_change k o l h.1))

  get_entry : (k m : Key) (o : Option A) (l : List (Sep A)) → AllAbove m l → get k (entry_of m o ++ l) ≡ cond (compare_is_eq (cmp k m)) o (get k l)
  get_entry k m none l h = by_order (cmp k m) (λ p. rw p) (λ p. rw p (get_none k l (rw (cmp_eq k m p) h))) (λ p. rw p)
  get_entry k m (some v) l h = by_order (cmp k m) (λ p. rw p (sym (get_none k l (above_down l k m p h)))) (λ p. rw p) (λ p. rw p)

  pub get_change : (k m : Key) (o : Option A) (l : List (Sep A)) → Rising l → get k (change m o l) ≡ cond (compare_is_eq (cmp k m)) o (get k l)
  get_change k m o [] h = rw (← append-nil (entry_of m o)) (get_entry k m o [] tt)
  get_change k m o (s ∷ l) h = by_order (cmp m s.key)
      (λ p. rw p (get_entry k m o (s ∷ l) (p, above_down l m s.key p h.0)))
      (λ p. rw p (get_entry k m o l (rw (cmp_eq m s.key p) h.0) ∙ rw (← cmp_eq m s.key p) (by_order (cmp k m)
      (λ q. rw q (get_none k l (above_down l k s.key (rw (cmp_eq m s.key p) at q) h.0))) (λ q. rw q) (λ q. rw q))))
      (λ p. rw p (by_order (cmp k s.key)
      (λ q. rw (q, lt_trans k s.key m q (gt_lt m s.key p)))
      (λ q. rw (q, cmp_eq k s.key q, gt_lt m s.key p))
      (λ q. rw q (get_change k m o l h.1))))

-- ---- a map is told by its keys' values

module _ {A : Type 0} where
  tails_agree : (a b : Sep A) (l m : List (Sep A)) → Rising (a ∷ l) → Rising (b ∷ m) → a.key ≡ b.key → ((k : Key) → get k (a ∷ l) ≡ get k (b ∷ m)) → (k : Key) → get k l ≡ get k m
  tails_agree a b l m h g e f k = by_order (cmp k a.key)
      (λ p. get_none k l (above_down l k a.key p h.0) ∙ sym (get_none k m (above_down m k b.key (rw e at p) g.0)))
      (λ p. get_none k l (rw (cmp_eq k a.key p) h.0) ∙ sym (get_none k m (rw (cmp_eq k a.key p, e) g.0)))
      (λ p. rw (rw e at p, p) at (f k))

  pub same_map : (l m : List (Sep A)) → Rising l → Rising m → ((k : Key) → get k l ≡ get k m) → l ≡ m
  same_map [] [] h g f = refl
  same_map [] (b ∷ m) h g f = let e = rw (cmp_refl b.key) at (f b.key) in cc
  same_map (a ∷ l) [] h g f = let e = rw (cmp_refl a.key) at (f a.key) in cc
  same_map (a ∷ l) (b ∷ m) h g f = by_order (cmp a.key b.key)
      (λ p. let e = rw (cmp_refl a.key, p) at (f a.key) in cc)
      (λ p.
      let ks = cmp_eq a.key b.key p in
      let e = rw (cmp_refl a.key, p) at (f a.key) in
      let vs : a.val ≡ b.val = cc in
      let hd : a ≡ b = λ i. record { key = ks i; val = vs i } in
      let tl = same_map l m h.1 g.1 (tails_agree a b l m h g ks f) in
      cc)
      (λ p. let e = rw (cmp_refl b.key, gt_lt a.key b.key p) at (f b.key) in cc)
