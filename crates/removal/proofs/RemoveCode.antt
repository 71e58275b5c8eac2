-- Each way through the functions of a removal, in the words of RemoveMirror of `outcome` (a law NAME-k is of the k-th return).
-- Assumes nothing.
use mathlib.Core.Path.{◌≡◌, refl, sym, ap, subst, ◌∙◌}
use mathlib.Core.List.{List, [], ◌∷◌, ◌++◌, map, map-append, append_assoc, append-nil}
use Rattle.std.specs.Prelude.{Ok}
use Prim.Native.Nat.{ℕ, suc, ◌+◌, ◌-◌, ◌^◌, ◌≤◌, ◌<◌}
use lib.ListN.{length, drop, get_or, length-append, length-map}
use lib.Seq.{take_at, drop_at, get_or_at, take_all}
use lib.Dec.{ltb}
use native.Mathlib.Omega.{arith}
use Rattle.tree.specs.Map.{Sep}
use Rattle.tree.specs.Tree.{Node, plug}
use Rattle.tree.specs.Remove.{unsnoc}
use Rattle.tree.proofs.Zipper.{plug_length, plug_slot}
use Rattle.tree.proofs.Balance.{unsnoc_append, unsnoc_length}
use Rattle.node.specs.declared.Node as struct
use Rattle.node.specs.declared.Child.{Child}
use Rattle.node.specs.declared.Separator.{Separator}
use Rattle.node.specs.Chain.{Step, Fit, FitAll, child_of, node_of}
use Rattle.node.specs.Edit.{separator_of, inserted, removed, insert_at, remove_at, replace_at, kids, push_front, pop_front, joined, step_at}
use Rattle.node.specs.EditMirror.{sep_at, with_separator, opened, inserted_at, closed, removed_at, joined_with}
use Rattle.node.proofs.ChainLaws.{Short}
use Rattle.node.proofs.ArrayLaws.{drop_past}
use Rattle.node.proofs.EditLaws.{node_child, node_separator, node_set_separator, node_insert, node_push_front, node_remove, node_pop_front, node_join, fit_append}
use Rattle.slots.specs.Mirror.{write_node, free_slot}
use Rattle.slots.specs.Code.{written_in}
use Rattle.slots.proofs.CodeLaws.{written_chain}
use Rattle.outcome.specs.declared.Came as code
use Rattle.removal.specs.declared.Held.{Held}
use Rattle.outcome.specs.Outcome.{Outcome, refused, of_fell, Does}
use Rattle.outcome.specs.RemoveMirror.{flag, close_m, borrow_last_m, borrow_first_m}
use Rattle.removal.specs.RemoveCode.{Is, Between, BorrowsLast, BorrowsFirst, Merges}
use Rattle.outcome.proofs.ZipIndex.{plug_rest, plug_right}

-- ---- chains at a place: p stands left of it

pub fit_parts : (p q : List Step) → FitAll (p ++ q) → FitAll p × FitAll q
fit_parts [] q f = (tt, f)
fit_parts (x ∷ p) q f = let g = fit_parts p q f.2 in ((f.0, f.1, g.0), g.1)

pub short_all : (r : List Step) → FitAll r → Short r
short_all [] f = tt
short_all (x ∷ r) f = (f.0.short, short_all r f.2)

module _ (p : List Step) (z : Step) (q : List Step) {i : ℕ} (h : length p ≡ i) where
  step_here : step_at i (p ++ (z ∷ q)) ≡ z
  unfolding step_at
  step_here = get_or_at p z q (record { key = []; val = 0 }, 0) i h

  kid_here : (c : ℕ) → get_or (kids (c, p ++ (z ∷ q))) (suc i) 0 ≡ z.1
  kid_here c = rw (map-append (λ (x : Step). x.1) p (z ∷ q)) (get_or_at (map (λ (x : Step). x.1) p) z.1 (map (λ (x : Step). x.1) q) 0 i (length-map p (λ (x : Step). x.1) ∙ h))

  remove_here_lem : remove_at i (p ++ (z ∷ q)) ≡ p ++ q
  unfolding removed
  remove_here_lem =
      let d : drop (i + 1) (p ++ (z ∷ q)) ≡ q = ap (drop (i + 1)) (sym (append_assoc p (z ∷ []) q)) ∙ drop_at (p ++ (z ∷ [])) q (i + 1) (simp length-append (omega arith)) in
      rw (take_at p (z ∷ q) i h, d)

replace_here : (p : List Step) (z : Step) (q : List Step) (e : Sep ℕ) → replace_at (length p) e (p ++ (z ∷ q)) ≡ p ++ ((e, z.1) ∷ q)
unfolding replace_at
replace_here [] z q e = refl
replace_here (x ∷ p) z q e = ap (λ (l : List Step). x ∷ l) (replace_here p z q e)

insert_end : (r : List Step) (x : Step) → insert_at (length r) x r ≡ r ++ (x ∷ [])
unfolding inserted
insert_end r x = rw (take_all (length r) r (omega arith), drop_past r (length r) (omega arith))

-- ---- a struct with a separator at index i

module _ {n : struct.Node} {c : ℕ} (p : List Step) (z : Step) (q : List Step) (is : Is n c (p ++ (z ∷ q))) {i : ℕ} (h : i ≡ length p) where
  short : Short (p ++ (z ∷ q))
  short = short_all (p ++ (z ∷ q)) is.fine.rest

  inside_lem : i < length (p ++ (z ∷ q))
  inside_lem = simp length-append (omega arith)

  pub fits : Fit z.0 × (z.1 < 2 ^ 64) × FitAll q
  fits = (fit_parts p (z ∷ q) is.fine.rest).1

  pub sep_is : sep_at n i ≡ separator_of z.0
  sep_is =
      ap (λ (m : struct.Node). sep_at m i) is.struct ∙ node_separator c (p ++ (z ∷ q)) is.fine.most short i inside_lem
      ∙ ap (λ (x : Step). separator_of x.0) (step_here p z q (sym h))

  pub kid_is : get_or n.children (suc i) (child_of 0) ≡ child_of z.1
  kid_is =
      ap (λ (m : struct.Node). get_or m.children (suc i) (child_of 0)) is.struct ∙ node_child c (p ++ (z ∷ q)) is.fine.most (suc i)
      ∙ ap child_of (kid_here p z q (sym h) c)

  pub removed_is : Is (removed_at n i) c (p ++ q)
  removed_is =
      record {
        struct =
            ap (λ (m : struct.Node). removed_at m i) is.struct ∙ node_remove c (p ++ (z ∷ q)) is.fine.most short i inside_lem
            ∙ ap (node_of c) (remove_here_lem p z q (sym h));
        fine = record {
          first = is.fine.first;
          rest = fit_append p q (fit_parts p (z ∷ q) is.fine.rest).0 fits.2;
          most = omega (arith, is.fine.most, length-append p q, length-append p (z ∷ q));
        };
      }

  replaced_is : (e : Sep ℕ) → Fit e → Is (with_separator n i (separator_of e)) c (p ++ ((e, z.1) ∷ q))
  replaced_is e f =
      record {
        struct =
            ap (λ (m : struct.Node). with_separator m i (separator_of e)) is.struct
            ∙ node_set_separator c (p ++ (z ∷ q)) is.fine.most short i e inside_lem f.short
            ∙ ap (node_of c) (ap (λ (j : ℕ). replace_at j e (p ++ (z ∷ q))) h ∙ replace_here p z q e);
        fine = record {
          first = is.fine.first;
          rest = fit_append p ((e, z.1) ∷ q) (fit_parts p (z ∷ q) is.fine.rest).0 (f, fits.1, fits.2);
          most = omega (arith, is.fine.most, length-append p ((e, z.1) ∷ q), length-append p (z ∷ q));
        };
      }

-- ---- the same of a node made from a zipper

module _ (x : ℕ) (l : List (ℕ × Sep ℕ)) (a : ℕ) where
  -- its front
  abbrev pub front : List Step
  front = (plug x l a []).rest

  pub front_length : length front ≡ length l
  front_length = omega (arith, plug_length x l a [])

  -- a struct of front and r is one of the plug with r
  pub as_plug : {n : struct.Node} (q r : List Step) → Is n (plug x l a q).first (front ++ r) → Is n (plug x l a r).first (plug x l a r).rest
  as_plug {n = n} q r is =
      let f : (plug x l a q).first ≡ (plug x l a r).first = ap (λ (m : Node ℕ ℕ). m.first) (plug_right x l a q r) in
      let e : front ++ r ≡ (plug x l a r).rest = sym (plug_rest x l a r) in
      subst (λ (k : ℕ). Is n k (plug x l a r).rest) f (subst (Is n (plug x l a q).first) e is)

  pub as_parts : {n : struct.Node} (r : List Step) → Is n (plug x l a r).first (plug x l a r).rest → Is n (plug x l a r).first (front ++ r)
  as_parts {n = n} r is = subst (Is n (plug x l a r).first) (plug_rest x l a r) is

-- ---- writing

pub wrote : {n : struct.Node} {t : List ℕ} (s : List ℕ) (x : ℕ) (c : ℕ) (r : List Step) → Is n c r → t ≡ written_in s x n → t ≡ write_node s (record { slot = x; first = c; rest = r })
wrote s x c r is h = h ∙ ap (written_in s x) is.struct ∙ written_chain s x c r is.fine

pub count_is : {n : struct.Node} {c : ℕ} {r : List Step} → Is n c r → n.count ≡ length r
count_is {c = c} {r = r} is = ap (λ (m : struct.Node). m.count) is.struct ∙ counted_lem c r
  where
    counted_lem : (c : ℕ) (r : List Step) → (node_of c r).count ≡ length r
    counted_lem c r = unfold node_of in refl

-- what `close` answers and leaves
abbrev pub Closed : List ℕ → ℕ → struct.Node → code.Came → List ℕ → Type 0
Closed s x n o t = (Ok o ≡ of_fell (flag (ltb n.count 4))) × (t ≡ written_in s x n)

pub closes : {n : struct.Node} {o : code.Came} {t : List ℕ} (s : List ℕ) (x : ℕ) (c : ℕ) (r : List Step) → Is n c r → Closed s x n o t → Does (close_m s (record { slot = x; first = c; rest = r })) (Ok o) t
closes s x c r is h = (h.0 ∙ ap (λ (k : ℕ). of_fell (flag (ltb k 4))) (count_is is), wrote s x c r is h.1)

-- the node made from a zipper
pub closes_plug : {n : struct.Node} {o : code.Came} {t : List ℕ} (s : List ℕ) (x : ℕ) (l : List (ℕ × Sep ℕ)) (a : ℕ) (r : List Step)
    → Is n (plug x l a r).first (plug x l a r).rest → Closed s x n o t → Does (close_m s (plug x l a r)) (Ok o) t
closes_plug {o = o} {t = t} s x l a r is h =
    subst (λ (y : ℕ). Does (close_m s (record { slot = y; first = (plug x l a r).first; rest = (plug x l a r).rest })) (Ok o) t) (sym (plug_slot x l a r)) (closes s x (plug x l a r).first (plug x l a r).rest is h)

-- an answer after stores that are the mirror's
module _ {o : Outcome} {t : List ℕ} (m : Node ℕ ℕ) where
  after_lem : {s u : List ℕ} → s ≡ u → Does (close_m s m) o t → Does (close_m u m) o t
  after_lem e h = subst (λ (s : List ℕ). Does (close_m s m) o t) e h

pub wrote_in : {n : struct.Node} {t s' s : List ℕ} {x y : ℕ} (c : ℕ) (r : List Step) → s' ≡ s → x ≡ y → Is n c r → t ≡ written_in s' x n → t ≡ write_node s (record { slot = y; first = c; rest = r })
wrote_in {s' = s'} {x = x} c r e f is h = wrote s' x c r is h ∙ rw (e, f)

-- ---- edits that keep a struct that of a chain

module _ {n : struct.Node} {c : ℕ} {r : List Step} (is : Is n c r) where
  pub first_is : get_or n.children 0 (child_of 0) ≡ child_of c
  first_is = ap (λ (m : struct.Node). get_or m.children 0 (child_of 0)) is.struct ∙ node_child c r is.fine.most 0

  -- y and the child left of it in front
  push_is : (k : ℕ) (y : Sep ℕ) → length r ≤ 7 → k < 2 ^ 64 → Fit y → Is (opened n 0 0 (separator_of y) (child_of k)) k ((y, c) ∷ r)
  push_is k y h kid f =
      record {
        struct =
            ap (λ (m : struct.Node). opened m 0 0 (separator_of y) (child_of k)) is.struct
            ∙ node_push_front c r is.fine.most (short_all r is.fine.rest) k y f.short (omega arith) ∙ unfold push_front in refl;
        fine = record { first = kid; rest = (f, is.fine.first, is.fine.rest); most = omega arith };
      }

  -- y and the child right of it at the end
  end_is : (k : ℕ) (y : Sep ℕ) → length r ≤ 7 → k < 2 ^ 64 → Fit y → Is (inserted_at n n.count (separator_of y) (child_of k)) c (r ++ ((y, k) ∷ []))
  end_is k y h kid f =
      record {
        struct =
            ap (λ (j : ℕ). inserted_at n j (separator_of y) (child_of k)) (count_is is)
            ∙ ap (λ (m : struct.Node). inserted_at m (length r) (separator_of y) (child_of k)) is.struct
            ∙ node_insert c r is.fine.most (short_all r is.fine.rest) (length r) (y, k) f.short (omega arith) (omega arith)
            ∙ ap (node_of c) (insert_end r (y, k));
        fine = record { first = is.fine.first; rest = fit_append r ((y, k) ∷ []) is.fine.rest (f, kid, tt); most = omega (arith, length-append r ((y, k) ∷ [])) };
      }

  -- two chains and the separator between them
  join_is : {m : struct.Node} {d : ℕ} {q : List Step} (y : Sep ℕ) → Is m d q → length r + length q ≤ 7 → Fit y → Is (joined_with n (separator_of y) m) c (r ++ ((y, d) ∷ q))
  join_is {m = m} {d = d} {q = q} y js h f =
      record {
        struct =
            ap (λ (k : struct.Node). joined_with k (separator_of y) m) is.struct
            ∙ ap (λ (k : struct.Node). joined_with (node_of c r) (separator_of y) k) js.struct
            ∙ node_join c r y d q h (short_all r is.fine.rest) f.short (short_all q js.fine.rest) ∙ unfold joined in refl;
        fine = record { first = is.fine.first; rest = fit_append r ((y, d) ∷ q) is.fine.rest (f, js.fine.first, js.fine.rest); most = omega (arith, length-append r ((y, d) ∷ q)) };
      }

pop_is : {n : struct.Node} {c : ℕ} {z : Step} {r : List Step} → Is n c (z ∷ r) → Is (closed n 0 0) z.1 r
pop_is {c = c} {z = z} {r = r} is =
    record {
      struct =
          ap (λ (m : struct.Node). closed m 0 0) is.struct ∙ node_pop_front c (z ∷ r) is.fine.most (short_all (z ∷ r) is.fine.rest)
          ∙ unfold pop_front in refl;
      fine = record { first = is.fine.rest.1; rest = is.fine.rest.2; most = omega (arith, is.fine.most) };
    }

-- ---- lending and merging

module _ (s : List ℕ) (over left right : Held) (i : ℕ) where
  -- the separator at i of the node, and the node with another one there or none
  module _ (l : List (ℕ × Sep ℕ)) (a : ℕ) (y : Sep ℕ) (b : ℕ) (q : List Step) (at : Between over i l a y b q) where
    parts : Is over.node (plug over.slot.0 l a ((y, b) ∷ q)).first (front over.slot.0 l a ++ ((y, b) ∷ q))
    parts = as_parts over.slot.0 l a ((y, b) ∷ q) at.0

    index_lem : i ≡ length (front over.slot.0 l a)
    index_lem = at.1 ∙ sym (front_length over.slot.0 l a)

    down_is : sep_at over.node i ≡ separator_of y
    down_is = sep_is (front over.slot.0 l a) (y, b) q parts index_lem

    down_fits : Fit y
    down_fits = (fits (front over.slot.0 l a) (y, b) q parts index_lem).0

    up_is : (e : Sep ℕ) → Fit e → Is (with_separator over.node i (separator_of e)) (plug over.slot.0 l a ((e, b) ∷ q)).first (plug over.slot.0 l a ((e, b) ∷ q)).rest
    up_is e f = as_plug over.slot.0 l a ((y, b) ∷ q) ((e, b) ∷ q) (replaced_is (front over.slot.0 l a) (y, b) q parts index_lem e f)

    gone_is : Is (removed_at over.node i) (plug over.slot.0 l a q).first (plug over.slot.0 l a q).rest
    gone_is = as_plug over.slot.0 l a ((y, b) ∷ q) q (removed_is (front over.slot.0 l a) (y, b) q parts index_lem)

    -- a sibling's separator w goes up, after both siblings are written
    lent : {o : code.Came} {moved : Separator} {o' : struct.Node} {u v t : List ℕ} (w : Sep ℕ) → Fit w → moved ≡ separator_of w → o' ≡ with_separator over.node i moved
        → u ≡ t → Closed u over.slot.0 o' o v → Does (close_m t (plug over.slot.0 l a ((w, b) ∷ q))) (Ok o) v
    lent w f m o_is e done =
        let O = subst (λ (g : struct.Node). Is g (plug over.slot.0 l a ((w, b) ∷ q)).first (plug over.slot.0 l a ((w, b) ∷ q)).rest) (sym (o_is ∙ ap (with_separator over.node i) m)) (up_is w f) in
        after_lem (plug over.slot.0 l a ((w, b) ∷ q)) e (closes_plug _ over.slot.0 l a ((w, b) ∷ q) O done)

  pub borrow_left_1 : left.node.count < 1 → BorrowsLast s over i left right refused s
  unfolding BorrowsLast
  borrow_left_1 h l a y c q at ha hc k = nothing a.rest (omega (arith, count_is ha.1))
    where
      nothing : (r : List Step) → length r < 1 → Does (borrow_last_m s over.slot.0 l a r y c q) refused s
      nothing [] h = (refl, refl)
      nothing (z ∷ r) h = absurd (omega arith)

  pub borrow_left_2 : {o : code.Came} {moved down : Separator} {child : Child} {a' c' o' : struct.Node} {t u v : List ℕ}
      → 1 ≤ left.node.count → moved ≡ sep_at left.node (left.node.count - 1) → child ≡ get_or left.node.children left.node.count (child_of 0)
      → down ≡ sep_at over.node i → a' ≡ removed_at left.node (left.node.count - 1) → t ≡ written_in s left.slot.0 a'
      → c' ≡ opened right.node 0 0 down child → u ≡ written_in t right.slot.0 c'
      → o' ≡ with_separator over.node i moved → Closed u over.slot.0 o' o v → BorrowsLast s over i left right (Ok o) v
  unfolding BorrowsLast
  borrow_left_2 {o = o} {child = child} {a' = a'} {c' = c'} {o' = o'} {v = v} some m-is k-is d-is a-is t-is c-is u-is o_is done l a y c q at ha hc room =
      some_there a.rest ha.1 (omega (arith, count_is ha.1))
    where
      some_there : (r : List Step) → Is left.node a.first r → 1 ≤ length r → Does (borrow_last_m s over.slot.0 l a r y c q) (Ok o) v
      some_there [] is h = absurd (omega arith)
      some_there (z ∷ zs) is h =
          let p : List Step = (unsnoc z zs).0 in
          let w : Step = (unsnoc z zs).1 in
          let is2 : Is left.node a.first (p ++ (w ∷ [])) = subst (Is left.node a.first) (sym (unsnoc_append z zs)) is in
          let j : left.node.count - 1 ≡ length p = omega (arith, count_is is, unsnoc_length z zs) in
          let up : Fit w.0 × (w.1 < 2 ^ 64) × FitAll [] = fits p w [] is2 j in
          let m : ◌≡◌ {A = Separator} _ (separator_of w.0) = m-is ∙ sep_is p w [] is2 j in
          let n : left.node.count ≡ suc (left.node.count - 1) = omega arith in
          let k : ◌≡◌ {A = Child} _ (child_of w.1) = k-is ∙ ap (λ (e : ℕ). get_or left.node.children e (child_of 0)) n ∙ kid_is p w [] is2 j in
          let d : ◌≡◌ {A = Separator} _ (separator_of y) = d-is ∙ down_is l a.slot y c.slot q at in
          let A : Is a' a.first p = subst (λ (g : struct.Node). Is g a.first p) (sym a-is) (subst (Is (removed_at left.node (left.node.count - 1)) a.first) (append-nil p) (removed_is p w [] is2 j)) in
          let C : Is c' w.1 ((y, c.first) ∷ c.rest) = subst (λ (g : struct.Node). Is g w.1 ((y, c.first) ∷ c.rest)) (sym (c-is ∙ ap (λ (g : Separator). opened right.node 0 0 g child) d ∙ ap (opened right.node 0 0 (separator_of y)) k)) (push_is hc.1 w.1 y room up.1 (down_fits l a.slot y c.slot q at)) in
          lent l a.slot y c.slot q at w.0 up.0 m o_is (wrote_in w.1 ((y, c.first) ∷ c.rest) (wrote_in a.first p refl ha.0 A t-is) hc.0 C u-is) done

  pub borrow_right_1 : right.node.count < 1 → BorrowsFirst s over i left right refused s
  unfolding BorrowsFirst
  borrow_right_1 h l c y b q at hc hb k = nothing b.rest (omega (arith, count_is hb.1))
    where
      nothing : (r : List Step) → length r < 1 → Does (borrow_first_m s over.slot.0 l c y b r q) refused s
      nothing [] h = (refl, refl)
      nothing (z ∷ r) h = absurd (omega arith)

  pub borrow_right_2 : {o : code.Came} {moved down : Separator} {child : Child} {c' b' o' : struct.Node} {t u v : List ℕ}
      → 1 ≤ right.node.count → moved ≡ sep_at right.node 0 → child ≡ get_or right.node.children 0 (child_of 0)
      → down ≡ sep_at over.node i → c' ≡ inserted_at left.node left.node.count down child → t ≡ written_in s left.slot.0 c'
      → b' ≡ closed right.node 0 0 → u ≡ written_in t right.slot.0 b'
      → o' ≡ with_separator over.node i moved → Closed u over.slot.0 o' o v → BorrowsFirst s over i left right (Ok o) v
  unfolding BorrowsFirst
  borrow_right_2 {o = o} {child = child} {c' = c'} {b' = b'} {o' = o'} {v = v} some m-is k-is d-is c-is t-is b-is u-is o_is done l c y b q at hc hb room =
      some_there b.rest hb.1 (omega (arith, count_is hb.1))
    where
      some_there : (r : List Step) → Is right.node b.first r → 1 ≤ length r → Does (borrow_first_m s over.slot.0 l c y b r q) (Ok o) v
      some_there [] is h = absurd (omega arith)
      some_there (z ∷ zs) is h =
          let m : ◌≡◌ {A = Separator} _ (separator_of z.0) = m-is ∙ sep_is [] z zs is refl in
          let k : ◌≡◌ {A = Child} _ (child_of b.first) = k-is ∙ first_is is in
          let d : ◌≡◌ {A = Separator} _ (separator_of y) = d-is ∙ down_is l c.slot y b.slot q at in
          let C : Is c' c.first (c.rest ++ ((y, b.first) ∷ [])) = subst (λ (g : struct.Node). Is g c.first (c.rest ++ ((y, b.first) ∷ []))) (sym (c-is ∙ ap (λ (g : Separator). inserted_at left.node left.node.count g child) d ∙ ap (inserted_at left.node left.node.count (separator_of y)) k)) (end_is hc.1 b.first y room is.fine.first (down_fits l c.slot y b.slot q at)) in
          let B : Is b' z.1 zs = subst (λ (g : struct.Node). Is g z.1 zs) (sym b-is) (pop_is is) in
          lent l c.slot y b.slot q at z.0 is.fine.rest.0 m o_is (wrote_in z.1 zs (wrote_in c.first (c.rest ++ ((y, b.first) ∷ [])) refl hc.0 C t-is) hb.0 B u-is) done

  pub merge_1 : {o : code.Came} {down : Separator} {j o' : struct.Node} {t u v : List ℕ}
      → down ≡ sep_at over.node i → t ≡ free_slot s right.slot.0 → j ≡ joined_with left.node down right.node → u ≡ written_in t left.slot.0 j
      → o' ≡ removed_at over.node i → Closed u over.slot.0 o' o v → Merges s over i left right (Ok o) v
  unfolding Merges
  merge_1 {j = j} d-is t-is j-is u-is o_is done l a y b q at ha hb room =
      let d : ◌≡◌ {A = Separator} _ (separator_of y) = d-is ∙ down_is l a.slot y b.slot q at in
      let J : Is j a.first (a.rest ++ ((y, b.first) ∷ b.rest)) = subst (λ (g : struct.Node). Is g a.first (a.rest ++ ((y, b.first) ∷ b.rest))) (sym (j-is ∙ ap (λ (g : Separator). joined_with left.node g right.node) d)) (join_is ha.1 y hb.1 room (down_fits l a.slot y b.slot q at)) in
      let O = subst (λ (g : struct.Node). Is g (plug over.slot.0 l a.slot q).first (plug over.slot.0 l a.slot q).rest) (sym o_is) (gone_is l a.slot y b.slot q at) in
      after_lem (plug over.slot.0 l a.slot q)
      (wrote_in a.first (a.rest ++ ((y, b.first) ∷ b.rest)) (t-is ∙ ap (free_slot s) hb.0) ha.0 J u-is)
      (closes_plug _ over.slot.0 l a.slot q O done)
