-- Each way through the functions of a removal that read and edit one node: the root that gives way, another separator, a leaf
-- that loses one; in the words of RemoveMirror of `outcome` (a law NAME-k is of the k-th return). Assumes nothing.
use mathlib.Core.Path.{◌≡◌, refl, sym, ap, subst, ◌∙◌}
use mathlib.Core.List.{List, [], ◌∷◌}
use mathlib.Core.Bool.{true, false}
use mathlib.Core.Option.{Option, none, some}
use Rattle.std.specs.Prelude.{Result, Ok, ⊤}
use Prim.Native.Nat.{ℕ, zero, suc, ◌-◌, ◌≤◌, ◌<◌}
use lib.ListN.{length, get_or}
use lib.Dec.{ltb}
use native.Mathlib.Omega.{arith}
use borrow.Author.Tests.{not-false, eqb-true}
use Rattle.word.proofs.NumLaws.{bytes_of}
use Rattle.tree.specs.Map.{Sep}
use Rattle.tree.specs.Tree.{Node, Zip, plug, at, always}
use Rattle.tree.proofs.Zipper.{plug_length, seek_plug, seek_always}
use Rattle.node.specs.declared.Node as struct
use Rattle.node.specs.declared.Child.{Child}
use Rattle.node.specs.declared.Separator.{Separator}
use Rattle.node.specs.Chain.{Step, Fit, child_of}
use Rattle.node.specs.Edit.{separator_of, replace_at}
use Rattle.node.specs.EditMirror.{sep_at, with_separator, removed_at}
use Rattle.node.proofs.ArrayLaws.{length_changed}
use Rattle.node.proofs.EditLaws.{node_set_separator, fit_change}
use Rattle.slots.specs.Mirror.{write_node, free_slot, set_root}
use Rattle.slots.specs.Code.{written_in, read_node_at, node_in, first_in, rest_in, misfits, chain_fits}
use Rattle.slots.proofs.CodeLaws.{RestFits, fits_chain}
use Rattle.outcome.specs.declared.BadBytes.{BadBytes}
use Rattle.outcome.specs.declared.Came as code
use Rattle.outcome.specs.declared.Came.TheVariants.{Plain}
use Rattle.outcome.specs.declared.Taken.{Taken}
use Rattle.outcome.specs.Outcome.{Outcome, refused, of_fell, Does, taken_of, Lasts, PutsIn, RemovesHere, RemovesEnd}
use Rattle.outcome.specs.RemoveMirror as R
use Rattle.outcome.specs.RemoveMirror.{Fell, bad, fine, low, flag, close_m, last_here, replaced_at, shrink_m, shrink_on, give_way}
use Rattle.removal.specs.RemoveCode.{Missing, Read, Is}
use Rattle.removal.proofs.RemoveCode.{short_all, front, front_length, as_plug, as_parts, fits, sep_is, removed_is, first_is, count_is, Closed, closes_plug, wrote_in}
use Rattle.removal.proofs.RebalanceCode.{Small, held_none, held_some, held_slot, held_is, there, by_mirror}

-- ---- the root

pub shrink_1 : (x d : ℕ) (s : List ℕ) → d ≡ 0 → Does (shrink_m x d s R.low) (Ok Plain) s
shrink_1 x d s e = subst (λ (d : ℕ). Does (shrink_m x d s R.low) (Ok Plain) s) (sym e) (refl, refl)

-- above a leaf it is read
shrink_above : (x d : ℕ) (s : List ℕ) → (d ≡ 0 → ⊥) → shrink_m x d s R.low ≡ shrink_on (d - 1) s x (read_node_at d s x)
shrink_above x zero s h = absurd (h refl)
shrink_above x (suc d) s h = let e : d ≡ suc d - 1 = omega arith in ap (λ (e : ℕ). shrink_on e s x (read_node_at (suc d) s x)) e

give_some : (d : ℕ) (s : List ℕ) (x : ℕ) (r : List Step) (m : Node ℕ ℕ) → 0 < length r → give_way d s x r m ≡ record { out = R.fine; store = s }
give_some d s x [] m h = absurd (omega arith)
give_some d s x (y ∷ r) m h = refl

give_none : (d : ℕ) (s : List ℕ) (x : ℕ) (r : List Step) (m : Node ℕ ℕ) → length r ≤ 0 → give_way d s x r m ≡ record { out = R.fine; store = set_root (free_slot s x) m.first d }
give_none d s x [] m h = refl
give_none d s x (y ∷ r) m h = absurd (omega arith)

module _ (x d : ℕ) (s : List ℕ) (above : d ≡ 0 → ⊥) where
  pub shrink_2 : Missing d s x → Does (shrink_m x d s R.low) refused s
  shrink_2 gone = by_mirror (shrink_above x d s above ∙ ap (λ (m : Option (Node ℕ ℕ)). shrink_on (d - 1) s x m) (held_none d s x gone)) (refl, refl)

  module _ {v : ℕ} {n : struct.Node} (read : Read d s x v n) (small : Small s) where
    root_is : Is n (first_in s x) (rest_in s x)
    root_is = held_is d s x read (bytes_of s small)

    root_some : shrink_m x d s R.low ≡ give_way (d - 1) s x (rest_in s x) (node_in s x)
    root_some = shrink_above x d s above ∙ ap (λ (m : Option (Node ℕ ℕ)). shrink_on (d - 1) s x m) (held_some d s x read)

    pub shrink_3 : 0 < n.count → Does (shrink_m x d s R.low) (Ok Plain) s
    shrink_3 h = by_mirror (root_some ∙ give_some (d - 1) s x (rest_in s x) (node_in s x) (omega (arith, count_is root_is))) (refl, refl)

    pub shrink_4 : {k : Child} {t u : List ℕ} → n.count ≤ 0 → k ≡ get_or n.children 0 (child_of 0) → t ≡ free_slot s v → u ≡ set_root t k.0 (d - 1) → Does (shrink_m x d s R.low) (Ok Plain) u
    shrink_4 {k = k} {t = t} h kid t-is u-is =
        let c : k.0 ≡ first_in s x = ap (λ (k : Child). k.0) (kid ∙ first_is root_is) in
        let a : t ≡ free_slot s x = t-is ∙ ap (free_slot s) (held_slot d s x read) in
        by_mirror (root_some ∙ give_none (d - 1) s x (rest_in s x) (node_in s x) (omega (arith, count_is root_is)))
        (refl, u-is ∙ ap (λ (y : ℕ). set_root t y (d - 1)) c ∙ ap (λ (y : List ℕ). set_root y (first_in s x) (d - 1)) a)

-- ---- another separator

-- the mirror's edit is the node's
replaced_same : (i : ℕ) (w : Sep ℕ) (r : List Step) → replace_at i w r ≡ replaced_at i w r
unfolding replace_at
replaced_same zero w [] = refl
replaced_same zero w (y ∷ r) = refl
replaced_same (suc i) w [] = refl
replaced_same (suc i) w (y ∷ r) = ap (λ (l : List Step). y ∷ l) (replaced_same i w r)

-- past the end it changes nothing
replaced_past : (i : ℕ) (w : Sep ℕ) (r : List Step) → length r ≤ i → r ≡ replaced_at i w r
replaced_past zero w [] h = refl
replaced_past zero w (y ∷ r) h = absurd (omega arith)
replaced_past (suc i) w [] h = refl
replaced_past (suc i) w (y ∷ r) h = ap (λ (l : List Step). y ∷ l) (replaced_past i w r (omega arith))

put_is : {n : struct.Node} {c : ℕ} {r : List Step} → Is n c r → (i : ℕ) (w : Sep ℕ) → i < length r → Fit w → Is (with_separator n i (separator_of w)) c (replaced_at i w r)
unfolding replace_at
put_is {n = n} {c = c} {r = r} is i w h fit =
    subst (Is (with_separator n i (separator_of w)) c) (replaced_same i w r)
    (record {
      struct = ap (λ (m : struct.Node). with_separator m i (separator_of w)) is.struct ∙ node_set_separator c r is.fine.most (short_all r is.fine.rest) i w h fit.short;
      fine = record {
        first = is.fine.first;
        rest = fit_change i (λ (x : Step). (w, x.1)) r (λ x f k. (fit, k)) is.fine.rest;
        most = omega (arith, is.fine.most, length_changed i (λ (x : Step). (w, x.1)) r);
      };
    })

module _ (d : ℕ) (s : List ℕ) (x i : ℕ) (sep : Separator) where
  abbrev Puts : Result ⊤ BadBytes → List ℕ → Type 0
  Puts b t = (w : Sep ℕ) → sep ≡ separator_of w → Fit w → PutsIn i w s (read_node_at d s x) b t

  pub put_separator_1 : Missing d s x → Puts refused s
  put_separator_1 gone w e fit = subst (λ (m : Option (Node ℕ ℕ)). PutsIn i w s m refused s) (sym (held_none d s x gone)) (refl, refl)

  module _ {v : ℕ} {n : struct.Node} (read : Read d s x v n) (small : Small s) where
    put_some : {t : List ℕ} (w : Sep ℕ) → t ≡ write_node s (record { slot = x; first = first_in s x; rest = replaced_at i w (rest_in s x) }) → PutsIn i w s (read_node_at d s x) (Ok tt) t
    put_some {t = t} w p = subst (λ (m : Option (Node ℕ ℕ)). PutsIn i w s m (Ok tt) t) (sym (held_some d s x read)) (refl, p)

    node_is : Is n (first_in s x) (rest_in s x)
    node_is = held_is d s x read (bytes_of s small)

    pub put_separator_2 : {n' : struct.Node} {t : List ℕ} → i < n.count → n' ≡ with_separator n i sep → t ≡ written_in s v n' → Puts (Ok tt) t
    put_separator_2 h n-is t-is w e fit =
        let is = subst (λ (m : struct.Node). Is m (first_in s x) (replaced_at i w (rest_in s x))) (sym (n-is ∙ ap (with_separator n i) e)) (put_is node_is i w (omega (arith, count_is node_is)) fit) in
        put_some w (wrote_in (first_in s x) (replaced_at i w (rest_in s x)) refl (held_slot d s x read) is t-is)

    pub put_separator_3 : {t : List ℕ} → n.count ≤ i → t ≡ written_in s v n → Puts (Ok tt) t
    put_separator_3 h t-is w e fit =
        let is : Is n (first_in s x) (replaced_at i w (rest_in s x)) = subst (Is n (first_in s x)) (replaced_past i w (rest_in s x) (omega (arith, count_is node_is))) node_is in
        put_some w (wrote_in (first_in s x) (replaced_at i w (rest_in s x)) refl (held_slot d s x read) is t-is)

-- ---- a leaf

-- its children are all 0
no_child : (c : ℕ) → misfits 0 (child_of c) ≡ false → c ≡ 0
no_child c h = eqb-true c 0 (not-false _ h)

leaf_kids : (x : ℕ) (l : List (ℕ × Sep ℕ)) (c : ℕ) (r : List Step) → chain_fits 0 (plug x l c r).first (plug x l c r).rest ≡ true → (misfits 0 (child_of c) ≡ false) × RestFits 0 r
leaf_kids x [] c r h = fits_chain 0 c r h
leaf_kids x (a ∷ l) c r h = (leaf_kids x l a.0 ((a.1, c) ∷ r) h).1

abbrev one_of : (a : Node ℕ ℕ) → Option (Node ℕ ℕ) → Node ℕ ℕ
one_of a none = a
one_of a (some b) = b

same_node : (a b : Node ℕ ℕ) → some a ≡ some b → a ≡ b
same_node a b e = ap (one_of a) e

abbrev IsNone : Option (Node ℕ ℕ) → Type 0
IsNone none = Unit {0}
IsNone (some b) = ⊥

nothing_there : (a : Node ℕ ℕ) → none ≡ some a → ⊥
nothing_there a e = subst (λ (m : Option (Node ℕ ℕ)). IsNone m) e tt

-- what came of it, with the separator
with_separator_lem : {k : code.Came} {sep : Separator} (f : Fell) (e : Sep ℕ) → Ok k ≡ of_fell f → sep ≡ separator_of e → Ok (record { came = k; separator = sep }) ≡ taken_of e f
with_separator_lem bad e p q = absurd cc
with_separator_lem fine e p q = cc
with_separator_lem low e p q = cc

module _ (s : List ℕ) (x : ℕ) where
  module _ (gone : Missing 0 s x) where
    pub remove_here_1 : (i : ℕ) (o : Outcome) → RemovesHere s x i o s
    unfolding RemovesHere
    remove_here_1 i o l c y q e h = absurd (nothing_there (plug x l c (y ∷ q)) (sym (held_none 0 s x gone) ∙ e))

    pub remove_end_1 : (o : Result Taken BadBytes) → RemovesEnd s x o s
    unfolding RemovesEnd
    remove_end_1 o m e = absurd (nothing_there m (sym (held_none 0 s x gone) ∙ e))

  module _ {v : ℕ} {n : struct.Node} (read : Read 0 s x v n) (small : Small s) where
    leaf_is : Is n (first_in s x) (rest_in s x)
    leaf_is = held_is 0 s x read (bytes_of s small)

    -- the node that the mirror reads
    same_leaf : (m : Node ℕ ℕ) → read_node_at 0 s x ≡ some m → node_in s x ≡ m
    same_leaf m e = same_node (node_in s x) m (sym (held_some 0 s x read) ∙ e)

    closed_here : (n' : struct.Node) {o : code.Came} {t : List ℕ} → Closed s v n' o t → Closed s x n' o t
    closed_here n' {o = o} {t = t} = subst (λ (y : ℕ). Closed s y n' o t) (held_slot 0 s x read)

    pub remove_here_2 : (i : ℕ) {n' : struct.Node} {o : code.Came} {t : List ℕ} → n' ≡ removed_at n i → Closed s v n' o t → RemovesHere s x i (Ok o) t
    unfolding RemovesHere
    remove_here_2 i {n' = n'} {o = o} {t = t} n-is done l c y q e h =
        let E : node_in s x ≡ plug x l c (y ∷ q) = same_leaf (plug x l c (y ∷ q)) e in
        let kids = leaf_kids x l c (y ∷ q) (subst (λ (m : Node ℕ ℕ). chain_fits 0 m.first m.rest ≡ true) E (there 0 s x read).fit) in
        let zero-kids : c ≡ y.1 = no_child c kids.0 ∙ sym (no_child y.1 kids.1.0) in
        let is : Is n (plug x l c (y ∷ q)).first (plug x l c (y ∷ q)).rest = subst (λ (m : Node ℕ ℕ). Is n m.first m.rest) E leaf_is in
        let less = as_plug x l c (y ∷ q) q (removed_is (front x l c) y q (as_parts x l c (y ∷ q) is) (h ∙ sym (front_length x l c))) in
        let less' : Is n' (plug x l c q).first (plug x l c q).rest = subst (λ (m : struct.Node). Is m (plug x l c q).first (plug x l c q).rest) (sym n-is) less in
        subst (λ (y : ℕ). Does (close_m s (plug x l y q)) (Ok o) t) zero-kids (closes_plug s x l c q less' (closed_here n' done))

    -- at the last child
    at_end : (m : Node ℕ ℕ) → read_node_at 0 s x ≡ some m → (P : List (ℕ × Sep ℕ) → List Step → Type 0)
        → ((l : List (ℕ × Sep ℕ)) (c : ℕ) → Is n (plug x l c []).first (plug x l c []).rest → P l []) → P (at always m).lft (at always m).rgt
    at_end m e P g =
        let z : Zip ℕ ℕ = at always m in
        let is : Is n m.first m.rest = subst (λ (m : Node ℕ ℕ). Is n m.first m.rest) (same_leaf m e) leaf_is in
        let all : Is n (plug x z.lft z.mid z.rgt).first (plug x z.lft z.mid z.rgt).rest = subst (λ (m : Node ℕ ℕ). Is n m.first m.rest) (sym (seek_plug always x [] m.first m.rest)) is in
        let nil : z.rgt ≡ [] = seek_always [] m.first m.rest in
        subst (P z.lft) (sym nil) (g z.lft z.mid (subst (λ (r : List Step). Is n (plug x z.lft z.mid r).first (plug x z.lft z.mid r).rest) nil all))

    pub remove_end_2 : n.count < 1 → RemovesEnd s x refused s
    unfolding RemovesEnd
    remove_end_2 h m found = at_end m found (λ l r. Lasts (last_here s x l r) refused s) go
      where
        go : (l : List (ℕ × Sep ℕ)) (c : ℕ) → Is n (plug x l c []).first (plug x l c []).rest → Lasts (last_here s x l []) refused s
        go [] c is = (refl, refl)
        go (y ∷ l) c is = absurd (omega (arith, count_is is, plug_length x l y.0 ((y.1, c) ∷ [])))

    pub remove_end_3 : {k : code.Came} {sep : Separator} {n' : struct.Node} {t : List ℕ} → 1 ≤ n.count → sep ≡ sep_at n (n.count - 1) → n' ≡ removed_at n (n.count - 1) → Closed s v n' k t
        → RemovesEnd s x (Ok (record { came = k; separator = sep })) t
    unfolding RemovesEnd
    remove_end_3 {k = k} {sep = sep} {n' = n'} {t = t} h sep_of_lem n-is done m found = at_end m found (λ l r. Lasts (last_here s x l r) (Ok (record { came = k; separator = sep })) t) go
      where
        go : (l : List (ℕ × Sep ℕ)) (c : ℕ) → Is n (plug x l c []).first (plug x l c []).rest → Lasts (last_here s x l []) (Ok (record { came = k; separator = sep })) t
        go [] c is = absurd (omega (arith, count_is is))
        go (y ∷ l) c is =
            let p = as_parts x l y.0 ((y.1, c) ∷ []) is in
            let j : n.count - 1 ≡ length (front x l y.0) = omega (arith, count_is is, plug_length x l y.0 ((y.1, c) ∷ []), front_length x l y.0) in
            let less = as_plug x l y.0 ((y.1, c) ∷ []) [] (removed_is (front x l y.0) (y.1, c) [] p j) in
            let less' : Is n' (plug x l y.0 []).first (plug x l y.0 []).rest = subst (λ (m : struct.Node). Is m (plug x l y.0 []).first (plug x l y.0 []).rest) (sym n-is) less in
            let w : Does (close_m s (plug x l y.0 [])) (Ok k) t = closes_plug s x l y.0 [] less' (closed_here n' done) in
            (with_separator_lem (flag (ltb (length (plug x l y.0 []).rest) 4)) y.1 w.0 (sep_of_lem ∙ sep_is (front x l y.0) (y.1, c) [] p j), w.1, (fits (front x l y.0) (y.1, c) [] p j).0)
