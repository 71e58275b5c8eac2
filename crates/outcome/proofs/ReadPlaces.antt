-- What the code learns of a node on the way down, where it reads the node's places and builds no node: whether it is there, how
-- many separators it has, and the zipper to the child where a key belongs. Assumes nothing.
use mathlib.Core.Path.{◌≡◌, refl, sym, ap, ◌∙◌}
use mathlib.Core.List.{List, [], ◌∷◌}
use mathlib.Core.Bool.{Bool, true, false, not}
use mathlib.Core.Option.{none, some}
use Prim.Native.Nat.{ℕ, suc, ◌≤◌}
use lib.ListN.{length, drop, get_or, length-map}
use native.Mathlib.Omega.{arith}
use borrow.Author.Tests.{not-true, not-false}
use Rattle.word.specs.Key.{Key}
use Rattle.tree.specs.Map.{Sep}
use Rattle.tree.specs.Tree.{seek, at, below, always}
use Rattle.tree.proofs.Cases.{by_bool}
use Rattle.node.specs.declared.Child.{Child}
use Rattle.node.specs.declared.Node as struct
use Rattle.codec.specs.declared.Places.{Places}
use Rattle.codec.specs.declared.position.Found.{Found}
use Rattle.node.specs.Chain.{Step, child_of, node_of}
use Rattle.codec.specs.Codec.{scan, step_of, is_accepted}
use Rattle.node.specs.Edit.{kids}
use Rattle.codec.specs.Position.{leading, found_in, position_of}
use Rattle.codec.specs.Position as position
use Rattle.codec.proofs.ScanLaws.{scan_lies}
use Rattle.node.proofs.EditLaws.{node_child}
use Rattle.codec.proofs.PositionLaws.{position_finds, zipper_index}
use Rattle.slots.specs.Code.{bytes_in, places_in, first_in, rest_in, node_in, places_at, reading_at, read_node_at}
use Rattle.slots.proofs.CodeLaws.{AcceptedAt, node_in_lem, agree_in, ending_at, accepted_at, refused_at}
use Rattle.outcome.specs.Mirror as M

pub count_of_lem : (c : ℕ) (r : List Step) → (node_of c r).count ≡ length r
unfolding node_of
count_of_lem c r = refl

module _ (p : Sep ℕ → Bool) where
  seek_mid : (l : List (ℕ × Sep ℕ)) (c : ℕ) (r : List Step) → (seek p l c r).mid ≡ get_or (kids (c, r)) (leading p r) 0
  seek_mid l c [] = refl
  seek_mid l c (x ∷ r) = by_bool (p x.0) (λ e. rw e (seek_mid ((c, x.0) ∷ l) x.1 r)) (λ e. rw e)

  seek_right : (l : List (ℕ × Sep ℕ)) (c : ℕ) (r : List Step) → (seek p l c r).rgt ≡ drop (leading p r) r
  seek_right l c [] = refl
  seek_right l c (x ∷ r) = by_bool (p x.0) (λ e. rw e (seek_right ((c, x.0) ∷ l) x.1 r)) (λ e. rw e)

leading_all : (r : List Step) → leading always r ≡ length r
leading_all [] = refl
leading_all (x ∷ r) = ap suc (leading_all r)

next_same : (k : Key) (r : List Step) → M.is_next k r ≡ position.is_next k r
next_same k [] = refl
next_same k (x ∷ r) = refl

module _ (s : List ℕ) (d x : ℕ) {p : Places} (read : p ≡ places_at d s x) {b : Bool} (tested : b ≡ is_accepted p.ending) where
  ending_read : is_accepted p.ending ≡ is_accepted (reading_at d s x).ending
  ending_read = ap (λ (y : Places). is_accepted y.ending) read ∙ ap is_accepted (ending_at s x d)

  pub not_read : not b ≡ true → read_node_at d s x ≡ none
  not_read h = refused_at s x d (sym ending_read ∙ sym tested ∙ not-true b h)

  module _ (good : not b ≡ false) where
    accepted : AcceptedAt d s x
    accepted = accepted_at s x d (sym ending_read ∙ sym tested ∙ not-false b good)

    pub was_read : read_node_at d s x ≡ some (node_in s x)
    was_read = accepted.found

    places_read : p ≡ places_in s x
    places_read = read ∙ accepted.places

    pub count_read : p.count ≡ length (rest_in s x)
    count_read = ap (λ (y : Places). y.count) places_read ∙ (agree_in s x).count ∙ ap (λ (y : struct.Node). y.count) (node_in_lem s x) ∙ count_of_lem (first_in s x) (rest_in s x)

    few : length (rest_in s x) ≤ 8
    few = omega (arith, length-map (scan (bytes_in s x)).rest (step_of (bytes_in s x)), (scan_lies (bytes_in s x)).most)

    kid_read : (i : ℕ) {c : Child} → c ≡ get_or p.children i (child_of 0) → c.0 ≡ get_or (kids (first_in s x, rest_in s x)) i 0
    kid_read i {c} e =
        let same : p.children ≡ (node_of (first_in s x) (rest_in s x)).children = ap (λ (y : Places). y.children) places_read ∙ (agree_in s x).children ∙ ap (λ (y : struct.Node). y.children) (node_in_lem s x) in
        let it : c ≡ child_of (get_or (kids (first_in s x, rest_in s x)) i 0) = e ∙ rw same (node_child (first_in s x) (rest_in s x) few i) in
        ap (λ (y : Child). y.0) it

    -- where a key belongs
    module _ (k : Key) {bytes : List ℕ} (held : bytes ≡ bytes_in s x) {f : Found} (searched : f ≡ position_of p bytes k false) where
      abbrev index : ℕ
      index = leading (below k) (rest_in s x)

      found_is : f ≡ found_in k (rest_in s x)
      unfolding places_in
      found_is = searched ∙ rw (held, places_read) (position_finds (bytes_in s x) k)

      pub at_is : f.at ≡ M.is_next k (at (below k) (node_in s x)).rgt
      unfolding found_in
      at_is = ap (λ (y : Found). y.at) found_is ∙ sym (rw (seek_right (below k) [] (first_in s x) (rest_in s x)) (next_same k (drop index (rest_in s x))))

      at_index : f.index.0 ≡ index
      unfolding found_in
      at_index = ap (λ (y : Found). y.index.0) found_is

      pub index_is : f.index.0 ≡ length (at (below k) (node_in s x)).lft
      index_is = at_index ∙ sym (zipper_index (below k) (node_in s x))

      pub child_is : {c : Child} → c ≡ get_or p.children f.index.0 (child_of 0) → c.0 ≡ (at (below k) (node_in s x)).mid
      child_is {c} e = kid_read f.index.0 e ∙ rw at_index (sym (seek_mid (below k) [] (first_in s x) (rest_in s x)))

    -- the last child
    pub last_index : p.count ≡ length (at always (node_in s x)).lft
    last_index = count_read ∙ sym (zipper_index always (node_in s x) ∙ leading_all (rest_in s x))

    pub last_child_lem : {c : Child} → c ≡ get_or p.children p.count (child_of 0) → c.0 ≡ (at always (node_in s x)).mid
    last_child_lem {c} e =
        let i : p.count ≡ leading always (rest_in s x) = count_read ∙ sym (leading_all (rest_in s x)) in
        kid_read p.count e ∙ rw i (sym (seek_mid always [] (first_in s x) (rest_in s x)))
