-- A set puts its entry into the tree's entries. Assumes nothing.
use mathlib.Core.Path.{◌≡◌, refl, sym, ap, ◌∙◌}
use mathlib.Core.List.{List, [], ◌∷◌, ◌++◌, append_assoc}
use mathlib.Core.Bool.{true}
use lib.ListN.{length, take, drop, take-append-drop}
use lib.Dec.{leb}
use Prim.Native.Nat.{ℕ, zero, suc}
use Rattle.word.specs.Key.{cmp}
use Rattle.tree.specs.Map.{Sep, put, Rising}
use Rattle.tree.specs.Tree.{Node, Kid, Zip, read_rest, read_left, read, only, entries, plug, at, below, same}
use Rattle.tree.specs.Set.{Placed, split_at4, split_over8, graft, set_below, set_here, set}
use Rattle.tree.proofs.Cases.{by_cond, is_eq, is_above_lem}
use Rattle.tree.proofs.MapLaws.{HeadAbove, replace_mid, replace_here, rising_mid}
use Rattle.tree.proofs.Zipper.{read_rest_append, read_zip, plug_read, seek_read, read_parts, graft_read, Before, After, seek_edge, left_below}

-- a split changes nothing that is read in order
module _ {A C D : Type 0} (g : Sep A → List D) (f : C → List D) where
  split_read : (n : Node A C) (x : List (Sep A × C)) (fs : List ℕ) → take 4 n.rest ++ x ≡ n.rest → read_parts g (read g f) (split_at4 n x fs).parts ≡ read g f n
  split_read n [] fs h = refl
  split_read n (x ∷ r) fs h =
      append_assoc (f n.first) (read_rest g f (take 4 n.rest)) (read_rest g f (x ∷ r))
      ∙ ap (λ (q : List D). f n.first ++ q) (sym (read_rest_append g f (take 4 n.rest) (x ∷ r)))
      ∙ ap (λ (q : List (Sep A × C)). f n.first ++ read_rest g f q) h

  pub split_over8_read : (n : Node A C) (fs : List ℕ) → read_parts g (read g f) (split_over8 n fs).parts ≡ read g f n
  split_over8_read n fs = by_cond (λ (o : Placed A (Node A C)). read_parts g (read g f) o.parts ≡ read g f n) (leb (length n.rest) 8)
      (λ e. refl) (λ e. split_read n (drop 4 n.rest) fs (take-append-drop 4 n.rest))

module _ {A C : Type 0} (f : C → List (Sep A)) (e : Sep A) (rec : C → Placed A C) (s : ℕ) (l : List (C × Sep A)) (c : C)
    (step : Rising (f c) → read_parts only f (rec c).parts ≡ put e (f c)) where
  below_entries : (r : List (Sep A × C)) → Before (below e.key) l → HeadAbove e.key (read_rest only f r) → Rising (read_zip only f l c r)
      → read_parts only (read only f) (set_below rec s l c r).parts ≡ put e (read_zip only f l c r)
  below_entries r b a h =
      split_over8_read only f (graft s l r (rec c).parts) (rec c).free
      ∙ graft_read only f s l r (rec c).parts
      ∙ ap (λ (q : List (Sep A)). read_left only f l ++ (q ++ read_rest only f r)) (step (rising_mid (read_left only f l) (f c) (read_rest only f r) h))
      ∙ sym (replace_mid e.key (e ∷ []) (read_left only f l) (f c) (read_rest only f r) (left_below f e.key l (f c ++ read_rest only f r) b h) a)

  present_entries : (x : Sep A × C) (r : List (Sep A × C)) → Rising (read_zip only f l c (x ∷ r)) → same e.key x.0 ≡ true
      → read only f (plug s l c ((e, x.1) ∷ r)) ≡ put e (read_zip only f l c (x ∷ r))
  present_entries x r h p =
      let ys : List (Sep A) = f x.1 ++ read_rest only f r in
      plug_read only f s l c ((e, x.1) ∷ r) ∙ sym (append_assoc (read_left only f l) (f c) (e ∷ ys))
      ∙ sym (replace_here e.key (e ∷ []) x.0 (read_left only f l ++ f c) ys (is_eq (cmp e.key x.0.key) p) (rw append_assoc h)) ∙ rw append_assoc

  pub here_entries : (r : List (Sep A × C)) (fs : List ℕ) → Before (below e.key) l → After (below e.key) r → Rising (read_zip only f l c r)
      → read_parts only (read only f) (set_here rec e s l c r fs).parts ≡ put e (read_zip only f l c r)
  here_entries [] fs b a h = below_entries [] b tt h
  here_entries (x ∷ r) fs b a h = by_cond (λ (o : Placed A (Node A C)). read_parts only (read only f) o.parts ≡ put e (read_zip only f l c (x ∷ r))) (same e.key x.0)
      (λ p. present_entries x r h p) (λ p. below_entries (x ∷ r) b (is_above_lem e.key x.0 a p) h)

module _ {A : Type 0} (e : Sep A) where
  pub set_entries : (d : ℕ) (t : Kid A d) (fs : List ℕ) → Rising (entries A d t) → read_parts only (entries A d) (set A e d t fs).parts ≡ put e (entries A d t)
  set_entries zero t fs h = refl
  set_entries (suc d) n fs h =
      let z : Zip A (Kid A d) = at (below e.key) n in
      let edge = seek_edge (below e.key) [] n.first n.rest tt in
      let whole = seek_read only (entries A d) (below e.key) [] n.first n.rest in
      here_entries (entries A d) e (λ c. set A e d c fs) n.slot z.lft z.mid (set_entries d z.mid fs) z.rgt fs edge.0 edge.1 (rw whole h)
      ∙ ap (put e) whole
