-- Which slots a removal may write: those on its walk, and of each the neighbours below the same node, which may lend or be
-- merged. Assumes nothing.
use mathlib.Core.Path.{◌≡◌, refl, ap, subst}
use mathlib.Core.List.{List, [], ◌∷◌, ◌++◌}
use mathlib.Core.Bool.{Bool, cond}
use Prim.Native.Nat.{ℕ, zero, suc, ◌+◌, ◌≤◌}
use lib.Dec.{eqb}
use native.Mathlib.Omega.{arith}
use Rattle.word.specs.Key.{Key}
use Rattle.tree.specs.Map.{Sep}
use Rattle.tree.specs.Tree.{Kid, Tree, Zip, read_left, read_rest, none_of, slots, plug, at, below, always}
use Rattle.tree.specs.Free.{bit, occurs}
use Rattle.tree.proofs.Cases.{by_cond}
use Rattle.tree.proofs.Zipper.{seek_plug}
use Rattle.tree.proofs.Slots.{occurs_append}
use Rattle.tree.proofs.RemoveSlots.{plug_occurs}
use Rattle.slots.specs.Stands.{label}
use Rattle.btree.proofs.Natural.{next_is}

-- ---- counts along a zipper

module _ {C : Type 0} (f : C → List ℕ) (v : ℕ) where
  pub left_occurs : (a : C) (y : Sep ℕ) (l : List (C × Sep ℕ)) → occurs v (read_left none_of f ((a, y) ∷ l)) ≡ occurs v (read_left none_of f l) + occurs v (f a)
  left_occurs a y l = rw (occurs_append v (read_left none_of f l) (f a ++ []), occurs_append v (f a) []) (omega arith)

  pub right_occurs : (y : Sep ℕ) (b : C) (r : List (Sep ℕ × C)) → occurs v (read_rest none_of f ((y, b) ∷ r)) ≡ occurs v (f b) + occurs v (read_rest none_of f r)
  right_occurs y b r = occurs_append v (f b) (read_rest none_of f r)

-- ---- what balancing may write

-- below a leaf there is no slot
abbrev pub slot_of : (d : ℕ) → Kid ℕ d → List ℕ
slot_of zero c = []
slot_of (suc d) c = c.slot ∷ []

abbrev pub near_left : (d : ℕ) → List (Kid ℕ d × Sep ℕ) → List ℕ
near_left d [] = []
near_left d (a ∷ l) = slot_of d a.0

abbrev pub near_right : (d : ℕ) → List (Sep ℕ × Kid ℕ d) → List ℕ
near_right d [] = []
near_right d (b ∷ r) = slot_of d b.1

-- a node's slot x, those of a child's neighbours, and ws, some of the child's
abbrev pub near : (d x : ℕ) → List (Kid ℕ d × Sep ℕ) → List (Sep ℕ × Kid ℕ d) → List ℕ → List ℕ
near d x l r ws = x ∷ (near_left d l ++ (near_right d r ++ ws))

pub near_occurs : (v d x : ℕ) (l : List (Kid ℕ d × Sep ℕ)) (r : List (Sep ℕ × Kid ℕ d)) (ws : List ℕ)
    → occurs v (near d x l r ws) ≡ bit (eqb v x) + (occurs v (near_left d l) + (occurs v (near_right d r) + occurs v ws))
near_occurs v d x l r ws = omega (arith, occurs_append v (near_left d l) (near_right d r ++ ws), occurs_append v (near_right d r) ws)

-- ---- the slots on the walk, each with its neighbours below the same node

-- down to the largest entry
abbrev pub largest_walk : (d : ℕ) → Kid ℕ d → List ℕ
largest_walk zero t = []
largest_walk (suc d) m = let z : Zip ℕ (Kid ℕ d) = at always m in near d m.slot z.lft z.rgt (largest_walk d z.mid)

-- down to k, and from there to the largest entry of its left child
abbrev pub remove_walk : Key → (d : ℕ) → Kid ℕ d → List ℕ
remove_walk k zero t = []
remove_walk k (suc d) m =
    let z : Zip ℕ (Kid ℕ d) = at (below k) m in
    near d m.slot z.lft z.rgt (cond (next_is k z.rgt) (largest_walk d z.mid) (remove_walk k d z.mid))

-- slots of the tree t, its own among them
pub record Along (d : ℕ) (t : Kid ℕ d) (ws : List ℕ) : Type 0 where
  pub within : (v : ℕ) → occurs v ws ≤ occurs v (slots ℕ d t)
  pub own : (v : ℕ) → occurs v (slot_of d t) ≤ occurs v ws

slot_of_within : (v d : ℕ) (t : Kid ℕ d) → occurs v (slot_of d t) ≤ occurs v (slots ℕ d t)
slot_of_within v zero t = omega arith
slot_of_within v (suc d) t = omega arith

near_left_within : (v d : ℕ) (l : List (Kid ℕ d × Sep ℕ)) → occurs v (near_left d l) ≤ occurs v (read_left none_of (slots ℕ d) l)
near_left_within v d [] = omega arith
near_left_within v d (a ∷ l) = omega (arith, slot_of_within v d a.0, left_occurs (slots ℕ d) v a.0 a.1 l)

near_right_within : (v d : ℕ) (r : List (Sep ℕ × Kid ℕ d)) → occurs v (near_right d r) ≤ occurs v (read_rest none_of (slots ℕ d) r)
near_right_within v d [] = omega arith
near_right_within v d (b ∷ r) = omega (arith, slot_of_within v d b.1, right_occurs (slots ℕ d) v b.0 b.1 r)

-- from a child to its node
along_at : (p : Sep ℕ → Bool) (d : ℕ) (m : Tree ℕ d) (ws : List ℕ) → let z : Zip ℕ (Kid ℕ d) = at p m in Along d z.mid ws → Along (suc d) m (near d m.slot z.lft z.rgt ws)
along_at p d m ws a =
    let z : Zip ℕ (Kid ℕ d) = at p m in
    let same : plug m.slot z.lft z.mid z.rgt ≡ m = seek_plug p m.slot [] m.first m.rest in
    record {
      within = λ v. subst (λ (t : Tree ℕ d). occurs v (near d m.slot z.lft z.rgt ws) ≤ occurs v (slots ℕ (suc d) t)) same
          (omega (
            arith,
            near_occurs v d m.slot z.lft z.rgt ws,
            plug_occurs v (slots ℕ d) m.slot z.lft z.mid z.rgt,
            a.within v,
            near_left_within v d z.lft,
            near_right_within v d z.rgt,
          ));
      own = λ v. omega (arith, near_occurs v d m.slot z.lft z.rgt ws);
    }

pub along_largest : (d : ℕ) (t : Kid ℕ d) → Along d t (largest_walk d t)
along_largest zero t = record { within = λ v. omega arith; own = λ v. omega arith }
along_largest (suc d) m = let z : Zip ℕ (Kid ℕ d) = at always m in along_at always d m (largest_walk d z.mid) (along_largest d z.mid)

pub along_remove : (k : Key) (d : ℕ) (t : Kid ℕ d) → Along d t (remove_walk k d t)
along_remove k zero t = record { within = λ v. omega arith; own = λ v. omega arith }
along_remove k (suc d) m =
    let z : Zip ℕ (Kid ℕ d) = at (below k) m in
    along_at (below k) d m (cond (next_is k z.rgt) (largest_walk d z.mid) (remove_walk k d z.mid))
    (by_cond (Along d z.mid) (next_is k z.rgt) (λ e. along_largest d z.mid) (λ e. along_remove k d z.mid))

pub slot_of_same : (d : ℕ) (a b : Kid ℕ d) → label d a ≡ label d b → slot_of d a ≡ slot_of d b
slot_of_same zero a b e = refl
slot_of_same (suc d) a b e = ap (λ (i : ℕ). i ∷ []) e
