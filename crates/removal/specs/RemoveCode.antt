-- What the functions of a removal do, where the structs that they are given are those of chains. Assumes nothing.
use Rattle.std.specs.Prelude.{◌≡◌, List, ◌∷◌, true, false, ℕ, ◌+◌, ◌≤◌, length, Result, Ok, Err}
use Rattle.std.proofs.Math.Option.{some}
use Rattle.tree.specs.Map.{Sep}
use Rattle.tree.specs.Tree.{Node, plug}
use Rattle.node.specs.declared.Node as struct
use Rattle.node.specs.Chain.{Step, Writable, node_of}
use Rattle.outcome.specs.declared.BadBytes.{BadBytes}
use Rattle.removal.specs.declared.Held.{Held}
use Rattle.codec.specs.Codec.{is_accepted}
use Rattle.slots.specs.Code.{reading_at, slot_of, read_node_at}
use Rattle.outcome.specs.Outcome.{Outcome, Does}
use Rattle.outcome.specs.RemoveMirror.{borrow_last_m, borrow_first_m, merge_m, with_right, with_left}

-- no node of depth d is in slot x
abbrev pub Missing : ℕ → List ℕ → ℕ → Type 0
Missing d s x = is_accepted (reading_at d s x).ending ≡ false

-- one is: n, in slot v
abbrev pub Read : ℕ → List ℕ → ℕ → ℕ → struct.Node → Type 0
Read d s x v n = (is_accepted (reading_at d s x).ending ≡ true) × (v ≡ slot_of s x) × (n ≡ (reading_at d s x).node)

-- which of the two `hold` answers
abbrev pub Reads : ℕ → List ℕ → ℕ → Result Held BadBytes → Type 0
Reads d s x (Ok h) = Read d s x h.slot.0 h.node
Reads d s x (Err e) = Missing d s x

-- the struct of a chain that can be written
pub record Is (n : struct.Node) (c : ℕ) (r : List Step) : Type 0 where
  pub struct : n ≡ node_of c r
  pub fine : Writable c r

-- the same with its slot
abbrev pub Holds : Held → Node ℕ ℕ → Type 0
Holds h m = (h.slot.0 ≡ m.slot) × Is h.node m.first m.rest

-- a node with the separator at index i between the children a and b
abbrev pub Between : Held → ℕ → List (ℕ × Sep ℕ) → ℕ → Sep ℕ → ℕ → List Step → Type 0
Between h i l a y b q = let m : Node ℕ ℕ = plug h.slot.0 l a ((y, b) ∷ q) in Is h.node m.first m.rest × (i ≡ length l)

module _ (s : List ℕ) (over : Held) (i : ℕ) where
  module _ (left right : Held) (o : Outcome) (t : List ℕ) where
    unfoldable pub BorrowsLast : Type 0
    BorrowsLast =
        (l : List (ℕ × Sep ℕ)) (a : Node ℕ ℕ) (y : Sep ℕ) (c : Node ℕ ℕ) (q : List Step)
        → Between over i l a.slot y c.slot q → Holds left a → Holds right c → length c.rest ≤ 7
        → Does (borrow_last_m s over.slot.0 l a a.rest y c q) o t

    unfoldable pub BorrowsFirst : Type 0
    BorrowsFirst =
        (l : List (ℕ × Sep ℕ)) (c : Node ℕ ℕ) (y : Sep ℕ) (b : Node ℕ ℕ) (q : List Step)
        → Between over i l c.slot y b.slot q → Holds left c → Holds right b → length c.rest ≤ 7
        → Does (borrow_first_m s over.slot.0 l c y b b.rest q) o t

    unfoldable pub Merges : Type 0
    Merges =
        (l : List (ℕ × Sep ℕ)) (a : Node ℕ ℕ) (y : Sep ℕ) (b : Node ℕ ℕ) (q : List Step)
        → Between over i l a.slot y b.slot q → Holds left a → Holds right b → length a.rest + length b.rest ≤ 7
        → Does (merge_m s over.slot.0 l a y b q) o t

  module _ (d : ℕ) where
    -- the child left of the separator at i is low
    unfoldable pub WithRight : Held → Outcome → List ℕ → Type 0
    WithRight low o t =
        (l : List (ℕ × Sep ℕ)) (c : Node ℕ ℕ) (y : Sep ℕ) (b : ℕ) (q : List Step)
        → Between over i l c.slot y b q → Holds low c → length c.rest ≤ 3
        → Does (with_right d s over.slot.0 l c y q (read_node_at d s b)) o t

    -- the child right of it is low, and its left sibling is read
    unfoldable pub WithLeft : Held → Held → Outcome → List ℕ → Type 0
    WithLeft left low o t =
        (l : List (ℕ × Sep ℕ)) (a : Node ℕ ℕ) (y : Sep ℕ) (c : Node ℕ ℕ) (q : List Step)
        → Between over i l a.slot y c.slot q → Holds left a → Holds low c → length c.rest ≤ 3
        → Does (with_left d s over.slot.0 l y c q (some a)) o t
