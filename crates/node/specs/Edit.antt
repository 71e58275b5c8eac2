-- Edits of a node's contents. A chain is a first child, then separators, each with the child right of it. Assumes nothing.
use Rattle.std.specs.Prelude.{List, [], ◌∷◌, ◌++◌, map, ℕ, zero, suc, ◌+◌, length, get_or, take, drop}
use Rattle.tree.specs.Map.{Sep}
use Rattle.node.specs.declared.Node.{Node}
use Rattle.node.specs.declared.Separator.{Separator}
use Rattle.node.specs.declared.edit.Halves.{Halves}
use Rattle.node.specs.Chain.{Step, padded, value_of, node_of}

abbrev pub Chain : Type 0
Chain = ℕ × List Step

abbrev pub node_from : Chain → Node
node_from x = node_of x.0 x.1

abbrev pub separator_of : Sep ℕ → Separator
separator_of e = record { value = value_of e.val; len = length e.key; key = padded 288 0 e.key }

-- ---- one more, one less, one changed

module _ {A : Type 0} where
  -- b put in before index i
  unfoldable pub inserted : ℕ → List A → List A → List A
  inserted i b l = take i l ++ (b ++ drop i l)

  -- n taken out from index i on
  unfoldable pub removed : ℕ → ℕ → List A → List A
  removed i n l = take i l ++ drop (i + n) l

  -- a separator and the child right of it at index i
  abbrev pub insert_at : ℕ → A → List A → List A
  insert_at i x l = inserted i (x ∷ []) l

  -- the separator at index i and the child right of it go
  abbrev pub remove_at : ℕ → List A → List A
  remove_at i l = removed i 1 l

  abbrev pub change_at : ℕ → (A → A) → List A → List A
  change_at i f [] = []
  change_at zero f (x ∷ l) = f x ∷ l
  change_at (suc i) f (x ∷ l) = x ∷ change_at i f l

-- another separator at index i; its child stays
unfoldable pub replace_at : ℕ → Sep ℕ → List Step → List Step
replace_at i e r = change_at i (λ (x : Step). (e, x.1)) r

-- another child at index i
unfoldable pub child_at : ℕ → ℕ → Chain → Chain
child_at zero y a = (y, a.1)
child_at (suc i) y a = (a.0, change_at i (λ (x : Step). (x.0, y)) a.1)

-- the children, one more than the separators
abbrev pub kids : Chain → List ℕ
kids a = a.0 ∷ map (λ (x : Step). x.1) a.1

-- a separator and the child left of it at the front
unfoldable pub push_front : ℕ → Sep ℕ → Chain → Chain
push_front y e a = (y, (e, a.0) ∷ a.1)

-- the first separator and the first child go
unfoldable pub pop_front : Chain → Chain
pop_front (c, []) = (c, [])
pop_front (c, x ∷ r) = (x.1, r)

-- "merge": the separator between two neighbours comes down
unfoldable pub joined : Chain → Sep ℕ → Chain → Chain
joined a e b = (a.0, a.1 ++ ((e, b.0) ∷ b.1))

-- ---- "A node holding 8 splits"

pub record Parted : Type 0 where
  pub left : Chain
  pub middle : Sep ℕ
  pub right : Chain

-- the separator at an index, with the child right of it
unfoldable pub step_at : ℕ → List Step → Step
step_at i l = get_or l i (record { key = []; val = 0 }, 0)

-- nine separators: the first four, the fifth, the last four
unfoldable pub parted : ℕ → List Step → Parted
parted c l = record { left = (c, take 4 l); middle = (step_at 4 l).0; right = ((step_at 4 l).1, drop 5 l) }

-- a full node with x at index i; proofs/EditLaws.antt has 01's three cases
unfoldable pub halves : ℕ → Step → Chain → Parted
halves i x a = parted a.0 (insert_at i x a.1)

abbrev pub halves_from : Parted → Halves
halves_from p = record { left = node_from p.left; middle = separator_of p.middle; right = node_from p.right }
