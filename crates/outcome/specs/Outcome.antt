-- The code's outcome of a change, for each case of the mirrors', and what the functions of a change promise by it: the answer
-- and the store left are the mirror's. Assumes nothing.
use Rattle.std.specs.Prelude.{◌≡◌, List, ◌∷◌, ℕ, suc, ◌≤◌, ◌<◌, length, Result, Ok, Err, ⊤}
use Rattle.std.proofs.Math.Option.{Option, none, some}
use Rattle.word.specs.Key.{Key}
use Rattle.tree.specs.Map.{Sep}
use Rattle.tree.specs.Tree.{Node, at, always, plug}
use Rattle.node.specs.declared.Separator.{Separator}
use Rattle.node.specs.Chain.{Step, longest_key, Fit}
use Rattle.node.specs.Edit.{separator_of}
use Rattle.slots.specs.Mirror.{write_node}
use Rattle.slots.specs.Code.{read_node_at}
use Rattle.outcome.specs.declared.BadBytes.{BadBytes}
use Rattle.outcome.specs.declared.Came as code
use Rattle.outcome.specs.declared.Came.TheVariants.{Plain, Split, Low}
use Rattle.outcome.specs.declared.Taken.{Taken}
use Rattle.outcome.specs.Mirror as M
use Rattle.outcome.specs.Mirror.{settled, insert_m}
use Rattle.outcome.specs.RemoveMirror as R
use Rattle.outcome.specs.RemoveMirror.{close_m, settled_low, last_here, replaced_at, replace_m, remove_m}

-- the answer of a change, and the one that refuses
abbrev pub Outcome : Type 0
Outcome = Result code.Came BadBytes

abbrev pub refused : {A : Type 0} → Result A BadBytes
refused = Err (record {})

-- P of the separator that a struct stands for, where it is one that can be written
abbrev pub ForWritten : Separator → (Sep ℕ → Type 0) → Type 0
ForWritten sep P = (e : Sep ℕ) → sep ≡ separator_of e → Fit e → P e

-- ---- a set

abbrev pub of_came : M.Came → Outcome
of_came M.bad = refused
of_came M.plain = Ok Plain
of_came (M.split y b) = Ok (Split (record { 0 = b }) (separator_of y))

-- a separator that came up can be written
abbrev pub FitCame : M.Came → Type 0
FitCame M.bad = Unit {0}
FitCame M.plain = Unit {0}
FitCame (M.split y b) = Fit y

abbrev pub Makes : M.Ran → Outcome → List ℕ → Type 0
Makes g r t = (r ≡ of_came g.out) × (t ≡ g.store) × FitCame g.out

-- ---- a removal

abbrev pub of_fell : R.Fell → Outcome
of_fell R.bad = refused
of_fell R.fine = Ok Plain
of_fell R.low = Ok Low

abbrev pub Does : R.Lost → Outcome → List ℕ → Type 0
Does g r t = (r ≡ of_fell g.out) × (t ≡ g.store)

-- the same with the largest entry
abbrev pub taken_of : Sep ℕ → R.Fell → Result Taken BadBytes
taken_of y R.bad = refused
taken_of y R.fine = Ok (record { came = Plain; separator = separator_of y })
taken_of y R.low = Ok (record { came = Low; separator = separator_of y })

-- the largest entry comes back, and can be written
abbrev pub Lasts : R.Last → Result Taken BadBytes → List ℕ → Type 0
Lasts R.nothing r t = ⊥
Lasts (R.broken u) r t = (r ≡ refused) × (t ≡ u)
Lasts (R.last y g) r t = (r ≡ taken_of y g.out) × (t ≡ g.store) × Fit y

-- in a leaf: the separator at index i goes
unfoldable pub RemovesHere : List ℕ → ℕ → ℕ → Outcome → List ℕ → Type 0
RemovesHere s x i r t =
    (l : List (ℕ × Sep ℕ)) (c : ℕ) (y : Step) (q : List Step)
    → read_node_at 0 s x ≡ some (plug x l c (y ∷ q)) → i ≡ length l → Does (close_m s (plug x l y.1 q)) r t

-- in a leaf: the last separator goes
unfoldable pub RemovesEnd : List ℕ → ℕ → Result Taken BadBytes → List ℕ → Type 0
RemovesEnd s x r t = (m : Node ℕ ℕ) → read_node_at 0 s x ≡ some m → Lasts (last_here s x (at always m).lft (at always m).rgt) r t

-- the node in slot x, as it was read, with w at index i
abbrev pub PutsIn : ℕ → Sep ℕ → List ℕ → Option (Node ℕ ℕ) → Result ⊤ BadBytes → List ℕ → Type 0
PutsIn i w s none r t = (r ≡ refused) × (t ≡ s)
PutsIn i w s (some m) r t = (r ≡ Ok tt) × (t ≡ write_node s (record { slot = m.slot; first = m.first; rest = replaced_at i w m.rest }))

-- ---- what a node makes of what came of its child

module _ (d : ℕ) (s : List ℕ) (x i : ℕ) where
  pub record Settles (o : code.Came) (r : Outcome) (t : List ℕ) : Type 0 where
    pub set : (g : M.Came) → Ok o ≡ of_came g → FitCame g → Makes (settled d x i s g) r t
    pub removed : (f : R.Fell) → Ok o ≡ of_fell f → Does (settled_low d x i s f) r t

  unfoldable pub Replaces : Taken → Outcome → List ℕ → Type 0
  Replaces o r t = (w : Sep ℕ) (f : R.Fell) → Ok o ≡ taken_of w f → Fit w → Does (replace_m d x i w f s) r t

-- ---- the cycle

-- a set of a key and a value that a record may have
unfoldable pub Inserts : ℕ → List ℕ → ℕ → Key → ℕ → Outcome → List ℕ → Type 0
Inserts d s x k v r t = 0 < v → length k ≤ longest_key → Makes (insert_m (record { key = k; val = v }) (suc d) s x) r t

unfoldable pub Removes : ℕ → List ℕ → ℕ → Key → Outcome → List ℕ → Type 0
Removes d s x k r t = Does (remove_m k (suc d) s x) r t

-- ---- the room test

abbrev pub of_need : Option ℕ → Result ℕ BadBytes
of_need none = refused
of_need (some n) = Ok n
