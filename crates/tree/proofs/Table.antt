-- Stores computed and compared: a case is batches on a formatted store, what each answers, and the tree and the free slots
-- that they leave, as numbers. Assumes nothing.
use mathlib.Core.List.{List, [], ◌∷◌, ◌++◌}
use mathlib.Core.Bool.{Bool, true, false, ◌&&◌}
use mathlib.Core.Option.{none, some}
use Prim.Native.Nat.{ℕ, zero, suc}
use lib.ListN.{length}
use lib.Dec.{eqb}
use Rattle.tree.specs.Map.{Sep}
use Rattle.tree.specs.Tree.{Kid}
use Rattle.tree.specs.Free.{stack}
use Rattle.tree.specs.State.{Store, bare, rooted, formatted}
use Rattle.tree.specs.Batch.{Rec}
use Rattle.tree.specs.Run.{number, applied, Outcome, batch}

-- Keys are single bytes. A node is written as its slot, its first child, then for each separator its key, its value and the
-- child behind it, then 0; the child of a leaf is nothing.
pub record Case : Type 0 where
  pub count : ℕ
  pub batches : List (List (Rec ℕ))
  pub answers : List ℕ
  pub depth : ℕ
  pub tree : List ℕ
  pub free : List ℕ

abbrev pub set : ℕ → ℕ → Rec ℕ
set k v = record { key = k ∷ []; op = some v }

abbrev pub del : ℕ → Rec ℕ
del k = record { key = k ∷ []; op = none }

abbrev pub show_rest : {C : Type 0} → (C → List ℕ) → List (Sep ℕ × C) → List ℕ
show_rest f [] = 0 ∷ []
show_rest f (x ∷ r) = (x.0.key ++ (x.0.val ∷ [])) ++ (f x.1 ++ show_rest f r)

abbrev pub show : (d : ℕ) → Kid ℕ d → List ℕ
show zero t = []
show (suc d) n = n.slot ∷ (show d n.first ++ show_rest (show d) n.rest)

abbrev pub equal : List ℕ → List ℕ → Bool
equal [] [] = true
equal [] (y ∷ m) = false
equal (x ∷ l) [] = false
equal (x ∷ l) (y ∷ m) = eqb x y && equal l m

-- what is left, with the answers so far: each batch's number and how many records it applied
pub record Left : Type 0 where
  pub store : Store ℕ
  pub answers : List ℕ

abbrev pub run_each : List (List (Rec ℕ)) → Left → Left
run_each [] l = l
run_each (b ∷ bs) l =
    let o : Outcome ℕ = batch stack b l.store in
    run_each bs (record { store = rooted o.state; answers = l.answers ++ (number o.answer ∷ applied (length b) o.answer ∷ []) })

abbrev pub leaves : Case → Store ℕ → Bool
leaves c (bare fs) = false
leaves c (rooted t) = eqb t.depth c.depth && (equal (show (suc t.depth) t.root) c.tree && equal t.free c.free)

abbrev pub holds : Case → Bool
holds c =
    let l : Left = run_each c.batches (record { store = formatted c.count; answers = [] }) in
    equal l.answers c.answers && leaves c l.store

abbrev pub all_hold : List Case → Bool
all_hold [] = true
all_hold (c ∷ cs) = holds c && all_hold cs
