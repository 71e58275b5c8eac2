-- Lookup: from the root down to where the key is or would be. Assumes nothing.
use Rattle.std.specs.Prelude.{List, [], ◌∷◌, Bool, true, false, cond, ℕ, zero, suc}
use Rattle.std.proofs.Math.Option.{Option, none, some}
use Rattle.word.specs.Key.{Key}
use Rattle.tree.specs.Map.{Sep}
use Rattle.tree.specs.Tree.{Kid, Zip, at, below, same}

module _ {A C : Type 0} where
  -- the next separator's value if its key is k, else what is found below
  abbrev pub look_here : Key → Option A → List (Sep A × C) → Option A
  look_here k o [] = o
  look_here k o (x ∷ r) = cond (same k x.0) (some x.0.val) o

module _ (A : Type 0) where
  abbrev pub look : Key → (d : ℕ) → Kid A d → Option A
  look k zero t = none
  look k (suc d) n = let z : Zip A (Kid A d) = at (below k) n in look_here k (look k d z.mid) z.rgt

abbrev pub is_some : {A : Type 0} → Option A → Bool
is_some none = false
is_some (some v) = true
