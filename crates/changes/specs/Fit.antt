-- What 01 lets a batch's record have: a key of at most 288 bytes, and for a set a value that is an address, "a non-zero u64".
-- Assumes nothing.
use Rattle.std.specs.Prelude.{List, [], ◌∷◌, ℕ, ◌^◌, ◌≤◌, ◌<◌, length}
use Rattle.std.proofs.Math.Option.{Option, none, some}
use Rattle.word.specs.Num.{Bytes}
use Rattle.tree.specs.Batch.{Rec}
use Rattle.changes.specs.Records.{longest_key}

abbrev pub FitOp : Option ℕ → Type 0
FitOp none = Unit {0}
FitOp (some v) = (0 < v) × (v < 256 ^ 8)

pub record Fit (r : Rec ℕ) : Type 0 where
  pub bytes : Bytes r.key
  pub short : length r.key ≤ longest_key
  pub value : FitOp r.op

abbrev pub AllFit : List (Rec ℕ) → Type 0
AllFit [] = Unit {0}
AllFit (r ∷ rs) = Fit r × AllFit rs
