-- The bytes that are no node's are told by one value, so an answer that is an error is the one that refuses. Assumes nothing.
use mathlib.Core.Path.{◌≡◌, refl}
use Rattle.std.specs.Prelude.{Result, Ok, Err, IsErr}
use Rattle.outcome.specs.declared.BadBytes.{BadBytes}
use Rattle.outcome.specs.Outcome.{refused}

pub is_refused : {A : Type 0} (r : Result A BadBytes) → IsErr r → r ≡ refused
is_refused (Ok x) h = absurd cc
is_refused (Err e) h = refl
