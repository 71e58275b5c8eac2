-- The code's answers of a run and of all runs, for each case of the mirrors'. Assumes nothing.
use Rattle.std.specs.Prelude.{◌≡◌, List, cond, ℕ, Result, Ok, Err}
use Rattle.std.proofs.Math.Option.{Option, none, some}
use Rattle.word.specs.Key.{Key}
use Rattle.slots.specs.Layout.{first_of}
use Rattle.slots.specs.Code.{has_free}
use Rattle.outcome.specs.declared.BadBytes as outcome
use Rattle.outcome.specs.declared.Came.TheVariants.{Plain, Split, Low}
use Rattle.outcome.specs.Outcome.{Outcome}
use Rattle.btree.specs.declared.records.RunError.{RunError}
use Rattle.btree.specs.declared.records.RunError.TheVariants.{BadBytes, NoRoom}
use Rattle.btree.specs.declared.records.Ended.{Ended}
use Rattle.outcome.specs.Mirror.{set_m}
use Rattle.outcome.specs.RemoveMirror.{remove_key_m}
use Rattle.outcome.specs.RunMirror as M
use Rattle.outcome.specs.RunMirror.{Did, slots_needed_m}

-- 01's numbers
abbrev pub run_error_number : RunError → ℕ
run_error_number BadBytes = 8
run_error_number NoRoom = 9

-- bytes that are no node's, below a run
abbrev pub of_bad_bytes : outcome.BadBytes → RunError
of_bad_bytes e = BadBytes

-- what came of a run
abbrev pub Acted : Type 0
Acted = Result (Unit {0}) RunError

abbrev pub acted_of : M.Acted → Acted
acted_of M.done = Ok tt
acted_of M.bad = Err BadBytes
acted_of M.no_room = Err NoRoom

-- an answer and the store left are the mirror's
abbrev pub Acts : Did → Acted → List ℕ → Type 0
Acts g r t = (r ≡ acted_of g.out) × (t ≡ g.store)

pub record Ends (g : M.Ended) (r : Ended) (t : List ℕ) : Type 0 where
  pub acted : r.acted ≡ acted_of g.out
  pub applied : r.applied ≡ g.applied
  pub store : t ≡ g.store

-- what is left to do at the root is bad
abbrev pub finished : Outcome → Acted
finished (Err e) = Err BadBytes
finished (Ok Plain) = Ok tt
finished (Ok (Split right separator)) = Err BadBytes
finished (Ok Low) = Err BadBytes

abbrev pub room_for : List ℕ → Option ℕ → Acted
room_for s none = Err BadBytes
room_for s (some m) = cond (has_free m s (first_of s)) (Ok tt) (Err NoRoom)

unfoldable pub room_in : List ℕ → Key → Acted
room_in s k = room_for s (slots_needed_m s k)

unfoldable pub set_key : List ℕ → Key → ℕ → Did
set_key s k v = let g = set_m s (record { key = k; val = v }) in record { out = M.of_came g.out; store = g.store }

unfoldable pub remove_key : List ℕ → Key → Did
remove_key s k = let g = remove_key_m s k in record { out = M.of_fell g.out; store = g.store }
