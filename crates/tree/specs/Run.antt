-- A batch run on a store: one run after another until a set finds no room, and the answer. Assumes nothing.
use Rattle.std.specs.Prelude.{List, [], ◌∷◌, ◌++◌, cond, ℕ, ◌+◌, length, take, leb}
use Rattle.std.proofs.Math.Option.{Option, none, some}
use Rattle.word.specs.Key.{Key}
use Rattle.tree.specs.Free.{FreePolicy}
use Rattle.tree.specs.State.{State, set_state, dereference_state, slots_needed, Store, rooted, with_root}
use Rattle.tree.specs.Batch.{Rec, Run, runs_of}

-- done, or no room after so many applied records
pub data Answer : Type 0 where
  done : Answer
  no_room : ℕ → Answer

-- "An answer has the number and records applied": of a batch of m records
abbrev pub number : Answer → ℕ
number done = 0
number (no_room n) = 9

abbrev pub applied : ℕ → Answer → ℕ
applied m done = m
applied m (no_room n) = n

-- "every record of a finished run counts": m more of them
abbrev pub counted_too : ℕ → Answer → Answer
counted_too m done = done
counted_too m (no_room n) = no_room (m + n)

pub record Outcome (A : Type 0) : Type 0 where
  pub state : State A
  pub answer : Answer

module _ {A : Type 0} (g : FreePolicy) where
  -- One run, from the root. "If fewer are free at that point, freed ones counted, the answer is 9. Dereference needs none."
  abbrev pub act : Key → Option A → State A → Option (State A)
  act k none t = some (dereference_state g k t)
  act k (some v) t = cond (leb (slots_needed k t) (length t.free)) (some (set_state (record { key = k; val = v }) t)) none

  -- rest is the runs that follow; 9 leaves "the changes before this run applied"
  abbrev pub onward : (State A → Outcome A) → ℕ → State A → Option (State A) → Outcome A
  onward rest size t none = record { state = t; answer = no_room 0 }
  onward rest size t (some u) = let o : Outcome A = rest u in record { state = o.state; answer = counted_too size o.answer }

  abbrev pub run_all : List (Run A) → State A → Outcome A
  run_all [] t = record { state = t; answer = done }
  run_all (q ∷ qs) t = onward (run_all qs) q.size t (act q.acts.key q.acts.op t)

  -- "With no root, an accepted batch .. first writes an empty root. Then each run"
  abbrev pub batch : List (Rec A) → Store A → Outcome A
  batch rs s = run_all (runs_of rs) (with_root s)

  -- ---- "a store formatted and then changed only by our batches"

  abbrev pub batches : List (List (Rec A)) → Store A → Store A
  batches [] s = s
  batches (b ∷ bs) s = batches bs (rooted (batch b s).state)

  -- "all records counted as applied, in order"
  abbrev pub all_applied : List (List (Rec A)) → Store A → List (Rec A)
  all_applied [] s = []
  all_applied (b ∷ bs) s = let o : Outcome A = batch b s in take (applied (length b) o.answer) b ++ all_applied bs (rooted o.state)
