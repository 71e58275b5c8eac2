-- The room test, one run, and all runs of a batch, on the bytes of any store: a proof device, as Mirror. Assumes nothing.
use Rattle.std.specs.Prelude.{List, [], ◌∷◌, cond, ℕ, zero, suc, ◌+◌, length, leb, eqb}
use Rattle.std.proofs.Math.Option.{Option, none, some}
use Rattle.word.specs.Key.{Key}
use Rattle.tree.specs.Map.{Sep}
use Rattle.tree.specs.Tree.{Node, Zip, at, below}
use Rattle.tree.specs.Batch.{Run}
use Rattle.slots.specs.Limits.{most_depth}
use Rattle.slots.specs.Layout.{root_of, depth_of, first_of}
use Rattle.slots.specs.Mirror.{write_node, Took, take_slot, set_root}
use Rattle.slots.specs.Code.{read_node_at, has_free}
use Rattle.outcome.specs.Mirror as M
use Rattle.outcome.specs.Mirror.{Came, Ran, is_next, set_m}
use Rattle.outcome.specs.RemoveMirror as R
use Rattle.outcome.specs.RemoveMirror.{Fell, Lost, remove_key_m}

-- from a node down: how many full nodes stand in a row up to here; 0 if the key is there; `none` where a node is bad
abbrev pub need_on : Key → (ℕ → ℕ → Option ℕ) → ℕ → Option (Node ℕ ℕ) → Option ℕ
need_on k rec run none = none
need_on k rec run (some m) =
    let z : Zip ℕ ℕ = at (below k) m in
    cond (is_next k z.rgt) (some 0) (rec z.mid (cond (leb 8 (length m.rest)) (suc run) 0))

abbrev pub need_m : Key → (d : ℕ) → List ℕ → ℕ → ℕ → Option ℕ
need_m k zero s x run = some run
need_m k (suc d) s x run = need_on k (λ c i. need_m k d s c i) run (read_node_at d s x)

-- "one more if that run takes in the root"
abbrev pub whole_m : ℕ → Option ℕ → Option ℕ
whole_m top none = none
whole_m top (some r) = some (cond (eqb r top) (suc r) r)

unfoldable pub slots_needed_m : List ℕ → Key → Option ℕ
slots_needed_m s k = whole_m (suc (depth_of s)) (need_m k (suc (depth_of s)) s (root_of s) 0)

-- one run: done, bad bytes (8), or no room (9)
pub data Acted : Type 0 where
  done : Acted
  bad : Acted
  no_room : Acted

pub record Did : Type 0 where
  pub out : Acted
  pub store : List ℕ

abbrev pub of_came : Came → Acted
of_came M.bad = bad
of_came M.plain = done
of_came (M.split y b) = bad

abbrev pub of_fell : Fell → Acted
of_fell R.bad = bad
of_fell R.fine = done
of_fell R.low = bad

abbrev pub set_if : List ℕ → Sep ℕ → Option ℕ → Did
set_if s e none = record { out = bad; store = s }
set_if s e (some m) = cond (has_free m s (first_of s)) (record { out = of_came (set_m s e).out; store = (set_m s e).store }) (record { out = no_room; store = s })

abbrev pub act_on : List ℕ → Key → Option ℕ → Did
act_on s k none = record { out = of_fell (remove_key_m s k).out; store = (remove_key_m s k).store }
act_on s k (some v) = set_if s (record { key = k; val = v }) (slots_needed_m s k)

-- no tree is deeper than the limit
unfoldable pub act_m : List ℕ → Key → Option ℕ → Did
act_m s k o = cond (leb (depth_of s) most_depth) (act_on s k o) (record { out = bad; store = s })

-- all runs: how it ended, the records applied, the store
pub record Ended : Type 0 where
  pub out : Acted
  pub applied : ℕ
  pub store : List ℕ

abbrev pub onward_m : (List ℕ → Ended) → ℕ → List ℕ → Acted → Ended
onward_m rest size s done = let b : Ended = rest s in record { out = b.out; applied = size + b.applied; store = b.store }
onward_m rest size s bad = record { out = bad; applied = 0; store = s }
onward_m rest size s no_room = record { out = no_room; applied = 0; store = s }

abbrev pub run_all_m : List (Run ℕ) → List ℕ → Ended
run_all_m [] s = record { out = done; applied = 0; store = s }
run_all_m (q ∷ qs) s = let g : Did = act_m s q.acts.key q.acts.op in onward_m (run_all_m qs) q.size g.store g.out

-- "With no root, an accepted batch, even an empty one, first writes an empty root."
abbrev pub start_on : Took → List ℕ
start_on t = cond (eqb t.slot 0) t.store (set_root (write_node t.store (record { slot = t.slot; first = 0; rest = [] })) t.slot 0)

unfoldable pub start_m : List ℕ → List ℕ
start_m s = cond (eqb (root_of s) 0) (start_on (take_slot s)) s
