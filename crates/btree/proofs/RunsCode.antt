-- The ways through `run` and `run_all`: the run at a place is the first of what is left, and the loop goes through all of them.
-- Assumes nothing.
use mathlib.Core.Path.{◌≡◌, refl, sym, ap, subst, ◌∙◌}
use mathlib.Core.List.{List, []}
use mathlib.Core.Option.{Option}
use Prim.Native.Nat.{ℕ, suc, ◌+◌, ◌-◌, ◌≤◌, ◌<◌}
use lib.ListN.{length, take, drop}
use native.Mathlib.Omega.{arith}
use Rattle.word.specs.Key.{Key}
use Rattle.word.specs.Num.{Bytes}
use Rattle.tree.specs.Batch as batch
use Rattle.tree.specs.Batch.{runs_of}
use Rattle.changes.specs.declared.Change.{Change}
use Rattle.std.specs.Prelude as std
use Rattle.std.specs.Prelude.{Some, None, Ok, Err, IsSome, IfSome}
use Rattle.node.specs.declared.Value.{Value}
use Rattle.changes.specs.declared.Run.{Run}
use Rattle.changes.specs.Fit.{FitOp}
use Rattle.changes.specs.Records.{most_records, key_at, next_at, op_of, op_at, change_at, check_from, check_of, records_from, records_of}
use Rattle.changes.specs.Mirror.{flaw_at}
use Rattle.changes.specs.RunAt.{run_at}
use Rattle.changes.proofs.RecordLaws.{impossible, flaw_sound, sound_flaw, change_there, key_lent, op_is}
use Rattle.changes.proofs.FineLaws.{Chain, ended, more, fine_chain, starts_before, records_ended, sound_fits}
use Rattle.changes.proofs.RunsLaws.{FirstRun, first_run}
use Rattle.btree.specs.declared.records.RunError.{RunError}
use Rattle.btree.specs.declared.records.RunError.TheVariants.{BadBytes}
use Rattle.btree.specs.declared.records.Ran.{Ran}
use Rattle.outcome.specs.RunMirror as M
use Rattle.outcome.specs.RunMirror.{Did, act_m, Ended, onward_m, run_all_m}
use Rattle.btree.specs.RunCode.{Acted, acted_of, Acts, Ends}

-- ---- one run

fit_some : (o : std.Option Value) → FitOp (op_of o) → IfSome o (λ (v : Value). 0 < v.0)
fit_some None f = tt
fit_some (Some v) f = f.0

module _ (s q : List ℕ) (at : ℕ) {f : Run} (found : f ≡ run_at q at) where
  abbrev RunTo : Ran → List ℕ → Type 0
  RunTo r t =
      (r.size ≡ (run_at q at).size) × (r.next ≡ (run_at q at).next)
      × (0 < (run_at q at).size → flaw_at q (run_at q at).last ≡ Ok tt → Acts (act_m s (key_at q (run_at q at).last) (op_at q (run_at q at).last)) r.acted t)

  size_is : f.size ≡ (run_at q at).size
  size_is = ap (λ (x : Run). x.size) found

  behind_is : f.next ≡ (run_at q at).next
  behind_is = ap (λ (x : Run). x.next) found

  pub run_1 : None ≡ change_at q f.last → RunTo (record { acted = Err BadBytes; size = f.size; next = f.next }) s
  run_1 none = (size_is, behind_is, λ some fine. absurd (there (change_there q f.last none (subst (λ (x : Run). next_at q x.last ≤ length q) (sym found) (flaw_sound q (run_at q at).last fine).whole))))
    where
      there : IsSome {T = Change} None → ⊥
      there e = impossible e

  pub run_2 : {c : Change} (a : Acted) (t : List ℕ) → Bytes q → Some c ≡ change_at q f.last
      → (IfSome c.value (λ (v : Value). 0 < v.0) → length (take (c.next - c.start) (drop c.start q)) ≤ 288 → Acts (act_m s (take (c.next - c.start) (drop c.start q)) (op_of c.value)) a t)
      → RunTo (record { acted = a; size = f.size; next = f.next }) t
  run_2 {c} a t small read act = (size_is, behind_is, λ some fine. acts fine)
    where
      last : ℕ
      last = (run_at q at).last

      acts : flaw_at q (run_at q at).last ≡ Ok tt → Acts (act_m s (key_at q (run_at q at).last) (op_at q (run_at q at).last)) a t
      acts fine =
          let here : Some c ≡ change_at q (run_at q at).last = read ∙ ap (λ (x : Run). change_at q x.last) found in
          let sound = flaw_sound q (run_at q at).last fine in
          let key = key_lent q (run_at q at).last here in
          let op = op_is q (run_at q at).last here in
          let fit = sound_fits q (run_at q at).last small sound in
          let valued : IfSome c.value (λ (v : Value). 0 < v.0) = fit_some c.value (subst FitOp (sym op) fit.value) in
          let short : length (take (c.next - c.start) (drop c.start q)) ≤ 288 = subst (λ (k : Key). length k ≤ 288) (sym key) fit.short in
          subst (λ (k : Key). Acts (act_m s k (op_at q (run_at q at).last)) a t) key
          (subst (λ (o : Option ℕ). Acts (act_m s (take (c.next - c.start) (drop c.start q)) o) a t) op (act valued short))

-- ---- all runs

-- so many records were applied before
abbrev pub counted_on : ℕ → Ended → Ended
counted_on m g = record { out = g.out; applied = m + g.applied; store = g.store }

-- n runs with `applied` records made s of s₀, and the rest decides
pub record RunsLeft (q s₀ s : List ℕ) (at applied n : ℕ) : Type 0 where
  pub left : ℕ
  pub before : Key
  pub few : left + n ≤ most_records
  pub fine : check_from q left at before ≡ Ok tt
  pub rest : run_all_m (runs_of (records_of q)) s₀ ≡ counted_on applied (run_all_m (runs_of (records_from q left at)) s)

pub runs_start : (q s : List ℕ) → check_of q ≡ Ok tt → RunsLeft q s s 0 0 0
unfolding check_of records_of
runs_start q s h = record {
  left = most_records;
  before = [];
  few = omega arith;
  fine = h;
  rest = let g : Ended = run_all_m (runs_of (records_from q most_records 0)) s in let e : g.applied ≡ 0 + g.applied = omega arith in λ i. record { out = g.out; applied = e i; store = g.store };
}

module _ (q s₀ s : List ℕ) (at applied n : ℕ) (l : RunsLeft q s₀ s at applied n) where
  pub runs_end : length q ≤ at → Ends (run_all_m (runs_of (records_of q)) s₀) (record { acted = Ok tt; applied = applied }) s
  runs_end h =
      let over : records_from q l.left at ≡ [] = none_left l.left (fine_chain q l.left at l.before l.fine) in
      let all : run_all_m (runs_of (records_of q)) s₀ ≡ counted_on applied (run_all_m [] s) = l.rest ∙ ap (λ (rs : List (batch.Rec ℕ)). counted_on applied (run_all_m (runs_of rs) s)) over in
      rw all (record { acted = refl; applied = omega arith; store = refl })
    where
      none_left : (k : ℕ) → Chain q k at l.before → records_from q k at ≡ []
      none_left k (ended e) = records_ended q k at e
      none_left (suc k) (more g m c) = absurd (omega (arith, starts_before q at g))

  -- after as many runs as a batch may have records, nothing is left
  pub runs_over : most_records ≤ n → length q ≤ at
  runs_over h = let z : l.left ≡ 0 = omega (arith, l.few) in go (subst (λ (k : ℕ). Chain q k at l.before) z (fine_chain q l.left at l.before l.fine))
    where
      go : Chain q 0 at l.before → length q ≤ at
      go (ended e) = omega arith

  module _ (more_left : at < length q) where
    run_first : FirstRun q l.left at (run_at q at)
    run_first = first_run q l.left at l.before (omega (arith, l.few)) l.fine more_left

    abbrev last : ℕ
    last = (run_at q at).last

    module _ (r : Ran) (t : List ℕ)
        (ran : (r.size ≡ (run_at q at).size) × (r.next ≡ (run_at q at).next) × (0 < (run_at q at).size → flaw_at q last ≡ Ok tt → Acts (act_m s (key_at q last) (op_at q last)) r.acted t)) where
      abbrev did : Did
      did = act_m s (key_at q last) (op_at q last)

      acts : Acts did r.acted t
      acts = ran.2 run_first.some (sound_flaw q last run_first.sound)

      abbrev later : List (batch.Run ℕ)
      later = runs_of (records_from q (l.left - (run_at q at).size) (run_at q at).next)

      step : run_all_m (runs_of (records_of q)) s₀ ≡ counted_on applied (onward_m (run_all_m later) (run_at q at).size did.store did.out)
      step = l.rest ∙ ap (λ (rs : List (batch.Run ℕ)). counted_on applied (run_all_m rs s)) run_first.runs

      only_done : (b : M.Acted) → r.acted ≡ Ok tt → r.acted ≡ acted_of b → b ≡ M.done
      only_done M.done e h = refl
      only_done M.bad e h = absurd (cc)
      only_done M.no_room e h = absurd (cc)

      -- a refused run is the last
      stops : (b : M.Acted) (d : RunError) → r.acted ≡ Err d → r.acted ≡ acted_of b → onward_m (run_all_m later) (run_at q at).size did.store b ≡ record { out = b; applied = 0; store = did.store }
      stops M.done d e h = absurd (cc)
      stops M.bad d e h = refl
      stops M.no_room d e h = refl

      pub runs_refused : (d : RunError) → r.acted ≡ Err d → Ends (run_all_m (runs_of (records_of q)) s₀) (record { acted = Err d; applied = applied }) t
      runs_refused d e = rw (step, stops did.out d e acts.0) (record { acted = sym e ∙ acts.0; applied = omega arith; store = acts.1 })

      pub runs_turn : r.acted ≡ Ok tt → RunsLeft q s₀ t r.next (applied + r.size) (n + 1)
      runs_turn e =
          let some = run_first.some in
          let few = run_first.few in
          let g : Ended = run_all_m later did.store in
          let sum : applied + ((run_at q at).size + g.applied) ≡ (applied + r.size) + g.applied = omega (arith, ran.0) in
          let on : counted_on applied (onward_m (run_all_m later) (run_at q at).size did.store did.out) ≡ counted_on (applied + r.size) g =
          ap (λ (a : M.Acted). counted_on applied (onward_m (run_all_m later) (run_at q at).size did.store a)) (only_done did.out e acts.0) ∙ (λ i. record { out = g.out; applied = sum i; store = g.store }) in
          record {
            left = l.left - (run_at q at).size;
            before = key_at q at;
            few = omega (arith, l.few);
            fine = rw ran.1 run_first.fine;
            rest = step ∙ on ∙ rw (ran.1, acts.1);
          }
