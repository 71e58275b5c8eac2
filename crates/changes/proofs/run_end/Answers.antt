use mathlib.Core.Path.{sym, ◌∙◌}
use Rattle.changes.proofs.RecordLaws.{change_there}
use Rattle.changes.proofs.RunAtLaws.{run_none, run_start, run_ended, run_whole, run_turn, run_end}
use native.Mathlib.Omega.{arith}
use Rattle.changes.proofs.run_end.Goals as goal

pub returns-in_default : goal.returns-in_default
returns-in_default c = run_none _ _ (sym c.in_default.is ∙ c.change_at.ensures)

pub loop-size-init : goal.loop-size-init
loop-size-init c = run_start _ _ (sym c.in-Some.is ∙ c.change_at.ensures)

pub returns-then-not-has_key : goal.returns-then-not-has_key
returns-then-not-has_key c = run_ended _ _ _ _ _ _ _ c.loop-size.invariant c.loop-size-test.true c.has_key.ensures c.if-not-has_key.true-raw

pub unwrap-change-requires : goal.unwrap-change-requires
unwrap-change-requires c = change_there _ _ c.change_at-in-loop-size.ensures (run_whole _ _ _ _ _ _ _ c.loop-size.invariant c.loop-size-test.true c.has_key.ensures c.if-not-has_key.false-raw)

pub loop-size-preserved : goal.loop-size-preserved
loop-size-preserved c = run_turn _ _ _ _ _ _ _ c.loop-size.invariant c.loop-size-test.true c.has_key.ensures c.if-not-has_key.false-raw (sym c.unwrap-change.ensures ∙ c.change_at-in-loop-size.ensures)

pub returns : goal.returns
returns c = run_end _ _ _ _ _ _ _ c.loop-size.invariant (omega arith)
