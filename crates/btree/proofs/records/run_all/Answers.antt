use Rattle.btree.proofs.RunsCode.{runs_start, runs_end, runs_over, runs_refused, runs_turn}
use native.Mathlib.Omega.{arith}
use Rattle.btree.proofs.records.run_all.Goals as goal

pub loop-init : goal.loop-init
loop-init c = (omega arith, λ h. runs_start _ _ h)

pub returns-then-records-at : goal.returns-then-records-at
returns-then-records-at c = λ h. runs_end _ _ _ _ _ _ (c.loop.invariant.1 h) c.if-records-at.true

pub returns-in-Err : goal.returns-in-Err
returns-in-Err c = λ h. runs_refused _ _ _ _ _ _ (c.loop.invariant.1 h) c.if-records-at.false _ _ c.run-ran.ensures _ c.in-Err.is

pub loop-preserved : goal.loop-preserved
loop-preserved c = (omega arith, λ h. runs_turn _ _ _ _ _ _ (c.loop.invariant.1 h) c.if-records-at.false _ _ c.run-ran.ensures c.in_default.is)

pub returns-then-records-at-2 : goal.returns-then-records-at-2
returns-then-records-at-2 c = λ h. runs_end _ _ _ _ _ _ (c.loop.invariant.1 h) c.if-records-at-2.true

pub returns : goal.returns
returns c = λ h. absurd (omega (arith, runs_over _ _ _ _ _ _ (c.loop.invariant.1 h)))
