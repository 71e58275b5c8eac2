use mathlib.Core.Path.{sym, ◌∙◌}
use Rattle.changes.proofs.RecordLaws.{change_there, change_within}
use Rattle.changes.proofs.CheckLaws.{check_start, check_1, check_2, check_3, check_4, check_whole, check_turn}
use Rattle.std.proofs.lemmas.Result.{err_from_is_err_and}
use native.Mathlib.Omega.{arith}
use Rattle.changes.proofs.check.Goals as goal

pub loop-init : goal.loop-init
loop-init c = check_start _

pub returns-then-at-records : goal.returns-then-at-records
returns-then-at-records c = check_1 _ _ _ _ _ c.loop.invariant c.if-at-records.true

pub returns-in_err-flaw : goal.returns-in_err-flaw
returns-in_err-flaw c = let p = err_from_is_err_and c.from_residual.result c.from_residual.ensures.1 in rw (p.1, p.2) (check_2 _ _ _ _ _ c.loop.invariant c.loop-test.true c.if-at-records.false c.flaw.ensures _ c.in_err-flaw.was)

pub unwrap-change-requires : goal.unwrap-change-requires
unwrap-change-requires c = change_there _ _ c.change_at.ensures (check_whole _ _ _ _ _ c.loop.invariant c.loop-test.true c.if-at-records.false c.flaw.ensures c.in_ok-flaw.was)

pub slice_bounds-compare_part-count : goal.slice_bounds-compare_part-count
slice_bounds-compare_part-count c = omega (arith, change_within _ _ (sym c.unwrap-change.ensures ∙ c.change_at.ensures))

pub slice_bounds-compare_part-start : goal.slice_bounds-compare_part-start
slice_bounds-compare_part-start c = omega (arith, change_within _ _ (sym c.unwrap-change.ensures ∙ c.change_at.ensures))

pub slice_bounds-compare_part-end : goal.slice_bounds-compare_part-end
slice_bounds-compare_part-end c = omega (arith, change_within _ _ (sym c.unwrap-change.ensures ∙ c.change_at.ensures))

pub returns-then-is_lt : goal.returns-then-is_lt
returns-then-is_lt c = check_3 _ _ _ _ _ c.loop.invariant c.loop-test.true c.if-at-records.false c.flaw.ensures c.in_ok-flaw.was (sym c.unwrap-change.ensures ∙ c.change_at.ensures) c.compare_part.ensures c.is_lt.ensures c.if-is_lt.true

pub loop-preserved : goal.loop-preserved
loop-preserved c = check_turn _ _ _ _ _ c.loop.invariant c.loop-test.true c.if-at-records.false c.flaw.ensures c.in_ok-flaw.was (sym c.unwrap-change.ensures ∙ c.change_at.ensures) c.compare_part.ensures c.is_lt.ensures c.if-is_lt.false

pub returns-then-at-records-2 : goal.returns-then-at-records-2
returns-then-at-records-2 c = check_1 _ _ _ _ _ c.loop.invariant c.if-at-records-2.true

pub returns : goal.returns
returns c = check_4 _ _ _ _ _ c.loop.invariant (omega arith) c.if-at-records-2.false
