use mathlib.Core.Path.{sym, ◌∙◌}
use borrow.Author.Tests.{eqb-true}
use Rattle.lines.proofs.LinesLaws.{lines_start, lines_1, lines_2, lines_turn, lines_end, line_within, rest_shorter, some_left}
use native.Mathlib.Omega.{arith}
use Rattle.lines.proofs.put_lines.Goals as goal

pub loop-n-init : goal.loop-n-init
loop-n-init c = (omega arith, lines_start _ _)

pub overflow_add-start : goal.overflow_add-start
overflow_add-start c = omega (arith, line_within _ _ c.loop-n.invariant.1 c.find.ensures c.in-Some.is)

pub returns-in_err-at : goal.returns-in_err-at
returns-in_err-at c = rw c.from_residual.ensures (lines_2 _ _ c.loop-n.invariant.1 c.find.ensures c.in-Some.is _ _ c.put_line.ensures c.in_err-at.was)

pub overflow_add-at : goal.overflow_add-at
overflow_add-at c = omega (arith, (lines_turn _ _ c.loop-n.invariant.1 c.find.ensures c.in-Some.is _ _ c.put_line.ensures _ c.in_ok-at.was).fits)

pub loop-n-preserved : goal.loop-n-preserved
loop-n-preserved c = (omega (arith, rest_shorter _ _ c.loop-n.invariant.1 c.find.ensures c.in-Some.is), lines_turn _ _ c.loop-n.invariant.1 c.find.ensures c.in-Some.is _ _ c.put_line.ensures _ c.in_ok-at.was)

pub returns-then-is_empty : goal.returns-then-is_empty
returns-then-is_empty c = lines_end _ _ c.loop-n.invariant.1 (eqb-true _ 0 (sym c.is_empty.ensures ∙ c.if-is_empty.true))

pub returns-else-is_empty : goal.returns-else-is_empty
returns-else-is_empty c = lines_1 _ _ c.loop-n.invariant.1 c.find.ensures c.in_default.is (some_left _ (sym c.is_empty.ensures ∙ c.if-is_empty.false))
