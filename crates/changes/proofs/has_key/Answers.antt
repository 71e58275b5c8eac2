-- `changes::has_key` meets its contract: a law for each way through it. Assumes nothing.
use mathlib.Core.Path.{sym, ◌∙◌}
use Rattle.changes.proofs.RecordLaws.{change_within}
use Rattle.changes.proofs.RunAtLaws.{has_1, has_2}
use native.Mathlib.Omega.{arith}
use Rattle.changes.proofs.has_key.Goals as goal

pub returns-in_default : goal.returns-in_default
returns-in_default c = has_1 _ _ _ (sym c.in_default.is ∙ c.change_at.ensures)

pub slice_bounds-compare_part-count : goal.slice_bounds-compare_part-count
slice_bounds-compare_part-count c = omega (arith, change_within _ _ (sym c.in-Some.is ∙ c.change_at.ensures))

pub slice_bounds-compare_part-start : goal.slice_bounds-compare_part-start
slice_bounds-compare_part-start c = omega (arith, change_within _ _ (sym c.in-Some.is ∙ c.change_at.ensures))

pub slice_bounds-compare_part-end : goal.slice_bounds-compare_part-end
slice_bounds-compare_part-end c = omega (arith, change_within _ _ (sym c.in-Some.is ∙ c.change_at.ensures))

pub returns : goal.returns
returns c = has_2 _ _ _ (sym c.in-Some.is ∙ c.change_at.ensures) c.compare_part.ensures c.is_eq.ensures
