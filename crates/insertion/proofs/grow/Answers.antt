-- `insertion::grow` meets its contract. Assumes nothing.
use mathlib.Core.Path.{ap, ◌∙◌}
use Rattle.std.specs.Prelude.{Ok}
use Rattle.outcome.proofs.Refused.{is_refused}
use Rattle.insertion.proofs.InsertCode.{grow_bad, grow_1, grow_2, grow_3}
use Rattle.insertion.proofs.grow.Goals as goal

pub returns-in_err-outcome : goal.returns-in_err-outcome
returns-in_err-outcome c = rw (is_refused c.from_residual.result c.from_residual.ensures.0) (grow_bad _ _ _ _ _ c.in_err-outcome.was)

pub returns-in-Plain : goal.returns-in-Plain
returns-in-Plain c = grow_1 _ _ _ _ (c.in_ok-outcome.was ∙ ap Ok c.in-Plain.is)

pub returns-in-Split : goal.returns-in-Split
returns-in-Split c = grow_2 _ _ _ _ (c.in_ok-outcome.was ∙ ap Ok c.in-Split.is) c.new_root.ensures

pub returns-in-Low : goal.returns-in-Low
returns-in-Low c = grow_3 _ _ _ _ (c.in_ok-outcome.was ∙ ap Ok c.in-Low.is)
