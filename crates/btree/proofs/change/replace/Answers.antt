-- `btree::change::replace` meets its contract. Assumes nothing.
use mathlib.Core.Path.{refl}
use Rattle.outcome.proofs.Refused.{is_refused}
use Rattle.btree.proofs.ChangeCode.{replace_1, replace_2}
use Rattle.btree.proofs.change.replace.Goals as goal

pub returns-in_err-put_separator : goal.returns-in_err-put_separator
returns-in_err-put_separator c = rw (is_refused c.from_residual.result c.from_residual.ensures.0) (replace_1 _ _ _ _ _ _ _ c.in_err-put_separator.ensures refl)

pub returns : goal.returns
returns c = replace_2 _ _ _ _ _ _ _ c.in_ok-put_separator.ensures refl c.settle.ensures
