-- `lent::start_at` meets its contract. Assumes nothing.
use mathlib.Core.Path.{◌∙◌}
use Rattle.lent.proofs.LentLaws.{got}
use borrow.Author.Rules.{rules}
use Rattle.lent.proofs.start_at.Goals as goal

pub returns : goal.returns
returns c = c.unwrap_or.ensures ∙ rw c.copied.ensures (got 7 _ _ 0 _ (search rules) c.get.ensures.lookup)
