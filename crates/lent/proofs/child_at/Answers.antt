-- `lent::child_at` meets its contract. Assumes nothing.
use mathlib.Core.Path.{ap, ◌∙◌}
use Rattle.node.specs.declared.Child.{Child}
use Rattle.node.specs.Chain.{child_of}
use Rattle.lent.proofs.LentLaws.{got}
use borrow.Author.Rules.{rules}
use Rattle.lent.proofs.child_at.Goals as goal

pub returns : goal.returns
returns c = ap (λ (x : Child). x.0) (c.unwrap_or.ensures ∙ rw c.copied.ensures (got 8 _ _ (child_of 0) _ (search rules) c.get.ensures.lookup))
