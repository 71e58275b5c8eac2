-- `lent::value_at` meets its contract. Assumes nothing.
use mathlib.Core.Path.{ap, ◌∙◌}
use Rattle.node.specs.declared.Value.{Value}
use Rattle.node.specs.Chain.{value_of}
use Rattle.lent.proofs.LentLaws.{got}
use borrow.Author.Rules.{rules}
use Rattle.lent.proofs.value_at.Goals as goal

pub returns : goal.returns
returns c = ap (λ (x : Value). x.0) (c.unwrap_or.ensures ∙ rw c.copied.ensures (got 7 _ _ (value_of 0) _ (search rules) c.get.ensures.lookup))
