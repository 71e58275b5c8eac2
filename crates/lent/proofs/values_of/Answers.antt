-- `lent::values_of` meets its contract. Assumes nothing.
use Rattle.node.specs.Chain.{value_of}
use Rattle.lent.proofs.LentLaws.{each}
use borrow.Author.Rules.{rules}
use Rattle.lent.proofs.values_of.Goals as goal

pub returns : goal.returns
returns c = each value_of c.args.addresses _ 8 (search rules) c.from_fn.ensures.items.long λ i h. let (p, q, k) = c.from_fn.ensures.items.at i (value_of 0) h in search rules
