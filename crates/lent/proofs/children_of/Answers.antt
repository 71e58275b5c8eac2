-- `lent::children_of` meets its contract. Assumes nothing.
use Rattle.node.specs.Chain.{child_of}
use Rattle.lent.proofs.LentLaws.{each}
use borrow.Author.Rules.{rules}
use Rattle.lent.proofs.children_of.Goals as goal

pub returns : goal.returns
returns c = each child_of c.args.addresses _ 9 (search rules) c.from_fn.ensures.items.long λ i h. let (p, q, k) = c.from_fn.ensures.items.at i (child_of 0) h in search rules
