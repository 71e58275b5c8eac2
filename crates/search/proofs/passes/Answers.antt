-- `search::passes` meets its contract. Assumes nothing.
use Rattle.search.proofs.SearchCode.{pass_told}
use Rattle.search.proofs.passes.Goals as goal

pub returns : goal.returns
returns c = pass_told c.args.turn c.args.order c.bar.ensures c.rank.ensures
