-- `iter::backward` meets its contract. Assumes nothing.
use Rattle.iter.proofs.CodeLaws.{backward_1}
use Rattle.iter.proofs.backward.Goals as goal

pub returns : goal.returns
returns c = backward_1 _ _ c.turn_backward.ensures c.take_step.ensures
