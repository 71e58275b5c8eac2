-- `iter::forward` meets its contract. Assumes nothing.
use Rattle.iter.proofs.CodeLaws.{forward_1}
use Rattle.iter.proofs.forward.Goals as goal

pub returns : goal.returns
returns c = forward_1 _ _ c.turn_forward.ensures c.take_step.ensures
