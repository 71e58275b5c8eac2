-- `iter::take_step` meets its contract. Assumes nothing.
use Rattle.iter.proofs.CodeLaws.{step_1, step_2, step_3}
use Rattle.iter.proofs.take_step.Goals as goal

pub returns-in-Err : goal.returns-in-Err
returns-in-Err c = step_1 _ _ _ _ _ c.spot_for.ensures c.in-Err.is

pub returns-in-Ok-None : goal.returns-in-Ok-None
returns-in-Ok-None c = step_2 _ _ _ _ _ c.spot_for.ensures c.in-Ok-None.is c.in-Ok-None.field-0-is c.moved.ensures

pub returns-in-Ok-Some : goal.returns-in-Ok-Some
returns-in-Ok-Some c = step_3 _ _ _ _ _ c.spot_for.ensures c.in-Ok-Some.is c.in-Ok-Some.field-0-is c.in-Ok-Some.spot-is c.node_bytes.ensures c.copy.ensures c.moved-in-Ok-Some.ensures
