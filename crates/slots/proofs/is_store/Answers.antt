-- `slots::is_store` meets its contract. Assumes nothing.
use Rattle.std.proofs.Common.{arith}
use Rattle.slots.specs.Layout.{is_store}
use Rattle.slots.specs.Code.{has_size}
use Rattle.slots.proofs.is_store.Goals as goal

pub returns-then-has_size : goal.returns-then-has_size
unfolding has_size is_store
returns-then-has_size c = grind arith

pub returns-else-has_size : goal.returns-else-has_size
unfolding has_size is_store
returns-else-has_size c = grind arith
