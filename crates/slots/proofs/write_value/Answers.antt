-- `slots::write_value` meets its contract. Assumes nothing.
use Rattle.std.proofs.Common.{arith}
use Rattle.word.specs.Pick.{pick}
use Rattle.word.proofs.AtLaws.{fitted}
use Rattle.slots.specs.Mirror.{length_at}
use Rattle.slots.specs.Splice.{revalued_bytes}
use Rattle.slots.proofs.write_value.Goals as goal

pub returns-then-not-is_slot : goal.returns-then-not-is_slot
unfolding length_at revalued_bytes pick
returns-then-not-is_slot c = grind arith

pub returns-then-len-gt-NODE_ROOM : goal.returns-then-len-gt-NODE_ROOM
unfolding length_at revalued_bytes pick
returns-then-len-gt-NODE_ROOM c = grind arith

pub overflow_add-from-2 : goal.overflow_add-from-2
overflow_add-from-2 c = omega (arith, fitted _ _ _ c.fits.ensures c.if-not-fits.false)

pub returns : goal.returns
unfolding length_at revalued_bytes pick
returns c = grind arith
