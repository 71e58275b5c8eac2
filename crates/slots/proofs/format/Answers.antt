-- `slots::format` meets its contract. Assumes nothing.
use Rattle.std.proofs.Common.{arith}
use Rattle.word.specs.Pick.{pick}
use Rattle.slots.proofs.CodeLaws.{formatted}
use Rattle.slots.proofs.format.Goals as goal

pub returns-then-not-has_size : goal.returns-then-not-has_size
unfolding pick
returns-then-not-has_size c = record { number = grind arith; bytes = grind arith }

pub returns : goal.returns
returns c = formatted _ _ c.has_size.ensures c.if-not-has_size.false c.clear.ensures c.write_u32.ensures c.write_u32-2.ensures c.link.ensures
