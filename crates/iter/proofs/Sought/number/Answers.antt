-- `iter::Sought::number` meets its contract. Assumes nothing.
use mathlib.Core.Path.{sym}
use Rattle.word.specs.Pick.{pick_t, pick_f}
use Rattle.iter.proofs.Sought.number.Goals as goal

pub returns-then-self : goal.returns-then-self
returns-then-self c = sym (pick_t _ _ c.if-self.true)

pub returns-else-self : goal.returns-else-self
returns-else-self c = sym (pick_f _ _ c.if-self.false)
