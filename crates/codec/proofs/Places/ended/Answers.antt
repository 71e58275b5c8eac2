-- `codec::Places::ended` meets its contract. Assumes nothing.
use mathlib.Core.Path.{sym, ◌∙◌}
use Rattle.codec.proofs.ReadLaws.{ended_1, ended_2}
use Rattle.codec.proofs.Places.ended.Goals.{then-self, else-self}
use Rattle.codec.proofs.Places.ended.Goals as goal

pub returns-then-not-is_accepted : goal.returns-then-not-is_accepted
returns-then-not-is_accepted c = rw c.empty-self.ensures (ended_1 _ _ _ (sym c.is_accepted.ensures ∙ c.if-not-is_accepted.true))

pub returns : goal.returns
returns c =
    ended_2 _ _ _ (sym c.is_accepted.ensures ∙ c.if-not-is_accepted.false)
    (elim c.if-self.branch [ then-self w ↦ rw w.if-self.true (w.standard-is ∙ w.is_no_byte_left-standard.ensures) | else-self w ↦ w.standard-is ∙ rw w.if-self.false ])
