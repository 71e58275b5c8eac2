-- `iter::here` meets its contract. Assumes nothing.
use Rattle.iter.proofs.CodeLaws.{here_1, here_2}
use Rattle.iter.proofs.here.Goals as goal

pub returns-then-not-sight : goal.returns-then-not-sight
returns-then-not-sight c = here_1 _ _ _ c.if-not-sight.true

pub returns : goal.returns
returns c = here_2 _ _ _ c.if-not-sight.false c.candidate_at.ensures
