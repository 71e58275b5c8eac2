-- `iter::taken` meets its contract. Assumes nothing.
use Rattle.iter.proofs.CodeLaws.{taken_arm, taken_first, taken_before}
use Rattle.iter.proofs.taken.Goals as goal

pub returns-then-sight-lt1 : goal.returns-then-sight-lt1
returns-then-sight-lt1 c = taken_arm _ _ _ c.in-Before.is (taken_first _ _ _ c.if-sight-lt1.true)

pub returns-else-sight-lt1 : goal.returns-else-sight-lt1
returns-else-sight-lt1 c = taken_arm _ _ _ c.in-Before.is (taken_before _ _ _ c.if-sight-lt1.false c.candidate_at.ensures)
