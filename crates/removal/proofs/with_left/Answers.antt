-- `removal::with_left` meets its contract. Assumes nothing.
use Rattle.removal.proofs.RebalanceCode.{with_left_1, with_left_2, with_left_3, with_left_4}
use Rattle.removal.proofs.with_left.Goals as goal

pub returns-then-left-gt4 : goal.returns-then-left-gt4
returns-then-left-gt4 c = with_left_1 _ _ _ _ _ _ _ _ c.if-left-gt4.true c.borrow_left.ensures

pub returns-then-at-gt7 : goal.returns-then-at-gt7
returns-then-at-gt7 c = with_left_2 _ _ _ _ _ _ _ _ c.if-at-gt7.true

pub returns-then-at-over : goal.returns-then-at-over
returns-then-at-over c = with_left_3 _ _ _ _ _ _ _ _ c.if-left-gt4.false c.if-at-over.true c.with_right.ensures

pub returns : goal.returns
returns c = with_left_4 _ _ _ _ _ _ _ _ c.if-left-gt4.false c.if-at-over.false c.merge.ensures
