use Rattle.outcome.proofs.Refused.{is_refused}
use Rattle.btree.proofs.ChangeCode.{last_1, last_2, last_3, last_4}
use Rattle.btree.proofs.change.+remove_last.Goals as goal

pub returns-then-not-sight : goal.returns-then-not-sight
returns-then-not-sight t c = last_1 _ _ _ _ c.search_at-sight.ensures c.if-not-sight.true

pub returns-then-depth-eq0 : goal.returns-then-depth-eq0
returns-then-depth-eq0 t c = last_2 _ _ _ _ c.search_at-sight.ensures _ _ c.if-not-sight.false c.if-depth-eq0.true c.remove_end.ensures

pub returns-in_err-below : goal.returns-in_err-below
returns-in_err-below t c = rw (is_refused c.from_residual.result c.from_residual.ensures.0) (last_3 _ _ _ _ c.search_at-sight.ensures c.if-not-sight.false c.if-depth-eq0.false _ c.in_err-below.ensures)

pub returns-in_err-came : goal.returns-in_err-came
returns-in_err-came t c = rw (is_refused c.from_residual-in_err-came.result c.from_residual-in_err-came.ensures.0) (last_4 _ _ _ _ c.search_at-sight.ensures c.if-not-sight.false c.if-depth-eq0.false _ _ _ _ c.in_ok-below.ensures c.in_err-came.ensures)

pub returns : goal.returns
returns t c = last_4 _ _ _ _ c.search_at-sight.ensures c.if-not-sight.false c.if-depth-eq0.false _ _ _ _ c.in_ok-below.ensures c.in_ok-came.ensures
