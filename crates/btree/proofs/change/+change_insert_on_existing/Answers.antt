use Rattle.outcome.proofs.Refused.{is_refused}
use Rattle.btree.proofs.ChangeCode.{settle_1, insert_1, insert_2, insert_3, insert_4, insert_5, existing_1, existing_2, existing_3, existing_4, existing_5, existing_6, existing_7}
use Rattle.btree.proofs.change.+change_insert_on_existing.Goals as goal

pub insert-returns-then-not-sight : goal.insert-returns-then-not-sight
insert-returns-then-not-sight t c = insert_1 _ _ _ _ c.search_at-sight.ensures _ c.if-not-sight.true

pub insert-returns-then-found : goal.insert-returns-then-found
insert-returns-then-found t c = insert_2 _ _ _ _ c.search_at-sight.ensures c.if-not-sight.false _ _ _ c.if-found.true c.set_value.ensures

pub insert-returns-then-depth-eq0 : goal.insert-returns-then-depth-eq0
insert-returns-then-depth-eq0 t c = insert_3 _ _ _ _ c.search_at-sight.ensures c.if-not-sight.false _ _ _ c.if-found.false c.if-depth-eq0.true c.insert_leaf.ensures

pub insert-returns-in_err-below : goal.insert-returns-in_err-below
insert-returns-in_err-below t c = rw (is_refused c.from_residual.result c.from_residual.ensures.0) (insert_4 _ _ _ _ c.search_at-sight.ensures c.if-not-sight.false _ _ c.if-found.false c.if-depth-eq0.false c.in_err-below.ensures)

pub insert-returns : goal.insert-returns
insert-returns t c = insert_5 _ _ _ _ c.search_at-sight.ensures c.if-not-sight.false _ _ _ _ _ c.if-found.false c.if-depth-eq0.false c.in_ok-below.ensures (settle_1 _ _ _ _ _ c.in-Plain.is)

pub insert-returns-in_default : goal.insert-returns-in_default
insert-returns-in_default t c = insert_5 _ _ _ _ c.search_at-sight.ensures c.if-not-sight.false _ _ _ _ _ c.if-found.false c.if-depth-eq0.false c.in_ok-below.ensures c.settle.ensures

pub on_existing-returns-then-not-sight : goal.on_existing-returns-then-not-sight
on_existing-returns-then-not-sight t c = existing_1 _ _ _ _ c.search_at-sight.ensures c.if-not-sight.true

pub on_existing-returns-then-depth-eq0 : goal.on_existing-returns-then-depth-eq0
on_existing-returns-then-depth-eq0 t c = existing_2 _ _ _ _ c.search_at-sight.ensures c.if-not-sight.false c.if-not-found.true c.if-depth-eq0.true

pub on_existing-returns-in_err-below : goal.on_existing-returns-in_err-below
on_existing-returns-in_err-below t c = rw (is_refused c.from_residual.result c.from_residual.ensures.0) (existing_3 _ _ _ _ c.search_at-sight.ensures c.if-not-sight.false _ c.if-not-found.true c.if-depth-eq0.false c.in_err-below.ensures)

pub on_existing-returns-then-not-found : goal.on_existing-returns-then-not-found
on_existing-returns-then-not-found t c = existing_4 _ _ _ _ c.search_at-sight.ensures c.if-not-sight.false _ _ _ _ c.if-not-found.true c.if-depth-eq0.false c.in_ok-below.ensures (settle_1 _ _ _ _ _ c.in-Plain.is)

pub on_existing-returns-in_default : goal.on_existing-returns-in_default
on_existing-returns-in_default t c = existing_4 _ _ _ _ c.search_at-sight.ensures c.if-not-sight.false _ _ _ _ c.if-not-found.true c.if-depth-eq0.false c.in_ok-below.ensures c.settle.ensures

pub on_existing-returns-then-depth-eq0-2 : goal.on_existing-returns-then-depth-eq0-2
on_existing-returns-then-depth-eq0-2 t c = existing_5 _ _ _ _ c.search_at-sight.ensures c.if-not-sight.false _ _ c.if-not-found.false c.if-depth-eq0-2.true c.remove_here.ensures

pub on_existing-returns-in_err-last : goal.on_existing-returns-in_err-last
on_existing-returns-in_err-last t c = rw (is_refused c.from_residual-in_err-last.result c.from_residual-in_err-last.ensures.0) (existing_6 _ _ _ _ c.search_at-sight.ensures c.if-not-sight.false _ c.if-not-found.false c.if-depth-eq0-2.false c.in_err-last.ensures)

pub on_existing-returns : goal.on_existing-returns
on_existing-returns t c = existing_7 _ _ _ _ c.search_at-sight.ensures c.if-not-sight.false _ _ _ _ c.if-not-found.false c.if-depth-eq0-2.false c.in_ok-last.ensures c.replace.ensures
