-- `btree::records::check_room` meets its contract. Assumes nothing.
use Rattle.btree.proofs.RunCode.{room_1, room_2, room_3}
use Rattle.std.proofs.lemmas.Result.{err_from_is_err_and}
use Rattle.btree.proofs.records.check_room.Goals as goal

pub returns-in_err-needed : goal.returns-in_err-needed
returns-in_err-needed c = let p = err_from_is_err_and c.from_residual.result c.from_residual.ensures.1 in rw (p.1, p.2) (room_1 _ _ c.slots_needed.ensures _ c.in_err-needed.was)

pub returns-then-has_free : goal.returns-then-has_free
returns-then-has_free c = room_2 _ _ c.slots_needed.ensures _ c.in_ok-needed.was c.has_free.ensures c.if-has_free.true

pub returns : goal.returns
returns c = room_3 _ _ c.slots_needed.ensures _ c.in_ok-needed.was c.has_free.ensures c.if-has_free.false
