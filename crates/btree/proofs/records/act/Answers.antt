-- `btree::records::act` meets its contract. Assumes nothing.
use Rattle.btree.proofs.RunCode.{act_1, act_2, act_3, act_4, act_5}
use Rattle.std.proofs.lemmas.Result.{err_from_is_err_and}
use Rattle.btree.proofs.records.act.Goals as goal

pub returns-then-depth-gt7 : goal.returns-then-depth-gt7
returns-then-depth-gt7 c = act_1 _ _ _ c.depth-depth.ensures c.if-depth-gt7.true

pub returns-in_default : goal.returns-in_default
returns-in_default c = act_2 _ _ _ c.depth-depth.ensures c.if-depth-gt7.false _ _ c.in_default.is c.remove_key.ensures

pub returns-then-has_free : goal.returns-then-has_free
returns-then-has_free c = act_3 _ _ _ c.depth-depth.ensures c.if-depth-gt7.false _ c.in-Some.is _ _ c.has_free.ensures c.if-has_free.true c.set_key.ensures

pub returns-in_err-check_room : goal.returns-in_err-check_room
returns-in_err-check_room c = let p = err_from_is_err_and c.from_residual.result c.from_residual.ensures.1 in rw (p.1, p.2) (act_5 _ _ _ c.depth-depth.ensures c.if-depth-gt7.false _ c.in-Some.is c.check_room.ensures _ c.in_err-check_room.was)

pub returns : goal.returns
returns c = act_4 _ _ _ c.depth-depth.ensures c.if-depth-gt7.false _ c.in-Some.is c.check_room.ensures _ _ c.in_ok-check_room.was c.set_key-2.ensures
