-- `cikolaro::run_lines` meets its contract. Assumes nothing.
use Rattle.cikolaro.proofs.FaceCode.{lines_1, lines_within, lines_2}
use Rattle.cikolaro.proofs.run_lines.Goals as goal

pub returns-in-Err : goal.returns-in-Err
returns-in-Err c = lines_1 _ _ _ _ _ _ c.parse.ensures _ c.in-Err.is

pub slice_bounds-batch-end : goal.slice_bounds-batch-end
slice_bounds-batch-end c = lines_within c.args.store.now c.args.marks.now c.args.records.now c.args.text.now _ _ c.parse.ensures _ c.in-Ok.is c.records-1.given

pub returns-in-Ok : goal.returns-in-Ok
returns-in-Ok c = lines_2 _ _ _ _ _ _ c.parse.ensures _ c.in-Ok.is c.batch.ensures
