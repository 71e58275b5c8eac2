-- `lines::put_line` meets its contract: a law for each way through it. Assumes nothing.
use Rattle.lines.proofs.PutLaws.{line_1, line_2, line_3, line_4}
use Rattle.lines.proofs.put_line.Goals as goal

pub returns-in_err-t : goal.returns-in_err-t
returns-in_err-t c = rw c.from_residual.ensures (line_1 _ c.find.ensures _ _ _ c.in_err-t.was)

pub returns-then-is_word : goal.returns-then-is_word
returns-then-is_word c = line_2 _ c.find.ensures c.in_ok-t.was c.is_word.ensures _ _ _ _ c.if-is_word.true c.put_set.ensures

pub returns-then-is_word-2 : goal.returns-then-is_word-2
returns-then-is_word-2 c = line_3 _ c.find.ensures c.in_ok-t.was c.is_word.ensures c.if-is_word.false c.is_word-2.ensures _ _ _ _ c.if-is_word-2.true c.put.ensures

pub returns : goal.returns
returns c = line_4 _ c.find.ensures c.in_ok-t.was c.is_word.ensures c.if-is_word.false c.is_word-2.ensures _ _ _ c.if-is_word-2.false
