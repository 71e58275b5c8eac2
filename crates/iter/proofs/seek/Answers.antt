-- `iter::seek` meets its contract. Assumes nothing.
use Rattle.iter.proofs.CodeLaws.{seek_1, seek_2}
use Rattle.iter.proofs.seek.Goals as goal

pub returns-then-len-gt-LONGEST_KEY : goal.returns-then-len-gt-LONGEST_KEY
returns-then-len-gt-LONGEST_KEY c = seek_1 _ c.if-len-gt-LONGEST_KEY.true

pub returns : goal.returns
returns c = seek_2 _ c.if-len-gt-LONGEST_KEY.false c.copy.ensures
