-- `word::compare` meets its contract: the whole is a part. Assumes nothing.
use Rattle.word.proofs.PartLaws.{part_whole}
use Rattle.word.proofs.compare.Goals as goal

pub returns : goal.returns
returns c = rw part_whole at c.compare_part.ensures
