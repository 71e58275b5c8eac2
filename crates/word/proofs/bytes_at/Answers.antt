-- `word::bytes_at` meets its contract. Assumes nothing.
use Rattle.word.proofs.CodeLaws.{part_of}
use Rattle.word.proofs.bytes_at.Goals as goal

pub returns : goal.returns
returns g c = part_of _ _ _ c.copy_from_slice.ensures.after
