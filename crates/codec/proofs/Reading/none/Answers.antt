-- `codec::Reading::none` meets its contract. Assumes nothing.
use Rattle.codec.proofs.ReadLaws.{reads_none}
use Rattle.codec.proofs.Reading.none.Goals as goal

pub returns : goal.returns
returns c = reads_none c.empty.ensures
