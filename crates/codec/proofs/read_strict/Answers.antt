-- `codec::read_strict` meets its contract. Assumes nothing.
use Rattle.codec.proofs.StrictCode.{strict_read}
use Rattle.codec.proofs.read_strict.Goals as goal

pub returns : goal.returns
returns c = strict_read _ c.strict_end-stopped.ensures c.read_standard.ensures
