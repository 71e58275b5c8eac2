-- `capi::cikolaro_node_read_strict` meets its contract. Assumes nothing.
use mathlib.Core.Path.{refl}
use Rattle.capi.proofs.FaceLaws.{reads_strict}
use Rattle.capi.proofs.cikolaro_node_read_strict.Goals as goal

pub returns : goal.returns
returns c = reads_strict c.read_standard-standard.ensures refl c.strict_end-stopped.ensures refl c.number.ensures
