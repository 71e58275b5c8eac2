-- `capi::cikolaro_node_read` meets its contract. Assumes nothing.
use mathlib.Core.Path.{refl}
use Rattle.capi.proofs.FaceLaws.{reads_node}
use Rattle.capi.proofs.cikolaro_node_read.Goals as goal

pub returns : goal.returns
returns c = reads_node c.read-places.ensures refl c.number.ensures
