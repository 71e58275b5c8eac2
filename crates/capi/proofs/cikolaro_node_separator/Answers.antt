-- `capi::cikolaro_node_separator` meets its contract. Assumes nothing.
use Rattle.capi.proofs.FaceLaws.{reads_separator}
use Rattle.capi.proofs.cikolaro_node_separator.Goals as goal

pub returns : goal.returns
returns c = reads_separator c.read-places.ensures c.start_at.ensures c.length_at.ensures c.value_at.ensures c.number.ensures
