-- `capi::cikolaro_node_separator_strict` meets its contract. Assumes nothing.
use Rattle.capi.proofs.FaceLaws.{reads_separator_strict}
use Rattle.capi.proofs.cikolaro_node_separator_strict.Goals as goal

pub returns : goal.returns
returns c = reads_separator_strict c.read_standard-held.ensures c.start_at.ensures c.length_at.ensures c.value_at.ensures c.strict_end-stopped.ensures c.number.ensures
