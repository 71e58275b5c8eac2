-- `capi::cikolaro_node_child` meets its contract. Assumes nothing.
use Rattle.capi.proofs.FaceLaws.{reads_child}
use Rattle.capi.proofs.cikolaro_node_child.Goals as goal

pub returns : goal.returns
returns c = reads_child _ c.read.ensures c.child_at.ensures
