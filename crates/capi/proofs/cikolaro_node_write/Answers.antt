-- `capi::cikolaro_node_write` meets its contract. Assumes nothing.
use Rattle.capi.proofs.FaceLaws.{writes}
use Rattle.capi.proofs.cikolaro_node_write.Goals as goal

pub returns : goal.returns
returns c = writes c.args.children.now c.args.values.now c.children_of-held_children.ensures c.values_of-held_values.ensures c.write-wrote.ensures c.unwrap_or.ensures c.number.ensures
