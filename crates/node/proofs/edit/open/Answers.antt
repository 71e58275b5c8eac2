-- `node::edit::open` meets its contract. Assumes nothing.
use mathlib.Core.Path.{refl}
use native.Mathlib.Omega.{arith}
use Rattle.node.proofs.ArrayLaws.{open_part, insert_past}
use Rattle.node.proofs.edit.open.Goals as goal

pub returns-then-i-xs : goal.returns-then-i-xs
returns-then-i-xs g c = open_part _ _ _ (omega arith) _ c.enter_front.ensures

pub returns-else-i-xs : goal.returns-else-i-xs
returns-else-i-xs g c = insert_past _ _ _ _ refl c.if-i-xs.false
