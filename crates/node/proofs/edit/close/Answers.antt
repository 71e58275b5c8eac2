-- `node::edit::close` meets its contract. Assumes nothing.
use mathlib.Core.Path.{refl}
use native.Mathlib.Omega.{arith}
use Rattle.node.proofs.ArrayLaws.{close_part, remove_past}
use Rattle.node.proofs.edit.close.Goals as goal

pub returns-then-i-xs : goal.returns-then-i-xs
returns-then-i-xs g c = close_part _ _ _ (omega arith) 1 _ (omega arith) refl c.enter_behind.ensures

pub returns-else-i-xs : goal.returns-else-i-xs
returns-else-i-xs g c = remove_past _ _ 1 _ _ refl c.if-i-xs.false
