-- `audit::is_idle` meets its contract. Assumes nothing.
use mathlib.Core.Path.{◌∙◌}
use Rattle.word.proofs.NumLaws.{bytes_of}
use Rattle.audit.proofs.NodeLaws.{idle_no, idle_yes}
use native.Mathlib.Omega.{arith}
use Rattle.audit.proofs.is_idle.Goals as goal

pub returns-then-is_zero : goal.returns-then-is_zero
returns-then-is_zero c = idle_yes _ _ c.is_slot.ensures (bytes_of c.args.store.now (λ i l. omega (arith, c.type_inv.store i))) c.if-not-is_slot.false-raw c.start_of-at.ensures c.is_zero.ensures c.if-is_zero.true c.is_zero-then-is_zero.ensures

pub returns-else-is_zero : goal.returns-else-is_zero
returns-else-is_zero c = c.if-is_zero.false ∙ idle_no _ _ c.is_slot.ensures (bytes_of c.args.store.now (λ i l. omega (arith, c.type_inv.store i))) c.if-not-is_slot.false-raw c.start_of-at.ensures c.is_zero.ensures c.if-is_zero.false
