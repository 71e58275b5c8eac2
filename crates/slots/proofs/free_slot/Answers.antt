-- `slots::free_slot` meets its contract. Assumes nothing.
use Rattle.std.proofs.Common.{arith}
use Rattle.word.proofs.AtLaws.{clear_at_in}
use Rattle.slots.specs.Mirror.{free_slot}
use Rattle.slots.proofs.CodeLaws.{whole}
use Rattle.slots.proofs.free_slot.Goals as goal

pub returns-then-not-is_slot : goal.returns-then-not-is_slot
unfolding free_slot
returns-then-not-is_slot c = grind arith

pub returns : goal.returns
unfolding free_slot
returns c =
    let w = whole c.args.store.now c.args.slot.0 (grind arith) in
    grind (arith, clear_at_in, w.within)
