use Rattle.std.proofs.Common.{arith}
use Rattle.slots.specs.Code.{has_free}
use Rattle.slots.proofs.CodeLaws.{free_none, free_turn}
use Rattle.slots.proofs.has_free.Goals as goal

pub returns-then-not-is_slot : goal.returns-then-not-is_slot
returns-then-not-is_slot c = free_none _ _ _ _ c.loop.invariant c.loop-test.true c.is_slot.ensures c.if-not-is_slot.true

pub loop-preserved : goal.loop-preserved
loop-preserved c = free_turn _ _ _ _ c.loop.invariant c.loop-test.true c.is_slot.ensures c.if-not-is_slot.false c.start_of.ensures c.read_u32-slot.ensures

pub returns : goal.returns
unfolding has_free
returns c = grind arith
