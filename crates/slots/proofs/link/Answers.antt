use Rattle.std.proofs.Common.{arith}
use Rattle.slots.specs.Code.{linked}
use Rattle.slots.proofs.CodeLaws.{link_turn}
use Rattle.slots.proofs.link.Goals as goal

pub loop-i-preserved : goal.loop-i-preserved
loop-i-preserved c = link_turn _ _ _ c.loop-i.invariant c.loop-i-test.true c.start_of.ensures c.write_u32.ensures

pub returns : goal.returns
unfolding linked
returns c = grind arith
