use Rattle.audit.proofs.ChainCode.{chain_start, chain_turn}
use borrow.Author.Rules.{rules}
use Rattle.audit.proofs.walk_chain.Goals as goal

pub loop-i-init : goal.loop-i-init
loop-i-init c = (search rules, chain_start _ _ _ c.first_free-slot.ensures)

pub loop-i-preserved : goal.loop-i-preserved
loop-i-preserved c = (search rules, chain_turn c.args.store.now c.args.marks.now c.args.count c.loop-i.i c.loop-i.slot c.loop-i.invariant.1 c.if-slot-eq0.false c.loop-i-test.true c.is_idle.ensures c.if-not-is_idle.false-raw c.is_clear.ensures c.if-not-is_clear.false-raw c.start_of.ensures c.read_u32-slot.ensures)
