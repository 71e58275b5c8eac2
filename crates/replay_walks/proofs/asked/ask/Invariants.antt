-- The loop of `ask` stays within the block.
use Rattle.std.proofs.Common.{◌≤◌, length}
use Rattle.replay_walks.proofs.asked.ask.Given as goal

abbrev pub invariant-loop : goal.invariant-loop
invariant-loop l = l.at ≤ length l.block
