-- The loop of `lay_out` stays within the block.
use Rattle.std.proofs.Common.{◌≤◌, length}
use Rattle.lists.proofs.lay_out.Given as goal

abbrev pub invariant-loop : goal.invariant-loop
invariant-loop l = l.at ≤ length l.block
