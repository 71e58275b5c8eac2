-- The loop of `given` is behind the children, of which there are at most nine, or within the block.
use Rattle.std.proofs.Common.{◌+◌, ◌≤◌, length}
use Rattle.replay_nodes.proofs.writing.given.Given as goal

abbrev pub invariant-loop-i : goal.invariant-loop-i
invariant-loop-i l = l.at ≤ length l.block + 74
