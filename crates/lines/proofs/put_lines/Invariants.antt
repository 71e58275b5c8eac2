-- `lines::put_lines` meets its contract. The loop: the records of the lines read stand at the front. Assumes nothing.
use Prim.Native.Nat.{◌≤◌}
use lib.ListN.{length}
use Rattle.lines.proofs.LinesLaws.{Read}
use Rattle.lines.proofs.put_lines.Given as goal

abbrev pub invariant-loop-n : goal.invariant-loop-n
invariant-loop-n l = (length l.rest ≤ length l.text) × Read l.text l.initial.records l.rest l.at l.records

abbrev pub decreases-loop-n : goal.decreases-loop-n
decreases-loop-n l = length l.rest
