-- `audit::count_marks` meets its contract. The loop: the words so far are counted. Assumes nothing.
use mathlib.Core.Path.{◌≡◌}
use Prim.Native.Nat.{◌*◌, ◌≤◌}
use lib.ListN.{take}
use Rattle.audit.specs.Marks.{all_ones}
use Rattle.audit.proofs.count_marks.Given as goal

abbrev pub invariant-loop-word : goal.invariant-loop-word
invariant-loop-word l = (l.sum ≤ 64 * l.word-index) × (l.sum ≡ all_ones (take l.word-index l.used))
