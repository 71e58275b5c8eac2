-- `word::compare_part` meets its contract. Both loops: the first i bytes are the same, so the order is that of the rest.
-- Assumes nothing.
use mathlib.Core.Path.{◌≡◌}
use Prim.Native.Nat.{min, ◌-◌, ◌≤◌}
use lib.ListN.{length}
use Rattle.word.specs.Part.{part}
use Rattle.word.proofs.compare_part.Given as goal

abbrev pub invariant-loop-i : goal.invariant-loop-i
invariant-loop-i l = (l.len ≡ length (part l.s l.at l.n)) × (l.both ≡ min (length l.key) l.len) × (l.i ≤ l.both) × (part l.key 0 l.i ≡ part l.s l.at l.i)

abbrev pub decreases-loop-i : goal.decreases-loop-i
decreases-loop-i l = l.both - l.i

abbrev pub invariant-loop-j : goal.invariant-loop-j
invariant-loop-j l = (l.len ≡ length (part l.s l.at l.n)) × (l.both ≡ min (length l.key) l.len) × (l.j ≤ l.both) × (part l.key 0 l.j ≡ part l.s l.at l.j)
