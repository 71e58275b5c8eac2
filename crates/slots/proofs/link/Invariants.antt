-- `slots::link` meets its contract. The loop: the slots before i name the next, and those from i on are left to do. Assumes nothing.
use Rattle.std.specs.Prelude.{◌≡◌, ◌-◌}
use Rattle.slots.specs.Code.{linked}
use Rattle.slots.proofs.link.Given as goal

abbrev pub invariant-loop-i : goal.invariant-loop-i
invariant-loop-i l = linked l.initial.store 1 (l.count - 1) ≡ linked l.store l.i (l.count - l.i)
