-- `slots::has_free` meets its contract. The loop: so many links are followed, and the chain from there on decides. Assumes nothing.
use Rattle.std.specs.Prelude.{◌≡◌, ◌-◌}
use Rattle.slots.specs.Layout.{first_of}
use Rattle.slots.specs.Code.{has_free}
use Rattle.slots.proofs.has_free.Given as goal

abbrev pub invariant-loop : goal.invariant-loop
invariant-loop l = has_free l.n l.store (first_of l.store) ≡ has_free (l.n - l.counter) l.store l.slot
