-- `audit::descend` and `visit`, which call each other, meet their contracts, by the levels that are left. The loop: the rest of the walk of the node. Assumes nothing.
use mathlib.Core.Path.{◌≡◌}
use lib.ListN.{length, get_or}
use Rattle.audit.specs.Code.{key_of, visit_in}
use Rattle.audit.proofs.VisitCode.{VisitLeft}
use Prim.Native.Nat.{ℕ, ◌+◌, ◌*◌, ◌^◌, ◌≤◌, ◌<◌}
use Rattle.audit.proofs.+descend_visit.Given as goal

abbrev pub decreases-descend : goal.decreases-descend
decreases-descend l = l.height * 2

abbrev pub decreases-visit : goal.decreases-visit
decreases-visit l = l.below * 2 + 1

abbrev pub invariant-visit-loop-i : goal.invariant-visit-loop-i
invariant-visit-loop-i l = (l.places.count ≤ 8) × (length l.places.starts ≡ 8) × (length l.places.lens ≡ 8) × (length l.places.children ≡ 9) × (length l.marks ≡ length l.initial.marks) × VisitLeft l.store l.below l.from l.places l.places.count (visit_in l.store (l.below + 1) l.least l.fn.child.0 (record { marks = l.fn.marks; last = key_of l.store l.fn.before })) l.last l.marks l.i × ((j : ℕ) → l.from + get_or l.places.starts j 0 + get_or l.places.lens j 0 ≤ length l.store) × (length l.store < 2 ^ 64)
