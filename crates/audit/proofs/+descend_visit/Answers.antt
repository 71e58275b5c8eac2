use mathlib.Core.Path.{refl}
use Prim.Native.Nat.{◌+◌}
use Rattle.word.proofs.NumLaws.{bytes_of}
use Rattle.slots.proofs.CodeLaws.{some_number}
use Rattle.audit.specs.Code.{key_of}
use Rattle.audit.proofs.VisitCode.{bottom_none, bottom_child, visit_nowhere, visit_shut, visit_entered, keys_fit, few_separators, eight_starts, eight_lens, nine_children, visit_first, child_right, child_wrong, visit_ends, visit_falls, visit_turn}
use native.Mathlib.Omega.{arith}
use borrow.Author.Rules.{rules}
use Rattle.audit.proofs.+descend_visit.Goals as goal

pub descend-returns-then-child-eq0 : goal.descend-returns-then-child-eq0
descend-returns-then-child-eq0 t c = bottom_none c.args.store.now c.args.height 4 c.args.child.0 c.args.marks.now c.args.before c.if-height-eq0.true c.if-child-eq0.true

pub descend-returns-else-child-eq0 : goal.descend-returns-else-child-eq0
descend-returns-else-child-eq0 t c = bottom_child c.args.store.now c.args.height 4 c.args.child.0 c.args.marks.now c.args.before c.if-height-eq0.true c.if-child-eq0.false

pub visit-returns-in_default : goal.visit-returns-in_default
visit-returns-in_default t c = visit_nowhere c.args.store.now (bytes_of c.args.store.now (λ i l. omega (arith, c.type_inv.store i))) c.args.below c.args.least c.args.child.0 (record { marks = c.args.marks.now; last = key_of c.args.store.now c.args.before }) c.slot_of.ensures c.in_default.is

pub visit-returns-then-not-enter : goal.visit-returns-then-not-enter
visit-returns-then-not-enter t c = visit_shut c.args.store.now (bytes_of c.args.store.now (λ i l. omega (arith, c.type_inv.store i))) c.args.below c.args.least c.args.child.0 (record { marks = c.args.marks.now; last = key_of c.args.store.now c.args.before }) (some_number c.slot_of.ensures c.in-Some.is).0 c.node_places-places.ensures c.enter.ensures c.if-not-enter.true-raw

pub visit-returns-in_err-last : goal.visit-returns-in_err-last
visit-returns-in_err-last t c = child_wrong _ _ _ _ _ _ _ _ 0 (visit_first _ _ _ _ _ _ _ (visit_entered c.args.store.now (bytes_of c.args.store.now (λ i l. omega (arith, c.type_inv.store i))) c.args.below c.args.least c.args.child.0 (record { marks = c.args.marks.now; last = key_of c.args.store.now c.args.before }) (some_number c.slot_of.ensures c.in-Some.is).0 c.node_places-places.ensures c.enter.ensures c.if-not-enter.false-raw c.start_of-from.ensures c.descend.ensures)) _ _ c.in_err-last.was c.from_residual.ensures.0

pub visit-loop-i-init : goal.visit-loop-i-init
visit-loop-i-init t c = (few_separators _ _ c.node_places-places.ensures, eight_starts _ _ c.node_places-places.ensures, eight_lens _ _ c.node_places-places.ensures, nine_children _ _ c.node_places-places.ensures, refl, child_right _ _ _ _ _ _ _ _ 0 (visit_first _ _ _ _ _ _ _ (visit_entered c.args.store.now (bytes_of c.args.store.now (λ i l. omega (arith, c.type_inv.store i))) c.args.below c.args.least c.args.child.0 (record { marks = c.args.marks.now; last = key_of c.args.store.now c.args.before }) (some_number c.slot_of.ensures c.in-Some.is).0 c.node_places-places.ensures c.enter.ensures c.if-not-enter.false-raw c.start_of-from.ensures c.descend.ensures)) c.in_ok-last.was, keys_fit c.args.store.now (bytes_of c.args.store.now (λ i l. omega (arith, c.type_inv.store i))) c.args.below c.args.least c.args.child.0 (record { marks = c.args.marks.now; last = key_of c.args.store.now c.args.before }) (some_number c.slot_of.ensures c.in-Some.is).0 c.node_places-places.ensures c.enter.ensures c.if-not-enter.false-raw c.start_of-from.ensures, search rules)

pub visit-overflow_add-key : goal.visit-overflow_add-key
visit-overflow_add-key t c = omega (arith, c.loop-i.invariant.6 c.loop-i.i, c.loop-i.invariant.7)

pub visit-returns-then-not-rises : goal.visit-returns-then-not-rises
visit-returns-then-not-rises t c = visit_falls _ _ _ _ _ _ c.loop-i.last c.loop-i.marks c.loop-i.i c.loop-i.invariant.5 c.loop-i-test.true (c.loop-i.invariant.6 c.loop-i.i) c.rises.ensures c.if-not-rises.true-raw

pub visit-returns-in_err-last-2 : goal.visit-returns-in_err-last-2
visit-returns-in_err-last-2 t c = child_wrong _ _ _ _ _ _ _ _ (c.loop-i.i + 1) (visit_turn _ _ _ _ _ _ c.loop-i.last c.loop-i.marks c.loop-i.i c.loop-i.invariant.5 c.loop-i-test.true (c.loop-i.invariant.6 c.loop-i.i) c.rises.ensures _ c.if-not-rises.false-raw c.descend-in-loop-i.ensures) _ _ c.in_err-last-2.was c.from_residual-in_err-last-2.ensures.0

pub visit-loop-i-preserved : goal.visit-loop-i-preserved
visit-loop-i-preserved t c = (c.loop-i.invariant.0, c.loop-i.invariant.1, c.loop-i.invariant.2, c.loop-i.invariant.3, omega arith, child_right _ _ _ _ _ _ _ _ (c.loop-i.i + 1) (visit_turn _ _ _ _ _ _ c.loop-i.last c.loop-i.marks c.loop-i.i c.loop-i.invariant.5 c.loop-i-test.true (c.loop-i.invariant.6 c.loop-i.i) c.rises.ensures _ c.if-not-rises.false-raw c.descend-in-loop-i.ensures) c.in_ok-last-2.was, c.loop-i.invariant.6, c.loop-i.invariant.7)

pub visit-returns : goal.visit-returns
visit-returns t c = visit_ends _ _ _ _ _ _ c.loop-i.last c.loop-i.marks c.loop-i.i c.loop-i.invariant.5 c.loop-i-test.false
