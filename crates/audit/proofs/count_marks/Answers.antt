use lib.ListN.{length-take}
use Rattle.audit.proofs.CodeLaws.{count_start, count_next, ones_few}
use Rattle.audit.proofs.WholeCode.{words_few}
use native.Mathlib.Omega.{arith}
use Rattle.audit.proofs.count_marks.Goals as goal

pub loop-word-init : goal.loop-word-init
loop-word-init c = (omega arith, count_start)

pub overflow_add-sum : goal.overflow_add-sum
overflow_add-sum c = omega (arith, length-take c.min.result c.args.marks.now, words_few _ c.words_for.ensures, ones_few c.args.marks.now c.min.result c.loop-word.word-index (λ j. omega (arith, c.type_inv.marks j)))

pub loop-word-preserved : goal.loop-word-preserved
loop-word-preserved c = (omega (arith, ones_few c.args.marks.now c.min.result c.loop-word.word-index (λ j. omega (arith, c.type_inv.marks j))), count_next _ _ _ c.loop-word-test.true c.loop-word.invariant.1)
