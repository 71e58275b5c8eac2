-- `audit::fills` meets its contract: the sum fits, for no word has more ones than bits. Assumes nothing.
use mathlib.Core.Path.{refl}
use Rattle.audit.specs.Marks.{words_for}
use Rattle.audit.proofs.WholeCode.{chain_short, words_few, ones_most}
use native.Mathlib.Omega.{arith}
use Rattle.audit.proofs.fills.Goals as goal

pub overflow_add-result : goal.overflow_add-result
overflow_add-result c = omega (arith, words_few c.args.count refl, chain_short _ _ _ c.walk_chain.ensures c.in-Some.is, c.count_marks-reached.ensures, ones_most (words_for c.args.count) c.args.marks.now (λ i. omega (arith, c.type_inv.marks i)))
