-- `audit::audit` meets its contract. Assumes nothing.
use Rattle.word.proofs.NumLaws.{bytes_of}
use Rattle.audit.proofs.WholeCode.{audit_1, audit_2, audit_3, audit_4, audit_5}
use native.Mathlib.Omega.{arith}
use Rattle.audit.proofs.audit.Goals.{else-walk_tree-via-then-walk_tree+else-fills, else-walk_tree-via-else-walk_tree}
use Rattle.audit.proofs.audit.Goals as goal

pub returns-then-not-is_store : goal.returns-then-not-is_store
returns-then-not-is_store c = audit_1 _ _ (bytes_of c.args.store.now (λ i l. omega (arith, c.type_inv.store i))) c.is_store.ensures c.if-not-is_store.true-raw

pub returns-then-marks-words_for : goal.returns-then-marks-words_for
returns-then-marks-words_for c = audit_2 _ _ (bytes_of c.args.store.now (λ i l. omega (arith, c.type_inv.store i))) c.is_store.ensures c.if-not-is_store.false-raw c.count-count.ensures c.words_for.ensures c.if-marks-words_for.true

pub returns-then-fills : goal.returns-then-fills
returns-then-fills c = audit_3 _ _ (bytes_of c.args.store.now (λ i l. omega (arith, c.type_inv.store i))) c.is_store.ensures c.if-not-is_store.false-raw c.count-count.ensures c.words_for.ensures c.if-marks-words_for.false c.clear_marks.ensures _ _ c.walk_tree.ensures c.if-walk_tree.true c.fills.ensures c.if-fills.true c.count_marks.ensures

pub returns : goal.returns
returns c = elim c.else-walk_tree.branch [ else-walk_tree-via-then-walk_tree+else-fills w ↦ audit_5 _ _ (bytes_of c.args.store.now (λ i l. omega (arith, c.type_inv.store i))) c.is_store.ensures c.if-not-is_store.false-raw c.count-count.ensures c.words_for.ensures c.if-marks-words_for.false c.clear_marks.ensures _ _ c.walk_tree.ensures w.if-walk_tree.true w.fills.ensures w.if-fills.false (omega arith) c.clear_marks-2.ensures | else-walk_tree-via-else-walk_tree w ↦ audit_4 _ _ (bytes_of c.args.store.now (λ i l. omega (arith, c.type_inv.store i))) c.is_store.ensures c.if-not-is_store.false-raw c.count-count.ensures c.words_for.ensures c.if-marks-words_for.false c.clear_marks.ensures _ _ c.walk_tree.ensures w.if-walk_tree.false (omega arith) c.clear_marks-2.ensures ]
