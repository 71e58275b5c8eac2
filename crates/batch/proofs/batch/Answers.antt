-- `batch::batch` meets its contract. Assumes nothing.
use Rattle.word.proofs.NumLaws.{bytes_of}
use Rattle.batch.proofs.BatchCode.{passed_number, refused_number, batch_1, batch_2, batch_3, batch_4, batch_5}
use native.Mathlib.Omega.{arith}
use Rattle.batch.proofs.batch.Goals as goal

pub returns-then-not-is_store : goal.returns-then-not-is_store
returns-then-not-is_store c = batch_1 _ _ _ c.is_store.ensures c.if-not-is_store.true-raw c.refused.ensures

pub returns-then-marks-words_for : goal.returns-then-marks-words_for
returns-then-marks-words_for c = batch_2 _ _ _ c.is_store.ensures c.if-not-is_store.false-raw c.count.ensures c.words_for.ensures c.if-marks-words_for.true c.refused-then-marks-words_for.ensures

pub returns-in-Err : goal.returns-in-Err
returns-in-Err c = batch_3 _ _ _ c.is_store.ensures c.if-not-is_store.false-raw c.count.ensures c.words_for.ensures c.if-marks-words_for.false c.check.ensures _ c.in-Err.is c.from.ensures c.refused-in-Err.ensures

pub returns-then-is_err : goal.returns-then-is_err
returns-then-is_err c = batch_4 _ _ _ c.is_store.ensures c.if-not-is_store.false-raw c.count.ensures c.words_for.ensures c.if-marks-words_for.false c.check.ensures c.in_default.is c.audit.ensures (refused_number _ c.is_err.ensures.value c.if-is_err.true) c.refused-then-is_err.ensures

pub returns : goal.returns
returns c = batch_5 _ _ _ c.is_store.ensures c.if-not-is_store.false-raw c.count.ensures c.words_for.ensures c.if-marks-words_for.false c.check.ensures c.in_default.is c.audit.ensures (bytes_of c.args.records.now (λ i h. omega (arith, c.type_inv.records i))) (passed_number _ c.is_err.ensures.value c.if-is_err.false) c.marks-1.given c.clear_marks.ensures c.run_batch.ensures
