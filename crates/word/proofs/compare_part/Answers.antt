use Rattle.std.proofs.Common.{length}
use native.Mathlib.Omega.{arith}
use Rattle.word.proofs.PartLaws.{length_part_cut}
use Rattle.word.proofs.NumLaws.{bytes_of}
use Rattle.word.proofs.CodeLaws.{be_one, same_one, front_start, compare_rest, compare_number, unlike_number, compare_turn, alike_turn, un_read, be_read}
use Rattle.word.proofs.compare_part.Goals as goal

pub loop-i-init : goal.loop-i-init
loop-i-init c = (omega (arith, length_part_cut c.args.s.now c.args.at c.args.n, c.min-len.ensures, c.saturating_sub.ensures), omega (arith, c.min-both.ensures), omega arith, front_start _ _ _)

pub returns-then-from_le_bytes : goal.returns-then-from_le_bytes
returns-then-from_le_bytes c = unlike_number _ _ _ c.args.n c.loop-i.i c.loop-i.invariant.3 (omega arith) 8 (bytes_of c.args.key.now (λ i h. omega (arith, c.type_inv.key i))) (bytes_of c.args.s.now (λ i h. omega (arith, c.type_inv.s i))) (omega arith) (omega arith) (be_read _ _ (omega arith) c.bytes_at-mine.ensures c.from_be_bytes.ensures) (be_read _ _ (omega (arith, length_part_cut c.args.s.now c.args.at c.args.n)) c.bytes_at-other.ensures c.from_be_bytes-then-from_le_bytes.ensures) {l = c.from_be_bytes.result} {r = c.from_be_bytes-then-from_le_bytes.result} (un_read _ _ (omega arith) c.bytes_at-mine.ensures c.from_le_bytes.ensures) (un_read _ _ (omega (arith, length_part_cut c.args.s.now c.args.at c.args.n)) c.bytes_at-other.ensures c.from_le_bytes-in-loop-i.ensures) c.if-from_le_bytes.true c.cmp.ensures (omega arith) (omega arith)

pub loop-i-preserved : goal.loop-i-preserved
loop-i-preserved c = (c.loop-i.invariant.0, c.loop-i.invariant.1, omega arith, alike_turn _ _ _ c.args.n c.loop-i.i c.loop-i.invariant.3 (omega arith) 8 (bytes_of c.args.key.now (λ i h. omega (arith, c.type_inv.key i))) (bytes_of c.args.s.now (λ i h. omega (arith, c.type_inv.s i))) (omega arith) (omega arith) (un_read _ _ (omega arith) c.bytes_at-mine.ensures c.from_le_bytes.ensures) (un_read _ _ (omega (arith, length_part_cut c.args.s.now c.args.at c.args.n)) c.bytes_at-other.ensures c.from_le_bytes-in-loop-i.ensures) (omega arith))

pub returns-then-key-j : goal.returns-then-key-j
returns-then-key-j c = compare_number _ _ _ c.args.n c.loop-j.j c.loop-j.invariant.3 (omega arith) 1 (bytes_of c.args.key.now (λ i h. omega (arith, c.type_inv.key i))) (bytes_of c.args.s.now (λ i h. omega (arith, c.type_inv.s i))) (omega arith) (omega arith) (be_one _ _ (omega arith)) (be_one _ _ (omega arith)) c.if-key-j.true c.cmp-then-key-j.ensures

pub loop-j-preserved : goal.loop-j-preserved
loop-j-preserved c = (c.loop-j.invariant.0, c.loop-j.invariant.1, omega arith, compare_turn _ _ _ c.args.n c.loop-j.j c.loop-j.invariant.3 (omega arith) 1 (same_one _ _ _ _ (omega arith) (omega arith) (omega arith)))

pub returns : goal.returns
returns c = compare_rest _ _ _ _ c.loop-j.j c.loop-j.invariant.3 (omega arith) {x = length c.args.key.now} {y = c.min-len.result} c.loop-j.invariant.0 (omega arith) (omega arith) c.cmp-2.ensures (omega arith) (omega arith)
