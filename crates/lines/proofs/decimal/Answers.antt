-- `lines::decimal` meets its contract. Assumes nothing.
use mathlib.Core.Path.{◌≡◌, ◌∙◌}
use Prim.Native.Nat.{◌+◌, ◌*◌}
use Rattle.lines.proofs.DigitLaws.{decimal_1, decimal_2, decimal_3, decimal_4, decimal_5, decimal_none, decimal_turn, digit_some}
use native.Mathlib.Omega.{arith}
use Rattle.lines.proofs.decimal.Goals as goal
use Rattle.lines.proofs.decimal.Goals.{then-is_empty-via-then-is_empty, then-is_empty-via-else-is_empty+then-is_padded}

pub returns-then-is_empty : goal.returns-then-is_empty
returns-then-is_empty c = elim c.then-is_empty.branch [ then-is_empty-via-then-is_empty w ↦ decimal_1 _ c.is_empty.ensures w.if-is_empty.true | then-is_empty-via-else-is_empty+then-is_padded w ↦ decimal_2 _ w.is_padded.ensures w.if-is_padded.true ]

pub returns-in_err-d : goal.returns-in_err-d
returns-in_err-d c = c.from_residual.ensures ∙ decimal_none _ _ _ c.loop-b.invariant.1 c.loop-b-test.true c.digit.ensures c.in_err-d.was

pub returns-then-d-ge10 : goal.returns-then-d-ge10
returns-then-d-ge10 c = decimal_3 _ _ _ c.loop-b.invariant.1 c.loop-b-test.true (digit_some _ c.digit.ensures c.in_ok-d.was).0 (omega arith)

pub returns-in_err-checked_mul : goal.returns-in_err-checked_mul
returns-in_err-checked_mul c = let h = c.in_err-checked_mul.ensures in c.from_residual-in_err-checked_mul.ensures ∙ decimal_4 _ _ _ c.loop-b.invariant.1 c.loop-b-test.true (digit_some _ c.digit.ensures c.in_ok-d.was).0 (omega arith)

pub returns-in_err-value : goal.returns-in_err-value
returns-in_err-value c = let h = c.in_err-value.ensures in let g = c.in_ok-checked_mul.ensures in c.from_residual-in_err-value.ensures ∙ decimal_4 _ _ _ c.loop-b.invariant.1 c.loop-b-test.true (digit_some _ c.digit.ensures c.in_ok-d.was).0 (omega arith)

pub loop-b-preserved : goal.loop-b-preserved
loop-b-preserved c = let h = c.in_ok-value.ensures in let g = c.in_ok-checked_mul.ensures in (omega arith, let e : c.in_ok-value.value ≡ c.loop-b.value * 10 + c.in_ok-d.d = omega arith in rw e (decimal_turn _ _ _ c.loop-b.invariant.1 c.loop-b-test.true (digit_some _ c.digit.ensures c.in_ok-d.was).0 (omega arith)))

pub returns : goal.returns
returns c = decimal_5 _ _ _ c.loop-b.invariant.1 c.is_empty.ensures c.if-is_empty.false c.is_padded.ensures c.if-is_padded.false (omega arith) (omega arith)
