use mathlib.Core.Path.{◌∙◌}
use Rattle.codec.proofs.EncodeLaws.{sep_bound}
use Rattle.codec.proofs.WriteLaws.{measure_1, measure_2, measure_3, measure_4, width_turn}
use native.Mathlib.Omega.{arith}
use Rattle.codec.proofs.measure.Goals as goal

pub returns-then-node-gt8 : goal.returns-then-node-gt8
returns-then-node-gt8 c = measure_1 _ _ _ c.if-node-gt8.true

pub returns-then-any_long : goal.returns-then-any_long
returns-then-any_long c = measure_2 _ _ _ c.if-node-gt8.false c.any_long.ensures c.if-any_long.true

pub returns-then-any_zero : goal.returns-then-any_zero
returns-then-any_zero c = measure_3 _ _ _ c.if-node-gt8.false c.any_long.ensures c.if-any_long.false c.any_zero.ensures c.if-any_zero.true

pub overflow_add-len : goal.overflow_add-len
overflow_add-len c = omega (arith, sep_bound _ c.sep_length.ensures (c.loop-i.invariant.short c.loop-i.i (omega arith)))

pub overflow_add-len-in-loop-i : goal.overflow_add-len-in-loop-i
overflow_add-len-in-loop-i c = omega (arith, sep_bound _ c.sep_length.ensures (c.loop-i.invariant.short c.loop-i.i (omega arith)))

pub loop-i-preserved : goal.loop-i-preserved
loop-i-preserved c = record {
  few = c.loop-i.invariant.few;
  small = omega (arith, sep_bound _ c.sep_length.ensures (c.loop-i.invariant.short c.loop-i.i (omega arith)));
  short = c.loop-i.invariant.short;
  left = c.loop-i.invariant.left ∙ width_turn _ _ _ _ c.loop-i-test.true (omega arith) c.sep_length.ensures;
}

pub returns : goal.returns
returns c = measure_4 _ _ _ c.if-node-gt8.false c.any_long.ensures c.if-any_long.false c.any_zero.ensures c.if-any_zero.false c.loop-i.invariant.left c.loop-i-test.false
