use Rattle.std.proofs.lemmas.Result.{err_from_is_err_and}
use Rattle.node.specs.Chain.{first_of}
use Rattle.codec.proofs.WriteLaws.{measured_fine, write_start, write_keeps, next_within, write_turn, write_end, write_refused, write_short, write_done}
use native.Mathlib.Omega.{arith}
use borrow.Author.Rules.{rules}
use Rattle.codec.proofs.write.Goals as goal

pub returns-in_err-len : goal.returns-in_err-len
returns-in_err-len c =
    let p = err_from_is_err_and c.from_residual.result c.from_residual.ensures.1 in
    rw (p.1, p.2) (write_refused c.args.node (search rules) (search rules) _ c.measure.ensures c.in_err-len.was)

pub returns-then-dst-len : goal.returns-then-dst-len
returns-then-dst-len c = write_short c.args.node (search rules) (search rules) _ c.measure.ensures c.in_ok-len.was c.if-dst-len.true

pub loop-i-init : goal.loop-i-init
unfolding first_of
loop-i-init c =
    let fine = measured_fine c.args.node (search rules) (search rules) c.measure.ensures c.in_ok-len.was in
    record {
      room = omega (arith, write_keeps c.args.node (search rules) fine _ c.write_u64.ensures, c.if-dst-len.false);
      fine = fine;
      left = write_start c.args.node (search rules) fine _ c.if-dst-len.false c.write_u64.ensures;
      keys = search rules;
    }

pub overflow_add-at : goal.overflow_add-at
overflow_add-at c = let v = c.loop-i.invariant in omega (arith, next_within c.args.node v.keys v.fine _ v.room v.left c.loop-i-test.true c.sep_length-at.ensures)

pub overflow_add-at-in-loop-i : goal.overflow_add-at-in-loop-i
overflow_add-at-in-loop-i c = let v = c.loop-i.invariant in omega (arith, next_within c.args.node v.keys v.fine _ v.room v.left c.loop-i-test.true c.sep_length-at.ensures)

pub loop-i-preserved : goal.loop-i-preserved
loop-i-preserved c =
    let v = c.loop-i.invariant in
    record {
      room = v.room;
      fine = v.fine;
      left = write_turn c.args.node v.keys v.fine _ v.room v.left c.loop-i-test.true c.write_separator.ensures c.sep_length-at.ensures c.write_u64-in-loop-i.ensures;
      keys = v.keys;
    }

pub returns : goal.returns
unfolding first_of
returns c =
    let v = c.loop-i.invariant in
    write_done c.args.node (search rules) v.keys _ c.measure.ensures c.in_ok-len.was c.if-dst-len.false
    (write_end c.args.node v.keys v.fine _ v.room v.left _ c.if-dst-len.false c.write_u64.ensures c.loop-i-test.false c.loop-i.auto.i-end)
