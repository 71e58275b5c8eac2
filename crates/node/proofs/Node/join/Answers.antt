-- `node::Node::join` meets its contract. Assumes nothing.
use mathlib.Core.Path.{◌≡◌}
use lib.ListN.{length}
use Rattle.word.proofs.AtLaws.{fitted}
use Rattle.node.proofs.EditCode.{Sized, length_under, join_1, join_2}
use native.Mathlib.Omega.{arith}
use borrow.Author.Rules.{rules}
use Rattle.node.proofs.Node.join.Goals.{Start}
use Rattle.node.proofs.Node.join.Goals as goal

-- the lengths of the arrays, known where the function begins
sized : (s : Start) → Sized s.args.self × Sized s.args.right × (length s.args.sep.key ≡ 288)
sized s = (
  (search (rules, length_under), search (rules, length_under), search rules, search rules),
  (search (rules, length_under), search (rules, length_under), search rules, search rules),
  search rules,
)

pub returns-then-not-fits : goal.returns-then-not-fits
returns-then-not-fits c = join_1 _ _ _ c.fits.ensures c.if-not-fits.true

pub overflow_add-m : goal.overflow_add-m
overflow_add-m c = omega (arith, fitted _ _ _ c.fits.ensures c.if-not-fits.false)

pub overflow_add-m-2 : goal.overflow_add-m-2
overflow_add-m-2 c = omega (arith, fitted _ _ _ c.fits.ensures c.if-not-fits.false)

pub overflow_add-m-3 : goal.overflow_add-m-3
overflow_add-m-3 c = omega (arith, fitted _ _ _ c.fits.ensures c.if-not-fits.false)

pub offset_bounds-self-m : goal.offset_bounds-self-m
offset_bounds-self-m c = omega (arith, fitted _ _ _ c.fits.ensures c.if-not-fits.false)

pub slice_bounds-copy_from_slice-end : goal.slice_bounds-copy_from_slice-end
slice_bounds-copy_from_slice-end c = omega (arith, fitted _ _ _ c.fits.ensures c.if-not-fits.false)

pub returns : goal.returns
returns c = join_2 c.args.self c.args.right c.args.sep (sized (goal.at.returns c).Start).0 (sized (goal.at.returns c).Start).1 (sized (goal.at.returns c).Start).2 c.fits.ensures c.if-not-fits.false c.copy_from_slice.ensures.after c.copy_from_slice-2.ensures.after c.copy_from_slice-3.ensures.after c.copy_from_slice-4.ensures.after c.copy_from_slice-5.ensures.after
