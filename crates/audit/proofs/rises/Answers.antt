-- `audit::rises` meets its contract. Assumes nothing.
use mathlib.Core.Path.{ap}
use Rattle.word.proofs.AtLaws.{fitted}
use Rattle.audit.specs.Code.{key_of}
use Rattle.audit.proofs.NodeLaws.{rises_1, rises_2, rises_3}
use native.Mathlib.Omega.{arith}
use Rattle.audit.proofs.rises.Goals as goal

pub returns-then-not-fits : goal.returns-then-not-fits
returns-then-not-fits c = rises_1 _ _ _ _ c.fits.ensures c.if-not-fits.true-raw

pub returns-in_default : goal.returns-in_default
returns-in_default c = rises_2 _ _ _ _ c.fits.ensures c.if-not-fits.false-raw (ap (key_of c.args.store.now) c.in_default.is)

pub overflow_add-end : goal.overflow_add-end
overflow_add-end c = omega (arith, fitted _ _ _ c.fits.ensures c.if-not-fits.false)

pub slice_bounds-compare_part-end : goal.slice_bounds-compare_part-end
slice_bounds-compare_part-end c = fitted _ _ _ c.fits.ensures c.if-not-fits.false

pub returns : goal.returns
returns c = rises_3 _ _ _ _ c.fits.ensures c.if-not-fits.false-raw _ _ (ap (key_of c.args.store.now) c.in-Some.is) c.compare_part.ensures c.is_gt.ensures
