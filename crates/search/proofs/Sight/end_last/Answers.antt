-- `search::Sight::end_last` meets its contract. Assumes nothing.
use Rattle.word.proofs.AtLaws.{fitted}
use Rattle.search.proofs.SearchCode.{last_short, last_misfit, last_behind, last_seen, last_passed}
use native.Mathlib.Omega.{arith}
use Rattle.search.proofs.Sight.end_last.Goals as goal

pub returns-then-not-fits : goal.returns-then-not-fits
returns-then-not-fits c = λ t k l. last_short t _ _ k _ _ l c.fits.ensures c.if-not-fits.true-raw c.spoilt.ensures

pub returns-then-is_misfit : goal.returns-then-is_misfit
returns-then-is_misfit c = λ t k l. last_misfit t _ _ k _ _ l c.fits.ensures c.if-not-fits.false-raw c.read_u64.ensures c.is_misfit.ensures c.if-is_misfit.true c.spoilt-then-is_misfit.ensures

pub overflow_add-at : goal.overflow_add-at
overflow_add-at c = omega (arith, fitted _ _ _ c.fits.ensures c.if-not-fits.false)

pub returns-then-at-s : goal.returns-then-at-s
returns-then-at-s c = λ t k l. last_behind t _ _ k _ _ l c.fits.ensures c.if-not-fits.false-raw c.read_u64.ensures c.is_misfit.ensures c.if-is_misfit.false c.if-at-s.true c.spoilt-then-at-s.ensures

pub returns-then-not-self : goal.returns-then-not-self
returns-then-not-self c = λ t k l. last_seen t _ _ k _ _ l c.fits.ensures c.if-not-fits.false-raw c.read_u64.ensures c.is_misfit.ensures c.if-is_misfit.false c.if-at-s.false c.if-not-self.true

pub returns-else-not-self : goal.returns-else-not-self
returns-else-not-self c = λ t k l. last_passed t _ _ k _ _ l c.fits.ensures c.if-not-fits.false-raw c.read_u64.ensures c.is_misfit.ensures c.if-is_misfit.false c.if-at-s.false c.if-not-self.false
