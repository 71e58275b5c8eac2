-- `lent::place_of` meets its contract. Assumes nothing.
use Rattle.lent.proofs.LentLaws.{place_1, place_2, place_3, place_4, place_5}
use native.Mathlib.Omega.{arith}
use Rattle.lent.proofs.place_of.Goals as goal

pub returns-in-0 : goal.returns-in-0
returns-in-0 c = place_1 _ c.in-0.is

pub returns-in-1 : goal.returns-in-1
returns-in-1 c = place_2 _ c.in-1.is

pub returns-in-2 : goal.returns-in-2
returns-in-2 c = place_3 _ c.in-2.is

pub returns-in-3 : goal.returns-in-3
returns-in-3 c = place_4 _ c.in-3.is

pub returns-in_default : goal.returns-in_default
returns-in_default c = place_5 _ _ (λ e. omega (arith, e)) (λ e. omega (arith, e)) (λ e. omega (arith, e)) (λ e. omega (arith, e))
