-- `insertion::take_in` meets its contract. That the right child's number is below 2 ^ 64 is what owning it tells (`good`). Assumes nothing.
use Rattle.word.proofs.NumLaws.{bytes_of}
use Rattle.slots.proofs.CodeLaws.{some_number}
use Rattle.insertion.proofs.SpliceCode.{take_1, take_none, take_2}
use native.Mathlib.Omega.{arith}
use Rattle.insertion.proofs.take_in.Goals as goal

pub returns-then-count-gt7 : goal.returns-then-count-gt7
returns-then-count-gt7 c = take_1 _ _ _ _ _ _ c.args.right c.if-count-gt7.true c.split_full.ensures

pub returns-in_default : goal.returns-in_default
returns-in_default c = take_none _ _ _ _ _ _ c.args.right c.slot_of.ensures c.in_default.is

pub returns : goal.returns
returns c = take_2 _ _ _ _ _ _ c.args.right (bytes_of c.args.store.now (λ i h. omega (arith, c.slice_known-1.given i))) c.well_formed.1.1.1.1.1.1.1.0.1.1.0.1 c.if-count-gt7.false (some_number c.slot_of.ensures c.in-Some.is).0 c.insert_bytes.ensures
