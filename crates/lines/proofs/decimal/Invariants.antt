-- `lines::decimal` meets its contract. The loop: the digits that are left decide. Assumes nothing.
use Prim.Native.Nat.{◌<◌, ◌^◌}
use Rattle.lines.proofs.DigitLaws.{Counted}
use Rattle.lines.proofs.decimal.Given as goal

abbrev pub invariant-loop-b : goal.invariant-loop-b
invariant-loop-b l = (l.value < 256 ^ 8) × Counted l.field l.value l.b-index
