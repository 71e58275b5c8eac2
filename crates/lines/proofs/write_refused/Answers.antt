-- `lines::write_refused` meets its contract: a law for each way through it. Assumes nothing.
use Rattle.lines.proofs.WriteLaws.{refused_1, refused_2}
use native.Mathlib.Omega.{arith}
use Rattle.lines.proofs.write_refused.Goals as goal

pub returns-then-dst-n : goal.returns-then-dst-n
returns-then-dst-n c = refused_1 _ _ _ c.digits-n.ensures.0 c.digits-m.ensures.0 (omega arith)

pub returns : goal.returns
returns c = refused_2 _ _ _ c.digits-n.ensures.0 c.digits-m.ensures.0 (omega arith) c.copy.ensures c.put_decimal.ensures c.put_decimal-2.ensures
