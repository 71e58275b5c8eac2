use Rattle.lines.proofs.WriteLaws.{hex_out, hex_start, hex_turn, hex_end}
use native.Mathlib.Omega.{arith}
use Rattle.lines.proofs.put_hex.Goals as goal

pub returns-then-dst-key : goal.returns-then-dst-key
returns-then-dst-key c = hex_out _ _ (omega arith)

pub loop-i-init : goal.loop-i-init
loop-i-init c = hex_start _ _

pub loop-i-preserved : goal.loop-i-preserved
loop-i-preserved c = hex_turn _ _ _ c.loop-i.invariant (omega arith) (omega arith) (omega (arith, c.type_inv.key c.loop-i.i)) c.digit_byte.ensures c.digit_byte-in-loop-i.ensures

pub returns : goal.returns
returns c = hex_end _ _ _ c.loop-i.invariant (omega arith) (omega arith)
