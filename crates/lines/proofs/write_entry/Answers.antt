-- `lines::write_entry` meets its contract: a law for each way through it. Assumes nothing.
use lib.ListN.{length-set}
use Rattle.lines.proofs.WriteLaws.{entry_1, entry_2, entry_3, entry_within}
use native.Mathlib.Omega.{arith}
use Rattle.lines.proofs.write_entry.Goals as goal

pub returns-then-dst-key : goal.returns-then-dst-key
returns-then-dst-key c = entry_1 _ _ _ c.digits-n.ensures.0 (omega arith)

pub returns-then-not-fits : goal.returns-then-not-fits
returns-then-not-fits c = entry_2 _ _ _ c.digits-n.ensures.0 c.fits.ensures c.if-not-fits.true-raw

pub bounds-dst-hex : goal.bounds-dst-hex
bounds-dst-hex c = omega (arith, c.dst-1.given, entry_within c.args.key.now c.args.value c.args.dst.now c.digits-n.ensures.0 c.fits.ensures c.if-not-fits.false-raw)

pub bounds-dst-hex-2 : goal.bounds-dst-hex-2
bounds-dst-hex-2 c = omega (arith, c.dst-1.given, simp length-set at c.dst-2-1.given, entry_within c.args.key.now c.args.value c.args.dst.now c.digits-n.ensures.0 c.fits.ensures c.if-not-fits.false-raw)

pub returns : goal.returns
returns c = entry_3 _ _ _ c.digits-n.ensures.0 c.fits.ensures c.if-not-fits.false-raw c.put_hex.ensures c.put_decimal.ensures
