-- `lines::put` meets its contract: a law for each way through it. Assumes nothing.
use mathlib.Core.Path.{ap}
use Rattle.std.specs.Prelude.{is_some}
use Rattle.lines.proofs.PutLaws.{put_1, put_2, put_3, put_within}
use native.Mathlib.Omega.{arith}
use Rattle.lines.proofs.put.Goals as goal

pub returns-then-not-fits : goal.returns-then-not-fits
returns-then-not-fits c = put_1 _ _ _ _ c.fits.ensures _ c.if-not-fits.true-raw

pub bounds-records-at : goal.bounds-records-at
bounds-records-at c = omega (arith, put_within c.args.field.now c.args.records.now c.args.at c.fits.ensures c.if-not-fits.false-raw)

pub overflow_add-at : goal.overflow_add-at
overflow_add-at c = omega (arith, put_within c.args.field.now c.args.records.now c.args.at c.fits.ensures c.if-not-fits.false-raw)

pub overflow_add-at-2 : goal.overflow_add-at-2
overflow_add-at-2 c = omega (arith, put_within c.args.field.now c.args.records.now c.args.at c.fits.ensures c.if-not-fits.false-raw)

pub overflow_add-at-3 : goal.overflow_add-at-3
overflow_add-at-3 c = omega (arith, put_within c.args.field.now c.args.records.now c.args.at c.fits.ensures c.if-not-fits.false-raw)

pub returns-in_err-unhex : goal.returns-in_err-unhex
returns-in_err-unhex c = rw c.from_residual.ensures (put_2 _ _ _ _ c.fits.ensures c.if-not-fits.false-raw (rw c.kind.ensures at c.write_u16.ensures) (rw c.unwrap_or.ensures at c.write_u64.ensures) c.unhex.ensures.0 _ c.in_err-unhex.was)

pub returns : goal.returns
returns c = put_3 _ _ _ _ c.fits.ensures c.if-not-fits.false-raw (rw c.kind.ensures at c.write_u16.ensures) (rw c.unwrap_or.ensures at c.write_u64.ensures) c.unhex.ensures.0 _ c.in_ok-unhex.was (c.unhex.ensures.1 (ap is_some c.in_ok-unhex.was))
