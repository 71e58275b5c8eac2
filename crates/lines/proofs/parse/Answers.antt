-- `lines::parse` meets its contract: a law for each way through it. Assumes nothing.
use Rattle.lines.proofs.LinesLaws.{parse_1, parse_2, parse_3, parse_within}
use native.Mathlib.Omega.{arith}
use Rattle.lines.proofs.parse.Goals as goal

pub returns-then-text-gt16384 : goal.returns-then-text-gt16384
returns-then-text-gt16384 c = parse_1 _ _ _ c.if-text-gt16384.true c.clear.ensures

pub overflow_sub-room : goal.overflow_sub-room
overflow_sub-room c = let w = parse_within c.args.text.now c.args.records.now c.if-text-gt16384.false _ _ c.put_lines.ensures _ c.in-Some.is in omega arith

pub returns-in-Some : goal.returns-in-Some
returns-in-Some c = parse_2 c.args.text.now c.args.records.now c.if-text-gt16384.false _ _ c.put_lines.ensures _ c.in-Some.is _ c.clear-in-Some.ensures

pub returns-in-None : goal.returns-in-None
returns-in-None c = parse_3 c.args.text.now c.args.records.now c.if-text-gt16384.false _ _ c.put_lines.ensures _ c.in-None.is c.records-2-1.given c.clear-in-None.ensures
