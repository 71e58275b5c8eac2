-- `codec::sep_length` meets its contract. Assumes nothing.
use Rattle.codec.proofs.EncodeLaws.{sep_short, sep_long}
use mathlib.Core.Path.{sym}
use Rattle.codec.proofs.sep_length.Goals as goal

pub returns-then-len-lt255 : goal.returns-then-len-lt255
returns-then-len-lt255 c = sym (sep_short _ c.if-len-lt255.true)

pub returns-else-len-lt255 : goal.returns-else-len-lt255
returns-else-len-lt255 c = sym (sep_long _ c.if-len-lt255.false)
