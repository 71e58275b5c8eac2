-- `capi::cikolaro_format` meets its contract. Assumes nothing.
use Rattle.capi.proofs.cikolaro_format.Goals as goal

pub returns : goal.returns
returns c = record { answer = _; formats = c.format-formatted.ensures; number = c.number.ensures }
