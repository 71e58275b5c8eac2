-- `capi::cikolaro_parse` meets its contract. Assumes nothing.
use Rattle.capi.proofs.cikolaro_parse.Goals as goal

pub returns : goal.returns
returns c = record { answer = _; parses = c.parse-parsed.ensures; number = c.number.ensures; length_is = c.unwrap_or.ensures }
