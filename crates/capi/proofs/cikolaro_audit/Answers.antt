-- `capi::cikolaro_audit` meets its contract. Assumes nothing.
use Rattle.capi.proofs.cikolaro_audit.Goals as goal

pub returns : goal.returns
returns c = record { answer = _; audits = c.audit-verdict.ensures; number = c.number.ensures; count = c.unwrap_or.ensures }
