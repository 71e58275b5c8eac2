-- `capi::cikolaro_batch` meets its contract. Assumes nothing.
use mathlib.Core.Path.{refl}
use Rattle.capi.proofs.cikolaro_batch.Goals as goal

pub returns : goal.returns
returns c = record { answer = _; batches = c.batch-batched.ensures; number = c.number.ensures; count = refl }
