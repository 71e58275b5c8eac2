-- `lines::is_word` meets its contract: equal bytes are those of which neither is below. Assumes nothing.
use Rattle.word.specs.Key.{cmp}
use Rattle.changes.proofs.RecordLaws.{equal_is}
use Rattle.lines.proofs.is_word.Goals as goal

pub returns : goal.returns
returns c = equal_is (cmp c.args.field.now c.args.name.now) c.compare.ensures c.is_eq.ensures
