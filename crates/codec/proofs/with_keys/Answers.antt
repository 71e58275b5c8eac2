use mathlib.Core.Path.{◌∙◌}
use Rattle.codec.proofs.ReadLaws.{count_few, copied_start, copied_next, read_done}
use Rattle.codec.proofs.with_keys.Goals as goal

pub loop-i-init : goal.loop-i-init
loop-i-init c = let k = copied_start _ _ _ _ in record { few = count_few _ c.requires; read = c.requires; made = k.0; left = k.1 }

pub loop-i-preserved : goal.loop-i-preserved
loop-i-preserved c = let k = copied_next _ _ _ _ _ c.loop-i.invariant.made c.loop-i.invariant.left c.loop-i-test.true c.copy.ensures in record {
  few = c.loop-i.invariant.few;
  read = c.loop-i.invariant.read;
  made = k.0;
  left = k.1;
}

pub returns : goal.returns
returns c = c.loop-i.invariant.made ∙ read_done _ _ _ _ c.loop-i.invariant.read c.loop-i.invariant.left c.loop-i-test.false
