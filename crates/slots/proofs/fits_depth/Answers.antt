-- `slots::fits_depth` meets its contract. Assumes nothing.
use Rattle.std.proofs.Common.{arith, rules, tests, not, ◌∙◌}
use Rattle.std.proofs.lemmas.Iterator.{YieldsList-from_slice, YieldsList-from_take}
use Rattle.std.proofs.lemmas.Iterator.Search.{all_from_yields_List}
use Rattle.node.specs.declared.Child.{Child}
use Rattle.slots.specs.Code.{misfits}
use Rattle.slots.proofs.CodeLaws.{fits_all}
use Rattle.slots.proofs.fits_depth.Goals as goal

pub returns : goal.returns
returns c =
    all_from_yields_List (λ (x : Child). not (misfits c.args.depth x)) _ _ _ c.all.ensures.ran
    (YieldsList-from_take _ (YieldsList-from_slice c.args.children cc) c.take.ensures.count)
    (λ x b q k. search (rules, tests))
    ∙ fits_all _ _ _ _ (omega arith) c.saturating_add.ensures
