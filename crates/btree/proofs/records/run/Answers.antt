-- `btree::records::run` meets its contract. Assumes nothing.
use mathlib.Core.Path.{sym, ◌∙◌}
use Rattle.word.proofs.NumLaws.{bytes_of}
use Rattle.changes.proofs.RecordLaws.{change_within}
use Rattle.btree.proofs.RunsCode.{run_1, run_2}
use native.Mathlib.Omega.{arith}
use Rattle.btree.proofs.records.run.Goals as goal

pub returns-in_default : goal.returns-in_default
returns-in_default c = run_1 _ _ _ c.run_end-found.ensures (sym c.in_default.is ∙ c.change_at.ensures)

pub slice_bounds-act-count : goal.slice_bounds-act-count
slice_bounds-act-count c = omega (arith, change_within _ _ (sym c.in-Some.is ∙ c.change_at.ensures))

pub slice_bounds-act-start : goal.slice_bounds-act-start
slice_bounds-act-start c = omega (arith, change_within _ _ (sym c.in-Some.is ∙ c.change_at.ensures))

pub slice_bounds-act-end : goal.slice_bounds-act-end
slice_bounds-act-end c = omega (arith, change_within _ _ (sym c.in-Some.is ∙ c.change_at.ensures))

pub returns : goal.returns
returns c = run_2 _ _ _ c.run_end-found.ensures _ _ (bytes_of c.args.records.now (λ i h. omega (arith, c.type_inv.records i))) (sym c.in-Some.is ∙ c.change_at.ensures) c.act-acted.ensures
