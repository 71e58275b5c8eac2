-- `iter::lookup` meets its contract. Assumes nothing.
use Rattle.std.proofs.lemmas.Result.{err_from_is_err_and}
use borrow.Author.Rules.{rules}
use Rattle.iter.proofs.CodeLaws.{lookup_1, lookup_2, lookup_3}
use Rattle.iter.proofs.lookup.Goals as goal

pub returns-in_err-check : goal.returns-in_err-check
returns-in_err-check c = let p = err_from_is_err_and c.from_residual.result c.from_residual.ensures.1 in rw (p.1, p.2) (lookup_1 _ _ c.check.ensures c.in_err-check.was)

pub returns-in_err-found : goal.returns-in_err-found
returns-in_err-found c =
    let p = err_from_is_err_and c.from_residual-in_err-found.result c.from_residual-in_err-found.ensures.1 in
    rw (p.1, p.2) (lookup_2 _ _ c.check.ensures c.in_ok-check.was c.walk.ensures c.in_err-found.was)

pub returns : goal.returns
returns c = lookup_3 _ _ c.check.ensures c.in_ok-check.was c.walk.ensures c.in_ok-found.was (search rules)
