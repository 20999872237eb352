use Rattle.std.proofs.Common.{◌+◌, arith}
use Rattle.std.proofs.lemmas.Result.{err_from_is_err_and}
use Rattle.fl_search.proofs.Pages.{failed-below}
use Rattle.fl_search.proofs.downwards.near.Goals as goal

-- the pages behind the one that failed were asked for before it
pub returns-in_err-first-clause-fails : goal.returns-in_err-first-clause-fails
returns-in_err-first-clause-fails g c = λ first from.
    let inv = c.loop-end.invariant in
    let p = err_from_is_err_and c.from_residual.result c.from_residual.ensures.1 in
    rw (p.1, p.2) (failed-below _ _ c.args.oldest (c.args.top + 1) c.args.key _ (c.in_err-first.ensures.fails first (inv.since first from)) (omega arith) (omega (arith, inv.within)) (λ told tells n after before. inv.looked told tells n (omega (arith, after)) before))
