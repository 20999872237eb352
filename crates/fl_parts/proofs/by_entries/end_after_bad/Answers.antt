use Rattle.std.proofs.Common.{◌≡◌, ◌+◌, ℕ, max, arith}
use Rattle.std.proofs.lemmas.Result.{err_from_is_err_and}
use Rattle.fl_parts.proofs.Untouched.{no-success}
use Rattle.fl_parts.proofs.by_entries.end_after_bad.Goals as goal

-- the greater end, by the numbers as they are cast
end-is : (end first count a b after : ℕ) → after ≡ max end (a + b) → a ≡ first → b ≡ count → after ≡ max end (first + count)
end-is end first count a b after is x y = omega (arith, is, x, y)

pub returns-in_err-blame-clause-within : goal.returns-in_err-blame-clause-within
returns-in_err-blame-clause-within c = c.in_err-blame.ensures.within

pub returns-in_err-blame-clause-waits : goal.returns-in_err-blame-clause-waits
returns-in_err-blame-clause-waits c = no-success _ _ c.from_residual.result c.from_residual.ensures.1

pub returns-in_err-blame-clause-refused : goal.returns-in_err-blame-clause-refused
returns-in_err-blame-clause-refused c =
    let p = err_from_is_err_and c.from_residual.result c.from_residual.ensures.1 in
    rw (p.1, p.2) c.in_err-blame.ensures.refused

pub returns-clause-within : goal.returns-clause-within
returns-clause-within c = c.in_ok-blame.ensures.within

pub returns-clause-waits : goal.returns-clause-waits
returns-clause-waits c = (end-is _ _ _ _ _ _ c.max.ensures c.from.ensures c.from-2.ensures, c.in_ok-blame.ensures.waits, c.in_ok-blame.ensures.some)

pub returns-clause-refused : goal.returns-clause-refused
returns-clause-refused c = tt
