use Rattle.std.proofs.Common.{inl, inr, refl, ap}
use Rattle.fl_table.specs.declared.counts.TableCounts.{TableCounts}
use Rattle.fl_shell.proofs.flush.pending_in.Goals as goal

pub returns-in-Ok-clause-told : goal.returns-in-Ok-clause-told
returns-in-Ok-clause-told g c =
    let told = c.in-Ok.ensures.cause in
    inl (told.0, told.1, told.2, ap (λ (counts : TableCounts). counts.pending) told.3)

pub returns-in-Err-clause-told : goal.returns-in-Err-clause-told
returns-in-Err-clause-told g c = inr (c.in-Err.field-0, c.in-Err.ensures.cause, refl)
