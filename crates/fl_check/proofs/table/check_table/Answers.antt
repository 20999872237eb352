use Rattle.std.proofs.Common.{refl, inr}
use Rattle.std.proofs.lemmas.Result.{err_from_is_err_and}
use Rattle.fl_frame.proofs.ReadsInTurn.{looks_none}
use Rattle.fl_rules.proofs.Results.{no_fault}
use Rattle.fl_check.proofs.table.check_table.Goals as goal

pub returns-in-Ok-clause-finding : goal.returns-in-Ok-clause-finding
returns-in-Ok-clause-finding g c = λ told.
    (c.in-Ok.rings.tally.blob_end, (record { t = c.in-Ok.rings.numbers; sound = c.in-Ok.ensures.sound told; tally_is = c.in-Ok.ensures.tally told; kept_is = refl }))

pub returns-in_err-listing-clause-looks : goal.returns-in_err-listing-clause-looks
returns-in_err-listing-clause-looks g c = looks_none (g.F.Flash.state c.args.flash.now)

pub returns-in_err-listing-clause-finding : goal.returns-in_err-listing-clause-finding
returns-in_err-listing-clause-finding g c =
    let p = err_from_is_err_and c.from_residual.result c.from_residual.ensures.1 in
    rw p.1 tt

pub returns-in_err-listing-clause-off : goal.returns-in_err-listing-clause-off
returns-in_err-listing-clause-off g c =
    let p = err_from_is_err_and c.from_residual.result c.from_residual.ensures.1 in
    rw (p.1, p.2) (λ off. (inr refl, refl))

pub returns-in_err-buf-clause-looks : goal.returns-in_err-buf-clause-looks
returns-in_err-buf-clause-looks g c = looks_none (g.F.Flash.state c.args.flash.now)

pub returns-in_err-buf-clause-finding : goal.returns-in_err-buf-clause-finding
returns-in_err-buf-clause-finding g c =
    let p = err_from_is_err_and c.from_residual-in_err-buf.result c.from_residual-in_err-buf.ensures.1 in
    rw p.1 tt

pub returns-in_err-buf-clause-off : goal.returns-in_err-buf-clause-off
returns-in_err-buf-clause-off g c =
    let p = err_from_is_err_and c.from_residual-in_err-buf.result c.from_residual-in_err-buf.ensures.1 in
    rw (p.1, p.2) (λ off. (inr refl, refl))

pub returns-in_err-reaches-clause-looks : goal.returns-in_err-reaches-clause-looks
returns-in_err-reaches-clause-looks g c = looks_none (g.F.Flash.state c.args.flash.now)

pub returns-in_err-reaches-clause-finding : goal.returns-in_err-reaches-clause-finding
returns-in_err-reaches-clause-finding g c =
    let p = err_from_is_err_and c.from_residual-in_err-reaches.result c.from_residual-in_err-reaches.ensures.1 in
    rw p.1 tt

pub returns-in_err-reaches-clause-off : goal.returns-in_err-reaches-clause-off
returns-in_err-reaches-clause-off g c =
    let p = err_from_is_err_and c.from_residual-in_err-reaches.result c.from_residual-in_err-reaches.ensures.1 in
    rw (p.1, p.2) (λ off. (inr refl, refl))

pub schema_of-schema-requires-clause-fits : goal.schema_of-schema-requires-clause-fits
schema_of-schema-requires-clause-fits g c = c.requires.fits.passes

pub schema_of-schema-requires-clause-limits : goal.schema_of-schema-requires-clause-limits
schema_of-schema-requires-clause-limits g c = c.requires.fits.limits

pub check-requires-clause-fits : goal.check-requires-clause-fits
check-requires-clause-fits g c = c.requires.fits

pub check-requires-clause-log : goal.check-requires-clause-log
check-requires-clause-log g c = c.requires.log

pub returns-in-Ok-clause-looks : goal.returns-in-Ok-clause-looks
returns-in-Ok-clause-looks g c = c.check.ensures.looks

pub returns-in-Ok-clause-off : goal.returns-in-Ok-clause-off
returns-in-Ok-clause-off g c = λ off. absurd (no_fault (c.in-Ok.ensures.off off).0)

pub returns-in-Err-Failed-clause-looks : goal.returns-in-Err-Failed-clause-looks
returns-in-Err-Failed-clause-looks g c = c.check.ensures.looks

pub returns-clause-looks : goal.returns-clause-looks
returns-clause-looks g c = c.check.ensures.looks
