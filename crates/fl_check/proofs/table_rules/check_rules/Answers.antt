use Rattle.std.proofs.Common.{inr, refl, inl}
use Rattle.std.proofs.lemmas.Result.{err_from_is_err_and}
use Rattle.fl_frame.proofs.ReadsInTurn.{looks_none}
use Rattle.fl_rules.proofs.Results.{no_fault}
use Rattle.fl_check.proofs.PowersOff.{check_fault}
use Rattle.fl_check.proofs.table_rules.check_rules.Goals as goal

pub returns-in_err-listing-clause-rules : goal.returns-in_err-listing-clause-rules
returns-in_err-listing-clause-rules g c =
    let p = err_from_is_err_and c.from_residual.result c.from_residual.ensures.1 in
    rw p.1 tt

pub returns-in_err-listing-clause-looks : goal.returns-in_err-listing-clause-looks
returns-in_err-listing-clause-looks g c = looks_none (g.F.Flash.state c.args.flash.now)

pub returns-in_err-listing-clause-off : goal.returns-in_err-listing-clause-off
returns-in_err-listing-clause-off g c =
    let p = err_from_is_err_and c.from_residual.result c.from_residual.ensures.1 in
    rw (p.1, p.2) (λ off. (inr refl, refl))

pub returns-in_err-buf-clause-rules : goal.returns-in_err-buf-clause-rules
returns-in_err-buf-clause-rules g c =
    let p = err_from_is_err_and c.from_residual-in_err-buf.result c.from_residual-in_err-buf.ensures.1 in
    rw p.1 tt

pub returns-in_err-buf-clause-looks : goal.returns-in_err-buf-clause-looks
returns-in_err-buf-clause-looks g c = looks_none (g.F.Flash.state c.args.flash.now)

pub returns-in_err-buf-clause-off : goal.returns-in_err-buf-clause-off
returns-in_err-buf-clause-off g c =
    let p = err_from_is_err_and c.from_residual-in_err-buf.result c.from_residual-in_err-buf.ensures.1 in
    rw (p.1, p.2) (λ off. (inr refl, refl))

pub returns-in_err-reaches-clause-rules : goal.returns-in_err-reaches-clause-rules
returns-in_err-reaches-clause-rules g c =
    let p = err_from_is_err_and c.from_residual-in_err-reaches.result c.from_residual-in_err-reaches.ensures.1 in
    rw p.1 tt

pub returns-in_err-reaches-clause-looks : goal.returns-in_err-reaches-clause-looks
returns-in_err-reaches-clause-looks g c = looks_none (g.F.Flash.state c.args.flash.now)

pub returns-in_err-reaches-clause-off : goal.returns-in_err-reaches-clause-off
returns-in_err-reaches-clause-off g c =
    let p = err_from_is_err_and c.from_residual-in_err-reaches.result c.from_residual-in_err-reaches.ensures.1 in
    rw (p.1, p.2) (λ off. (inr refl, refl))

pub schema_of-schema-requires-clause-fits : goal.schema_of-schema-requires-clause-fits
schema_of-schema-requires-clause-fits g c = c.requires.fits.passes

pub schema_of-schema-requires-clause-limits : goal.schema_of-schema-requires-clause-limits
schema_of-schema-requires-clause-limits g c = c.requires.fits.limits

pub rules-requires-clause-fits : goal.rules-requires-clause-fits
rules-requires-clause-fits g c = c.requires.fits

pub rules-requires-clause-log : goal.rules-requires-clause-log
rules-requires-clause-log g c = c.requires.log

pub returns-in-Ok-clause-rules : goal.returns-in-Ok-clause-rules
returns-in-Ok-clause-rules g c = c.in-Ok.ensures.rules

pub returns-in-Ok-clause-looks : goal.returns-in-Ok-clause-looks
returns-in-Ok-clause-looks g c = c.rules.ensures.looks

pub returns-in-Ok-clause-off : goal.returns-in-Ok-clause-off
returns-in-Ok-clause-off g c = λ off. absurd (no_fault (c.in-Ok.ensures.off off).0)

pub returns-clause-fails : goal.returns-clause-fails
returns-clause-fails g c = c.in-Err.ensures.fails

pub returns-clause-looks : goal.returns-clause-looks
returns-clause-looks g c = c.rules.ensures.looks

pub returns-clause-off : goal.returns-clause-off
returns-clause-off g c = λ off. let both = c.in-Err.ensures.off off in (inl (check_fault both.0), both.1)
