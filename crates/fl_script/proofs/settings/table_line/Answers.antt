use Rattle.std.proofs.Common.{rules, refl, ap, ◌∙◌}
use Rattle.fl_words.specs.Grammar as grammar
use Rattle.fl_script.proofs.Few.{eleven}
use Rattle.fl_script.proofs.Steps.{with_form, no_form, no_part, on, stops, fails}
use Rattle.fl_script.proofs.TableLines.{bad-rings, bad-lookup, numbers}
use Rattle.fl_script.proofs.settings.table_line.Goals as goal

pub returns-in_err-name-clause-command : goal.returns-in_err-name-clause-command
returns-in_err-name-clause-command c =
    fails _ _ _ _ c.from_residual.ensures.1 c.in_err-name.ensures.1
    (ap grammar.table_line (eleven c.args.words.now c.in-len11-up.len_at_least) ∙ no_form _ c.in_err-name.ensures.0)

pub returns-in_err-log-clause-command : goal.returns-in_err-log-clause-command
returns-in_err-log-clause-command c =
    fails _ _ _ _ c.from_residual-in_err-log.ensures.1 c.in_err-log.ensures.1
    (ap grammar.table_line (eleven c.args.words.now c.in-len11-up.len_at_least) ∙ with_form _ c.in_ok-name.ensures.0 ∙ no_part _ c.in_err-log.ensures.0)

pub returns-in_err-rings-clause-command : goal.returns-in_err-rings-clause-command
returns-in_err-rings-clause-command c =
    fails _ _ _ _ c.from_residual-in_err-rings.ensures.1 refl
    (bad-rings c.args.words.now c.in-len11-up.len_at_least _ c.in_ok-name.ensures.0 c.in_ok-log.ensures c.in_err-rings.ensures)

pub returns-in_err-lookup-clause-command : goal.returns-in_err-lookup-clause-command
returns-in_err-lookup-clause-command c =
    fails _ _ _ _ c.from_residual-in_err-lookup.ensures.1 refl
    (bad-lookup c.args.words.now c.in-len11-up.len_at_least _ c.in_ok-name.ensures.0 c.in_ok-log.ensures _ c.in_ok-rings.ensures c.in_err-lookup.ensures)

pub returns-in_err-maybe_number-clause-command : goal.returns-in_err-maybe_number-clause-command
returns-in_err-maybe_number-clause-command c =
    fails _ _ _ _ c.from_residual-in_err-maybe_number.ensures.1 c.in_err-maybe_number.ensures.1
    (numbers c.args.words.now c.in-len11-up.len_at_least _ c.in_ok-name.ensures.0 c.in_ok-log.ensures _ _ c.in_ok-rings.ensures c.in_ok-lookup.ensures ∙ stops _ c.in_err-maybe_number.ensures.0)

pub returns-clause-command : goal.returns-clause-command
returns-clause-command c =
    let line = numbers c.args.words.now c.in-len11-up.len_at_least _ c.in_ok-name.ensures.0 c.in_ok-log.ensures _ _ c.in_ok-rings.ensures c.in_ok-lookup.ensures ∙ on _ c.in_ok-maybe_number.ensures in
    rw (line, c.in_ok-name.ensures.1, c.copy.ensures, c.has_full_index.ensures) (search rules)
