use Rattle.std.proofs.Common.{sym, ap, ◌∙◌}
use Rattle.fl_words.specs.Grammar as grammar
use Rattle.fl_script.proofs.Few.{four}
use Rattle.fl_script.proofs.Steps.{with_form, on, stops, no_form, fails}
use Rattle.fl_script.proofs.queries.load_line.Goals as goal

pub returns-in_err-name : goal.returns-in_err-name
returns-in_err-name c =
    fails _ _ _ _ c.from_residual.ensures.1 c.in_err-name.ensures.1
    (ap grammar.load_line (four c.args.words.now c.in-len4.len_at_least c.in-len4.len_below) ∙ no_form _ c.in_err-name.ensures.0)

pub returns-in_err-number_in : goal.returns-in_err-number_in
returns-in_err-number_in c =
    fails _ _ _ _ c.from_residual-in_err-number_in.ensures.1 c.in_err-number_in.ensures.1
    (ap grammar.load_line (four c.args.words.now c.in-len4.len_at_least c.in-len4.len_below) ∙ with_form _ c.in_ok-name.ensures.0 ∙ stops _ c.in_err-number_in.ensures.0)

pub returns-in_err-number_in-2 : goal.returns-in_err-number_in-2
returns-in_err-number_in-2 c =
    fails _ _ _ _ c.from_residual-in_err-number_in-2.ensures.1 c.in_err-number_in-2.ensures.1
    (ap grammar.load_line (four c.args.words.now c.in-len4.len_at_least c.in-len4.len_below) ∙ with_form _ c.in_ok-name.ensures.0 ∙ on _ c.in_ok-number_in.ensures ∙ stops _ c.in_err-number_in-2.ensures.0)

pub returns-in_err-number : goal.returns-in_err-number
returns-in_err-number c =
    fails _ _ _ _ c.from_residual-in_err-number.ensures.1 c.in_err-number.ensures.1
    (ap grammar.load_line (four c.args.words.now c.in-len4.len_at_least c.in-len4.len_below) ∙ with_form _ c.in_ok-name.ensures.0 ∙ on _ c.in_ok-number_in.ensures ∙ on _ c.in_ok-number_in-2.ensures ∙ stops _ c.in_err-number.ensures.0)

pub returns : goal.returns
returns c =
    rw c.in_ok-name.ensures.1
    (sym (ap grammar.load_line (four c.args.words.now c.in-len4.len_at_least c.in-len4.len_below) ∙ with_form _ c.in_ok-name.ensures.0 ∙ on _ c.in_ok-number_in.ensures ∙ on _ c.in_ok-number_in-2.ensures ∙ on _ c.in_ok-number.ensures))
