use Rattle.std.proofs.Common.{sym, ap, ◌∙◌}
use Rattle.fl_words.specs.Grammar as grammar
use Rattle.fl_script.proofs.Few.{two, three}
use Rattle.fl_script.proofs.Steps.{with_form, with_part, no_part, on, stops, fails}
use Rattle.fl_script.proofs.settings.cut_line.Goals as goal

pub returns-in_err-kind-in-len2 : goal.returns-in_err-kind-in-len2
returns-in_err-kind-in-len2 c = fails _ _ _ _ c.from_residual.ensures.1 c.in_err-kind-in-len2.ensures.1 (ap grammar.cut_line (two c.args.words.now c.in-len2.len_at_least c.in-len2.len_below) ∙ no_part _ c.in_err-kind-in-len2.ensures.0)

pub returns-in_err-n-in-len2 : goal.returns-in_err-n-in-len2
returns-in_err-n-in-len2 c =
    fails _ _ _ _ c.from_residual-in_err-n-in-len2.ensures.1 c.in_err-n-in-len2.ensures.1
    (ap grammar.cut_line (two c.args.words.now c.in-len2.len_at_least c.in-len2.len_below) ∙ with_part _ c.in_ok-kind-in-len2.ensures ∙ stops _ c.in_err-n-in-len2.ensures.0)

pub returns-in_ok-n-in-len2 : goal.returns-in_ok-n-in-len2
returns-in_ok-n-in-len2 c = sym (ap grammar.cut_line (two c.args.words.now c.in-len2.len_at_least c.in-len2.len_below) ∙ with_part _ c.in_ok-kind-in-len2.ensures ∙ on _ c.in_ok-n-in-len2.ensures)

pub returns-in_err-n-in-len3 : goal.returns-in_err-n-in-len3
returns-in_err-n-in-len3 c =
    fails _ _ _ _ c.from_residual-in_err-n-in-len3.ensures.1 c.in_err-n-in-len3.ensures.1 (ap grammar.cut_line (three c.args.words.now c.in-len3.len_at_least c.in-len3.len_below) ∙ with_form _ (sym c.is.ensures ∙ c.if-is.true) ∙ stops _ c.in_err-n-in-len3.ensures.0)

pub returns-in_err-number-in-len3 : goal.returns-in_err-number-in-len3
returns-in_err-number-in-len3 c =
    fails _ _ _ _ c.from_residual-in_err-number-in-len3.ensures.1 c.in_err-number-in-len3.ensures.1
    (ap grammar.cut_line (three c.args.words.now c.in-len3.len_at_least c.in-len3.len_below) ∙ with_form _ (sym c.is.ensures ∙ c.if-is.true) ∙ on _ c.in_ok-n-in-len3.ensures ∙ stops _ c.in_err-number-in-len3.ensures.0)

pub returns-in_ok-number-in-len3 : goal.returns-in_ok-number-in-len3
returns-in_ok-number-in-len3 c = sym (ap grammar.cut_line (three c.args.words.now c.in-len3.len_at_least c.in-len3.len_below) ∙ with_form _ (sym c.is.ensures ∙ c.if-is.true) ∙ on _ c.in_ok-n-in-len3.ensures ∙ on _ c.in_ok-number-in-len3.ensures)
