use Rattle.std.proofs.Common.{sym, ap, ◌∙◌}
use Rattle.fl_words.specs.Grammar as grammar
use Rattle.fl_script.proofs.Few.{five, bad_range, word_at}
use Rattle.fl_script.proofs.Steps.{with_form, on, stops, no_form, fails}
use Rattle.fl_script.proofs.queries.agg_line.Goals as goal

pub returns-in_err-name : goal.returns-in_err-name
returns-in_err-name c =
    fails _ _ _ _ c.from_residual.ensures.1 c.in_err-name.ensures.1
    (ap grammar.agg_line (five c.args.words.now c.in-len5.len_at_least c.in-len5.len_below) ∙ no_form _ c.in_err-name.ensures.0)

pub returns-in_err-key_range : goal.returns-in_err-key_range
returns-in_err-key_range c =
    fails _ _ _ _ c.from_residual-in_err-key_range.ensures.1 c.in_err-key_range.ensures.1
    (ap grammar.agg_line (five c.args.words.now c.in-len5.len_at_least c.in-len5.len_below) ∙ with_form _ c.in_ok-name.ensures.0 ∙ bad_range (word_at c.args.words.now 1) (word_at c.args.words.now 2) c.in_err-key_range.ensures.0 _)

pub returns-in_err-number : goal.returns-in_err-number
returns-in_err-number c =
    fails _ _ _ _ c.from_residual-in_err-number.ensures.1 c.in_err-number.ensures.1
    (ap grammar.agg_line (five c.args.words.now c.in-len5.len_at_least c.in-len5.len_below) ∙ with_form _ c.in_ok-name.ensures.0 ∙ on _ c.in_ok-key_range.ensures.0 ∙ on _ c.in_ok-key_range.ensures.1 ∙ stops _ c.in_err-number.ensures.0)

pub returns-in_err-number_in : goal.returns-in_err-number_in
returns-in_err-number_in c =
    fails _ _ _ _ c.from_residual-in_err-number_in.ensures.1 c.in_err-number_in.ensures.1
    (ap grammar.agg_line (five c.args.words.now c.in-len5.len_at_least c.in-len5.len_below) ∙ with_form _ c.in_ok-name.ensures.0 ∙ on _ c.in_ok-key_range.ensures.0 ∙ on _ c.in_ok-key_range.ensures.1 ∙ on _ c.in_ok-number.ensures ∙ stops _ c.in_err-number_in.ensures.0)

pub returns : goal.returns
returns c =
    rw c.in_ok-name.ensures.1
    (sym (ap grammar.agg_line (five c.args.words.now c.in-len5.len_at_least c.in-len5.len_below) ∙ with_form _ c.in_ok-name.ensures.0 ∙ on _ c.in_ok-key_range.ensures.0 ∙ on _ c.in_ok-key_range.ensures.1 ∙ on _ c.in_ok-number.ensures ∙ on _ c.in_ok-number_in.ensures))
