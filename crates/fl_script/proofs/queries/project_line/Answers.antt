use Rattle.std.proofs.Common.{refl, ap, ◌∙◌}
use Rattle.fl_words.specs.Grammar as grammar
use Rattle.fl_script.proofs.Few.{four, bad_range, word_at}
use Rattle.fl_script.proofs.Steps.{with_form, with_part, no_form, no_part, fails}
use Rattle.fl_script.proofs.queries.project_line.Goals as goal

pub returns-in_err-name : goal.returns-in_err-name
returns-in_err-name c =
    fails _ _ _ _ c.from_residual.ensures.1 c.in_err-name.ensures.1
    (ap grammar.project_line (four c.args.words.now c.in-len4.len_at_least c.in-len4.len_below) ∙ no_form _ c.in_err-name.ensures.0)

pub returns-in_err-columns : goal.returns-in_err-columns
returns-in_err-columns c =
    fails _ _ _ _ c.from_residual-in_err-columns.ensures.1 c.in_err-columns.ensures.1
    (ap grammar.project_line (four c.args.words.now c.in-len4.len_at_least c.in-len4.len_below) ∙ with_form _ c.in_ok-name.ensures.0 ∙ no_part _ c.in_err-columns.ensures.0)

pub returns-in_err-range : goal.returns-in_err-range
returns-in_err-range c =
    fails _ _ _ _ c.from_residual-in_err-range.ensures.1 c.in_err-range.ensures.1
    (ap grammar.project_line (four c.args.words.now c.in-len4.len_at_least c.in-len4.len_below) ∙ with_form _ c.in_ok-name.ensures.0 ∙ with_part _ c.in_ok-columns.ensures ∙ bad_range (word_at c.args.words.now 1) (word_at c.args.words.now 2) c.in_err-range.ensures.0 _)

pub returns : goal.returns
returns c = rw (four c.args.words.now c.in-len4.len_at_least c.in-len4.len_below, c.in_ok-name.ensures.0, c.in_ok-columns.ensures, c.in_ok-range.ensures.0, c.in_ok-range.ensures.1, c.in_ok-name.ensures.1) refl
