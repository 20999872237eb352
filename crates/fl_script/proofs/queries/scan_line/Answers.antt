use Rattle.std.proofs.Common.{refl, sym, ap, ◌∙◌}
use Rattle.fl_words.specs.Grammar as grammar
use Rattle.fl_script.proofs.Puts.{one_and_more}
use Rattle.fl_script.proofs.Steps.{with_form, no_form, fails}
use Rattle.fl_script.proofs.queries.scan_line.Goals as goal

pub returns-in_err-name : goal.returns-in_err-name
returns-in_err-name c = fails _ _ _ _ c.from_residual.ensures.1 c.in_err-name.ensures.1 (ap grammar.scan_line (one_and_more c.args.words.now c.in-len1-up.len_at_least) ∙ no_form _ c.in_err-name.ensures.0)

pub returns-in_err-range : goal.returns-in_err-range
returns-in_err-range c =
    fails _ _ _ _ c.from_residual-in_err-range.ensures.1 refl (ap grammar.scan_line (one_and_more c.args.words.now c.in-len1-up.len_at_least) ∙ with_form _ c.in_ok-name.ensures.0 ∙ c.in_err-range.ensures _)

pub returns : goal.returns
returns c = rw c.in_ok-name.ensures.1 (sym (ap grammar.scan_line (one_and_more c.args.words.now c.in-len1-up.len_at_least) ∙ with_form _ c.in_ok-name.ensures.0 ∙ c.in_ok-range.ensures _))
