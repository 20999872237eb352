use Rattle.std.proofs.Common.{refl, ap, ◌∙◌, ◌&&◌}
use Rattle.std.proofs.lemmas.Bool.{and_left}
use Rattle.fl_words.specs.Grammar as grammar
use Rattle.fl_script.proofs.Few.{four, bad_range, word_at}
use Rattle.fl_script.proofs.Steps.{with_form, no_form, not_both, fails}
use Rattle.fl_script.proofs.queries.join_line.Goals as goal

pub returns-in_err-left : goal.returns-in_err-left
returns-in_err-left c =
    fails _ _ _ _ c.from_residual.ensures.1 c.in_err-left.ensures.1
    (ap grammar.join_line (four c.args.words.now c.in-len4.len_at_least c.in-len4.len_below) ∙ no_form _ (and_left _ _ c.in_err-left.ensures.0))

pub returns-in_err-right : goal.returns-in_err-right
returns-in_err-right c =
    fails _ _ _ _ c.from_residual-in_err-right.ensures.1 c.in_err-right.ensures.1
    (ap grammar.join_line (four c.args.words.now c.in-len4.len_at_least c.in-len4.len_below) ∙ no_form _ (not_both c.in_ok-left.ensures.0 c.in_err-right.ensures.0))

pub returns-in_err-range : goal.returns-in_err-range
returns-in_err-range c =
    fails _ _ _ _ c.from_residual-in_err-range.ensures.1 c.in_err-range.ensures.1
    (ap grammar.join_line (four c.args.words.now c.in-len4.len_at_least c.in-len4.len_below)
    ∙ with_form _ (ap (λ b. b && grammar.is_name (word_at c.args.words.now 1)) c.in_ok-left.ensures.0 ∙ c.in_ok-right.ensures.0)
    ∙ bad_range (word_at c.args.words.now 2) (word_at c.args.words.now 3) c.in_err-range.ensures.0 _)

pub returns : goal.returns
returns c = rw (four c.args.words.now c.in-len4.len_at_least c.in-len4.len_below, c.in_ok-left.ensures.0, c.in_ok-right.ensures.0, c.in_ok-range.ensures.0, c.in_ok-range.ensures.1, c.in_ok-left.ensures.1, c.in_ok-right.ensures.1) refl
