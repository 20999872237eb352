use Rattle.std.proofs.Common.{refl, ap, ◌∙◌}
use Rattle.fl_words.specs.Grammar as grammar
use Rattle.fl_script.proofs.Few.{two}
use Rattle.fl_script.proofs.Steps.{with_part, no_part, stops, fails}
use Rattle.fl_script.proofs.queries.next_line.Goals as goal

pub returns-in_err-cursor : goal.returns-in_err-cursor
returns-in_err-cursor c = fails _ _ _ _ c.from_residual.ensures.1 c.in_err-cursor.ensures.1 (ap grammar.next_line (two c.args.words.now c.in-len2.len_at_least c.in-len2.len_below) ∙ no_part _ c.in_err-cursor.ensures.0)

pub returns-in_err-count : goal.returns-in_err-count
returns-in_err-count c =
    fails _ _ _ _ c.from_residual-in_err-count.ensures.1 c.in_err-count.ensures.1
    (ap grammar.next_line (two c.args.words.now c.in-len2.len_at_least c.in-len2.len_below) ∙ with_part _ c.in_ok-cursor.ensures ∙ stops _ c.in_err-count.ensures.0)

pub returns : goal.returns
returns c = rw (two c.args.words.now c.in-len2.len_at_least c.in-len2.len_below, c.in_ok-cursor.ensures, c.in_ok-count.ensures) refl
