use Rattle.std.proofs.Common.{length, eqb, rules, tests, arith, sym, ◌∙◌, None, Some}
use Rattle.std.proofs.lemmas.List.{length_push, at_drop_all}
use Rattle.std.proofs.lemmas.Iterator.Consumers.{YieldsList-turn, YieldsList-end}
use Rattle.std.proofs.lemmas.Iterator.Splits.{YieldsList-from_slice_split}
use Rattle.fl_words.specs.Parts.{line_parts}
use Rattle.fl_image.specs.Header.{after_lines}
use Rattle.fl_image.proofs.Lines.{with-next}
use Rattle.fl_image.proofs.header.config_of_lines.Goals as goal

pub returns-then-not-take_line : goal.returns-then-not-take_line
returns-then-not-take_line c =
    let turn = YieldsList-turn (YieldsList-from_slice_split _ (λ byte. eqb byte 10) c.args.text.now (cc) (cc) (cc) (λ x r q k. search (rules, tests))) c.loop-line.yielded _ c.loop-line.yielded_by _ _ c.in-Some.line c.in-Some.is c.next.ensures.steps in
    sym (c.loop-line.invariant.2 ∙ with-next c.loop-line.config (line_parts c.args.text.now) (length c.loop-line.yielded) c.in-Some.line.now None turn.0 turn.1 c.if-not-take_line.ensures.refused)

pub loop-line-preserved : goal.loop-line-preserved
loop-line-preserved c =
    let turn = YieldsList-turn (YieldsList-from_slice_split _ (λ byte. eqb byte 10) c.args.text.now (cc) (cc) (cc) (λ x r q k. search (rules, tests))) c.loop-line.yielded _ c.loop-line.yielded_by _ _ c.in-Some.line c.in-Some.is c.next.ensures.steps in
    let n = length_push c.loop-line.yielded c.in-Some.line in
    (search rules, tt, rw n (c.loop-line.invariant.2 ∙ with-next c.loop-line.config (line_parts c.args.text.now) (length c.loop-line.yielded) c.in-Some.line.now (Some c.take_line.new.config) turn.0 turn.1 c.if-not-take_line.ensures.taken))

pub returns : goal.returns
returns c =
    let end = YieldsList-end (YieldsList-from_slice_split _ (λ byte. eqb byte 10) c.args.text.now (cc) (cc) (cc) (λ x r q k. search (rules, tests))) c.loop-line.yielded _ c.loop-line.yielded_by _ _ c.in-None.is c.next.ensures.steps in
    sym (c.loop-line.invariant.2 ∙ at_drop_all (after_lines c.loop-line.config) (line_parts c.args.text.now) (length c.loop-line.yielded) (omega (arith, end.1)))
