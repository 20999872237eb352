use Rattle.std.proofs.Common.{List, ℕ, length, eqb, rules, tests, arith}
use Rattle.std.proofs.lemmas.List.{length_push, at_drop_all}
use Rattle.std.proofs.lemmas.Iterator.Consumers.{YieldsList-turn, YieldsList-end}
use Rattle.std.proofs.lemmas.Iterator.Splits.{YieldsList-from_slice_split}
use Rattle.fl_words.specs.Parts.{line_parts}
use Rattle.fl_sizing.proofs.ConfigLines.{passed-more, ended-all, ended-there, refused-there, finished-ended, finished-refused}
use Rattle.fl_sizing.proofs.lines.config_of.Goals as goal

pub returns-in-Ok-false-clause-ended : goal.returns-in-Ok-false-clause-ended
returns-in-Ok-false-clause-ended c =
    let turn = YieldsList-turn (YieldsList-from_slice_split _ (λ byte. eqb byte 10) c.args.text.now (cc) (cc) (cc) (λ x r q k. search (rules, tests))) c.loop-line.yielded _ c.loop-line.yielded_by _ _ c.in-Some.line c.in-Some.is c.next.ensures.steps in
    let ends = rw c.in-Ok-false.field-0-test at c.in-Ok-false.ensures in
    finished-ended c.finish.result c.args.text.now c.take_line.new.config _ c.finish.ensures.whole (ended-there c.args.text.now c.loop-line.config c.take_line.new.config (length c.loop-line.yielded) c.loop-line.number c.in-Some.line.now c.loop-line.invariant.2 turn.0 turn.1 ends)

pub returns-in-Ok-false-clause-refused : goal.returns-in-Ok-false-clause-refused
returns-in-Ok-false-clause-refused c =
    let turn = YieldsList-turn (YieldsList-from_slice_split _ (λ byte. eqb byte 10) c.args.text.now (cc) (cc) (cc) (λ x r q k. search (rules, tests))) c.loop-line.yielded _ c.loop-line.yielded_by _ _ c.in-Some.line c.in-Some.is c.next.ensures.steps in
    let ends = rw c.in-Ok-false.field-0-test at c.in-Ok-false.ensures in
    finished-refused c.finish.result c.args.text.now c.take_line.new.config c.finish.ensures.incomplete (ended-there c.args.text.now c.loop-line.config c.take_line.new.config (length c.loop-line.yielded) c.loop-line.number c.in-Some.line.now c.loop-line.invariant.2 turn.0 turn.1 ends)

pub returns-in-Err-clause-refused : goal.returns-in-Err-clause-refused
returns-in-Err-clause-refused c =
    let turn = YieldsList-turn (YieldsList-from_slice_split _ (λ byte. eqb byte 10) c.args.text.now (cc) (cc) (cc) (λ x r q k. search (rules, tests))) c.loop-line.yielded _ c.loop-line.yielded_by _ _ c.in-Some.line c.in-Some.is c.next.ensures.steps in
    refused-there c.args.text.now c.loop-line.config c.take_line.new.config (length c.loop-line.yielded) c.loop-line.number c.in-Some.line.now c.in-Err.end c.loop-line.invariant.2 turn.0 turn.1 c.in-Err.ensures

pub loop-line-preserved : goal.loop-line-preserved
loop-line-preserved c =
    let turn = YieldsList-turn (YieldsList-from_slice_split _ (λ byte. eqb byte 10) c.args.text.now (cc) (cc) (cc) (λ x r q k. search (rules, tests))) c.loop-line.yielded _ c.loop-line.yielded_by _ _ c.in-Some.line c.in-Some.is c.next.ensures.steps in
    let n = length_push c.loop-line.yielded c.in-Some.line in
    let goes = rw c.in-Ok-true.field-0-test at c.in-Ok-true.ensures in
    (search rules, tt, rw n (passed-more c.args.text.now c.loop-line.config c.take_line.new.config (length c.loop-line.yielded) c.loop-line.number c.in-Some.line.now c.loop-line.invariant.2 turn.0 turn.1 goes))

pub returns-clause-ended : goal.returns-clause-ended
returns-clause-ended c =
    let end = YieldsList-end (YieldsList-from_slice_split _ (λ byte. eqb byte 10) c.args.text.now (cc) (cc) (cc) (λ x r q k. search (rules, tests))) c.loop-line.yielded _ c.loop-line.yielded_by _ _ c.in-None.is c.next.ensures.steps in
    let none = at_drop_all (λ (l : List (List ℕ)). l) (line_parts c.args.text.now) (length c.loop-line.yielded) (omega (arith, end.1)) in
    finished-ended c.finish-2.result c.args.text.now c.loop-line.config _ c.finish-2.ensures.whole (ended-all c.args.text.now c.loop-line.config (length c.loop-line.yielded) c.loop-line.number c.loop-line.invariant.2 none)

pub returns-clause-refused : goal.returns-clause-refused
returns-clause-refused c =
    let end = YieldsList-end (YieldsList-from_slice_split _ (λ byte. eqb byte 10) c.args.text.now (cc) (cc) (cc) (λ x r q k. search (rules, tests))) c.loop-line.yielded _ c.loop-line.yielded_by _ _ c.in-None.is c.next.ensures.steps in
    let none = at_drop_all (λ (l : List (List ℕ)). l) (line_parts c.args.text.now) (length c.loop-line.yielded) (omega (arith, end.1)) in
    finished-refused c.finish-2.result c.args.text.now c.loop-line.config c.finish-2.ensures.incomplete (ended-all c.args.text.now c.loop-line.config (length c.loop-line.yielded) c.loop-line.number c.loop-line.invariant.2 none)
