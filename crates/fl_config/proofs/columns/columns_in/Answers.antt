use Rattle.std.proofs.Common.{length, eqb, rules, tests, arith}
use Rattle.std.proofs.lemmas.List.{length_push}
use Rattle.fl_config.proofs.Told.{tells-err}
use Rattle.std.proofs.lemmas.Iterator.Consumers.{YieldsList-turn, YieldsList-end}
use Rattle.std.proofs.lemmas.Iterator.Splits.{YieldsList-from_slice_split}
use Rattle.fl_words.specs.Parts.{comma_parts}
use Rattle.fl_config.proofs.Parts.{seen-next, seen-bad, word-bad, word-good, word-long, pushes-result}
use Rattle.fl_config.proofs.columns.columns_in.Goals as goal

pub returns-in_err-column-clause-refusal : goal.returns-in_err-column-clause-refusal
returns-in_err-column-clause-refusal c =
    let turn = YieldsList-turn (YieldsList-from_slice_split _ (λ byte. eqb byte 44) c.args.word.now (cc) (cc) (cc) (λ x r q k. search (rules, tests))) c.loop-part.yielded _ c.loop-part.yielded_by _ _ c.in-Some.part c.in-Some.is c.next.ensures.steps in
    let bad = word-bad c.args.word.now (seen-bad (comma_parts c.args.word.now) (length c.loop-part.yielded) _ _ c.in-Some.part.now c.loop-part.invariant.2 turn.0 turn.1 c.in_err-column.ensures.0) in
    tells-err _ c.in_err-column.field-0.0 _ c.from_residual.ensures.1 (rw c.in_err-column.ensures.1 bad)

pub loop-part-preserved : goal.loop-part-preserved
loop-part-preserved c =
    let turn = YieldsList-turn (YieldsList-from_slice_split _ (λ byte. eqb byte 44) c.args.word.now (cc) (cc) (cc) (λ x r q k. search (rules, tests))) c.loop-part.yielded _ c.loop-part.yielded_by _ _ c.in-Some.part c.in-Some.is c.next.ensures.steps in
    let n = length_push c.loop-part.yielded c.in-Some.part in
    let next = seen-next (comma_parts c.args.word.now) (length c.loop-part.yielded) _ _ _ _ c.in-Some.part.now _ c.loop-part.invariant.2 turn.0 turn.1 c.in_ok-column.ensures
    (pushes-result (λ v. v.items) c.loop-part.columns c.try_push.new.self _ c.try_push.result c.try_push.ensures.variant c.try_push.ensures.ok c.try_push.ensures.err) in
    (search rules, tt, rw (n, c.is_ok-fits.ensures.value) next)

pub returns-then-not-fits-clause-refusal : goal.returns-then-not-fits-clause-refusal
returns-then-not-fits-clause-refusal c =
    let end = YieldsList-end (YieldsList-from_slice_split _ (λ byte. eqb byte 44) c.args.word.now (cc) (cc) (cc) (λ x r q k. search (rules, tests))) c.loop-part.yielded _ c.loop-part.yielded_by _ _ c.in-None.is c.next.ensures.steps in
    word-long c.args.word.now (length c.loop-part.yielded) _ (rw c.if-not-fits.true at c.loop-part.invariant.2) (omega (arith, end.1))

pub returns-clause-refusal : goal.returns-clause-refusal
returns-clause-refusal c =
    let end = YieldsList-end (YieldsList-from_slice_split _ (λ byte. eqb byte 44) c.args.word.now (cc) (cc) (cc) (λ x r q k. search (rules, tests))) c.loop-part.yielded _ c.loop-part.yielded_by _ _ c.in-None.is c.next.ensures.steps in
    (word-good c.args.word.now (length c.loop-part.yielded) _ (rw c.if-not-fits.false at c.loop-part.invariant.2) (omega (arith, end.1))).1

pub returns-clause-columns : goal.returns-clause-columns
returns-clause-columns c =
    let end = YieldsList-end (YieldsList-from_slice_split _ (λ byte. eqb byte 44) c.args.word.now (cc) (cc) (cc) (λ x r q k. search (rules, tests))) c.loop-part.yielded _ c.loop-part.yielded_by _ _ c.in-None.is c.next.ensures.steps in
    (word-good c.args.word.now (length c.loop-part.yielded) _ (rw c.if-not-fits.false at c.loop-part.invariant.2) (omega (arith, end.1))).0
