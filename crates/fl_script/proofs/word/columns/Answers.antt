use Rattle.std.proofs.Common.{◌≡◌, None, length, eqb, sym, ◌∙◌, refl, rules, tests, arith}
use Rattle.std.proofs.lemmas.List.{length_push}
use Rattle.std.proofs.lemmas.Iterator.Consumers.{YieldsList-turn, YieldsList-end}
use Rattle.std.proofs.lemmas.Iterator.Splits.{YieldsList-from_slice_split}
use Rattle.fl_script.proofs.Lists.{columns_at, columns_bad_at, columns_full_at, columns_end, room_left}
use Rattle.fl_words.specs.Grammar as grammar
use Rattle.fl_script.proofs.word.columns.Goals as goal

pub returns-then-is_full : goal.returns-then-is_full
returns-then-is_full c =
    let t = YieldsList-turn (YieldsList-from_slice_split _ (λ byte. eqb byte 44) c.args.word.now (cc) (cc) (cc) (λ x r q k. search (rules, tests))) c.loop-part.yielded _ c.loop-part.yielded_by _ _ c.in-Some.part c.in-Some.is c.next.ensures.steps in
    (c.loop-part.invariant.2 ∙ columns_full_at _ _ _ _ t (sym c.is_full.ensures.value ∙ c.if-is_full.true), refl)

pub loop-part-preserved : goal.loop-part-preserved
loop-part-preserved c =
    let t = YieldsList-turn (YieldsList-from_slice_split _ (λ byte. eqb byte 44) c.args.word.now (cc) (cc) (cc) (λ x r q k. search (rules, tests))) c.loop-part.yielded _ c.loop-part.yielded_by _ _ c.in-Some.part c.in-Some.is c.next.ensures.steps in
    let n = length_push c.loop-part.yielded c.in-Some.part in (
      search rules,
      tt,
      c.loop-part.invariant.2 ∙ columns_at _ _ _ _ _ t c.in_ok-column.ensures.0 c.in_ok-column.ensures.1 ∙ rw (n, c.push.ensures.items) refl,
      omega (arith, c.push.ensures.len, room_left (length c.loop-part.columns.items) c.loop-part.invariant.3 (sym c.is_full.ensures.value ∙ c.if-is_full.false)),
    )

pub returns : goal.returns
returns c =
    let t = YieldsList-end (YieldsList-from_slice_split _ (λ byte. eqb byte 44) c.args.word.now (cc) (cc) (cc) (λ x r q k. search (rules, tests))) c.loop-part.yielded _ c.loop-part.yielded_by _ _ c.in-None.is c.next.ensures.steps in
    c.loop-part.invariant.2 ∙ columns_end _ _ _ t.1 c.loop-part.invariant.3

pub returns-in_err-column : goal.returns-in_err-column
returns-in_err-column c =
    let t = YieldsList-turn (YieldsList-from_slice_split _ (λ byte. eqb byte 44) c.args.word.now (cc) (cc) (cc) (λ x r q k. search (rules, tests))) c.loop-part.yielded _ c.loop-part.yielded_by _ _ c.in-Some.part c.in-Some.is c.next.ensures.steps in
    let e : grammar.columns_of c.args.word.now ≡ None = c.loop-part.invariant.2 ∙ columns_bad_at _ _ _ _ t c.in_err-column.ensures.0 in
    rw e (search rules)
