use Rattle.std.proofs.Common.{eqb, sym, ◌∙◌, rules, tests}
use Rattle.std.proofs.lemmas.List.{length_push}
use Rattle.std.proofs.lemmas.Iterator.Consumers.{YieldsList-turn, YieldsList-end}
use Rattle.std.proofs.lemmas.Iterator.Splits.{YieldsList-from_slice_split}
use Rattle.fl_csv.proofs.Fields.{all-taken, next-taken, too-many}
use Rattle.fl_csv.proofs.bare.bare_fields.Goals as goal

pub returns-then-is_full : goal.returns-then-is_full
returns-then-is_full c =
    let t = YieldsList-turn (YieldsList-from_slice_split _ (λ byte. eqb byte 44) c.args.line.now (cc) (cc) (cc) (λ x r q k. search (rules, tests))) c.loop-field.yielded _ c.loop-field.yielded_by _ _ c.in-Some.field c.in-Some.is c.next.ensures.steps in
    too-many _ _ _ c.loop-field.invariant.fields t.0 (sym c.is_full.ensures.value ∙ c.if-is_full.true)

pub loop-field-preserved : goal.loop-field-preserved
loop-field-preserved c =
    let t = YieldsList-turn (YieldsList-from_slice_split _ (λ byte. eqb byte 44) c.args.line.now (cc) (cc) (cc) (λ x r q k. search (rules, tests))) c.loop-field.yielded _ c.loop-field.yielded_by _ _ c.in-Some.field c.in-Some.is c.next.ensures.steps in
    record {
      can_next = search rules;
      finite = tt;
      fields = rw (length_push c.loop-field.yielded c.in-Some.field) (next-taken _ _ _ _ _ c.loop-field.invariant.fields t c.push.ensures.items);
    }

pub returns : goal.returns
returns c =
    let t = YieldsList-end (YieldsList-from_slice_split _ (λ byte. eqb byte 44) c.args.line.now (cc) (cc) (cc) (λ x r q k. search (rules, tests))) c.loop-field.yielded _ c.loop-field.yielded_by _ _ c.in-None.is c.next.ensures.steps in
    all-taken _ _ _ c.loop-field.invariant.fields t.1
