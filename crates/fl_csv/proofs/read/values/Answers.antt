use Rattle.std.proofs.Common.{◌≡◌, ◌<◌, ◌∙◌, ◌++◌, ◌∷◌, ◌+◌, [], ap, length, map, refl, rules, arith}
use Rattle.std.proofs.lemmas.List.{get_or-map, length-map}
use Rattle.fl_words.specs.Grammar.{signed}
use Rattle.fl_csv.proofs.Fields.{value-next, value-bad}
use Rattle.fl_csv.proofs.read.values.Goals as goal

pub returns-in-None-clause-values : goal.returns-in-None-clause-values
returns-in-None-clause-values c =
    let all : c.args.columns < length (map (λ field. field.now) c.args.fields.now) = rw (length-map c.args.fields.now (λ field. field.now)) c.requires.all in
    let at = get_or-map (λ field. field.now) c.args.fields.now (c.columns.i + 1) _ [] (omega (arith, c.columns-test.true, c.requires.all)) in
    c.columns.invariant.means ∙ value-bad c.args.columns c.columns.i (map (λ field. field.now) c.args.fields.now) _ c.columns-test.true all (ap signed at ∙ c.in-None.ensures)

pub columns-preserved : goal.columns-preserved
columns-preserved c =
    let all : c.args.columns < length (map (λ field. field.now) c.args.fields.now) = rw (length-map c.args.fields.now (λ field. field.now)) c.requires.all in
    let at = get_or-map (λ field. field.now) c.args.fields.now (c.columns.i + 1) _ [] (omega (arith, c.columns-test.true, c.requires.all)) in
    let items : c.push.new.self.items ≡ c.columns.values.items ++ c.in-Some.value ∷ [] = search rules in
    record {
      count = search rules;
      means = c.columns.invariant.means ∙ value-next c.args.columns c.columns.i (map (λ field. field.now) c.args.fields.now) _ c.in-Some.value c.columns-test.true all (ap signed at ∙ c.in-Some.ensures) ∙ rw items refl;
    }
