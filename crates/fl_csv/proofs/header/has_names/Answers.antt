use Rattle.std.proofs.Common.{◌≡◌, length, map, rules, ap, sym, ◌∙◌}
use Rattle.std.proofs.lemmas.List.{length-map}
use Rattle.fl_csv.proofs.Names.{not-names, too-many}
use Rattle.fl_csv.proofs.header.has_names.Goals as goal

pub returns-in_default-clause-no : goal.returns-in_default-clause-no
returns-in_default-clause-no c = λ all are. not-names c.args.columns c.args.blobs all (too-many c.args.columns c.args.blobs all c.requires.few (rw c.in_default.is at are))

pub returns-then-not-are_as_many-clause-no : goal.returns-then-not-are_as_many-clause-no
returns-then-not-are_as_many-clause-no c = λ all are.
    let items : map (λ field. field.now) c.as_slice.result.now ≡ all = search (rules, are) in
    not-names c.args.columns c.args.blobs all (λ e. c.if-not-are_as_many.ensures.no (sym (length-map c.as_slice.result.now (λ field. field.now)) ∙ (ap (λ l. length l) items ∙ e)))
