use Rattle.std.proofs.Common.{◌≡◌, ◌+◌, ℕ, List, [], true, false, length, map, get_or, ap, sym, ◌∙◌, arith}
use Rattle.std.proofs.lemmas.List.{get_or-map, length-map}
use Rattle.fl_csv.specs.Lines.{wanted_fields}
use Rattle.fl_csv.proofs.Names.{column-at, blob-at, more-wanted, names-plain, names-blob, on-true, on-false}
use Rattle.fl_csv.proofs.header.are_names.Goals as goal

pub returns-then-not-is_column-clause-no : goal.returns-then-not-is_column-clause-no
returns-then-not-is_column-clause-no c = λ e.
    let at = get_or-map (λ field. field.now) c.args.fields.now (c.columns.i + 1) _ [] (omega (arith, c.columns-test.true, c.requires.all, more-wanted c.args.columns c.args.blobs)) in
    c.if-not-is_column.ensures.no (sym at ∙ (ap (λ (l : List (List ℕ)). get_or l (c.columns.i + 1) []) e ∙ column-at c.args.columns c.args.blobs c.columns.i c.columns-test.true))

pub returns-then-not-blobs-clause-yes : goal.returns-then-not-blobs-clause-yes
returns-then-not-blobs-clause-yes c =
    let key = get_or-map (λ field. field.now) c.args.fields.now 0 _ [] (omega (arith, c.requires.all, more-wanted c.args.columns c.args.blobs)) in
    let len : length (map (λ field. field.now) c.args.fields.now) ≡ wanted_fields c.args.columns false = length-map c.args.fields.now (λ field. field.now) ∙ (rw c.if-not-blobs.true at c.requires.all) in
    rw c.if-not-blobs.true (names-plain c.args.columns (map (λ field. field.now) c.args.fields.now) (λ i lt. c.columns.invariant.names i (omega (arith, lt, c.columns-test.false))) (key ∙ c.if-not-is_field.ensures.yes) len)

pub returns-clause-yes : goal.returns-clause-yes
returns-clause-yes c =
    let key = get_or-map (λ field. field.now) c.args.fields.now 0 _ [] (omega (arith, c.requires.all, more-wanted c.args.columns c.args.blobs)) in
    let all : length c.args.fields.now ≡ wanted_fields c.args.columns true = rw c.if-not-blobs.false at c.requires.all in
    let last = get_or-map (λ field. field.now) c.args.fields.now (c.args.columns + 1) _ [] (omega (arith, all)) in
    rw c.if-not-blobs.false (on-true c.is_field-2.result _ _
    (λ is. names-blob c.args.columns (map (λ field. field.now) c.args.fields.now) (λ i lt. c.columns.invariant.names i (omega (arith, lt, c.columns-test.false))) (key ∙ c.if-not-is_field.ensures.yes)
    (length-map c.args.fields.now (λ field. field.now) ∙ all) (last ∙ is)) c.is_field-2.ensures.yes)

pub returns-clause-no : goal.returns-clause-no
returns-clause-no c =
    let all : length c.args.fields.now ≡ wanted_fields c.args.columns true = rw c.if-not-blobs.false at c.requires.all in
    let last = get_or-map (λ field. field.now) c.args.fields.now (c.args.columns + 1) _ [] (omega (arith, all)) in
    rw c.if-not-blobs.false (on-false c.is_field-2.result _ _
    (λ no e. no (sym last ∙ (ap (λ (l : List (List ℕ)). get_or l (c.args.columns + 1) []) e ∙ blob-at c.args.columns))) c.is_field-2.ensures.no)
