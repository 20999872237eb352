use Rattle.std.proofs.Common.{◌≡◌, ◌⊎◌, ◌+◌, ℕ, List, inr, [], Err, map, refl, sym, ◌∙◌, ap, subst}
use Rattle.std.proofs.lemmas.Bool.{false≢true}
use Rattle.std.proofs.lemmas.List.{get_or-map}
use Rattle.std.proofs.lemmas.Result.{err_from_is_err_and}
use Rattle.fl_words.specs.Grammar.{number}
use Rattle.fl_csv.specs.Lines.{blob_of, is_left_out}
use Rattle.fl_csv.specs.declared.record.CsvRefusal.TheVariants.{NoMemory}
use Rattle.fl_csv.proofs.PutFields.{blob-bad, blob-within, columns-within, key-bad, key-within, put-left_out, put-plain, put-whole, unformed-memory, values-bad}
use Rattle.fl_csv.proofs.read.put.Goals as goal

pub bounds-fields-0 : goal.bounds-fields-0
bounds-fields-0 c = key-within _ c.args.columns c.args.blobs c.requires.all

pub returns-in_default-clause-means : goal.returns-in_default-clause-means
returns-in_default-clause-means c =
    inr (key-bad c.args.gone c.args.columns (map (λ field. field.now) c.args.fields.now) c.args.blobs (ap number (get_or-map (λ field. field.now) c.args.fields.now 0 _ [] (key-within _ c.args.columns c.args.blobs c.requires.all)) ∙ c.in_default.ensures))

pub returns-in_default-clause-memory : goal.returns-in_default-clause-memory
returns-in_default-clause-memory c = λ plain. unformed-memory 1

pub values-requires-clause-few : goal.values-requires-clause-few
values-requires-clause-few c = c.requires.few

pub values-requires-clause-all : goal.values-requires-clause-all
values-requires-clause-all c = columns-within _ c.args.columns c.args.blobs c.requires.all

pub returns-in_err-values-clause-means : goal.returns-in_err-values-clause-means
returns-in_err-values-clause-means c =
    let p = err_from_is_err_and c.from_residual.result c.from_residual.ensures.1 in
    rw (p.1, p.2) (inr (values-bad c.args.gone c.args.columns (map (λ field. field.now) c.args.fields.now) c.in-Some.key (ap number (get_or-map (λ field. field.now) c.args.fields.now 0 _ [] (key-within _ c.args.columns c.args.blobs c.requires.all)) ∙ c.in-Some.ensures) c.args.blobs c.in_err-values.field-0.0 c.in_err-values.ensures.values))

pub returns-in_err-values-clause-gone : goal.returns-in_err-values-clause-gone
returns-in_err-values-clause-gone c = let p = err_from_is_err_and c.from_residual.result c.from_residual.ensures.1 in rw p.1 tt

pub returns-in_err-values-clause-memory : goal.returns-in_err-values-clause-memory
returns-in_err-values-clause-memory c = λ plain. let p = err_from_is_err_and c.from_residual.result c.from_residual.ensures.1 in rw (p.1, p.2) c.in_err-values.ensures.memory

pub returns-then-not-blobs-clause-means : goal.returns-then-not-blobs-clause-means
returns-then-not-blobs-clause-means c =
    rw c.if-not-blobs.true (put-plain c.args.gone c.args.columns (map (λ field. field.now) c.args.fields.now) c.in-Some.key (ap number (get_or-map (λ field. field.now) c.args.fields.now 0 _ [] (key-within _ c.args.columns c.args.blobs c.requires.all)) ∙ c.in-Some.ensures) c.in_ok-values.values.items c.in_ok-values.ensures.values)

pub returns-then-not-blobs-clause-gone : goal.returns-then-not-blobs-clause-gone
returns-then-not-blobs-clause-gone c = rw c.if-not-blobs.true refl

pub bounds-fields-columns : goal.bounds-fields-columns
bounds-fields-columns c = blob-within _ c.args.columns (rw c.if-not-blobs.false at c.requires.all)

pub returns-then-is_left_out-clause-means : goal.returns-then-is_left_out-clause-means
returns-then-is_left_out-clause-means c =
    let at = get_or-map (λ field. field.now) c.args.fields.now (c.args.columns + 1) _ [] (blob-within _ c.args.columns (rw c.if-not-blobs.false at c.requires.all)) in
    rw c.if-not-blobs.false (put-left_out c.args.gone c.args.columns (map (λ field. field.now) c.args.fields.now) c.in-Some.key (ap number (get_or-map (λ field. field.now) c.args.fields.now 0 _ [] (key-within _ c.args.columns c.args.blobs c.requires.all)) ∙ c.in-Some.ensures) c.in_ok-values.values.items c.in_ok-values.ensures.values (ap (is_left_out c.args.gone) at ∙ (sym c.is_left_out.ensures ∙ c.if-is_left_out.true)))

pub returns-then-is_left_out-clause-gone : goal.returns-then-is_left_out-clause-gone
returns-then-is_left_out-clause-gone c =
    let at = get_or-map (λ field. field.now) c.args.fields.now (c.args.columns + 1) _ [] (blob-within _ c.args.columns (rw c.if-not-blobs.false at c.requires.all)) in
    rw c.if-not-blobs.false (sym (ap (is_left_out c.args.gone) at ∙ (sym c.is_left_out.ensures ∙ c.if-is_left_out.true)))

pub returns-in_err-blob-clause-means : goal.returns-in_err-blob-clause-means
returns-in_err-blob-clause-means c =
    let at = get_or-map (λ field. field.now) c.args.fields.now (c.args.columns + 1) _ [] (blob-within _ c.args.columns (rw c.if-not-blobs.false at c.requires.all)) in
    let p = err_from_is_err_and c.from_residual-in_err-blob.result c.from_residual-in_err-blob.ensures.1 in
    let blob = subst (λ (field : List ℕ). (c.in_err-blob.field-0.0 ≡ NoMemory) ⊎ (blob_of (c.args.columns + 2) field ≡ Err c.in_err-blob.field-0.0)) (sym at) c.in_err-blob.ensures in
    rw (p.1, p.2, c.if-not-blobs.false) (blob-bad c.args.gone c.args.columns (map (λ field. field.now) c.args.fields.now) c.in-Some.key (ap number (get_or-map (λ field. field.now) c.args.fields.now 0 _ [] (key-within _ c.args.columns c.args.blobs c.requires.all)) ∙ c.in-Some.ensures) c.in_ok-values.values.items c.in_ok-values.ensures.values (ap (is_left_out c.args.gone) at ∙ (sym c.is_left_out.ensures ∙ c.if-is_left_out.false)) c.in_err-blob.field-0.0 blob)

pub returns-in_err-blob-clause-gone : goal.returns-in_err-blob-clause-gone
returns-in_err-blob-clause-gone c = let p = err_from_is_err_and c.from_residual-in_err-blob.result c.from_residual-in_err-blob.ensures.1 in rw p.1 tt

pub returns-in_err-blob-clause-memory : goal.returns-in_err-blob-clause-memory
returns-in_err-blob-clause-memory c = λ plain. absurd (false≢true (sym plain ∙ c.if-not-blobs.false))

pub returns-clause-means : goal.returns-clause-means
returns-clause-means c =
    let at = get_or-map (λ field. field.now) c.args.fields.now (c.args.columns + 1) _ [] (blob-within _ c.args.columns (rw c.if-not-blobs.false at c.requires.all)) in
    rw c.if-not-blobs.false (put-whole c.args.gone c.args.columns (map (λ field. field.now) c.args.fields.now) c.in-Some.key (ap number (get_or-map (λ field. field.now) c.args.fields.now 0 _ [] (key-within _ c.args.columns c.args.blobs c.requires.all)) ∙ c.in-Some.ensures) c.in_ok-values.values.items c.in_ok-values.ensures.values (ap (is_left_out c.args.gone) at ∙ (sym c.is_left_out.ensures ∙ c.if-is_left_out.false)) c.in_ok-blob.blob (ap (blob_of (c.args.columns + 2)) at ∙ c.in_ok-blob.ensures))

pub returns-clause-gone : goal.returns-clause-gone
returns-clause-gone c =
    let at = get_or-map (λ field. field.now) c.args.fields.now (c.args.columns + 1) _ [] (blob-within _ c.args.columns (rw c.if-not-blobs.false at c.requires.all)) in
    rw c.if-not-blobs.false (sym (ap (is_left_out c.args.gone) at ∙ (sym c.is_left_out.ensures ∙ c.if-is_left_out.false)))
