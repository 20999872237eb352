use Rattle.std.proofs.Common.{List, ℕ, ◌∙◌, ap, subst}
use Rattle.std.proofs.lemmas.Result.{err_from_is_err_and}
use Rattle.fl_base.specs.Causes.{Appends, AppendsFront}
use Rattle.fl_base.proofs.Appended.{front-none}
use Rattle.fl_csv.specs.Views.{blob_view}
use Rattle.fl_schema.specs.Schema.{row_of}
use Rattle.fl_script.proofs.SinkPieces.{written-err}
use Rattle.fl_salvage.specs.Line.{told_of_found}
use Rattle.fl_salvage.specs.Text.{blob_told, form_of}
use Rattle.fl_salvage.proofs.Lines.{line-is}
use Rattle.fl_salvage.proofs.MediaOnlyRead.{line-caused, unread-caused}
use Rattle.fl_salvage.proofs.line.write_row.Goals as goal

pub returns-in_err-found-clause-writes : goal.returns-in_err-found-clause-writes
returns-in_err-found-clause-writes g c tells = written-err _ _ _ _ c.from_residual.ensures.0 (front-none (g.K.Sink.written c.args.out.now) _)

pub returns-in_err-found-clause-cause : goal.returns-in_err-found-clause-cause
returns-in_err-found-clause-cause g c =
    let p = err_from_is_err_and c.from_residual.result c.from_residual.ensures.1 in
    rw (p.1, p.2) (unread-caused (g.M.Media.state c.args.media.now) (g.M.Media.state c.find_blob.new.media) (g.K.Sink.faults c.args.out.now) (g.K.Sink.faults c.args.out.now) c.in_err-found.field-0.0 c.in_err-found.ensures.cause)

pub returns-in_err-write_record-clause-writes : goal.returns-in_err-write_record-clause-writes
returns-in_err-write_record-clause-writes g c tells =
    let blob = c.blob_said-blob.ensures ∙ ap (λ (l : List ℕ). told_of_found c.in_ok-found.found l) c.deref.ensures.value ∙ c.in_ok-found.ensures.found tells ∙ ap (blob_told (form_of c.args.table.now) (g.M.Media.state c.args.media.now).content) c.blob.ensures in
    let line = line-is (form_of c.args.table.now) (g.M.Media.state c.args.media.now).content (row_of c.args.row.now) c.key.result c.as_slice.result.now (blob_view c.blob_said-blob.result) c.key.ensures (c.as_slice.ensures.value ∙ c.values_of-values.ensures) blob in
    written-err _ _ _ _ c.from_residual-in_err-write_record.ensures.0
    (subst (λ (l : List ℕ). AppendsFront (g.K.Sink.written c.args.out.now) (g.K.Sink.written c.write_record.new.out) l) line c.in_err-write_record.ensures.text)

pub returns-in_err-write_record-clause-cause : goal.returns-in_err-write_record-clause-cause
returns-in_err-write_record-clause-cause g c =
    let p = err_from_is_err_and c.from_residual-in_err-write_record.result c.from_residual-in_err-write_record.ensures.1 in
    rw (p.1, p.2) (line-caused (g.M.Media.state c.args.media.now) (g.M.Media.state c.find_blob.new.media) (g.K.Sink.faults c.args.out.now) (g.K.Sink.faults c.write_record.new.out) c.in_err-write_record.field-0.0 c.in_err-write_record.ensures.cause)

pub returns-clause-writes : goal.returns-clause-writes
returns-clause-writes g c tells =
    let blob = c.blob_said-blob.ensures ∙ ap (λ (l : List ℕ). told_of_found c.in_ok-found.found l) c.deref.ensures.value ∙ c.in_ok-found.ensures.found tells ∙ ap (blob_told (form_of c.args.table.now) (g.M.Media.state c.args.media.now).content) c.blob.ensures in
    let line = line-is (form_of c.args.table.now) (g.M.Media.state c.args.media.now).content (row_of c.args.row.now) c.key.result c.as_slice.result.now (blob_view c.blob_said-blob.result) c.key.ensures (c.as_slice.ensures.value ∙ c.values_of-values.ensures) blob in
    subst (λ (l : List ℕ). Appends (g.K.Sink.written c.args.out.now) (g.K.Sink.written c.write_record.new.out) l) line c.in_ok-write_record.ensures.text
