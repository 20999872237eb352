use Rattle.std.proofs.Common.{◌≡◌, true, List, ℕ, ◌∙◌, ap, subst}
use Rattle.fl_base.specs.Causes.{Appends, AppendsFront}
use Rattle.fl_csv.specs.Text.{entry_text}
use Rattle.fl_csv.specs.Views.{blob_view}
use Rattle.fl_model.specs.Query.{blob_of}
use Rattle.fl_model.specs.Row.{Row}
use Rattle.fl_schema.specs.Schema.{row_of}
use Rattle.fl_table.specs.BlobAt.{has_blobs}
use Rattle.fl_table.proofs.PlannedLayout.{blobs-as}
use Rattle.fl_store.proofs.Called.{err-is}
use Rattle.fl_export.specs.Records.{told_of_found, field_of}
use Rattle.fl_export.specs.Text.{said_of}
use Rattle.fl_export.proofs.Lines.{writes-none, line-good}
use Rattle.fl_export.proofs.Records.{line-is}
use Rattle.fl_export.proofs.Unread.{bad-line}
use Rattle.fl_export.proofs.record.write_row.Goals as goal

pub returns-in_err-found-clause-writes : goal.returns-in_err-found-clause-writes
returns-in_err-found-clause-writes g c = λ first plan t i entry tells stands here row_is.
    rw (err-is c.from_residual.result _ c.from_residual.ensures.1) (writes-none (g.K.Sink.written c.args.out.now) (entry_text (said_of plan t entry)) c.in_err-found.field-0.0
    (c.in_err-found.ensures.finds first plan t i entry tells stands here (c.blob.ensures ∙ ap (λ (r : Row). r.blob) row_is)))

pub returns-in_err-write_record-clause-writes : goal.returns-in_err-write_record-clause-writes
returns-in_err-write_record-clause-writes g c = λ first plan t i entry tells stands here row_is.
    let blob_is : blob_view c.blob_told-blob.result ≡ field_of (has_blobs c.args.table.now) (blob_of t entry) =
    c.blob_told-blob.ensures ∙ (ap (λ (l : List ℕ). told_of_found c.in_ok-found.found l) c.deref.ensures.value ∙ (c.in_ok-found.ensures.finds first plan t i entry tells stands here (c.blob.ensures ∙ ap (λ (r : Row). r.blob) row_is))) in
    let line = line-is plan t entry (row_of c.args.row.now) (has_blobs c.args.table.now) c.key.result c.as_slice.result.now (blob_view c.blob_told-blob.result) c.key.ensures (c.as_slice.ensures.value ∙ c.values_of-values.ensures) row_is
    (blobs-as c.args.table.now first plan stands.planned) blob_is in
    rw (err-is c.from_residual-in_err-write_record.result _ c.from_residual-in_err-write_record.ensures.1) (
      line-good c.in_err-write_record.field-0.0,
      subst (λ (l : List ℕ). AppendsFront (g.K.Sink.written c.args.out.now) (g.K.Sink.written c.write_record.new.out) l) line c.in_err-write_record.ensures.text,
    )

pub returns-in_err-found-clause-bad : goal.returns-in_err-found-clause-bad
returns-in_err-found-clause-bad g c =
    rw (err-is c.from_residual.result _ c.from_residual.ensures.1) c.in_err-found.ensures.bad

pub returns-in_err-write_record-clause-bad : goal.returns-in_err-write_record-clause-bad
returns-in_err-write_record-clause-bad g c =
    rw (err-is c.from_residual-in_err-write_record.result _ c.from_residual-in_err-write_record.ensures.1) (bad-line c.in_err-write_record.field-0.0 (λ bad. has_blobs c.args.table.now ≡ true))

pub returns-clause-writes : goal.returns-clause-writes
returns-clause-writes g c = λ first plan t i entry tells stands here row_is.
    let blob_is : blob_view c.blob_told-blob.result ≡ field_of (has_blobs c.args.table.now) (blob_of t entry) =
    c.blob_told-blob.ensures ∙ (ap (λ (l : List ℕ). told_of_found c.in_ok-found.found l) c.deref.ensures.value ∙ (c.in_ok-found.ensures.finds first plan t i entry tells stands here (c.blob.ensures ∙ ap (λ (r : Row). r.blob) row_is))) in
    let line = line-is plan t entry (row_of c.args.row.now) (has_blobs c.args.table.now) c.key.result c.as_slice.result.now (blob_view c.blob_told-blob.result) c.key.ensures (c.as_slice.ensures.value ∙ c.values_of-values.ensures) row_is
    (blobs-as c.args.table.now first plan stands.planned) blob_is in
    subst (λ (l : List ℕ). Appends (g.K.Sink.written c.args.out.now) (g.K.Sink.written c.write_record.new.out) l) line c.in_ok-write_record.ensures.text
