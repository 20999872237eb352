use Rattle.std.proofs.Common.{◌≡◌, true, sym, ◌∙◌}
use Rattle.fl_model.specs.Query.{blob_of}
use Rattle.fl_table.specs.BlobAt.{has_blobs}
use Rattle.fl_store.proofs.Called.{err-is}
use Rattle.fl_export.proofs.Unread.{bad-when}
use Rattle.fl_export.proofs.Records.{named-by, unnamed, whole-field, none-field, gone-field}
use Rattle.fl_export.proofs.record.find_blob.Goals as goal

pub returns-then-has_blobs-clause-finds : goal.returns-then-has_blobs-clause-finds
returns-then-has_blobs-clause-finds g c = λ first plan t i entry tells stands here at_is.
    none-field (has_blobs c.args.table.now) (blob_of t entry) (sym c.has_blobs.ensures ∙ c.if-has_blobs.true) (unnamed t entry (sym c.in_default.is ∙ at_is))

pub returns-in_err-read_blob-clause-finds : goal.returns-in_err-read_blob-clause-finds
returns-in_err-read_blob-clause-finds g c = λ first plan t i entry tells stands here at_is.
    let named = named-by entry c.in-Some.at (sym c.in-Some.is ∙ at_is) in
    rw (err-is c.from_residual.result _ c.from_residual.ensures.1) (c.in_err-read_blob.ensures.finds first plan t i entry named.bytes tells stands here named.blob_is named.at_is)

pub returns-in_err-read_blob-clause-bad : goal.returns-in_err-read_blob-clause-bad
returns-in_err-read_blob-clause-bad g c =
    let has : has_blobs c.args.table.now ≡ true = rw c.in-Some.is at c.requires.blobs in
    rw (err-is c.from_residual.result _ c.from_residual.ensures.1) (bad-when c.in_err-read_blob.field-0.0 (λ bad. has_blobs c.args.table.now ≡ true) (λ bad. has))

pub returns-then-branch-clause-finds : goal.returns-then-branch-clause-finds
returns-then-branch-clause-finds g c = λ first plan t i entry tells stands here at_is.
    let named = named-by entry c.in-Some.at (sym c.in-Some.is ∙ at_is) in
    let has : has_blobs c.args.table.now ≡ true = rw c.in-Some.is at c.requires.blobs in
    let state = rw c.if-branch.true at (c.in_ok-read_blob.ensures.finds first plan t i entry named.bytes tells stands here named.blob_is named.at_is) in
    whole-field (has_blobs c.args.table.now) (blob_of t entry) c.read_blob.new.room.bytes.items has state

pub returns-clause-finds : goal.returns-clause-finds
returns-clause-finds g c = λ first plan t i entry tells stands here at_is.
    let named = named-by entry c.in-Some.at (sym c.in-Some.is ∙ at_is) in
    let has : has_blobs c.args.table.now ≡ true = rw c.in-Some.is at c.requires.blobs in
    let state = rw c.if-branch.false at (c.in_ok-read_blob.ensures.finds first plan t i entry named.bytes tells stands here named.blob_is named.at_is) in
    gone-field (has_blobs c.args.table.now) (blob_of t entry) has state
