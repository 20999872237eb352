use Rattle.std.proofs.Common.{sym, refl, ◌∙◌, arith, rules, ◌≡◌, ◌+◌}
use Rattle.fl_csv.specs.Text.{header_text}
use Rattle.fl_script.proofs.SinkPieces.{sent-failed, sent-piece, written-err, sent-none}
use Rattle.fl_csv.proofs.Sends.{last_text, left_of, header-parts, header-next, header-end, sent-last}
use Rattle.fl_csv.proofs.write.header_line.Goals.{then-blobs, else-blobs}
use Rattle.fl_csv.proofs.write.header_line.Goals as goal

pub returns-in_err-write_all-clause-text : goal.returns-in_err-write_all-clause-text
returns-in_err-write_all-clause-text g c =
    let header = header_text c.args.columns c.args.blobs in
    written-err _ _ _ header c.from_residual.ensures.0
    (sent-failed _ _ _ header header (left_of c.args.columns c.args.blobs 0) _ (sent-none _ header) c.in_err-write_all.ensures.text (header-parts c.args.columns c.args.blobs))

pub names-init : goal.names-init
names-init g c =
    let header = header_text c.args.columns c.args.blobs in
    record {
      sent = sent-piece _ _ _ header header (left_of c.args.columns c.args.blobs 0) _ (sent-none _ header) c.in_ok-write_all.ensures.text (header-parts c.args.columns c.args.blobs);
      later = c.in_ok-write_all.ensures.cause.later;
    }

pub returns-in_err-column_name-clause-text : goal.returns-in_err-column_name-clause-text
returns-in_err-column_name-clause-text g c =
    written-err _ _ _ (header_text c.args.columns c.args.blobs) c.from_residual-in_err-column_name.ensures.0
    (sent-failed _ _ _ _ _ (left_of c.args.columns c.args.blobs (c.names.i + 1)) _ c.names.invariant.sent c.in_err-column_name.ensures.text
    (header-next c.args.columns c.args.blobs c.names.i c.names-test.true))

pub names-preserved : goal.names-preserved
names-preserved g c = record {
  sent = sent-piece _ _ _ _ _ (left_of c.args.columns c.args.blobs (c.names.i + 1)) _ c.names.invariant.sent c.in_ok-column_name.ensures.text
      (header-next c.args.columns c.args.blobs c.names.i c.names-test.true);
  later = omega (arith, c.names.invariant.later, c.in_ok-column_name.ensures.cause.later);
}

pub returns-clause-text : goal.returns-clause-text
returns-clause-text g c =
    let last : c.if-blobs.last.now ≡ last_text c.args.blobs = elim c.if-blobs.branch [
      | then-blobs w ↦ rw (w.last-is, w.if-blobs.true) refl
      | else-blobs w ↦ rw (w.last-is, w.if-blobs.false) refl
    ] in
    let end : c.args.columns ≡ c.names.i = search rules in
    sent-last _ _ _ _ _ _ c.write_all-2.result c.names.invariant.sent c.write_all-2.ensures.text (last ∙ sym (header-end c.args.columns c.args.blobs c.names.i end))
