use Rattle.std.proofs.Common.{◌≡◌, ◌≤◌, ◌++◌, ◌∷◌, [], ℕ, ℤ, pos, List, get_or, length, sym, ap, refl, ◌∙◌, arith, rules, append_assoc}
use Rattle.std.specs.Fmt.{signed_decimal}
use Rattle.std.specs.Int.{w64}
use Rattle.std.specs.Prelude.{FitsSigned}
use Rattle.std.proofs.lemmas.Int.{to_z-of_z}
use Rattle.std.proofs.lemmas.List.{nil_from_length}
use Rattle.fl_script.proofs.SinkPieces.{Sent, sent-failed, written-err}
use Rattle.fl_csv.specs.Text.{entry_text}
use Rattle.fl_csv.specs.Views.{blob_view}
use Rattle.fl_csv.proofs.Gathers.{flushed, left_at, mark-added, value-added}
use Rattle.fl_csv.proofs.Sends.{sent-last}
use Rattle.fl_csv.proofs.write.write_line.Goals.{then-bytes-gt-FULL+in_ok-write_all, else-bytes-gt-FULL}
use Rattle.fl_csv.proofs.write.write_line.Goals as goal

pub returns-in_err-write_all-clause-text : goal.returns-in_err-write_all-clause-text
returns-in_err-write_all-clause-text g c =
    let left = left_at c.args.values.now (blob_view c.args.blob) c.loop-value.value-index in
    written-err _ _ _ (entry_text (record { key = c.args.key; values = c.args.values.now; blob = blob_view c.args.blob })) c.from_residual.ensures.0
    (sent-failed _ _ _ (entry_text (record { key = c.args.key; values = c.args.values.now; blob = blob_view c.args.blob })) _ left _ c.loop-value.invariant.sent c.in_err-write_all.ensures.text (ap (λ l. l ++ left) c.bytes-then-bytes-gt-FULL.ensures))

pub loop-value-preserved : goal.loop-value-preserved
loop-value-preserved g c =
    let bytes = entry_text (record { key = c.args.key; values = c.args.values.now; blob = blob_view c.args.blob }) in
    let left = left_at c.args.values.now (blob_view c.args.blob) c.loop-value.value-index in
    let ready : Sent (g.K.Sink.written c.args.out.now) (g.K.Sink.written c.if-bytes-gt-FULL.out) bytes (c.if-bytes-gt-FULL.line ++ left)
    × (length c.if-bytes-gt-FULL.line ≤ 352) × (g.K.Sink.faults c.args.out.now ≤ g.K.Sink.faults c.if-bytes-gt-FULL.out) =
    elim c.if-bytes-gt-FULL.branch [
      | then-bytes-gt-FULL+in_ok-write_all w ↦ rw (w.out-is, w.line-is, w.new-line-then-bytes-gt-FULL.ensures) (
        flushed _ _ _ bytes _ left _ w.bytes-then-bytes-gt-FULL.ensures c.loop-value.invariant.sent w.in_ok-write_all.ensures.text,
        omega arith,
        omega (arith, c.loop-value.invariant.later, w.in_ok-write_all.ensures.cause.later),
      )
      | else-bytes-gt-FULL w ↦ rw (w.out-is, w.line-is) (
        c.loop-value.invariant.sent,
        search rules,
        c.loop-value.invariant.later,
      )
    ] in
    let value = get_or c.args.values.now c.loop-value.value-index (pos 0) in
    let word : FitsSigned w64 (get_or c.args.values.now c.loop-value.value-index (pos 0)) = search rules in
    let added = c.add_number-in-loop-value.ensures.text ∙ append_assoc c.if-bytes-gt-FULL.line (44 ∷ []) _ ∙ ap (λ (z : ℤ). c.if-bytes-gt-FULL.line ++ 44 ∷ signed_decimal z) (to_z-of_z w64 value word) in
    record {
      sent = value-added _ _ bytes _ _ c.args.values.now (blob_view c.args.blob) c.loop-value.value-index (pos 0) c.loop-value-test.true ready.0 added;
      short = omega (arith, ready.1, c.add_number-in-loop-value.ensures.short);
      later = ready.2;
    }

pub returns-then-is_empty-clause-text : goal.returns-then-is_empty-clause-text
returns-then-is_empty-clause-text g c =
    let zero : length c.args.digits.now ≡ 0 = search rules in
    let marked = mark-added _ _ (entry_text (record { key = c.args.key; values = c.args.values.now; blob = blob_view c.args.blob })) c.loop-value.line c.add_mark.new.line c.args.digits.now c.args.values.now (blob_view c.args.blob) c.loop-value.value-index c.loop-value-test.false c.loop-value.invariant.sent c.add_mark.ensures.text c.requires in
    let piece = c.bytes-then-is_empty.ensures ∙ c.add.ensures ∙ ap (λ (l : List ℕ). c.add_mark.new.line ++ (l ++ 10 ∷ [])) (sym (nil_from_length c.args.digits.now zero)) in
    sent-last _ _ _ (entry_text (record { key = c.args.key; values = c.args.values.now; blob = blob_view c.args.blob })) _ _ c.write_all-then-is_empty.result marked c.write_all-then-is_empty.ensures.text piece

pub returns-in_err-write_all-2-clause-text : goal.returns-in_err-write_all-2-clause-text
returns-in_err-write_all-2-clause-text g c =
    let marked = mark-added _ _ (entry_text (record { key = c.args.key; values = c.args.values.now; blob = blob_view c.args.blob })) c.loop-value.line c.add_mark.new.line c.args.digits.now c.args.values.now (blob_view c.args.blob) c.loop-value.value-index c.loop-value-test.false c.loop-value.invariant.sent c.add_mark.ensures.text c.requires in
    let left = c.args.digits.now ++ 10 ∷ [] in
    written-err _ _ _ (entry_text (record { key = c.args.key; values = c.args.values.now; blob = blob_view c.args.blob })) c.from_residual-in_err-write_all-2.ensures.0
    (sent-failed _ _ _ (entry_text (record { key = c.args.key; values = c.args.values.now; blob = blob_view c.args.blob })) _ left _ marked c.in_err-write_all-2.ensures.text (ap (λ l. l ++ left) c.bytes-2.ensures))

pub returns-in_err-write_all-3-clause-text : goal.returns-in_err-write_all-3-clause-text
returns-in_err-write_all-3-clause-text g c =
    let marked = mark-added _ _ (entry_text (record { key = c.args.key; values = c.args.values.now; blob = blob_view c.args.blob })) c.loop-value.line c.add_mark.new.line c.args.digits.now c.args.values.now (blob_view c.args.blob) c.loop-value.value-index c.loop-value-test.false c.loop-value.invariant.sent c.add_mark.ensures.text c.requires in
    let sent = flushed _ _ _ (entry_text (record { key = c.args.key; values = c.args.values.now; blob = blob_view c.args.blob })) _ _ _ c.bytes-2.ensures marked c.in_ok-write_all-2.ensures.text in
    written-err _ _ _ (entry_text (record { key = c.args.key; values = c.args.values.now; blob = blob_view c.args.blob })) c.from_residual-in_err-write_all-3.ensures.0
    (sent-failed _ _ _ (entry_text (record { key = c.args.key; values = c.args.values.now; blob = blob_view c.args.blob })) _ (10 ∷ []) _ sent c.in_err-write_all-3.ensures.text refl)

pub returns-clause-text : goal.returns-clause-text
returns-clause-text g c =
    let marked = mark-added _ _ (entry_text (record { key = c.args.key; values = c.args.values.now; blob = blob_view c.args.blob })) c.loop-value.line c.add_mark.new.line c.args.digits.now c.args.values.now (blob_view c.args.blob) c.loop-value.value-index c.loop-value-test.false c.loop-value.invariant.sent c.add_mark.ensures.text c.requires in
    let sent = flushed _ _ _ (entry_text (record { key = c.args.key; values = c.args.values.now; blob = blob_view c.args.blob })) _ _ _ c.bytes-2.ensures marked c.in_ok-write_all-2.ensures.text in
    sent-last _ _ _ (entry_text (record { key = c.args.key; values = c.args.values.now; blob = blob_view c.args.blob })) _ _ c.write_all-4.result (flushed _ _ _ (entry_text (record { key = c.args.key; values = c.args.values.now; blob = blob_view c.args.blob })) _ _ _ refl sent c.in_ok-write_all-3.ensures.text) c.write_all-4.ensures.text refl
