use Rattle.std.proofs.Common.{◌≡◌, ℕ, List, false, None, Ok, Err, refl, sym, ◌∙◌, ap, subst}
use Rattle.fl_csv.specs.Lines.{lacks_blob, line_put}
use Rattle.fl_csv.specs.Views.{put_view}
use Rattle.fl_image.specs.declared.status.ToolStatus.TheVariants.{OutWrite, NoMemory, Device}
use Rattle.fl_import.specs.Lines.{lacks, meaning}
use Rattle.fl_import.specs.Steps.{fault_in, is_unread}
use Rattle.fl_store.proofs.Works.{works-watched}
use Rattle.fl_import.proofs.OneLine.{means-either, ends-reason, ends-memory, ends-put, ends-broken, ends-told, put-rose, not-device, not-written, one-status, told-device}
use Rattle.fl_import.proofs.line.put_line.Goals as goal

pub returns-in-Err-clause-ends : goal.returns-in-Err-clause-ends
returns-in-Err-clause-ends g c = λ first plan t is works. ends-memory first plan t c.args.table.now c.args.table.now _ _ works (lacks c.args.gone c.args.form.columns c.args.form.blobs c.args.line.now) c.args.number (g.K.Sink.written c.args.out.now) (g.K.Sink.written c.args.out.now) (meaning c.args.gone c.args.form.columns c.args.form.blobs c.args.line.now) refl refl refl

pub returns-in-Err-2-clause-ends : goal.returns-in-Err-2-clause-ends
returns-in-Err-2-clause-ends g c = λ first plan t is works.
    let other : is_unread c.in-Err.refusal ≡ false = sym c.is_unread.ensures ∙ c.if-is_unread.false in
    rw c.refused.ensures (ends-reason first plan t c.args.table.now c.args.table.now _ _ works (lacks c.args.gone c.args.form.columns c.args.form.blobs c.args.line.now) c.args.number (g.K.Sink.written c.args.out.now) (g.K.Sink.written c.tell_reason.new.out) (meaning c.args.gone c.args.form.columns c.args.form.blobs c.args.line.now) c.in-Err.refusal other
    (means-either c.args.gone c.args.form.columns c.args.form.blobs c.args.line.now c.without_return-text.result.now c.in-Err.refusal c.without_return-text.ensures c.in-Err.ensures.means) refl refl c.tell_reason.result c.tell_reason.ensures.text)

pub returns-in-Err-clause-device : goal.returns-in-Err-clause-device
returns-in-Err-clause-device g c = λ is. absurd (not-device (one-status NoMemory Device is))

pub returns-in-Err-2-clause-device : goal.returns-in-Err-2-clause-device
returns-in-Err-2-clause-device g c = λ is. told-device c.tell_reason.result (sym c.refused.ensures ∙ is)

pub returns-in-Some-clause-ends : goal.returns-in-Some-clause-ends
returns-in-Some-clause-ends g c = λ first plan t is works.
    let means : meaning c.args.gone c.args.form.columns c.args.form.blobs c.args.line.now ≡ Ok (put_view c.in-Ok.put) = ap (line_put c.args.gone c.args.form.columns c.args.form.blobs) (sym c.without_return-text.ensures) ∙ c.in-Ok.ensures.means in
    let f = g.F.Flash.state c.args.flash.now in
    let h = g.F.Flash.state c.put_record-outcome.new.flash in
    (ends-broken first plan t c.args.table.now c.put_record-outcome.new.table f h works (lacks c.args.gone c.args.form.columns c.args.form.blobs c.args.line.now) c.args.number (g.K.Sink.written c.args.out.now) (g.K.Sink.written c.args.out.now) (meaning c.args.gone c.args.form.columns c.args.form.blobs c.args.line.now) (put_view c.in-Ok.put) means
    c.put_record-outcome.result c.in-Some.field-0 (sym c.fault_in.ensures ∙ c.in-Some.is) refl (c.put_record-outcome.ensures.ends first plan t _ works.device (works-watched first plan t c.args.table.now c.put_record-outcome.new.table f h works) works.stands))

pub returns-in-Some-clause-device : goal.returns-in-Some-clause-device
returns-in-Some-clause-device g c = λ is.
    put-rose (g.F.Flash.state c.args.flash.now) (g.F.Flash.state c.put_record-outcome.new.flash) c.put_record-outcome.result c.in-Some.field-0 c.requires.unarmed (sym c.fault_in.ensures ∙ c.in-Some.is) c.put_record-outcome.ensures.cause

pub returns-in-Some-clause-write : goal.returns-in-Some-clause-write
returns-in-Some-clause-write g c = λ is. absurd (not-written (one-status Device OutWrite is))

pub returns-clause-device : goal.returns-clause-device
returns-clause-device g c = λ is. told-device c.tell_refusal.result (sym c.refused-in-Err-outcome.ensures ∙ is)

pub returns-in-Ok-outcome-clause-ends : goal.returns-in-Ok-outcome-clause-ends
returns-in-Ok-outcome-clause-ends g c = λ first plan t is works.
    let means : meaning c.args.gone c.args.form.columns c.args.form.blobs c.args.line.now ≡ Ok (put_view c.in-Ok.put) = ap (line_put c.args.gone c.args.form.columns c.args.form.blobs) (sym c.without_return-text.ensures) ∙ c.in-Ok.ensures.means in
    let f = g.F.Flash.state c.args.flash.now in
    let h = g.F.Flash.state c.put_record-outcome.new.flash in
    let e = c.put_record-outcome.ensures in
    let lacking : c.in-Ok.put.gone ≡ lacks c.args.gone c.args.form.columns c.args.form.blobs c.args.line.now = subst (λ (l : List ℕ). c.in-Ok.put.gone ≡ lacks_blob c.args.gone c.args.form.columns c.args.form.blobs l) c.without_return-text.ensures c.in-Ok.ensures.gone in
    rw (c.put_end.ensures, lacking) (ends-put first plan t c.args.table.now c.put_record-outcome.new.table f h works (lacks c.args.gone c.args.form.columns c.args.form.blobs c.args.line.now) c.args.number (g.K.Sink.written c.args.out.now) (g.K.Sink.written c.args.out.now) (meaning c.args.gone c.args.form.columns c.args.form.blobs c.args.line.now) (put_view c.in-Ok.put) means
    e.goes refl (rw c.in-Ok-outcome.is at (e.ends first plan t _ works.device (works-watched first plan t c.args.table.now c.put_record-outcome.new.table f h works) works.stands)))

pub returns-clause-ends : goal.returns-clause-ends
returns-clause-ends g c = λ first plan t is works.
    let means : meaning c.args.gone c.args.form.columns c.args.form.blobs c.args.line.now ≡ Ok (put_view c.in-Ok.put) = ap (line_put c.args.gone c.args.form.columns c.args.form.blobs) (sym c.without_return-text.ensures) ∙ c.in-Ok.ensures.means in
    let f = g.F.Flash.state c.args.flash.now in
    let h = g.F.Flash.state c.put_record-outcome.new.flash in
    let e = c.put_record-outcome.ensures in
    let whole : fault_in (Err c.in-Err-outcome.refusal) ≡ None = ap fault_in (sym c.in-Err-outcome.is) ∙ (sym c.fault_in.ensures ∙ c.in_default.is) in
    rw c.refused-in-Err-outcome.ensures (ends-told first plan t c.args.table.now c.put_record-outcome.new.table f h works (lacks c.args.gone c.args.form.columns c.args.form.blobs c.args.line.now) c.args.number (g.K.Sink.written c.args.out.now) (g.K.Sink.written c.tell_refusal.new.out) (meaning c.args.gone c.args.form.columns c.args.form.blobs c.args.line.now) (put_view c.in-Ok.put) means
    c.in-Err-outcome.refusal whole (rw c.in-Err-outcome.is at (e.ends first plan t _ works.device (works-watched first plan t c.args.table.now c.put_record-outcome.new.table f h works) works.stands)) (rw c.in-Err-outcome.is at e.refused) c.tell_refusal.result c.tell_refusal.ensures.text)
