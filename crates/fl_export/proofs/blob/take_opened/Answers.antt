use Rattle.std.proofs.Common.{◌≡◌, Ok, true, List, ℕ, ◌++◌, sym, ◌∙◌, ap, subst}
use Rattle.fl_model.specs.Query.{Stands, blob_of}
use Rattle.fl_var.specs.Reading.{bytes_left}
use Rattle.fl_store.proofs.Readers.{reads-kept, bytes-kept, whole-kept}
use Rattle.fl_store.proofs.Called.{err-is}
use Rattle.fl_export.proofs.Unread.{unread-later}
use Rattle.fl_export.proofs.blob.take_opened.Goals as goal

pub returns-in_err-take_bytes-clause-unread : goal.returns-in_err-take_bytes-clause-unread
returns-in_err-take_bytes-clause-unread g c = λ f only cause.
    rw (err-is c.from_residual-in_err-take_bytes.result _ c.from_residual-in_err-take_bytes.ensures.1) (unread-later f (g.F.Flash.state c.args.flash.now) (g.F.Flash.state c.take_bytes.new.flash) c.in_err-take_bytes.field-0.0 only c.in_err-take_bytes.ensures.unread)

pub returns-in_err-take_bytes-clause-finds : goal.returns-in_err-take_bytes-clause-finds
returns-in_err-take_bytes-clause-finds g c = λ t entry blob f empty opened.
    let r = c.args.reader.now in
    let h = g.F.Flash.state c.args.flash.now in
    let is : c.args.stands ≡ Ok true = c.in_ok-stands.was ∙ ap Ok c.if-not-branch.false in
    let finds = rw is at opened.finds in
    rw (err-is c.from_residual-in_err-take_bytes.result _ c.from_residual-in_err-take_bytes.ensures.1) (c.in_err-take_bytes.ensures.gathers (reads-kept r f h 1 opened.only (opened.ready is)) (whole-kept r f h 1 opened.only finds.2))

pub returns-clause-finds : goal.returns-clause-finds
returns-clause-finds g c = λ t entry blob f empty opened.
    let r = c.args.reader.now in
    let h = g.F.Flash.state c.args.flash.now in
    let is : c.args.stands ≡ Ok true = c.in_ok-stands.was ∙ ap Ok c.if-not-branch.false in
    let finds = rw is at opened.finds in
    let gathers = c.in_ok-take_bytes.ensures.gathers (reads-kept r f h 1 opened.only (opened.ready is)) (whole-kept r f h 1 opened.only finds.2) in
    let all : c.take_bytes.new.bytes.items ≡ blob =
    gathers ∙ (ap (λ (l : List ℕ). l ++ bytes_left c.args.reader.now (g.F.Flash.state c.args.flash.now)) empty ∙ (bytes-kept r f h 1 opened.only ∙ finds.1)) in
    subst (λ (l : List ℕ). blob_of t entry ≡ Stands l) (sym all) finds.0
