use Rattle.std.proofs.Common.{◌≡◌, List, ℕ, Ok, true, false, length, sym, ◌∙◌, ap, subst, arith}
use Rattle.fl_model.specs.Query.{blob_of}
use Rattle.fl_frame.proofs.ContentsInTurn.{OnlyReads-reads}
use Rattle.fl_script.specs.Written.{Written}
use Rattle.fl_var.specs.Reading.{bytes_left}
use Rattle.fl_words.specs.Reply.{Gone, text}
use Rattle.fl_queries.specs.BlobLine.{ShowsBytes}
use Rattle.fl_queries.specs.BlobSays.{IsBadIn, MayBeBadAhead, TellsBlob, TellsLeft}
use Rattle.fl_store.proofs.Readers.{bytes-kept, reads-kept, whole-kept}
use Rattle.fl_queries.proofs.BlobShows.{says-gone, says-unread, says-bytes, unread-rose}
use Rattle.fl_queries.proofs.AnyBlobs.{says-later, says-none_read, says-one}
use Rattle.fl_queries.proofs.BadBlobs.{left-told}
use Rattle.fl_queries.proofs.blob.show_opened.Goals as goal

pub returns-in-Ok-true-clause-says : goal.returns-in-Ok-true-clause-says
returns-in-Ok-true-clause-says g c = λ t entry bytes f on opened.
    let h = g.F.Flash.state c.args.flash.now in
    let r = c.args.reader.now in
    let is : c.args.stands ≡ Ok true = c.in-Ok-true.is ∙ ap Ok c.in-Ok-true.field-0-test in
    let finds = rw is at opened.finds in
    let left : bytes_left c.args.reader.now (g.F.Flash.state c.args.flash.now) ≡ bytes = bytes-kept r f h 1 opened.only ∙ finds.1 in
    let shows = c.show_bytes.ensures.shows (reads-kept r f h 1 opened.only (opened.ready is)) (whole-kept r f h 1 opened.only finds.2) (record { here = opened.here is; count = ap length left ∙ sym (opened.counted is) }) (opened.only.power ∙ on) in
    says-bytes _ _ _ _ _ _ _ (blob_of t entry) bytes h.media.faults h.work.reads finds.0 opened.some opened.only.goes.faults (OnlyReads-reads f h opened.counts)
    (subst (λ (l : List ℕ). ShowsBytes l (g.K.Sink.written c.args.out.now) (g.K.Sink.written c.show_bytes.new.out) (g.F.Flash.state c.args.flash.now).media.faults (g.F.Flash.state c.show_bytes.new.flash).media.faults (g.F.Flash.state c.args.flash.now).work.reads (g.F.Flash.state c.show_bytes.new.flash).work.reads c.show_bytes.result) left shows)

pub returns-in-Ok-true-clause-reads : goal.returns-in-Ok-true-clause-reads
returns-in-Ok-true-clause-reads g c = λ t entry bytes f opened.
    let h = g.F.Flash.state c.args.flash.now in
    let r = c.args.reader.now in
    let is : c.args.stands ≡ Ok true = c.in-Ok-true.is ∙ ap Ok c.in-Ok-true.field-0-test in
    let finds = rw is at opened.finds in
    let more = c.show_bytes.ensures.reads (reads-kept r f h 1 opened.only (opened.ready is)) (whole-kept r f h 1 opened.only finds.2) in
    omega (arith, more, opened.only.reads)

pub returns-in-Ok-false-clause-says : goal.returns-in-Ok-false-clause-says
returns-in-Ok-false-clause-says g c = λ t entry bytes f on opened.
    let finds = rw (c.in-Ok-false.is, c.in-Ok-false.field-0-test) at opened.finds in
    says-gone _ _ _ _ _ _ _ (blob_of t entry) finds c.write_reply.ensures.text

pub returns-in-Ok-false-clause-reads : goal.returns-in-Ok-false-clause-reads
returns-in-Ok-false-clause-reads g c = λ t entry bytes f opened. omega (arith, opened.only.reads)

pub returns-in-Err-clause-says : goal.returns-in-Err-clause-says
returns-in-Err-clause-says g c = λ t entry bytes f on opened.
    let finds = rw c.in-Err.is at opened.finds in
    let fails = rw c.in-Err.is at opened.fails in
    let rose = unread-rose f (g.F.Flash.state c.args.flash.now) c.in-Err.fault t entry bytes on fails finds in
    says-unread _ _ _ _ _ _ _ (blob_of t entry) rose.0 rose.1
    (subst (λ (l : List ℕ). Written (g.K.Sink.written c.args.out.now) (g.K.Sink.written c.write_reply-in-Err.new.out) c.write_reply-in-Err.result l) (c.read_reply.ensures ∙ ap text rose.2) c.write_reply-in-Err.ensures.text)

pub returns-in-Err-clause-reads : goal.returns-in-Err-clause-reads
returns-in-Err-clause-reads g c = λ t entry bytes f opened. omega (arith, opened.only.reads)

pub returns-in-Ok-true-clause-tells : goal.returns-in-Ok-true-clause-tells
returns-in-Ok-true-clause-tells g c = λ t at f opened.
    let h = g.F.Flash.state c.args.flash.now in
    let r = c.args.reader.now in
    let is : c.args.stands ≡ Ok true = c.in-Ok-true.is ∙ ap Ok c.in-Ok-true.field-0-test in
    says-later (TellsLeft r h) (TellsBlob t f at) (MayBeBadAhead r h) (MayBeBadAhead r h) (IsBadIn t f at) (IsBadIn t f at) f h (g.F.Flash.state c.show_bytes.new.flash) opened.only (left-told t at f r h (opened.left is)) (opened.ahead is) (opened.ahead is) _ _ _ c.show_bytes.ensures.tells

pub returns-in-Ok-false-clause-tells : goal.returns-in-Ok-false-clause-tells
returns-in-Ok-false-clause-tells g c = λ t at f opened.
    let is : c.args.stands ≡ Ok false = c.in-Ok-false.is ∙ ap Ok c.in-Ok-false.field-0-test in
    says-one (TellsBlob t f at) (IsBadIn t f at) (IsBadIn t f at) f (g.F.Flash.state c.args.flash.now) _ _ _ Gone tt (opened.gone is) c.write_reply.ensures.text

pub returns-in-Err-clause-tells : goal.returns-in-Err-clause-tells
returns-in-Err-clause-tells g c = λ t at f opened.
    let why = rw c.in-Err.is at opened.fails in
    says-none_read (TellsBlob t f at) (IsBadIn t f at) (IsBadIn t f at) f (g.F.Flash.state c.args.flash.now) _ _ _ c.in-Err.fault why.0 why.1
    (subst (λ (l : List ℕ). Written (g.K.Sink.written c.args.out.now) (g.K.Sink.written c.write_reply-in-Err.new.out) c.write_reply-in-Err.result l) c.read_reply.ensures c.write_reply-in-Err.ensures.text)
