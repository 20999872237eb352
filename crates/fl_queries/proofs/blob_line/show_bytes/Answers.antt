use Rattle.std.proofs.Common.{◌≡◌, ℕ, codes, Err, List, [], ◌∷◌, ◌++◌, subst, ◌+◌, ◌≤◌, refl, arith}
use Rattle.std.proofs.lemmas.Result.{err_from_is_err_and}
use Rattle.std.proofs.lemmas.Bool.{false≢true}
use Rattle.fl_base.proofs.Appended.{front-more}
use Rattle.fl_script.specs.Written.{Written}
use Rattle.fl_script.proofs.SinkPieces.{written-behind}
use Rattle.fl_var.specs.Reading.{bytes_left}
use Rattle.fl_words.specs.Reply.{hex_text, text}
use Rattle.fl_queries.specs.BlobLine.{read_reply}
use Rattle.fl_queries.specs.BlobSays.{MayBeBadAhead, TellsLeft}
use Rattle.fl_queries.specs.declared.listing.ListFault.TheVariants.{Sink, Read}
use Rattle.fl_queries.proofs.AnyBlobs.{says-begun, says-cut, says-parts, says-sunk}
use Rattle.fl_queries.proofs.BlobLines.{shows-line, shows-unread, shows-unended, rose-with}
use Rattle.fl_frame.proofs.ContentsInTurn.{OnlyReads-same}
use Rattle.fl_queries.proofs.blob_line.show_bytes.Goals as goal

no-more : (reads more : ℕ) → reads ≤ reads + more
no-more reads more = omega arith

pub returns-in_err-write_reply-clause-shows : goal.returns-in_err-write_reply-clause-shows
returns-in_err-write_reply-clause-shows g c = λ ready whole turned on.
    let bytes = bytes_left c.args.reader.now (g.F.Flash.state c.args.flash.now) in
    let p = err_from_is_err_and c.from_residual.result c.from_residual.ensures.1 in
    rw (p.1, p.2) (shows-line bytes (g.K.Sink.written c.args.out.now) (g.K.Sink.written c.write_reply.new.out) _ _ _ _ _
    (front-more (g.K.Sink.written c.args.out.now) (g.K.Sink.written c.write_reply.new.out) (codes "bytes ") (hex_text bytes ++ 10 ∷ []) c.in_err-write_reply.ensures.text))

pub returns-in-Ok-clause-shows : goal.returns-in-Ok-clause-shows
returns-in-Ok-clause-shows g c = λ ready whole turned on.
    let bytes = bytes_left c.args.reader.now (g.F.Flash.state c.args.flash.now) in
    let given = rw c.in-Ok.is at (c.give_digits.ensures.gives ready whole turned) in
    shows-line bytes (g.K.Sink.written c.args.out.now) _ _ _ _ _ _
    (written-behind (g.K.Sink.written c.args.out.now) (g.K.Sink.written c.write_reply.new.out) _ (codes "bytes ") (hex_text bytes ++ 10 ∷ []) _ c.in_ok-write_reply.ensures.text
    (written-behind (g.K.Sink.written c.write_reply.new.out) (g.K.Sink.written c.give_digits.new.out) _ (hex_text bytes) (10 ∷ []) _ given c.write_reply-in-Ok.ensures.text))

pub returns-in-Err-Sink-clause-shows : goal.returns-in-Err-Sink-clause-shows
returns-in-Err-Sink-clause-shows g c = λ ready whole turned on.
    let bytes = bytes_left c.args.reader.now (g.F.Flash.state c.args.flash.now) in
    let sunk : c.in-Err-Sink.field-0 ≡ Sink c.in-Err-Sink.failed = c.in-Err-Sink.field-0-is in
    let given = rw (c.in-Err-Sink.is, sunk) at (c.give_digits.ensures.gives ready whole turned) in
    shows-line bytes (g.K.Sink.written c.args.out.now) _ _ _ _ _ (Err c.in-Err-Sink.failed)
    (written-behind (g.K.Sink.written c.args.out.now) (g.K.Sink.written c.write_reply.new.out) _ (codes "bytes ") (hex_text bytes ++ 10 ∷ []) (Err c.in-Err-Sink.failed) c.in_ok-write_reply.ensures.text
    (front-more (g.K.Sink.written c.write_reply.new.out) (g.K.Sink.written c.give_digits.new.out) (hex_text bytes) (10 ∷ []) given))

pub returns-in_err-write_reply-in-Err-Read-clause-shows : goal.returns-in_err-write_reply-in-Err-Read-clause-shows
returns-in_err-write_reply-in-Err-Read-clause-shows g c = λ ready whole turned on.
    let bytes = bytes_left c.args.reader.now (g.F.Flash.state c.args.flash.now) in
    let unread : c.in-Err-Read.field-0 ≡ Read c.in-Err-Read.fault = c.in-Err-Read.field-0-is in
    let given = rw (c.in-Err-Read.is, unread) at (c.give_digits.ensures.gives ready whole turned) in
    let caused = rw (c.in-Err-Read.is, unread) at c.give_digits.ensures.unread in
    let rose = rose-with (g.F.Flash.state c.args.flash.now) (g.F.Flash.state c.give_digits.new.flash) c.in-Err-Read.fault on caused in
    shows-unended bytes (g.K.Sink.written c.args.out.now) (g.K.Sink.written c.write_reply-in-Err-Read.new.out) _ _ _ _ c.from_residual-in_err-write_reply-in-Err-Read.result c.in-Err-Read.fault (g.K.Sink.written c.write_reply.new.out) (g.K.Sink.written c.give_digits.new.out)
    given rose c.in_ok-write_reply.ensures.text c.in_err-write_reply-in-Err-Read.ensures.text c.from_residual-in_err-write_reply-in-Err-Read.ensures.0

pub returns-in_ok-write_reply-in-Err-Read-clause-shows : goal.returns-in_ok-write_reply-in-Err-Read-clause-shows
returns-in_ok-write_reply-in-Err-Read-clause-shows g c = λ ready whole turned on.
    let bytes = bytes_left c.args.reader.now (g.F.Flash.state c.args.flash.now) in
    let unread : c.in-Err-Read.field-0 ≡ Read c.in-Err-Read.fault = c.in-Err-Read.field-0-is in
    let given = rw (c.in-Err-Read.is, unread) at (c.give_digits.ensures.gives ready whole turned) in
    let caused = rw (c.in-Err-Read.is, unread) at c.give_digits.ensures.unread in
    let rose = rose-with (g.F.Flash.state c.args.flash.now) (g.F.Flash.state c.give_digits.new.flash) c.in-Err-Read.fault on caused in
    let said : Written (g.K.Sink.written c.write_reply-in-Err-Read.new.out) (g.K.Sink.written c.write_reply-in-Err-Read-2.new.out) c.write_reply-in-Err-Read-2.result (text (read_reply c.in-Err-Read.fault)) =
    subst (λ (l : List ℕ). Written (g.K.Sink.written c.write_reply-in-Err-Read.new.out) (g.K.Sink.written c.write_reply-in-Err-Read-2.new.out) c.write_reply-in-Err-Read-2.result l) c.read_reply.ensures c.write_reply-in-Err-Read-2.ensures.text in
    shows-unread bytes (g.K.Sink.written c.args.out.now) (g.K.Sink.written c.write_reply-in-Err-Read-2.new.out) _ _ _ _ c.write_reply-in-Err-Read-2.result c.in-Err-Read.fault (g.K.Sink.written c.write_reply.new.out) (g.K.Sink.written c.give_digits.new.out)
    (g.K.Sink.written c.write_reply-in-Err-Read.new.out) given rose c.in_ok-write_reply.ensures.text c.in_ok-write_reply-in-Err-Read.ensures.text said

pub returns-in_err-write_reply-clause-tells : goal.returns-in_err-write_reply-clause-tells
returns-in_err-write_reply-clause-tells g c =
    let r = c.args.reader.now in
    let f = g.F.Flash.state c.args.flash.now in
    let p = err_from_is_err_and c.from_residual.result c.from_residual.ensures.1 in
    rw (p.1, p.2) (says-begun (TellsLeft r f) (MayBeBadAhead r f) (MayBeBadAhead r f) f f _ _ _ c.in_err-write_reply.ensures.text)

pub returns-in-Ok-clause-tells : goal.returns-in-Ok-clause-tells
returns-in-Ok-clause-tells g c =
    let r = c.args.reader.now in
    let f = g.F.Flash.state c.args.flash.now in
    let h = g.F.Flash.state c.give_digits.new.flash in
    let given = rw c.in-Ok.is at c.give_digits.ensures.digits in
    says-parts (TellsLeft r f) (MayBeBadAhead r f) (MayBeBadAhead r f) f h _ _ _ given.0 (g.K.Sink.written c.write_reply.new.out) (g.K.Sink.written c.give_digits.new.out) c.in_ok-write_reply.ensures.text given.1 c.write_reply-in-Ok.ensures.text (λ taken. given.2)

pub returns-in-Err-Sink-clause-tells : goal.returns-in-Err-Sink-clause-tells
returns-in-Err-Sink-clause-tells g c =
    let r = c.args.reader.now in
    let f = g.F.Flash.state c.args.flash.now in
    let h = g.F.Flash.state c.give_digits.new.flash in
    let sunk : c.in-Err-Sink.field-0 ≡ Sink c.in-Err-Sink.failed = c.in-Err-Sink.field-0-is in
    let given = rw (c.in-Err-Sink.is, sunk) at c.give_digits.ensures.digits in
    says-sunk (TellsLeft r f) (MayBeBadAhead r f) (MayBeBadAhead r f) f h _ _ c.in-Err-Sink.failed given.0 (g.K.Sink.written c.write_reply.new.out) c.in_ok-write_reply.ensures.text given.1

pub returns-in_err-write_reply-in-Err-Read-clause-tells : goal.returns-in_err-write_reply-in-Err-Read-clause-tells
returns-in_err-write_reply-in-Err-Read-clause-tells g c =
    let r = c.args.reader.now in
    let f = g.F.Flash.state c.args.flash.now in
    let h = g.F.Flash.state c.give_digits.new.flash in
    let unread : c.in-Err-Read.field-0 ≡ Read c.in-Err-Read.fault = c.in-Err-Read.field-0-is in
    let given = rw (c.in-Err-Read.is, unread) at c.give_digits.ensures.digits in
    let p = err_from_is_err_and c.from_residual-in_err-write_reply-in-Err-Read.result c.from_residual-in_err-write_reply-in-Err-Read.ensures.1 in
    rw (p.1, p.2) (says-parts (TellsLeft r f) (MayBeBadAhead r f) (MayBeBadAhead r f) f h _ _ (Err p.0) given.0.0 (g.K.Sink.written c.write_reply.new.out) (g.K.Sink.written c.give_digits.new.out) c.in_ok-write_reply.ensures.text given.0.1 c.in_err-write_reply-in-Err-Read.ensures.text
    (λ taken. absurd (false≢true taken)))

pub returns-in_ok-write_reply-in-Err-Read-clause-tells : goal.returns-in_ok-write_reply-in-Err-Read-clause-tells
returns-in_ok-write_reply-in-Err-Read-clause-tells g c =
    let r = c.args.reader.now in
    let f = g.F.Flash.state c.args.flash.now in
    let h = g.F.Flash.state c.give_digits.new.flash in
    let unread : c.in-Err-Read.field-0 ≡ Read c.in-Err-Read.fault = c.in-Err-Read.field-0-is in
    let given = rw (c.in-Err-Read.is, unread) at c.give_digits.ensures.digits in
    let caused = rw (c.in-Err-Read.is, unread) at c.give_digits.ensures.unread in
    let said : Written (g.K.Sink.written c.write_reply-in-Err-Read.new.out) (g.K.Sink.written c.write_reply-in-Err-Read-2.new.out) c.write_reply-in-Err-Read-2.result (text (read_reply c.in-Err-Read.fault)) =
    subst (λ (l : List ℕ). Written (g.K.Sink.written c.write_reply-in-Err-Read.new.out) (g.K.Sink.written c.write_reply-in-Err-Read-2.new.out) c.write_reply-in-Err-Read-2.result l) c.read_reply.ensures c.write_reply-in-Err-Read-2.ensures.text in
    says-cut (TellsLeft r f) (MayBeBadAhead r f) (MayBeBadAhead r f) f h _ _ _ given.0.0 (g.K.Sink.written c.write_reply.new.out) (g.K.Sink.written c.give_digits.new.out) (g.K.Sink.written c.write_reply-in-Err-Read.new.out) c.in-Err-Read.fault caused given.1 c.in_ok-write_reply.ensures.text given.0.1
    c.in_ok-write_reply-in-Err-Read.ensures.text said

pub returns-in_err-write_reply-clause-counts : goal.returns-in_err-write_reply-clause-counts
returns-in_err-write_reply-clause-counts g c = OnlyReads-same _

pub returns-in_err-write_reply-clause-lies : goal.returns-in_err-write_reply-clause-lies
returns-in_err-write_reply-clause-lies g c = c.requires.lies

pub returns-in_err-write_reply-clause-data : goal.returns-in_err-write_reply-clause-data
returns-in_err-write_reply-clause-data g c = refl

pub returns-in_err-write_reply-clause-buffer : goal.returns-in_err-write_reply-clause-buffer
returns-in_err-write_reply-clause-buffer g c = refl

pub returns-in_err-write_reply-clause-reads : goal.returns-in_err-write_reply-clause-reads
returns-in_err-write_reply-clause-reads g c = λ ready whole. no-more _ _

pub returns-in_err-write_reply-clause-cause : goal.returns-in_err-write_reply-clause-cause
returns-in_err-write_reply-clause-cause g c = let p = err_from_is_err_and c.from_residual.result c.from_residual.ensures.1 in record { later = c.write_reply.ensures.cause.later; failed = rw p.1 c.in_err-write_reply.ensures.cause.failed }

pub returns-in-Ok-clause-counts : goal.returns-in-Ok-clause-counts
returns-in-Ok-clause-counts g c = c.give_digits.ensures.counts

pub returns-in-Ok-clause-lies : goal.returns-in-Ok-clause-lies
returns-in-Ok-clause-lies g c = c.give_digits.ensures.lies

pub returns-in-Ok-clause-data : goal.returns-in-Ok-clause-data
returns-in-Ok-clause-data g c = c.give_digits.ensures.data

pub returns-in-Ok-clause-buffer : goal.returns-in-Ok-clause-buffer
returns-in-Ok-clause-buffer g c = c.give_digits.ensures.buffer

pub returns-in-Ok-clause-reads : goal.returns-in-Ok-clause-reads
returns-in-Ok-clause-reads g c = c.give_digits.ensures.reads

pub returns-in-Err-Sink-clause-counts : goal.returns-in-Err-Sink-clause-counts
returns-in-Err-Sink-clause-counts g c = c.give_digits.ensures.counts

pub returns-in-Err-Sink-clause-lies : goal.returns-in-Err-Sink-clause-lies
returns-in-Err-Sink-clause-lies g c = c.give_digits.ensures.lies

pub returns-in-Err-Sink-clause-data : goal.returns-in-Err-Sink-clause-data
returns-in-Err-Sink-clause-data g c = c.give_digits.ensures.data

pub returns-in-Err-Sink-clause-buffer : goal.returns-in-Err-Sink-clause-buffer
returns-in-Err-Sink-clause-buffer g c = c.give_digits.ensures.buffer

pub returns-in-Err-Sink-clause-reads : goal.returns-in-Err-Sink-clause-reads
returns-in-Err-Sink-clause-reads g c = c.give_digits.ensures.reads

pub returns-in_err-write_reply-in-Err-Read-clause-counts : goal.returns-in_err-write_reply-in-Err-Read-clause-counts
returns-in_err-write_reply-in-Err-Read-clause-counts g c = c.give_digits.ensures.counts

pub returns-in_err-write_reply-in-Err-Read-clause-lies : goal.returns-in_err-write_reply-in-Err-Read-clause-lies
returns-in_err-write_reply-in-Err-Read-clause-lies g c = c.give_digits.ensures.lies

pub returns-in_err-write_reply-in-Err-Read-clause-data : goal.returns-in_err-write_reply-in-Err-Read-clause-data
returns-in_err-write_reply-in-Err-Read-clause-data g c = c.give_digits.ensures.data

pub returns-in_err-write_reply-in-Err-Read-clause-buffer : goal.returns-in_err-write_reply-in-Err-Read-clause-buffer
returns-in_err-write_reply-in-Err-Read-clause-buffer g c = c.give_digits.ensures.buffer

pub returns-in_err-write_reply-in-Err-Read-clause-reads : goal.returns-in_err-write_reply-in-Err-Read-clause-reads
returns-in_err-write_reply-in-Err-Read-clause-reads g c = c.give_digits.ensures.reads

pub returns-in_ok-write_reply-in-Err-Read-clause-counts : goal.returns-in_ok-write_reply-in-Err-Read-clause-counts
returns-in_ok-write_reply-in-Err-Read-clause-counts g c = c.give_digits.ensures.counts

pub returns-in_ok-write_reply-in-Err-Read-clause-lies : goal.returns-in_ok-write_reply-in-Err-Read-clause-lies
returns-in_ok-write_reply-in-Err-Read-clause-lies g c = c.give_digits.ensures.lies

pub returns-in_ok-write_reply-in-Err-Read-clause-data : goal.returns-in_ok-write_reply-in-Err-Read-clause-data
returns-in_ok-write_reply-in-Err-Read-clause-data g c = c.give_digits.ensures.data

pub returns-in_ok-write_reply-in-Err-Read-clause-buffer : goal.returns-in_ok-write_reply-in-Err-Read-clause-buffer
returns-in_ok-write_reply-in-Err-Read-clause-buffer g c = c.give_digits.ensures.buffer

pub returns-in_ok-write_reply-in-Err-Read-clause-reads : goal.returns-in_ok-write_reply-in-Err-Read-clause-reads
returns-in_ok-write_reply-in-Err-Read-clause-reads g c = c.give_digits.ensures.reads

pub give_digits-requires : goal.give_digits-requires
give_digits-requires g c = record { lies = c.requires.lies }
