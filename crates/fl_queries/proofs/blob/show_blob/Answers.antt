use Rattle.std.proofs.Common.{◌∙◌, ℕ, List, inr, refl, subst}
use Rattle.fl_frame.proofs.ContentsInTurn.{OnlyReads-then, OnlyReads-reads}
use Rattle.fl_script.specs.Written.{Written}
use Rattle.fl_words.specs.Reply.{Absent, NoBlob}
use Rattle.fl_table.proofs.Finds.{lookup-caused}
use Rattle.fl_store.proofs.TablesOnlyRead.{stands-read, tells-read}
use Rattle.fl_queries.specs.BlobSays.{AnswersBlob, IsBadIn, IsBadNamed, MayBeBadFor, TellsBlob}
use Rattle.fl_queries.proofs.AnyBlobs.{says-later, says-none_read, says-one}
use Rattle.fl_queries.proofs.BadBlobs.{answers-held, looked-bad, named-bad}
use Rattle.fl_queries.proofs.BlobShows.{shows-absent, shows-none, shows-said, shows-unread, content-same}
use Rattle.fl_queries.proofs.blob.show_blob.Goals as goal

pub returns-in-Ok-NoRecord-clause-shows : goal.returns-in-Ok-NoRecord-clause-shows
returns-in-Ok-NoRecord-clause-shows g c = λ first plan t tells on stands.
    let finds = rw (c.in-Ok-NoRecord.is, c.in-Ok-NoRecord.field-0-is) at (c.find_blob.ensures.finds first plan t tells stands) in
    shows-absent plan t c.args.key _ _ _ _ _ _ _ finds c.write_reply.ensures.text (c.find_blob.ensures.reads first plan t tells stands)

pub returns-in-Ok-NoBlob-clause-shows : goal.returns-in-Ok-NoBlob-clause-shows
returns-in-Ok-NoBlob-clause-shows g c = λ first plan t tells on stands.
    let finds = rw (c.in-Ok-NoBlob.is, c.in-Ok-NoBlob.field-0-is) at (c.find_blob.ensures.finds first plan t tells stands) in
    shows-none plan t c.args.key _ _ _ _ _ _ _ finds.0 finds.1 finds.2 c.write_reply-in-Ok-NoBlob.ensures.text (c.find_blob.ensures.reads first plan t tells stands)

pub returns-in-Ok-At-clause-counts : goal.returns-in-Ok-At-clause-counts
returns-in-Ok-At-clause-counts g c = OnlyReads-then _ _ _ c.find_blob.ensures.counts c.show_at.ensures.counts

pub returns-in-Ok-At-clause-shows : goal.returns-in-Ok-At-clause-shows
returns-in-Ok-At-clause-shows g c = λ first plan t tells on stands.
    let f = g.F.Flash.state c.args.flash.now in
    let h = g.F.Flash.state c.find_blob.new.flash in
    let only = c.find_blob.ensures.counts in
    let names = rw (c.in-Ok-At.is, c.in-Ok-At.field-0-is) at (c.find_blob.ensures.finds first plan t tells stands) in
    let kept = stands-read f h only c.args.table.now first plan t stands in
    let says = c.show_at.ensures.says first plan t names.slot names.entry names.bytes (tells-read f h only tells) (only.power ∙ on) kept names.here names.blob_is names.at_is in
    let more = c.show_at.ensures.reads first plan t names.slot names.entry names.bytes (tells-read f h only tells) kept names.here names.blob_is names.at_is in
    shows-said plan t c.args.key _ _ _ _ _ _ _ c.in-Ok-At.at names _ h.work.reads h.media.faults (content-same c.args.table.now f first plan t stands) says only.faults (OnlyReads-reads f h only) (c.find_blob.ensures.reads first plan t tells stands) more

pub returns-in-Err-clause-shows : goal.returns-in-Err-clause-shows
returns-in-Err-clause-shows g c = λ first plan t tells on stands.
    let finds = rw c.in-Err.is at (c.find_blob.ensures.finds first plan t tells stands) in
    let fails = rw c.in-Err.is at c.find_blob.ensures.fails in
    let cause = lookup-caused c.args.table.now (g.F.Flash.state c.args.flash.now) (g.F.Flash.state c.find_blob.new.flash) c.in-Err.fault fails in
    shows-unread plan t c.args.key _ _ _ _ _ _ _ (g.F.Flash.state c.args.flash.now) (g.F.Flash.state c.find_blob.new.flash) c.in-Err.fault refl refl refl refl on cause finds
    (subst (λ (l : List ℕ). Written (g.K.Sink.written c.args.out.now) (g.K.Sink.written c.write_reply-in-Err.new.out) c.write_reply-in-Err.result l) c.read_reply.ensures c.write_reply-in-Err.ensures.text) (c.find_blob.ensures.reads first plan t tells stands)

pub returns-in-Ok-NoRecord-clause-tells : goal.returns-in-Ok-NoRecord-clause-tells
returns-in-Ok-NoRecord-clause-tells g c =
    let f = g.F.Flash.state c.args.flash.now in
    let t = c.args.table.now in
    let key = c.args.key in
    let names = rw (c.in-Ok-NoRecord.is, c.in-Ok-NoRecord.field-0-is) at c.find_blob.ensures.names in
    says-one (AnswersBlob t key f) (MayBeBadFor t key f) (IsBadNamed t key f) f (g.F.Flash.state c.find_blob.new.flash) _ _ _ Absent tt names c.write_reply.ensures.text

pub returns-in-Ok-NoBlob-clause-tells : goal.returns-in-Ok-NoBlob-clause-tells
returns-in-Ok-NoBlob-clause-tells g c =
    let f = g.F.Flash.state c.args.flash.now in
    let t = c.args.table.now in
    let key = c.args.key in
    let names = rw (c.in-Ok-NoBlob.is, c.in-Ok-NoBlob.field-0-is) at c.find_blob.ensures.names in
    says-one (AnswersBlob t key f) (MayBeBadFor t key f) (IsBadNamed t key f) f (g.F.Flash.state c.find_blob.new.flash) _ _ _ NoBlob tt names c.write_reply-in-Ok-NoBlob.ensures.text

pub returns-in-Ok-At-clause-tells : goal.returns-in-Ok-At-clause-tells
returns-in-Ok-At-clause-tells g c =
    let f = g.F.Flash.state c.args.flash.now in
    let h = g.F.Flash.state c.find_blob.new.flash in
    let t = c.args.table.now in
    let key = c.args.key in
    let at = c.in-Ok-At.at in
    let names = rw (c.in-Ok-At.is, c.in-Ok-At.field-0-is) at c.find_blob.ensures.names in
    let bad = named-bad f h c.find_blob.ensures.counts t key at names in
    says-later (TellsBlob t h at) (AnswersBlob t key f) (IsBadIn t h at) (IsBadIn t h at) (MayBeBadFor t key f) (IsBadNamed t key f) f h (g.F.Flash.state c.show_at.new.flash) c.find_blob.ensures.counts
    (answers-held t key f h c.find_blob.ensures.counts at names) (λ page is. inr (bad page is)) bad _ _ _ c.show_at.ensures.tells

pub returns-in-Err-clause-tells : goal.returns-in-Err-clause-tells
returns-in-Err-clause-tells g c =
    let f = g.F.Flash.state c.args.flash.now in
    let h = g.F.Flash.state c.find_blob.new.flash in
    let t = c.args.table.now in
    let key = c.args.key in
    let fails = rw c.in-Err.is at c.find_blob.ensures.fails in
    let blames = rw c.in-Err.is at c.find_blob.ensures.blames in
    let cause = lookup-caused t f h c.in-Err.fault fails in
    says-none_read (AnswersBlob t key f) (MayBeBadFor t key f) (IsBadNamed t key f) f h _ _ _ c.in-Err.fault cause (looked-bad t key f h c.in-Err.fault fails blames)
    (subst (λ (l : List ℕ). Written (g.K.Sink.written c.args.out.now) (g.K.Sink.written c.write_reply-in-Err.new.out) c.write_reply-in-Err.result l) c.read_reply.ensures c.write_reply-in-Err.ensures.text)
