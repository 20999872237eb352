use Rattle.std.proofs.Common.{rules, ◌/◌, ◌<◌, ◌≤◌, length, sym, ◌∙◌, ap, arith}
use Rattle.fl_base.specs.declared.types.BlobRef.{BlobRef}
use Rattle.fl_frame.proofs.ContentsInTurn.{OnlyReads-then}
use Rattle.fl_table.specs.BlobAt.{content_in}
use Rattle.fl_var.specs.Reading.{data_of}
use Rattle.fl_store.proofs.Readers.{buffer-fits, data-lies, data-stands, opened-ready, room-same}
use Rattle.fl_queries.proofs.BlobShows.{says-empty, few-left, holds-blob}
use Rattle.fl_words.specs.Reply.{BytesEmpty}
use Rattle.fl_queries.specs.BlobSays.{IsBadIn, TellsBlob}
use Rattle.fl_queries.proofs.AnyBlobs.{says-one}
use Rattle.fl_queries.proofs.BadBlobs.{opened-ahead, opened-bad, opened-gone, opened-left}
use Rattle.fl_queries.proofs.blob.show_at.Goals as goal

pub returns-then-at-eq0-clause-says : goal.returns-then-at-eq0-clause-says
returns-then-at-eq0-clause-says g c = λ first plan t i entry bytes tells on stands slot blob_is at_is.
    says-empty _ _ _ _ _ _ _ t entry bytes blob_is (sym (ap (λ (a : BlobRef). a.length) at_is) ∙ c.if-at-eq0.true) c.write_reply.ensures.text

pub blob_reader-reader-requires : goal.blob_reader-reader-requires
blob_reader-reader-requires g c =
    (search rules, (c.requires.running, (c.requires.blobs, c.requires.room ∙ buffer-fits c.args.table.now (g.F.Flash.state c.args.flash.now) c.requires.lies c.requires.blobs)))

pub open-stands-requires : goal.open-stands-requires
open-stands-requires g c = record { lies = data-lies c.args.table.now (g.F.Flash.state c.args.flash.now) c.requires.lies _ c.blob_reader-reader.ensures.var }

pub returns-clause-counts : goal.returns-clause-counts
returns-clause-counts g c = OnlyReads-then _ _ _ c.open-stands.ensures.counts c.show_opened-written.ensures.counts

pub returns-clause-says : goal.returns-clause-says
returns-clause-says g c = λ first plan t i entry bytes tells on stands slot blob_is at_is.
    let f = g.F.Flash.state c.args.flash.now in
    let v = data_of c.blob_reader-reader.result in
    let full : 1 ≤ c.args.at.length = search rules in
    let some : 1 ≤ length bytes = omega (arith, ap (λ (a : BlobRef). a.length) at_is, full) in
    let all = data-stands c.args.table.now f c.requires.lies v c.blob_reader-reader.ensures.var first plan t stands in
    c.show_opened-written.ensures.says t entry bytes f on (record {
      some = some;
      only = c.open-stands.ensures.reads;
      counts = c.open-stands.ensures.counts;
      ready = opened-ready v f c.args.at c.open-stands.result c.open-stands.new.self (c.open-stands.ensures.opens tells);
      here = λ is. c.open-stands.ensures.here is full;
      counted = λ is. let left = rw is at c.open-stands.ensures.left in left ∙ ap (λ (a : BlobRef). a.length) at_is;
      finds = c.open-stands.ensures.finds plan t entry bytes tells all.in_pages blob_is at_is
          (holds-blob plan t i entry bytes stands.facts slot blob_is);
      fails = c.open-stands.ensures.fails;
    })

pub returns-then-at-eq0-clause-reads : goal.returns-then-at-eq0-clause-reads
returns-then-at-eq0-clause-reads g c = λ first plan t i entry bytes tells stands slot blob_is at_is. omega arith

pub returns-clause-reads : goal.returns-clause-reads
returns-clause-reads g c = λ first plan t i entry bytes tells stands slot blob_is at_is.
    let f = g.F.Flash.state c.args.flash.now in
    let v = data_of c.blob_reader-reader.result in
    let full : 1 ≤ c.args.at.length = search rules in
    let some : 1 ≤ length bytes = omega (arith, ap (λ (a : BlobRef). a.length) at_is, full) in
    let all = data-stands c.args.table.now f c.requires.lies v c.blob_reader-reader.ensures.var first plan t stands in
    let finds = c.open-stands.ensures.finds plan t entry bytes tells all.in_pages blob_is at_is (holds-blob plan t i entry bytes stands.facts slot blob_is) in
    let more = c.show_opened-written.ensures.reads t entry bytes f (record {
      some = some;
      only = c.open-stands.ensures.reads;
      counts = c.open-stands.ensures.counts;
      ready = opened-ready v f c.args.at c.open-stands.result c.open-stands.new.self (c.open-stands.ensures.opens tells);
      here = λ is. c.open-stands.ensures.here is full;
      counted = λ is. let left = rw is at c.open-stands.ensures.left in left ∙ ap (λ (a : BlobRef). a.length) at_is;
      finds = finds;
      fails = c.open-stands.ensures.fails;
    }) in
    let few = few-left c.open-stands.result c.open-stands.new.self t entry bytes f c.args.at.length (content_in c.args.table.now) finds (sym (ap (λ (a : BlobRef). a.length) at_is))
    (omega (arith, c.open-stands.ensures.few, ap (λ n. c.args.at.length / n) (room-same c.args.table.now f c.requires.lies v c.blob_reader-reader.ensures.var))) c.open-stands.ensures.left c.open-stands.ensures.no_more in
    omega (arith, more, few)

pub returns-then-at-eq0-clause-tells : goal.returns-then-at-eq0-clause-tells
returns-then-at-eq0-clause-tells g c =
    let f = g.F.Flash.state c.args.flash.now in
    let t = c.args.table.now in
    says-one (TellsBlob t f c.args.at) (IsBadIn t f c.args.at) (IsBadIn t f c.args.at) f f _ _ _ BytesEmpty tt c.if-at-eq0.true c.write_reply.ensures.text

pub returns-clause-tells : goal.returns-clause-tells
returns-clause-tells g c =
    let f = g.F.Flash.state c.args.flash.now in
    let h = g.F.Flash.state c.open-stands.new.flash in
    let t = c.args.table.now in
    let v = data_of c.blob_reader-reader.result in
    let full : 1 ≤ c.args.at.length = search rules in
    let some : 0 < c.args.at.length = omega (arith, full) in
    c.show_opened-written.ensures.tells t c.args.at f (record {
      gone = opened-gone t f h c.open-stands.ensures.reads v c.args.at c.open-stands.result c.open-stands.new.self c.blob_reader-reader.ensures.var c.open-stands.ensures.opens;
      left = λ is. opened-left t f h c.open-stands.ensures.reads v c.args.at c.open-stands.result c.open-stands.new.self c.blob_reader-reader.ensures.var c.open-stands.ensures.opens is some;
      only = c.open-stands.ensures.counts;
      fails = opened-bad t f h v c.args.at c.open-stands.result c.open-stands.new.self c.blob_reader-reader.ensures.var c.open-stands.ensures.opens c.open-stands.ensures.fails;
      ahead = λ is. opened-ahead t f h c.open-stands.ensures.reads v c.args.at c.open-stands.result c.open-stands.new.self c.blob_reader-reader.ensures.var c.open-stands.ensures.opens is some;
    })
