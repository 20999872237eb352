use Rattle.std.proofs.Common.{rules, ◌≤◌, Option, IfSome, length, sym, ◌∙◌, ap, subst, arith}
use Rattle.fl_base.specs.declared.types.BlobRef.{BlobRef}
use Rattle.fl_model.specs.Agrees.{BlobsOf}
use Rattle.fl_model.specs.Ring.{Ring}
use Rattle.fl_frame.proofs.ContentsInTurn.{OnlyReads-then}
use Rattle.fl_var.specs.Reading.{data_of}
use Rattle.fl_store.proofs.Readers.{buffer-fits, data-lies, data-stands, opened-ready}
use Rattle.fl_export.proofs.Records.{empty-stands}
use Rattle.fl_export.proofs.blob.read_blob.Goals as goal

pub blob_reader-reader-requires : goal.blob_reader-reader-requires
blob_reader-reader-requires g c =
    (search rules, (c.requires.running, (c.requires.blobs, c.requires.room ∙ buffer-fits c.args.table.now (g.F.Flash.state c.args.flash.now) c.requires.lies c.requires.blobs)))

pub open-stands-requires : goal.open-stands-requires
open-stands-requires g c = record { lies = data-lies c.args.table.now (g.F.Flash.state c.args.flash.now) c.requires.lies _ c.blob_reader-reader.ensures.var }

pub returns-then-at-eq0-clause-finds : goal.returns-then-at-eq0-clause-finds
returns-then-at-eq0-clause-finds g c = λ first plan t i entry blob tells stands slot blob_is at_is.
    rw c.clear.ensures.items (empty-stands t entry blob blob_is (sym (ap (λ (a : BlobRef). a.length) at_is) ∙ c.if-at-eq0.true))

pub returns-clause-counts : goal.returns-clause-counts
returns-clause-counts g c = OnlyReads-then _ _ _ c.open-stands.ensures.counts c.take_opened-taken.ensures.counts

pub returns-clause-unread : goal.returns-clause-unread
returns-clause-unread g c = c.take_opened-taken.ensures.unread (g.F.Flash.state c.args.flash.now) c.open-stands.ensures.counts c.open-stands.ensures.fails

pub returns-clause-finds : goal.returns-clause-finds
returns-clause-finds g c = λ first plan t i entry blob tells stands slot blob_is at_is.
    let f = g.F.Flash.state c.args.flash.now in
    let v = data_of c.blob_reader-reader.result in
    let full : 1 ≤ c.args.at.length = search rules in
    let some : 1 ≤ length blob = omega (arith, ap (λ (a : BlobRef). a.length) at_is, full) in
    c.take_opened-taken.ensures.finds t entry blob f (c.clear.ensures.items) (record {
      some = some;
      only = c.open-stands.ensures.reads;
      ready = opened-ready v f c.args.at c.open-stands.result c.open-stands.new.self (c.open-stands.ensures.opens tells);
      finds = c.open-stands.ensures.finds plan t entry blob tells (data-stands c.args.table.now f c.requires.lies v c.blob_reader-reader.ensures.var first plan t stands).in_pages blob_is at_is
          (λ ring ring_is here some. subst (λ (o : Option Ring). IfSome o (BlobsOf plan t)) ring_is stands.facts.agrees.blobs i entry blob slot blob_is some here);
    })
