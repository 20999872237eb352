use Rattle.std.proofs.Common.{◌≡◌, refl, sym, subst, true, Ok}
use Rattle.fl_schema.specs.Schema.{row_of}
use Rattle.fl_table.specs.BlobAt.{has_blobs}
use Rattle.fl_queries.specs.BlobShown.{IfNamed, FindsBlob}
use Rattle.fl_queries.specs.declared.blob.BlobFound.{BlobFound}
use Rattle.fl_queries.proofs.BlobShows.{named-has, finds-row, finds-unread}
use Rattle.fl_model.specs.Row.{Row}
use Rattle.fl_queries.specs.BlobSays.{NamesFor}
use Rattle.fl_queries.proofs.BadBlobs.{names-row}
use Rattle.fl_queries.proofs.Lookups.{finds-row as finds-there}
use Rattle.fl_queries.proofs.blob.find_blob.Goals as goal

pub returns-in-Ok-None-clause-finds : goal.returns-in-Ok-None-clause-finds
returns-in-Ok-None-clause-finds g c = λ first plan t told stands.
    let found = rw c.in-Ok-None.field-0-is at (c.in-Ok-None.ensures.find.finds first plan t told stands) in
    found.entry

pub returns-in-Ok-Some-clause-blobs : goal.returns-in-Ok-Some-clause-blobs
returns-in-Ok-Some-clause-blobs g c =
    subst (λ (x : BlobFound). IfNamed (has_blobs c.args.table.now ≡ true) x) (sym c.found_in.ensures) (named-has c.args.table.now c.row_at.result c.row_at.ensures.layout)

pub returns-in-Ok-Some-clause-finds : goal.returns-in-Ok-Some-clause-finds
returns-in-Ok-Some-clause-finds g c = λ first plan t told stands.
    let found = rw c.in-Ok-Some.field-0-is at (c.in-Ok-Some.ensures.find.finds first plan t told stands) in
    subst (λ (x : BlobFound). FindsBlob t c.args.key (Ok x)) (sym c.found_in.ensures)
    (finds-row plan t c.args.key c.find.new.buf c.in-Ok-Some.place (row_of c.row_at.result) found.entry (c.row_at.ensures.stands _ first plan t stands))

pub returns-in-Err-clause-finds : goal.returns-in-Err-clause-finds
returns-in-Err-clause-finds g c = λ first plan t told stands. finds-unread 64 plan t c.args.key (g.F.Flash.state c.args.flash.now).work.reads (g.F.Flash.state c.find.new.flash).work.reads c.find.new.buf c.in-Err.fault (c.in-Err.ensures.find.finds first plan t told stands)

pub returns-in-Ok-None-clause-names : goal.returns-in-Ok-None-clause-names
returns-in-Ok-None-clause-names g c = rw c.in-Ok-None.field-0-is at c.in-Ok-None.ensures.row.answers

pub returns-in-Ok-Some-clause-names : goal.returns-in-Ok-Some-clause-names
returns-in-Ok-Some-clause-names g c =
    let f = g.F.Flash.state c.args.flash.now in
    let row = row_of c.row_at.result in
    subst (λ (x : BlobFound). NamesFor c.args.table.now c.args.key (g.F.Flash.state c.args.flash.now) x) (sym c.found_in.ensures)
    (names-row c.args.table.now c.args.key f row
    (finds-there c.args.table.now c.args.key f (g.F.Flash.state c.find.new.flash) c.find.new.buf c.in-Ok-Some.place row (λ (r : Row). r ≡ row_of c.row_at.result) refl
    c.find.ensures.flash.counts (rw c.in-Ok-Some.field-0-is at c.in-Ok-Some.ensures.row.holds) c.row_at.ensures.row (rw c.in-Ok-Some.field-0-is at c.in-Ok-Some.ensures.row.key) (rw c.in-Ok-Some.field-0-is at c.in-Ok-Some.ensures.row.answers)))

pub returns-in-Ok-None-clause-counts : goal.returns-in-Ok-None-clause-counts
returns-in-Ok-None-clause-counts g c = c.find.ensures.flash.counts

pub returns-in-Ok-None-clause-lies : goal.returns-in-Ok-None-clause-lies
returns-in-Ok-None-clause-lies g c = c.find.ensures.flash.lies

pub returns-in-Ok-None-clause-room : goal.returns-in-Ok-None-clause-room
returns-in-Ok-None-clause-room g c = c.find.ensures.flash.room

pub returns-in-Ok-None-clause-reads : goal.returns-in-Ok-None-clause-reads
returns-in-Ok-None-clause-reads g c = c.find.ensures.find.reads

pub returns-in-Ok-Some-clause-counts : goal.returns-in-Ok-Some-clause-counts
returns-in-Ok-Some-clause-counts g c = c.find.ensures.flash.counts

pub returns-in-Ok-Some-clause-lies : goal.returns-in-Ok-Some-clause-lies
returns-in-Ok-Some-clause-lies g c = c.find.ensures.flash.lies

pub returns-in-Ok-Some-clause-room : goal.returns-in-Ok-Some-clause-room
returns-in-Ok-Some-clause-room g c = c.find.ensures.flash.room

pub returns-in-Ok-Some-clause-reads : goal.returns-in-Ok-Some-clause-reads
returns-in-Ok-Some-clause-reads g c = c.find.ensures.find.reads

pub returns-in-Err-clause-counts : goal.returns-in-Err-clause-counts
returns-in-Err-clause-counts g c = c.find.ensures.flash.counts

pub returns-in-Err-clause-lies : goal.returns-in-Err-clause-lies
returns-in-Err-clause-lies g c = c.find.ensures.flash.lies

pub returns-in-Err-clause-room : goal.returns-in-Err-clause-room
returns-in-Err-clause-room g c = c.find.ensures.flash.room

pub returns-in-Err-clause-reads : goal.returns-in-Err-clause-reads
returns-in-Err-clause-reads g c = c.find.ensures.find.reads

pub returns-in-Ok-None-clause-blobs : goal.returns-in-Ok-None-clause-blobs
returns-in-Ok-None-clause-blobs g c = tt

pub returns-in-Ok-None-clause-fails : goal.returns-in-Ok-None-clause-fails
returns-in-Ok-None-clause-fails g c = tt

pub returns-in-Ok-Some-clause-fails : goal.returns-in-Ok-Some-clause-fails
returns-in-Ok-Some-clause-fails g c = tt

pub returns-in-Err-clause-blobs : goal.returns-in-Err-clause-blobs
returns-in-Err-clause-blobs g c = tt

pub returns-in-Err-clause-names : goal.returns-in-Err-clause-names
returns-in-Err-clause-names g c = tt

pub returns-in-Err-clause-fails : goal.returns-in-Err-clause-fails
returns-in-Err-clause-fails g c = c.in-Err.ensures.row.fails

pub returns-in-Ok-None-clause-blames : goal.returns-in-Ok-None-clause-blames
returns-in-Ok-None-clause-blames g c = λ covered. tt

pub returns-in-Ok-Some-clause-blames : goal.returns-in-Ok-Some-clause-blames
returns-in-Ok-Some-clause-blames g c = λ covered. tt

pub returns-in-Err-clause-blames : goal.returns-in-Err-clause-blames
returns-in-Err-clause-blames g c = c.in-Err.ensures.row.blames
