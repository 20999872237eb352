use Rattle.std.proofs.Common.{rules, ◌≡◌, Some, ◌∙◌, subst, IfSome, slice_get}
use Rattle.fl_model.specs.Bare.{bare, bare_table}
use Rattle.fl_frame.proofs.ContentsInTurn.{OnlyReads-goes}
use Rattle.fl_rlc.specs.Table.{table_in}
use Rattle.fl_table.specs.BlobAt.{data_in}
use Rattle.fl_table.specs.declared.table.Table.{Table}
use Rattle.fl_var.specs.Reading.{Opens, count_left, data_of}
use Rattle.fl_store.specs.Tables.{first_of}
use Rattle.fl_store.specs.declared.tables.Entry.{Entry}
use Rattle.fl_store.proofs.Called.{entry-at}
use Rattle.fl_store.proofs.Queried.{blobs-are, lies-unlogged, runs-unlogged, stands-at}
use Rattle.fl_store.proofs.Readers.{finds-held, made-so, ready-kept}
use Rattle.fl_store.proofs.TablesChanged.{some-is}
use Rattle.fl_store.proofs.TablesLie.{lie-on}
use Rattle.fl_store.proofs.tables.Tables.blob.Goals as goal

pub blob_at-requires : goal.blob_at-requires
blob_at-requires g c =
    let here : slice_get c.args.self.now.entries.items c.args.at ≡ Some c.index.result.now = entry-at c.args.self.now.entries.items c.args.at c.index.result.now c.requires.at c.index.ensures in
    let some = blobs-are c.table-table.result.now c.index.result.now c.table-table.ensures c.args.self.now.entries.items c.args.at here ∙ c.requires.blobs in
    (search rules, (runs-unlogged c.table-table.result.now c.index.result.now c.table-table.ensures (c.requires.running c.index.result.now here), (some, (lies-unlogged c.table-table.result.now c.index.result.now c.table-table.ensures (c.requires.lie c.args.at c.index.result.now here), c.requires.room))))

pub returns-clause-finds : goal.returns-clause-finds
returns-clause-finds g c = λ config tables plan table i item bytes h own slot blob_is place_is.
    finds-held table item bytes (g.F.Flash.state c.args.flash.now) (g.F.Flash.state c.blob_at.new.flash) 1 c.blob_at.ensures.reads c.blob_at.result
    (c.blob_at.ensures.finds (first_of config.plans c.args.at) (bare plan) (bare_table table) i item bytes h.medium.told
    (stands-at c.table-table.result.now c.index.result.now c.table-table.ensures c.args.self.now.entries.items c.args.at (entry-at c.args.self.now.entries.items c.args.at c.index.result.now c.requires.at c.index.ensures) config _ tables plan table h own) slot blob_is place_is)

pub returns-clause-opens : goal.returns-clause-opens
returns-clause-opens g c = λ entry e told.
    subst (λ (x : Entry). IfSome (data_in (table_in x.table)) (λ var. Opens var (g.F.Flash.state c.args.flash.now) c.args.place c.blob_at.result)) (some-is (slice_get c.args.self.now.entries.items c.args.at) c.index.result.now entry (entry-at c.args.self.now.entries.items c.args.at c.index.result.now c.requires.at c.index.ensures) e)
    (subst (λ (x : Table 64 64). IfSome (data_in x) (λ var. Opens var (g.F.Flash.state c.args.flash.now) c.args.place c.blob_at.result)) c.table-table.ensures (c.blob_at.ensures.opens told))

pub returns-clause-ready : goal.returns-clause-ready
returns-clause-ready g c = λ told.
    let some = blobs-are c.table-table.result.now c.index.result.now c.table-table.ensures c.args.self.now.entries.items c.args.at (entry-at c.args.self.now.entries.items c.args.at c.index.result.now c.requires.at c.index.ensures) ∙ c.requires.blobs in
    ready-kept (data_in c.table-table.result.now) (g.F.Flash.state c.args.flash.now) (g.F.Flash.state c.blob_at.new.flash) 1 c.args.place c.blob_at.ensures.reads some c.blob_at.result (c.blob_at.ensures.opens told)

pub returns-clause-lies : goal.returns-clause-lies
returns-clause-lies g c = c.blob_at.ensures.data

pub returns-clause-left : goal.returns-clause-left
returns-clause-left g c = made-so (λ r. (Some (data_of r) ≡ data_in c.table-table.result.now) × (count_left r ≡ c.args.place.length)) (λ r. count_left r ≡ c.args.place.length) (λ r h. h.1) c.blob_at.result c.blob_at.ensures.var

pub returns-clause-lie : goal.returns-clause-lie
returns-clause-lie g c = lie-on c.args.self.now.entries.items _ _ (OnlyReads-goes _ _ c.blob_at.ensures.counts) c.requires.lie
