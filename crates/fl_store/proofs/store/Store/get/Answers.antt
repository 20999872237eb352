use Rattle.std.proofs.Common.{rules, ◌≡◌, true, Option, Some, IfErr, sym, ◌∙◌, slice_get, IfSome}
use Rattle.fl_model.specs.Bare.{bare, bare_table}
use Rattle.fl_frame.proofs.ContentsInTurn.{OnlyReads-goes}
use Rattle.fl_table.specs.Finding.{BlamesFor, HasKeyAt, IsAnswered, is_covered_in}
use Rattle.fl_table.specs.declared.find.RowAt.{RowAt}
use Rattle.fl_table.specs.declared.table.Table.{Table}
use Rattle.fl_store.specs.Tables.{first_of}
use Rattle.fl_store.proofs.Called.{entry-at}
use Rattle.fl_store.proofs.TablesLie.{lie-on}
use Rattle.fl_store.proofs.Queried.{at-place, fails-at, found-at, get-ends, lies-unlogged, rows-in, runs-unlogged, stands-at}
use Rattle.fl_store.proofs.HeldStores.{held-read}
use Rattle.fl_store.proofs.TablesOnlyRead.{page-read}
use Rattle.fl_store.proofs.store.Store.get.Goals as goal

pub find-requires : goal.find-requires
find-requires g c =
    let here : slice_get c.args.self.now.tables.entries.items c.args.at ≡ Some c.index.result.now = entry-at c.args.self.now.tables.entries.items c.args.at c.index.result.now c.requires.at c.index.ensures in
    (search rules, (runs-unlogged c.table-table.result.now c.index.result.now c.table-table.ensures (c.requires.running c.index.result.now here), (lies-unlogged c.table-table.result.now c.index.result.now c.table-table.ensures (c.requires.lie c.args.at c.index.result.now here), c.requires.room.rows)))

pub returns-clause-finds : goal.returns-clause-finds
returns-clause-finds g c = λ config tables plan table h own.
    get-ends plan table c.args.key _ _ c.find.new.buf c.find.result
    (c.find.ensures.find.finds (first_of config.plans c.args.at) (bare plan) (bare_table table) h.medium.told
    (stands-at c.table-table.result.now c.index.result.now c.table-table.ensures c.args.self.now.tables.entries.items c.args.at (entry-at c.args.self.now.tables.entries.items c.args.at c.index.result.now c.requires.at c.index.ensures) config _ tables plan table h own))

pub returns-clause-here : goal.returns-clause-here
returns-clause-here g c =
    rows-in c.table-table.result.now c.index.result.now c.table-table.ensures c.args.self.now.tables.entries.items c.args.at (entry-at c.args.self.now.tables.entries.items c.args.at c.index.result.now c.requires.at c.index.ensures) c.find.new.buf c.find.result c.find.ensures.row.here

pub returns-clause-holds : goal.returns-clause-holds
returns-clause-holds g c = λ config tables h.
    held-read config c.args.self.now.tables.entries.items _ _ tables c.find.ensures.flash.counts h

pub returns-clause-fails : goal.returns-clause-fails
returns-clause-fails g c =
    fails-at c.table-table.result.now c.index.result.now c.table-table.ensures c.args.self.now.tables.entries.items c.args.at (entry-at c.args.self.now.tables.entries.items c.args.at c.index.result.now c.requires.at c.index.ensures) _ _ c.find.result c.find.ensures.row.fails

pub returns-clause-blames : goal.returns-clause-blames
returns-clause-blames g c =
    at-place c.table-table.result.now c.index.result.now c.table-table.ensures c.args.self.now.tables.entries.items c.args.at (entry-at c.args.self.now.tables.entries.items c.args.at c.index.result.now c.requires.at c.index.ensures) (λ (x : Table 64 64). is_covered_in x c.args.key ≡ true → IfErr c.find.result (BlamesFor x _ c.args.key)) c.find.ensures.row.blames

pub returns-clause-lie : goal.returns-clause-lie
returns-clause-lie g c = lie-on c.args.self.now.tables.entries.items _ _ (OnlyReads-goes _ _ c.find.ensures.flash.counts) c.requires.lie

pub returns-clause-room : goal.returns-clause-room
returns-clause-room g c =
    let page = sym (page-read _ _ c.find.ensures.flash.counts) in
    record { rows = c.find.ensures.flash.room ∙ (c.requires.room.rows ∙ page); index = c.requires.room.index ∙ page }

pub returns-clause-key : goal.returns-clause-key
returns-clause-key g c =
    found-at c.table-table.result.now c.index.result.now c.table-table.ensures c.args.self.now.tables.entries.items c.args.at (entry-at c.args.self.now.tables.entries.items c.args.at c.index.result.now c.requires.at c.index.ensures) (λ (x : Table 64 64) (found : Option RowAt). IfSome found (HasKeyAt x c.find.new.buf c.args.key)) c.find.result c.find.ensures.row.key

pub returns-clause-answers : goal.returns-clause-answers
returns-clause-answers g c =
    found-at c.table-table.result.now c.index.result.now c.table-table.ensures c.args.self.now.tables.entries.items c.args.at (entry-at c.args.self.now.tables.entries.items c.args.at c.index.result.now c.requires.at c.index.ensures) (λ (x : Table 64 64) (found : Option RowAt). IsAnswered x _ c.args.key found) c.find.result c.find.ensures.row.answers

pub returns-clause-reads : goal.returns-clause-reads
returns-clause-reads g c = c.find.ensures.flash.counts
