use Rattle.std.proofs.Common.{rules, ◌≡◌, Some, length, ◌∙◌, ap}
use Rattle.fl_model.specs.Bare.{bare, bare_table}
use Rattle.fl_model.specs.Record.{RowLayout}
use Rattle.fl_schema.specs.Schema.{row_of}
use Rattle.fl_table.specs.Finding.{row_in}
use Rattle.fl_table.specs.declared.table.Table.{Table}
use Rattle.fl_store.specs.Tables.{first_of}
use Rattle.fl_store.proofs.Called.{entry-at}
use Rattle.fl_store.proofs.Queried.{at-place, columns-are, row-at, row-bare, stands-at}
use Rattle.fl_store.proofs.store.Store.row.Goals as goal

pub row_at-requires : goal.row_at-requires
row_at-requires g c =
    (search rules, row-at c.table.result.now c.index.result.now c.table.ensures c.args.self.now.tables.entries.items c.args.at (entry-at c.args.self.now.tables.entries.items c.args.at c.index.result.now c.requires.at c.index.ensures) c.args.pages.now.rows c.args.place c.requires.here)

pub returns-clause-row : goal.returns-clause-row
returns-clause-row g c = λ config tables plan table h own.
    row-bare plan table c.args.pages.now.rows c.args.place _
    (c.row_at.ensures.stands _ (first_of config.plans c.args.at) (bare plan) (bare_table table)
    (stands-at c.table.result.now c.index.result.now c.table.ensures c.args.self.now.tables.entries.items c.args.at (entry-at c.args.self.now.tables.entries.items c.args.at c.index.result.now c.requires.at c.index.ensures) config _ tables plan table h own))

pub returns-clause-columns : goal.returns-clause-columns
returns-clause-columns g c =
    ap (λ (l : RowLayout). length l.columns) c.row_at.ensures.layout ∙ columns-are c.table.result.now c.index.result.now c.table.ensures c.args.self.now.tables.entries.items c.args.at (entry-at c.args.self.now.tables.entries.items c.args.at c.index.result.now c.requires.at c.index.ensures)

pub returns-clause-exact : goal.returns-clause-exact
returns-clause-exact g c =
    at-place c.table.result.now c.index.result.now c.table.ensures c.args.self.now.tables.entries.items c.args.at (entry-at c.args.self.now.tables.entries.items c.args.at c.index.result.now c.requires.at c.index.ensures) (λ (x : Table 64 64). row_in x c.args.pages.now.rows c.args.place ≡ Some (row_of c.row_at.result)) c.row_at.ensures.row
