use Rattle.std.proofs.Common.{rules, ◌≡◌, Some, length, sym, ◌∙◌, ap, slice_get}
use Rattle.fl_model.specs.Bare.{bare, bare_table}
use Rattle.fl_frame.specs.Contents.{contents_of}
use Rattle.fl_table.specs.Look.{layout_in}
use Rattle.fl_table.specs.declared.table.Table.{Table}
use Rattle.fl_store.specs.Tables.{first_of}
use Rattle.fl_store.proofs.Called.{entry-at, own-entry}
use Rattle.fl_store.proofs.Queried.{columns-are, lies-unlogged, runs-unlogged, stands-at}
use Rattle.fl_store.proofs.TablesOnlyRead.{is-standing}
use Rattle.fl_store.proofs.tables.Tables.scan.Goals as goal

pub begin-requires : goal.begin-requires
begin-requires c =
    (search rules, (search rules, runs-unlogged c.table.result.now c.index.result.now c.table.ensures (c.requires.running c.index.result.now (entry-at c.args.self.now.entries.items c.args.at c.index.result.now c.requires.at c.index.ensures))))

pub returns-clause-left : goal.returns-clause-left
returns-clause-left c = λ config f tables plan table reaches lie h own.
    let here : slice_get c.args.self.now.entries.items c.args.at ≡ Some c.index.result.now = entry-at c.args.self.now.entries.items c.args.at c.index.result.now c.requires.at c.index.ensures in
    let lies = lies-unlogged c.table.result.now c.index.result.now c.table.ensures (lie c.args.at c.index.result.now here) in
    let stands = stands-at c.table.result.now c.index.result.now c.table.ensures c.args.self.now.entries.items c.args.at here config f tables plan table h own in (
      c.begin.ensures.told (contents_of f) (is-standing c.table.result.now f (first_of config.plans c.args.at) (bare plan) (bare_table table) h.medium.told reaches lies stands),
      c.begin.ensures.left f (first_of config.plans c.args.at) (bare plan) (bare_table table) h.medium.told reaches lies stands,
    )

pub returns-clause-ready : goal.returns-clause-ready
returns-clause-ready c = λ f lie rows index.
    c.begin.ensures.ready f (lies-unlogged c.table.result.now c.index.result.now c.table.ensures (lie c.args.at c.index.result.now (entry-at c.args.self.now.entries.items c.args.at c.index.result.now c.requires.at c.index.ensures))) rows index

pub returns-clause-columns : goal.returns-clause-columns
returns-clause-columns c =
    ap (λ (t : Table 64 64). length (layout_in t).columns) c.begin.ensures.table ∙ columns-are c.table.result.now c.index.result.now c.table.ensures c.args.self.now.entries.items c.args.at (entry-at c.args.self.now.entries.items c.args.at c.index.result.now c.requires.at c.index.ensures)

pub returns-clause-mark : goal.returns-clause-mark
returns-clause-mark c = λ entry e. rw (own-entry c.args.self.now.entries.items c.args.at c.index.result.now entry c.requires.at c.index.ensures e, sym c.table.ensures) c.begin.ensures.mark

pub returns-clause-table : goal.returns-clause-table
returns-clause-table c = λ entry e. rw (own-entry c.args.self.now.entries.items c.args.at c.index.result.now entry c.requires.at c.index.ensures e) (c.begin.ensures.table ∙ c.table.ensures)
