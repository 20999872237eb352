use Rattle.std.proofs.Common.{◌∙◌}
use Rattle.fl_store.proofs.Called.{entry-at}
use Rattle.fl_store.proofs.Queried.{columns-are}
use Rattle.fl_store.proofs.store.Store.columns.Goals as goal

pub returns : goal.returns
returns g c =
    c.columns.ensures.exact ∙ columns-are c.table.result.now c.index.result.now c.table.ensures c.args.self.now.tables.entries.items c.args.at (entry-at c.args.self.now.tables.entries.items c.args.at c.index.result.now c.requires c.index.ensures)
