use Rattle.std.proofs.Common.{◌∙◌}
use Rattle.fl_store.proofs.Called.{entry-at}
use Rattle.fl_store.proofs.Queried.{blobs-are}
use Rattle.fl_store.proofs.store.Store.has_blobs.Goals as goal

pub returns : goal.returns
returns g c =
    c.has_blobs.ensures ∙ blobs-are c.table.result.now c.index.result.now c.table.ensures c.args.self.now.tables.entries.items c.args.at (entry-at c.args.self.now.tables.entries.items c.args.at c.index.result.now c.requires c.index.ensures)
