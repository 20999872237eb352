use Rattle.std.proofs.Common.{refl}
use Rattle.fl_model.specs.Bare.{bare, bare_table}
use Rattle.fl_store.specs.Tables.{first_of}
use Rattle.fl_store.proofs.Called.{entry-at, own-entry}
use Rattle.fl_store.proofs.Queried.{stands-at}
use Rattle.fl_store.proofs.store.Store.counts.Goals as goal

pub returns-clause-holds : goal.returns-clause-holds
returns-clause-holds g c = λ config tables plan table h own.
    c.counts.ensures.stands _ (first_of config.plans c.args.at) (bare plan) (bare_table table)
    (stands-at c.table.result.now c.index.result.now c.table.ensures c.args.self.now.tables.entries.items c.args.at (entry-at c.args.self.now.tables.entries.items c.args.at c.index.result.now c.requires c.index.ensures) config _ tables plan table h own)

pub returns-clause-exact : goal.returns-clause-exact
returns-clause-exact g c = λ entry e. rw (own-entry c.args.self.now.tables.entries.items c.args.at c.index.result.now entry c.requires c.index.ensures e, c.counts.ensures.exact, c.table.ensures) refl
