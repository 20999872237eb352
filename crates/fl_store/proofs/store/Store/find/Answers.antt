use Rattle.fl_store.proofs.Queried.{finds-named}
use Rattle.fl_store.proofs.store.Store.find.Goals as goal

pub returns : goal.returns
returns g c = finds-named c.args.self.now.tables.entries.items c.args.name.now _ c.find.result c.in-Some.ensures.bytes c.find.ensures
