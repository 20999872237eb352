use Rattle.std.proofs.Common.{rules, ◌≡◌, Some, slice_get}
use Rattle.fl_table.specs.Causes.{put_breaks}
use Rattle.fl_store.specs.Tables.{first_of}
use Rattle.fl_store.proofs.Called.{entry-at, own-entry, put-ends, put-logged, put-refused, stands-here}
use Rattle.fl_store.proofs.InMemory.{leaves-others, put-runs, put-takes, same-after}
use Rattle.fl_store.proofs.TablesLie.{lie-with}
use Rattle.fl_rlc.proofs.Written.{apart-reads}
use Rattle.fl_store.proofs.store.Store.put.Goals as goal

pub put-requires : goal.put-requires
put-requires g c = (search rules, c.requires.lie c.args.at c.index_mut-entry.result.now (entry-at c.args.self.now.tables.entries.items c.args.at c.index_mut-entry.result.now c.requires.at c.index_mut-entry.ensures.value))

pub returns-clause-ends : goal.returns-clause-ends
returns-clause-ends g c = λ config tables plan table rose device watched h own.
    let here : slice_get c.args.self.now.tables.entries.items c.args.at ≡ Some c.index_mut-entry.result.now = entry-at c.args.self.now.tables.entries.items c.args.at c.index_mut-entry.result.now c.requires.at c.index_mut-entry.ensures.value in
    put-ends config tables c.args.self.now.tables.entries.items c.args.at c.index_mut-entry.result.now plan table c.put.new.self _ _ h here own c.put.ensures.flash.goes c.put.ensures.table.same c.put.ensures.flash.outside _ rose device c.put.result
    (c.put.ensures.put (first_of config.plans c.args.at) plan table rose device watched
    (stands-here config tables c.args.self.now.tables.entries.items c.args.at c.index_mut-entry.result.now plan table _ h here own))

pub returns-clause-exact : goal.returns-clause-exact
returns-clause-exact g c = λ entry e. rw (own-entry c.args.self.now.tables.entries.items c.args.at c.index_mut-entry.result.now entry c.requires.at c.index_mut-entry.ensures.value e) c.put.ensures.exact

pub returns-clause-refused : goal.returns-clause-refused
returns-clause-refused g c =
    put-refused c.args.self.now.tables.entries.items c.args.at c.index_mut-entry.result.now c.put.new.self
    (entry-at c.args.self.now.tables.entries.items c.args.at c.index_mut-entry.result.now c.requires.at c.index_mut-entry.ensures.value) _ _ c.put.result c.put.ensures.memory.refused

pub returns-clause-running : goal.returns-clause-running
returns-clause-running g c =
    put-runs c.args.self.now.tables.entries.items c.args.at c.index_mut-entry.result.now c.put.new.self
    (entry-at c.args.self.now.tables.entries.items c.args.at c.index_mut-entry.result.now c.requires.at c.index_mut-entry.ensures.value) c.put.result c.put.ensures.table.running

pub returns-clause-lie : goal.returns-clause-lie
returns-clause-lie g c =
    lie-with c.args.self.now.tables.entries.items c.args.at c.index_mut-entry.result.now c.put.new.self _ _
    (entry-at c.args.self.now.tables.entries.items c.args.at c.index_mut-entry.result.now c.requires.at c.index_mut-entry.ensures.value) c.put.ensures.flash.goes c.requires.lie c.put.ensures.table.lies

pub returns-clause-takes : goal.returns-clause-takes
returns-clause-takes g c =
    put-takes c.args.self.now.tables.entries.items c.args.at c.index_mut-entry.result.now c.put.new.self
    (entry-at c.args.self.now.tables.entries.items c.args.at c.index_mut-entry.result.now c.requires.at c.index_mut-entry.ensures.value) _ c.put.result c.put.ensures.memory.last c.put.ensures.memory.stores c.put.ensures.memory.logs

pub returns-clause-quiet : goal.returns-clause-quiet
returns-clause-quiet g c = λ entry e. rw (own-entry c.args.self.now.tables.entries.items c.args.at c.index_mut-entry.result.now entry c.requires.at c.index_mut-entry.ensures.value e) c.put.ensures.pages.quiet

pub returns-clause-off : goal.returns-clause-off
returns-clause-off g c = λ entry e. rw (own-entry c.args.self.now.tables.entries.items c.args.at c.index_mut-entry.result.now entry c.requires.at c.index_mut-entry.ensures.value e) c.put.ensures.pages.off

pub returns-clause-leaves : goal.returns-clause-leaves
returns-clause-leaves g c =
    leaves-others c.args.self.now.tables.entries.items c.args.at c.index_mut-entry.result.now c.put.new.self
    (entry-at c.args.self.now.tables.entries.items c.args.at c.index_mut-entry.result.now c.requires.at c.index_mut-entry.ensures.value) (put_breaks c.put.result) c.put.ensures.table.running c.put.ensures.table.stopped

pub returns-clause-same : goal.returns-clause-same
returns-clause-same g c =
    same-after c.args.self.now.tables.entries.items c.args.at c.index_mut-entry.result.now c.put.new.self
    (entry-at c.args.self.now.tables.entries.items c.args.at c.index_mut-entry.result.now c.requires.at c.index_mut-entry.ensures.value) c.put.ensures.table.same

pub returns-clause-outside : goal.returns-clause-outside
returns-clause-outside g c = λ entry e. rw (own-entry c.args.self.now.tables.entries.items c.args.at c.index_mut-entry.result.now entry c.requires.at c.index_mut-entry.ensures.value e) c.put.ensures.flash.outside

pub returns-clause-media_reads : goal.returns-clause-media_reads
returns-clause-media_reads g c = λ entry e. rw (own-entry c.args.self.now.tables.entries.items c.args.at c.index_mut-entry.result.now entry c.requires.at c.index_mut-entry.ensures.value e) (apart-reads _ _ _ _ c.put.ensures.flash.media_reads)

pub returns-clause-writes : goal.returns-clause-writes
returns-clause-writes g c = λ entry e. rw (own-entry c.args.self.now.tables.entries.items c.args.at c.index_mut-entry.result.now entry c.requires.at c.index_mut-entry.ensures.value e) c.put.ensures.flash.writes

pub returns-clause-sealed : goal.returns-clause-sealed
returns-clause-sealed g c = λ entry e. rw (own-entry c.args.self.now.tables.entries.items c.args.at c.index_mut-entry.result.now entry c.requires.at c.index_mut-entry.ensures.value e) c.put.ensures.pages.sealed

pub returns-clause-log_page : goal.returns-clause-log_page
returns-clause-log_page g c = λ entry e.
    put-logged c.args.self.now.tables.entries.items c.args.at c.index_mut-entry.result.now entry _ _ _ c.put.result (entry-at c.args.self.now.tables.entries.items c.args.at c.index_mut-entry.result.now c.requires.at c.index_mut-entry.ensures.value) e c.put.ensures.flash.goes c.put.ensures.pages.log_page
