use Rattle.std.proofs.Common.{rules, ◌≡◌, Some, ap, sym, ◌∙◌, slice_get}
use Rattle.fl_rlc.specs.Table.{is_running, table_in}
use Rattle.fl_table.specs.Causes.{flush_breaks}
use Rattle.fl_table.specs.Memory.{pending_in}
use Rattle.fl_store.specs.Tables.{first_of}
use Rattle.fl_store.specs.declared.tables.Entry.{Entry}
use Rattle.fl_store.proofs.Called.{entry-at, flush-ends, flush-refused, own-entry, same-entries, stands-here}
use Rattle.fl_store.proofs.InMemory.{flush-flushes, flush-runs, leaves-others, same-after}
use Rattle.fl_store.proofs.TablesLie.{lie-with}
use Rattle.fl_rlc.proofs.Written.{all-rings}
use Rattle.fl_store.proofs.store.Store.flush.Goals as goal

pub flush-requires : goal.flush-requires
flush-requires g c = (search rules, c.requires.lie c.args.at c.index_mut.result.now (entry-at c.args.self.now.tables.entries.items c.args.at c.index_mut.result.now c.requires.at c.index_mut.ensures.value))

pub returns-clause-ends : goal.returns-clause-ends
returns-clause-ends g c = λ config tables plan table rose device watched h own.
    let here : slice_get c.args.self.now.tables.entries.items c.args.at ≡ Some c.index_mut.result.now = entry-at c.args.self.now.tables.entries.items c.args.at c.index_mut.result.now c.requires.at c.index_mut.ensures.value in
    flush-ends config tables c.args.self.now.tables.entries.items c.args.at c.index_mut.result.now plan table c.flush.new.self _ _ h here own c.flush.ensures.flash.goes c.flush.ensures.table.same c.flush.ensures.flash.outside rose device c.flush.result
    (c.flush.ensures.flush (first_of config.plans c.args.at) plan table rose device watched
    (stands-here config tables c.args.self.now.tables.entries.items c.args.at c.index_mut.result.now plan table _ h here own))

pub returns-clause-stopped : goal.returns-clause-stopped
returns-clause-stopped g c = λ entry e. rw (own-entry c.args.self.now.tables.entries.items c.args.at c.index_mut.result.now entry c.requires.at c.index_mut.ensures.value e) c.flush.ensures.exact

pub returns-clause-running : goal.returns-clause-running
returns-clause-running g c =
    flush-runs c.args.self.now.tables.entries.items c.args.at c.index_mut.result.now c.flush.new.self
    (entry-at c.args.self.now.tables.entries.items c.args.at c.index_mut.result.now c.requires.at c.index_mut.ensures.value) c.flush.result c.flush.ensures.table.running

pub returns-clause-lie : goal.returns-clause-lie
returns-clause-lie g c =
    lie-with c.args.self.now.tables.entries.items c.args.at c.index_mut.result.now c.flush.new.self _ _
    (entry-at c.args.self.now.tables.entries.items c.args.at c.index_mut.result.now c.requires.at c.index_mut.ensures.value) c.flush.ensures.flash.goes c.requires.lie c.flush.ensures.table.lies

pub returns-clause-flushes : goal.returns-clause-flushes
returns-clause-flushes g c =
    flush-flushes c.args.self.now.tables.entries.items c.args.at c.index_mut.result.now c.flush.new.self
    (entry-at c.args.self.now.tables.entries.items c.args.at c.index_mut.result.now c.requires.at c.index_mut.ensures.value) c.flush.result c.flush.ensures.memory.none c.flush.ensures.memory.last c.flush.ensures.memory.seals c.flush.ensures.memory.begins

pub returns-clause-refused : goal.returns-clause-refused
returns-clause-refused g c =
    flush-refused c.args.self.now.tables.entries.items c.args.at c.index_mut.result.now c.flush.new.self
    (entry-at c.args.self.now.tables.entries.items c.args.at c.index_mut.result.now c.requires.at c.index_mut.ensures.value) c.flush.result c.flush.ensures.memory.refused

pub returns-clause-quiet : goal.returns-clause-quiet
returns-clause-quiet g c = λ entry e running none.
    let is = own-entry c.args.self.now.tables.entries.items c.args.at c.index_mut.result.now entry c.requires.at c.index_mut.ensures.value e in
    let quiet = c.flush.ensures.page.quiet (ap (λ (x : Entry). is_running x.table) (sym is) ∙ running) (ap (λ (x : Entry). pending_in (table_in x.table)) (sym is) ∙ none) in
    (quiet.0, same-entries c.args.self.now.tables.entries.items c.args.at c.index_mut.result.now c.flush.new.self (entry-at c.args.self.now.tables.entries.items c.args.at c.index_mut.result.now c.requires.at c.index_mut.ensures.value) quiet.1, quiet.2)

pub returns-clause-off : goal.returns-clause-off
returns-clause-off g c = λ entry e. rw (own-entry c.args.self.now.tables.entries.items c.args.at c.index_mut.result.now entry c.requires.at c.index_mut.ensures.value e) c.flush.ensures.page.off

pub returns-clause-leaves : goal.returns-clause-leaves
returns-clause-leaves g c =
    leaves-others c.args.self.now.tables.entries.items c.args.at c.index_mut.result.now c.flush.new.self
    (entry-at c.args.self.now.tables.entries.items c.args.at c.index_mut.result.now c.requires.at c.index_mut.ensures.value) (flush_breaks c.flush.result) c.flush.ensures.table.running c.flush.ensures.table.stopped

pub returns-clause-same : goal.returns-clause-same
returns-clause-same g c =
    same-after c.args.self.now.tables.entries.items c.args.at c.index_mut.result.now c.flush.new.self
    (entry-at c.args.self.now.tables.entries.items c.args.at c.index_mut.result.now c.requires.at c.index_mut.ensures.value) c.flush.ensures.table.same

pub returns-clause-outside : goal.returns-clause-outside
returns-clause-outside g c = λ entry e. rw (own-entry c.args.self.now.tables.entries.items c.args.at c.index_mut.result.now entry c.requires.at c.index_mut.ensures.value e) c.flush.ensures.flash.outside

pub returns-clause-media_reads : goal.returns-clause-media_reads
returns-clause-media_reads g c = λ entry e. rw (own-entry c.args.self.now.tables.entries.items c.args.at c.index_mut.result.now entry c.requires.at c.index_mut.ensures.value e) (all-rings c.index_mut.result.now.table _ _ c.flush.ensures.flash.media_reads)

pub returns-clause-writes : goal.returns-clause-writes
returns-clause-writes g c = λ entry e. rw (own-entry c.args.self.now.tables.entries.items c.args.at c.index_mut.result.now entry c.requires.at c.index_mut.ensures.value e) c.flush.ensures.flash.writes

pub returns-clause-sealed : goal.returns-clause-sealed
returns-clause-sealed g c = λ entry e. rw (own-entry c.args.self.now.tables.entries.items c.args.at c.index_mut.result.now entry c.requires.at c.index_mut.ensures.value e) c.flush.ensures.page.sealed
