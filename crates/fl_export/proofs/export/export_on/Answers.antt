use Rattle.std.proofs.Common.{◌≡◌, inr, IsTrue, false, true, sym, ◌∙◌, subst, arith}
use Rattle.std.proofs.Math.Nat.{le_refl}
use Rattle.std.proofs.lemmas.Option.{slice_get_within}
use Rattle.fl_frame.proofs.ContentsInTurn.{OnlyReads-goes}
use Rattle.fl_frame.proofs.CallsInTurn.{goes-then}
use Rattle.fl_frame.proofs.WatchedInTurn.{unarmed-then}
use Rattle.fl_image.specs.declared.status.ToolStatus.{ToolStatus}
use Rattle.fl_image.specs.declared.status.ToolStatus.TheVariants.{Done}
use Rattle.fl_model.specs.Bare.{bare, bare_table}
use Rattle.fl_table.specs.Memory.{is_running, LiesOn}
use Rattle.fl_table.specs.Standing.{Stands}
use Rattle.fl_table.specs.declared.table.Table.{Table}
use Rattle.fl_store.proofs.Called.{entry-at}
use Rattle.fl_store.specs.Tables.{first_of}
use Rattle.fl_store.specs.Store.{at_rest}
use Rattle.fl_export.specs.Tables.{EndsOn, IsOfTable}
use Rattle.fl_export.proofs.FlashEnds.{unmounted, broken-device, own, done, failed}
use Rattle.fl_store.proofs.TableByName.{stands-there}
use Rattle.fl_store.proofs.ImageRepairs.{repaired-read}
use Rattle.fl_export.proofs.Statuses.{done-good, done-no-device, done-quiet, fault-of-table, fault-place, fault-rose, fault-sink, mount-quiet}
use Rattle.fl_store.proofs.MountStatuses.{by-mount, mount-rose, mount-place}
use Rattle.fl_store.proofs.Risen.{has_risen, watched}
use Rattle.fl_export.proofs.OverBytes.{bad-table, reads-over, refuses-over}
use Rattle.fl_export.proofs.export.export_on.Goals as goal

pub mount_status-requires : goal.mount_status-requires
mount_status-requires g c = omega (arith, slice_get_within c.mount.new.self.entries.items c.in-Err.bad.at c.in-Err.ensures.stops.entry c.in-Err.ensures.stops.here, c.mount.ensures.as_many, c.requires.few)

pub returns-in-Err-clause-statuses : goal.returns-in-Err-clause-statuses
returns-in-Err-clause-statuses g c = subst IsOfTable (sym c.mount_status.ensures) (by-mount IsOfTable c.in-Err.bad.fault c.in-Err.bad.at tt tt)

pub returns-in-Err-clause-write : goal.returns-in-Err-clause-write
returns-in-Err-clause-write g c = λ is. absurd (mount-quiet c.in-Err.bad.fault c.in-Err.bad.at (sym c.mount_status.ensures ∙ is))

pub returns-in-Err-clause-device : goal.returns-in-Err-clause-device
returns-in-Err-clause-device g c = λ is. mount-rose (g.F.Flash.state c.args.flash.now) (g.F.Flash.state c.mount.new.flash) c.in-Err.bad.fault c.in-Err.bad.at c.requires.unarmed (sym c.mount_status.ensures ∙ is) c.in-Err.ensures.cause

pub returns-in-Err-clause-bad : goal.returns-in-Err-clause-bad
returns-in-Err-clause-bad g c = λ table is.
    omega (arith, mount-place c.in-Err.bad.fault c.in-Err.bad.at table (sym c.mount_status.ensures ∙ is), slice_get_within c.mount.new.self.entries.items c.in-Err.bad.at c.in-Err.ensures.stops.entry c.in-Err.ensures.stops.here, c.mount.ensures.as_many)

pub returns-in-Err-clause-ends : goal.returns-in-Err-clause-ends
returns-in-Err-clause-ends g c = λ plans ts name tells on calm stand named.
    let f = g.F.Flash.state c.args.flash.now in
    let m = g.F.Flash.state c.mount.new.flash in
    subst (λ (s : ToolStatus). EndsOn plans ts name c.args.range f m (g.K.Sink.written c.args.out.now) (g.K.Sink.written c.args.out.now) c.mount.new.self.entries.items s) (sym c.mount_status.ensures)
    (unmounted plans ts name c.args.range f m (g.K.Sink.written c.args.out.now) c.mount.new.self.entries.items
    (stands-there f (λ i. false) plans c.args.tables.now.entries.items ts name c.args.at stand named) c.in-Err.bad.fault c.in-Err.bad.at (c.in-Err.ensures.ends plans ts (has_risen f m) at_rest (watched f m at_rest tells on calm) stand))

pub returns-in-Err-write_table-clause-device : goal.returns-in-Err-write_table-clause-device
returns-in-Err-write_table-clause-device g c = λ is.
    let rose = fault-rose (g.F.Flash.state c.mount.new.flash) (g.F.Flash.state c.write_table.new.flash) c.in-Err-write_table.fault c.args.at (unarmed-then _ _ c.requires.unarmed c.mount.ensures.goes).on (sym c.status_of.ensures ∙ is) c.in-Err-write_table.ensures.unread in
    omega (arith, c.mount.ensures.goes.faults, rose)

pub returns-in-Err-write_table-clause-bad : goal.returns-in-Err-write_table-clause-bad
returns-in-Err-write_table-clause-bad g c = λ table is. omega (arith, fault-place c.in-Err-write_table.fault c.args.at table (sym c.status_of.ensures ∙ is), c.requires.at)

pub write_table-requires-clause-running : goal.write_table-requires-clause-running
write_table-requires-clause-running g c =
    subst (λ (t : Table 64 64). is_running t ≡ true) (sym c.table-table.ensures) (c.in_default.ensures.running c.args.at c.index.result.now (entry-at c.mount.new.self.entries.items c.args.at c.index.result.now (omega (arith, c.requires.at, c.mount.ensures.as_many)) c.index.ensures))

pub write_table-requires-clause-lies : goal.write_table-requires-clause-lies
write_table-requires-clause-lies g c =
    subst (λ (t : Table 64 64). LiesOn t (g.F.Flash.state c.mount.new.flash)) (sym c.table-table.ensures) (c.mount.ensures.lie c.args.at c.index.result.now (entry-at c.mount.new.self.entries.items c.args.at c.index.result.now (omega (arith, c.requires.at, c.mount.ensures.as_many)) c.index.ensures)).table

pub returns-in-Ok-clause-ends : goal.returns-in-Ok-clause-ends
returns-in-Ok-clause-ends g c = λ plans ts name tells on calm stand named.
    let f = g.F.Flash.state c.args.flash.now in
    let m = g.F.Flash.state c.mount.new.flash in
    let h = g.F.Flash.state c.write_table.new.flash in
    let now = c.mount.new.self.entries.items in
    let here = entry-at c.mount.new.self.entries.items c.args.at c.index.result.now (omega (arith, c.requires.at, c.mount.ensures.as_many)) c.index.ensures in
    let mounted = c.in_default.ensures.ends plans ts (has_risen f m) at_rest (watched f m at_rest tells on calm) stand in
    let told : IsTrue m.media.tells = subst IsTrue (sym c.mount.ensures.goes.tells) tells in
    let at = own plans ts name c.args.range f m h (g.K.Sink.written c.args.out.now) (g.K.Sink.written c.write_table.new.out) c.args.tables.now.entries.items now c.args.at c.index.result.now c.mount.ensures.goes.faults c.write_table.ensures.counts stand named here mounted in
    done plans ts name c.args.range f m h (g.K.Sink.written c.args.out.now) (g.K.Sink.written c.write_table.new.out) c.args.tables.now.entries.items now c.args.at c.index.result.now c.mount.ensures.goes.faults c.write_table.ensures.counts stand named here mounted
    (c.in-Ok.ensures.writes (first_of plans c.args.at) (bare at.plan) (bare_table at.table) told (subst (λ (t : Table 64 64). Stands t m (first_of plans c.args.at) (bare at.plan) (bare_table at.table)) (sym c.table-table.ensures) at.stands.on_flash.unlogged))

pub returns-in-Err-write_table-clause-ends : goal.returns-in-Err-write_table-clause-ends
returns-in-Err-write_table-clause-ends g c = λ plans ts name tells on calm stand named.
    let f = g.F.Flash.state c.args.flash.now in
    let m = g.F.Flash.state c.mount.new.flash in
    let h = g.F.Flash.state c.write_table.new.flash in
    let now = c.mount.new.self.entries.items in
    let here = entry-at c.mount.new.self.entries.items c.args.at c.index.result.now (omega (arith, c.requires.at, c.mount.ensures.as_many)) c.index.ensures in
    let mounted = c.in_default.ensures.ends plans ts (has_risen f m) at_rest (watched f m at_rest tells on calm) stand in
    let told : IsTrue m.media.tells = subst IsTrue (sym c.mount.ensures.goes.tells) tells in
    let at = own plans ts name c.args.range f m h (g.K.Sink.written c.args.out.now) (g.K.Sink.written c.write_table.new.out) c.args.tables.now.entries.items now c.args.at c.index.result.now c.mount.ensures.goes.faults c.write_table.ensures.counts stand named here mounted in
    let stood = subst (λ (t : Table 64 64). Stands t m (first_of plans c.args.at) (bare at.plan) (bare_table at.table)) (sym c.table-table.ensures) at.stands.on_flash.unlogged in
    let end = failed plans ts name c.args.range f m h (g.K.Sink.written c.args.out.now) (g.K.Sink.written c.write_table.new.out) c.args.tables.now.entries.items now c.args.at c.index.result.now c.mount.ensures.goes.faults c.write_table.ensures.counts stand named here mounted
    c.in-Err-write_table.fault c.args.at (c.in-Err-write_table.ensures.writes (first_of plans c.args.at) (bare at.plan) (bare_table at.table) told stood) (unarmed-then _ _ c.requires.unarmed c.mount.ensures.goes).on c.in-Err-write_table.ensures.unread in
    subst (λ (s : ToolStatus). EndsOn plans ts name c.args.range (g.F.Flash.state c.args.flash.now) (g.F.Flash.state c.write_table.new.flash) (g.K.Sink.written c.args.out.now) (g.K.Sink.written c.write_table.new.out) c.mount.new.self.entries.items s) (sym c.status_of.ensures) end

pub returns-in-Err-clause-repairs : goal.returns-in-Err-clause-repairs
returns-in-Err-clause-repairs g c = λ plans ts name tells on calm stand named well.
    let f = g.F.Flash.state c.args.flash.now in
    let m = g.F.Flash.state c.mount.new.flash in
    absurd (well (c.mount_status.ensures ∙ broken-device plans ts name c.args.range f m (g.K.Sink.written c.args.out.now) c.mount.new.self.entries.items
    (stands-there f (λ i. false) plans c.args.tables.now.entries.items ts name c.args.at stand named) c.in-Err.bad.fault c.in-Err.bad.at (c.in-Err.ensures.ends plans ts (has_risen f m) at_rest (watched f m at_rest tells on calm) stand)))

pub returns-in-Ok-clause-repairs : goal.returns-in-Ok-clause-repairs
returns-in-Ok-clause-repairs g c = λ plans ts name tells on calm stand named well page lt.
    repaired-read plans (g.F.Flash.state c.args.flash.now).geometry page (g.F.Flash.state c.args.flash.now) (g.F.Flash.state c.mount.new.flash) (g.F.Flash.state c.write_table.new.flash) c.write_table.ensures.counts
    (c.in_default.ensures.repaired tells plans ts stand (inr (has_risen (g.F.Flash.state c.args.flash.now) (g.F.Flash.state c.mount.new.flash), at_rest, watched (g.F.Flash.state c.args.flash.now) (g.F.Flash.state c.mount.new.flash) at_rest tells on calm)) page lt)

pub returns-in-Err-write_table-clause-repairs : goal.returns-in-Err-write_table-clause-repairs
returns-in-Err-write_table-clause-repairs g c = λ plans ts name tells on calm stand named well page lt.
    repaired-read plans (g.F.Flash.state c.args.flash.now).geometry page (g.F.Flash.state c.args.flash.now) (g.F.Flash.state c.mount.new.flash) (g.F.Flash.state c.write_table.new.flash) c.write_table.ensures.counts
    (c.in_default.ensures.repaired tells plans ts stand (inr (has_risen (g.F.Flash.state c.args.flash.now) (g.F.Flash.state c.mount.new.flash), at_rest, watched (g.F.Flash.state c.args.flash.now) (g.F.Flash.state c.mount.new.flash) at_rest tells on calm)) page lt)

pub returns-in-Ok-clause-goes : goal.returns-in-Ok-clause-goes
returns-in-Ok-clause-goes g c = goes-then _ _ _ c.mount.ensures.goes (OnlyReads-goes _ _ c.write_table.ensures.counts)

pub returns-in-Err-write_table-clause-goes : goal.returns-in-Err-write_table-clause-goes
returns-in-Err-write_table-clause-goes g c = goes-then _ _ _ c.mount.ensures.goes (OnlyReads-goes _ _ c.write_table.ensures.counts)

pub returns-in-Err-clause-over : goal.returns-in-Err-clause-over
returns-in-Err-clause-over g c =
    let e = c.mount.ensures in
    refuses-over _ _ _ _ c.mount.result (record { found = e.found; refused = e.refused; stops = e.stops; cause = e.cause; running = e.running; none = e.none; power = e.power; as_many = e.as_many; names = e.names; same = e.same; repairs = e.repairs; outside = e.outside }) c.mount_status.result c.args.out.now c.args.at c.in-Err.bad c.in-Err.is c.mount_status.ensures

pub returns-in-Ok-clause-over : goal.returns-in-Ok-clause-over
returns-in-Ok-clause-over g c =
    let e = c.mount.ensures in
    reads-over _ _ _ _ c.mount.result (record { found = e.found; refused = e.refused; stops = e.stops; cause = e.cause; running = e.running; none = e.none; power = e.power; as_many = e.as_many; names = e.names; same = e.same; repairs = e.repairs; outside = e.outside }) Done c.args.out.now c.write_table.new.out c.args.at (g.F.Flash.state c.write_table.new.flash) tt c.in_default.is c.write_table.ensures.counts (λ table is. absurd (done-good table is))

pub returns-in-Err-write_table-clause-over : goal.returns-in-Err-write_table-clause-over
returns-in-Err-write_table-clause-over g c =
    let e = c.mount.ensures in
    reads-over _ _ _ _ c.mount.result (record { found = e.found; refused = e.refused; stops = e.stops; cause = e.cause; running = e.running; none = e.none; power = e.power; as_many = e.as_many; names = e.names; same = e.same; repairs = e.repairs; outside = e.outside }) c.status_of.result c.args.out.now c.write_table.new.out c.args.at (g.F.Flash.state c.write_table.new.flash) tt c.in_default.is c.write_table.ensures.counts
    (λ table is. bad-table c.mount.new.self.entries.items c.args.at c.index.result.now c.table-table.result.now (g.F.Flash.state c.mount.new.flash) c.in-Err-write_table.fault c.status_of.result table (entry-at c.mount.new.self.entries.items c.args.at c.index.result.now (omega (arith, c.requires.at, c.mount.ensures.as_many)) c.index.ensures) c.table-table.ensures c.status_of.ensures is c.in-Err-write_table.ensures.bad)

pub returns-in-Err-clause-goes : goal.returns-in-Err-clause-goes
returns-in-Err-clause-goes g c = c.mount.ensures.goes

pub returns-in-Err-clause-later : goal.returns-in-Err-clause-later
returns-in-Err-clause-later g c = le_refl (g.K.Sink.faults c.args.out.now)

pub returns-in-Ok-clause-later : goal.returns-in-Ok-clause-later
returns-in-Ok-clause-later g c = c.write_table.ensures.later

pub returns-in-Ok-clause-write : goal.returns-in-Ok-clause-write
returns-in-Ok-clause-write g c = λ is. absurd (done-quiet is)

pub returns-in-Ok-clause-statuses : goal.returns-in-Ok-clause-statuses
returns-in-Ok-clause-statuses g c = tt

pub returns-in-Ok-clause-device : goal.returns-in-Ok-clause-device
returns-in-Ok-clause-device g c = λ is. absurd (done-no-device is)

pub returns-in-Ok-clause-bad : goal.returns-in-Ok-clause-bad
returns-in-Ok-clause-bad g c = λ table is. absurd (done-good table is)

pub returns-in-Err-write_table-clause-later : goal.returns-in-Err-write_table-clause-later
returns-in-Err-write_table-clause-later g c = c.write_table.ensures.later

pub returns-in-Err-write_table-clause-write : goal.returns-in-Err-write_table-clause-write
returns-in-Err-write_table-clause-write g c = λ is. fault-sink _ c.in-Err-write_table.fault c.args.at (sym c.status_of.ensures ∙ is) c.in-Err-write_table.ensures.sink

pub returns-in-Err-write_table-clause-statuses : goal.returns-in-Err-write_table-clause-statuses
returns-in-Err-write_table-clause-statuses g c = subst IsOfTable (sym c.status_of.ensures) (fault-of-table c.in-Err-write_table.fault c.args.at)
