use Rattle.std.proofs.Common.{◌≡◌, ℕ, ◌<◌, inl, inr, true, false, IsTrue, Err, length, refl, sym, ◌∙◌, ap, subst, arith}
use Rattle.std.proofs.Math.Nat.{le_refl}
use Rattle.std.proofs.lemmas.Option.{slice_get_within}
use Rattle.fl_base.specs.declared.types.Geometry.{Geometry}
use Rattle.fl_base.proofs.Risen.{rose-back}
use Rattle.fl_frame.proofs.ContentsInTurn.{OnlyReads-goes}
use Rattle.fl_frame.proofs.CallsInTurn.{goes-then}
use Rattle.fl_frame.proofs.WatchedInTurn.{unarmed-then}
use Rattle.fl_store.specs.Store.{at_rest}
use Rattle.fl_store.proofs.TableByName.{stands-there}
use Rattle.fl_store.proofs.ImageRepairs.{repaired-read}
use Rattle.fl_store.proofs.Risen.{has_risen, watched}
use Rattle.fl_store.proofs.Changed.{own, own-works}
use Rattle.fl_store.proofs.Others.{others-repaired}
use Rattle.fl_model.specs.Bare.{bare, bare_table}
use Rattle.fl_table.specs.Look.{layout_in}
use Rattle.fl_table.specs.Memory.{is_running, LiesOn}
use Rattle.fl_table.specs.Standing.{Stands}
use Rattle.fl_table.specs.declared.table.Table.{Table}
use Rattle.fl_rlc.specs.Table.{table_in}
use Rattle.fl_store.specs.Tables.{first_of}
use Rattle.fl_store.proofs.Called.{entry-at}
use Rattle.fl_ship.specs.Tables.{IsOfTables}
use Rattle.fl_ship.specs.declared.side.Side.TheVariants.{Source, Copy}
use Rattle.fl_ship.specs.declared.stop.Stop.{Stop}
use Rattle.fl_ship.proofs.Forms.{form-after}
use Rattle.fl_ship.proofs.FlashEnds.{source-fails, copy-fails, shipped, stopped, broken-left, broken-device, read-left, mounted-left, changed-left}
use Rattle.fl_ship.proofs.Statuses.{mount-place, good-device, stop-good, stop-line, mount-rose, mount-side, mount-of-tables, mount-line, mount-quiet, sides-apart, stop-of-tables, stop-place, stop-quiet, stop-rose, told-is, told-line, told-of-tables}
use Rattle.fl_store.specs.MountsOver.{MountsOver}
use Rattle.fl_store.proofs.Jobs.{own-changes}
use Rattle.fl_ship.proofs.OverBytes.{bad-there, copy-refused, gap-there, source-refused, spent-there, tables-shipped, tells-shipped, tells-stopped}
use Rattle.fl_ship.proofs.tables.ship_on.Goals as goal

-- ---- the source's tables aren't mounted

pub returns-in-Err-clause-ends : goal.returns-in-Err-clause-ends
returns-in-Err-clause-ends g c = λ plans ts cs name tells c_tells on c_on calm c_calm stand c_stand named c_named.
    let f = g.A.Flash.state c.args.from.now in
    let m = g.A.Flash.state c.mount.new.flash in
    let has = stands-there f (λ i. false) plans c.args.sources.now.entries.items ts name c.args.at stand named in
    rw c.mount_status.ensures
    (source-fails plans ts cs name c.args.count has (g.K.Sink.written c.args.out.now) f m (g.B.Flash.state c.args.onto.now) c.mount.new.self.entries.items c.args.copies.now.entries.items c_stand c.in-Err.bad.fault c.in-Err.bad.at (c.in-Err.ensures.ends plans ts (has_risen f m) at_rest (watched f m at_rest tells on calm) stand))

pub returns-in-Err-clause-repairs : goal.returns-in-Err-clause-repairs
returns-in-Err-clause-repairs g c = λ plans ts name tells on calm stand named well.
    let f = g.A.Flash.state c.args.from.now in
    let m = g.A.Flash.state c.mount.new.flash in
    let has = stands-there f (λ i. false) plans c.args.sources.now.entries.items ts name c.args.at stand named in
    absurd (well (c.mount_status.ensures ∙ broken-device plans ts name has f m c.mount.new.self.entries.items c.in-Err.bad.fault c.in-Err.bad.at (c.in-Err.ensures.ends plans ts (has_risen f m) at_rest (watched f m at_rest tells on calm) stand) Source))

pub returns-in-Err-clause-stands : goal.returns-in-Err-clause-stands
returns-in-Err-clause-stands g c = λ plans ts name tells on calm stand named.
    let f = g.A.Flash.state c.args.from.now in
    let m = g.A.Flash.state c.mount.new.flash in
    let has = stands-there f (λ i. false) plans c.args.sources.now.entries.items ts name c.args.at stand named in
    broken-left plans ts name has f m c.mount.new.self.entries.items c.in-Err.bad.fault c.in-Err.bad.at (c.in-Err.ensures.ends plans ts (has_risen f m) at_rest (watched f m at_rest tells on calm) stand)

pub returns-in-Err-clause-good : goal.returns-in-Err-clause-good
returns-in-Err-clause-good g c = λ plans ts name table tells on calm stand named is.
    let f = g.A.Flash.state c.args.from.now in
    let m = g.A.Flash.state c.mount.new.flash in
    let has = stands-there f (λ i. false) plans c.args.sources.now.entries.items ts name c.args.at stand named in
    good-device Source Source table c.mount_status.result (c.mount_status.ensures ∙ broken-device plans ts name has f m c.mount.new.self.entries.items c.in-Err.bad.fault c.in-Err.bad.at (c.in-Err.ensures.ends plans ts (has_risen f m) at_rest (watched f m at_rest tells on calm) stand) Source) is

pub returns-in-Err-clause-device : goal.returns-in-Err-clause-device
returns-in-Err-clause-device g c = λ is.
    (mount-rose Source Source (g.A.Flash.state c.args.from.now) (g.A.Flash.state c.mount.new.flash) c.in-Err.bad.fault c.in-Err.bad.at c.requires.unarmed (sym c.mount_status.ensures ∙ is) c.in-Err.ensures.cause).1

pub returns-in-Err-clause-copy_device : goal.returns-in-Err-clause-copy_device
returns-in-Err-clause-copy_device g c = λ is.
    absurd (sides-apart (mount-rose Source Copy (g.A.Flash.state c.args.from.now) (g.A.Flash.state c.mount.new.flash) c.in-Err.bad.fault c.in-Err.bad.at c.requires.unarmed (sym c.mount_status.ensures ∙ is) c.in-Err.ensures.cause).0)

pub returns-in-Err-clause-bad : goal.returns-in-Err-clause-bad
returns-in-Err-clause-bad g c = λ side table is.
    omega (arith, mount-place Source side c.in-Err.bad.fault c.in-Err.bad.at table (sym c.mount_status.ensures ∙ is), slice_get_within c.mount.new.self.entries.items c.in-Err.bad.at c.in-Err.ensures.stops.entry c.in-Err.ensures.stops.here, c.mount.ensures.as_many)

-- ---- the copy's aren't

pub mount_status-requires-in-Err-mount : goal.mount_status-requires-in-Err-mount
mount_status-requires-in-Err-mount g c =
    omega (arith, slice_get_within c.mount-2.new.self.entries.items c.in-Err-mount.bad.at c.in-Err-mount.ensures.stops.entry c.in-Err-mount.ensures.stops.here, c.mount-2.ensures.as_many, c.requires.as_many, c.requires.few)

pub returns-in-Err-mount-clause-ends : goal.returns-in-Err-mount-clause-ends
returns-in-Err-mount-clause-ends g c = λ plans ts cs name tells c_tells on c_on calm c_calm stand c_stand named c_named.
    let f = g.A.Flash.state c.args.from.now in
    let m = g.A.Flash.state c.mount.new.flash in
    let o = g.B.Flash.state c.args.onto.now in
    let n = g.B.Flash.state c.mount-2.new.flash in
    let has = stands-there f (λ i. false) plans c.args.sources.now.entries.items ts name c.args.at stand named in
    let mounted = c.in_default.ensures.ends plans ts (has_risen f m) at_rest (watched f m at_rest tells on calm) stand in
    rw c.mount_status-in-Err-mount.ensures
    (copy-fails plans ts cs name c.args.count has (g.K.Sink.written c.args.out.now) f m o n c.mount.new.self.entries.items c.mount-2.new.self.entries.items mounted c.in-Err-mount.bad.fault c.in-Err-mount.bad.at (c.in-Err-mount.ensures.ends plans cs (has_risen o n) at_rest (watched o n at_rest c_tells c_on c_calm) c_stand))

pub returns-in-Err-mount-clause-repairs : goal.returns-in-Err-mount-clause-repairs
returns-in-Err-mount-clause-repairs g c = λ plans ts name tells on calm stand named well.
    let f = g.A.Flash.state c.args.from.now in
    let m = g.A.Flash.state c.mount.new.flash in
    c.in_default.ensures.repaired tells plans ts stand (inr (has_risen f m, at_rest, watched f m at_rest tells on calm))

pub returns-in-Err-mount-clause-others : goal.returns-in-Err-mount-clause-others
returns-in-Err-mount-clause-others g c = λ plans cs name tells on calm stand named well.
    let o = g.B.Flash.state c.args.onto.now in
    let n = g.B.Flash.state c.mount-2.new.flash in
    let has = stands-there o (λ i. false) plans c.args.copies.now.entries.items cs name c.args.at stand named in
    absurd (well (c.mount_status-in-Err-mount.ensures ∙ broken-device plans cs name has o n c.mount-2.new.self.entries.items c.in-Err-mount.bad.fault c.in-Err-mount.bad.at (c.in-Err-mount.ensures.ends plans cs (has_risen o n) at_rest (watched o n at_rest tells on calm) stand) Copy))

pub returns-in-Err-mount-clause-stands : goal.returns-in-Err-mount-clause-stands
returns-in-Err-mount-clause-stands g c = λ plans ts name tells on calm stand named.
    let f = g.A.Flash.state c.args.from.now in
    let m = g.A.Flash.state c.mount.new.flash in
    mounted-left plans ts f m c.mount.new.self.entries.items (c.in_default.ensures.ends plans ts (has_risen f m) at_rest (watched f m at_rest tells on calm) stand)

pub returns-in-Err-mount-clause-copy_stands : goal.returns-in-Err-mount-clause-copy_stands
returns-in-Err-mount-clause-copy_stands g c = λ plans cs name tells on calm stand named.
    let o = g.B.Flash.state c.args.onto.now in
    let n = g.B.Flash.state c.mount-2.new.flash in
    let has = stands-there o (λ i. false) plans c.args.copies.now.entries.items cs name c.args.at stand named in
    broken-left plans cs name has o n c.mount-2.new.self.entries.items c.in-Err-mount.bad.fault c.in-Err-mount.bad.at (c.in-Err-mount.ensures.ends plans cs (has_risen o n) at_rest (watched o n at_rest tells on calm) stand)

pub returns-in-Err-mount-clause-good_copy : goal.returns-in-Err-mount-clause-good_copy
returns-in-Err-mount-clause-good_copy g c = λ plans cs name table tells on calm stand named is.
    let o = g.B.Flash.state c.args.onto.now in
    let n = g.B.Flash.state c.mount-2.new.flash in
    let has = stands-there o (λ i. false) plans c.args.copies.now.entries.items cs name c.args.at stand named in
    good-device Copy Copy table c.mount_status-in-Err-mount.result (c.mount_status-in-Err-mount.ensures ∙ broken-device plans cs name has o n c.mount-2.new.self.entries.items c.in-Err-mount.bad.fault c.in-Err-mount.bad.at (c.in-Err-mount.ensures.ends plans cs (has_risen o n) at_rest (watched o n at_rest tells on calm) stand) Copy) is

pub returns-in-Err-mount-clause-device : goal.returns-in-Err-mount-clause-device
returns-in-Err-mount-clause-device g c = λ is.
    absurd (sides-apart (sym (mount-rose Copy Source (g.B.Flash.state c.args.onto.now) (g.B.Flash.state c.mount-2.new.flash) c.in-Err-mount.bad.fault c.in-Err-mount.bad.at c.requires.copy_unarmed (sym c.mount_status-in-Err-mount.ensures ∙ is) c.in-Err-mount.ensures.cause).0))

pub returns-in-Err-mount-clause-copy_device : goal.returns-in-Err-mount-clause-copy_device
returns-in-Err-mount-clause-copy_device g c = λ is.
    (mount-rose Copy Copy (g.B.Flash.state c.args.onto.now) (g.B.Flash.state c.mount-2.new.flash) c.in-Err-mount.bad.fault c.in-Err-mount.bad.at c.requires.copy_unarmed (sym c.mount_status-in-Err-mount.ensures ∙ is) c.in-Err-mount.ensures.cause).1

pub returns-in-Err-mount-clause-bad : goal.returns-in-Err-mount-clause-bad
returns-in-Err-mount-clause-bad g c = λ side table is.
    omega (
      arith,
      mount-place Copy side c.in-Err-mount.bad.fault c.in-Err-mount.bad.at table (sym c.mount_status-in-Err-mount.ensures ∙ is),
      slice_get_within c.mount-2.new.self.entries.items c.in-Err-mount.bad.at c.in-Err-mount.ensures.stops.entry c.in-Err-mount.ensures.stops.here,
      c.mount-2.ensures.as_many,
      c.requires.as_many,
    )

-- ---- both are mounted

pub ship_table-requires-clause-running : goal.ship_table-requires-clause-running
ship_table-requires-clause-running g c =
    let here = entry-at c.mount.new.self.entries.items c.args.at c.index.result.now (subst (λ (n : ℕ). c.args.at < n) (sym c.mount.ensures.as_many) c.requires.at) c.index.ensures in
    subst (λ (t : Table 64 64). is_running t ≡ true) (sym c.table-source.ensures) (c.in_default.ensures.running c.args.at c.index.result.now here)

pub ship_table-requires-clause-lies : goal.ship_table-requires-clause-lies
ship_table-requires-clause-lies g c =
    let here = entry-at c.mount.new.self.entries.items c.args.at c.index.result.now (subst (λ (n : ℕ). c.args.at < n) (sym c.mount.ensures.as_many) c.requires.at) c.index.ensures in
    subst (λ (t : Table 64 64). LiesOn t (g.A.Flash.state c.mount.new.flash)) (sym c.table-source.ensures) (c.mount.ensures.lie c.args.at c.index.result.now here).table

pub ship_table-requires-clause-copy_running : goal.ship_table-requires-clause-copy_running
ship_table-requires-clause-copy_running g c =
    let here = entry-at c.mount-2.new.self.entries.items c.args.at c.index_mut.result.now (subst (λ (n : ℕ). c.args.at < n) (sym (c.mount-2.ensures.as_many ∙ c.requires.as_many)) c.requires.at) c.index_mut.ensures.value in
    c.in_default-mount.ensures.running c.args.at c.index_mut.result.now here

pub ship_table-requires-clause-copy_lies : goal.ship_table-requires-clause-copy_lies
ship_table-requires-clause-copy_lies g c =
    let here = entry-at c.mount-2.new.self.entries.items c.args.at c.index_mut.result.now (subst (λ (n : ℕ). c.args.at < n) (sym (c.mount-2.ensures.as_many ∙ c.requires.as_many)) c.requires.at) c.index_mut.ensures.value in
    c.mount-2.ensures.lie c.args.at c.index_mut.result.now here

pub ship_table-requires-clause-form : goal.ship_table-requires-clause-form
ship_table-requires-clause-form g c =
    let here = entry-at c.mount.new.self.entries.items c.args.at c.index.result.now (subst (λ (n : ℕ). c.args.at < n) (sym c.mount.ensures.as_many) c.requires.at) c.index.ensures in
    let c_here = entry-at c.mount-2.new.self.entries.items c.args.at c.index_mut.result.now (subst (λ (n : ℕ). c.args.at < n) (sym (c.mount-2.ensures.as_many ∙ c.requires.as_many)) c.requires.at) c.index_mut.ensures.value in
    subst (λ (t : Table 64 64). layout_in t ≡ layout_in (table_in c.index_mut.result.now.table)) (sym c.table-source.ensures)
    (form-after c.args.sources.now.entries.items c.mount.new.self.entries.items c.args.copies.now.entries.items c.mount-2.new.self.entries.items c.args.at c.index.result.now c.index_mut.result.now c.requires.form
    (sym c.mount.ensures.as_many) (sym c.mount-2.ensures.as_many) c.mount.ensures.same c.mount-2.ensures.same here c_here).0

pub ship_table-requires-clause-no_blobs : goal.ship_table-requires-clause-no_blobs
ship_table-requires-clause-no_blobs g c =
    let here = entry-at c.mount.new.self.entries.items c.args.at c.index.result.now (subst (λ (n : ℕ). c.args.at < n) (sym c.mount.ensures.as_many) c.requires.at) c.index.ensures in
    let c_here = entry-at c.mount-2.new.self.entries.items c.args.at c.index_mut.result.now (subst (λ (n : ℕ). c.args.at < n) (sym (c.mount-2.ensures.as_many ∙ c.requires.as_many)) c.requires.at) c.index_mut.ensures.value in
    (form-after c.args.sources.now.entries.items c.mount.new.self.entries.items c.args.copies.now.entries.items c.mount-2.new.self.entries.items c.args.at c.index.result.now c.index_mut.result.now c.requires.form
    (sym c.mount.ensures.as_many) (sym c.mount-2.ensures.as_many) c.mount.ensures.same c.mount-2.ensures.same here c_here).1

-- .. and the records were shipped

pub returns-in-Ok-clause-ends : goal.returns-in-Ok-clause-ends
returns-in-Ok-clause-ends g c = λ plans ts cs name tells c_tells on c_on calm c_calm stand c_stand named c_named.
    let f = g.A.Flash.state c.args.from.now in
    let m = g.A.Flash.state c.mount.new.flash in
    let h = g.A.Flash.state c.ship_table.new.from in
    let now = c.mount.new.self.entries.items in
    let here = entry-at c.mount.new.self.entries.items c.args.at c.index.result.now (subst (λ (n : ℕ). c.args.at < n) (sym c.mount.ensures.as_many) c.requires.at) c.index.ensures in
    let told_m : IsTrue m.media.tells = subst IsTrue (sym c.mount.ensures.goes.tells) tells in
    let mounted = c.in_default.ensures.ends plans ts (has_risen f m) at_rest (watched f m at_rest tells on calm) stand in
    let from = own plans ts f m now c.args.at c.index.result.now told_m here mounted in
    let stood = subst (λ (t : Table 64 64). Stands t m (first_of plans c.args.at) (bare from.plan) (bare_table from.table)) (sym c.table-source.ensures) from.stands.on_flash.unlogged in
    let o = g.B.Flash.state c.args.onto.now in
    let n = g.B.Flash.state c.mount-2.new.flash in
    let c_now = c.mount-2.new.self.entries.items in
    let c_here = entry-at c.mount-2.new.self.entries.items c.args.at c.index_mut.result.now (subst (λ (n : ℕ). c.args.at < n) (sym (c.mount-2.ensures.as_many ∙ c.requires.as_many)) c.requires.at) c.index_mut.ensures.value in
    let told_n : IsTrue n.media.tells = subst IsTrue (sym c.mount-2.ensures.goes.tells) c_tells in
    let c_mounted = c.in_default-mount.ensures.ends plans cs (has_risen o n) at_rest (watched o n at_rest c_tells c_on c_calm) c_stand in
    let to = own plans cs o n c_now c.args.at c.index_mut.result.now told_n c_here c_mounted in
    let works = own-works plans cs o n c_now c.args.at c.index_mut.result.now told_n c_here c_mounted in
    shipped plans ts cs name c.args.count f m h o n (g.B.Flash.state c.ship_table.new.onto) c.args.sources.now.entries.items now c.args.copies.now.entries.items c_now c.args.at c.index.result.now c.index_mut.result.now c.ship_table.new.copy
    c.mount.ensures.goes.faults c.ship_table.ensures.reads_only stand named here mounted c.mount-2.ensures.goes.faults c.ship_table.ensures.goes c.ship_table.ensures.same c.ship_table.ensures.outside told_m told_n c_stand c_named c_here c_mounted
    (g.K.Sink.written c.args.out.now) (g.K.Sink.written c.told.new.out) (g.K.Sink.faults c.args.out.now) (g.K.Sink.faults c.told.new.out) c.in-Ok.shipped c.told.result
    (c.in-Ok.ensures.ships (first_of plans c.args.at) (first_of plans c.args.at) (bare from.plan) to.plan (bare_table from.table) to.table told_m stood works) c.told.ensures.tells

pub returns-in-Ok-clause-repairs : goal.returns-in-Ok-clause-repairs
returns-in-Ok-clause-repairs g c = λ plans ts name tells on calm stand named well page lt.
    let f = g.A.Flash.state c.args.from.now in
    let m = g.A.Flash.state c.mount.new.flash in
    repaired-read plans f.geometry page f m (g.A.Flash.state c.ship_table.new.from) c.ship_table.ensures.reads_only
    (c.in_default.ensures.repaired tells plans ts stand (inr (has_risen f m, at_rest, watched f m at_rest tells on calm)) page lt)

pub returns-in-Ok-clause-others : goal.returns-in-Ok-clause-others
returns-in-Ok-clause-others g c = λ plans cs name c_tells c_on c_calm c_stand c_named well.
    let o = g.B.Flash.state c.args.onto.now in
    let n = g.B.Flash.state c.mount-2.new.flash in
    let c_here = entry-at c.mount-2.new.self.entries.items c.args.at c.index_mut.result.now (subst (λ (n : ℕ). c.args.at < n) (sym (c.mount-2.ensures.as_many ∙ c.requires.as_many)) c.requires.at) c.index_mut.ensures.value in
    let c_mounted = c.in_default-mount.ensures.ends plans cs (has_risen o n) at_rest (watched o n at_rest c_tells c_on c_calm) c_stand in
    others-repaired plans cs _ name o n (g.B.Flash.state c.ship_table.new.onto) c.args.copies.now.entries.items c.mount-2.new.self.entries.items c.args.at c.index_mut.result.now c_stand c_named c_mounted.stand c_here
    (c.ship_table.ensures.outside (subst IsTrue (sym c.mount-2.ensures.goes.tells) c_tells)) (c.in_default-mount.ensures.repaired c_tells plans cs c_stand (inr (has_risen o n, at_rest, watched o n at_rest c_tells c_on c_calm)))

pub returns-in-Ok-clause-stands : goal.returns-in-Ok-clause-stands
returns-in-Ok-clause-stands g c = λ plans ts name tells on calm stand named.
    let f = g.A.Flash.state c.args.from.now in
    let m = g.A.Flash.state c.mount.new.flash in
    read-left plans ts f m (g.A.Flash.state c.ship_table.new.from) c.mount.new.self.entries.items c.ship_table.ensures.reads_only (c.in_default.ensures.ends plans ts (has_risen f m) at_rest (watched f m at_rest tells on calm) stand)

pub returns-in-Ok-clause-copy_stands : goal.returns-in-Ok-clause-copy_stands
returns-in-Ok-clause-copy_stands g c = λ plans cs name c_tells c_on c_calm c_stand c_named.
    let o = g.B.Flash.state c.args.onto.now in
    let n = g.B.Flash.state c.mount-2.new.flash in
    let c_now = c.mount-2.new.self.entries.items in
    let c_here = entry-at c.mount-2.new.self.entries.items c.args.at c.index_mut.result.now (subst (λ (n : ℕ). c.args.at < n) (sym (c.mount-2.ensures.as_many ∙ c.requires.as_many)) c.requires.at) c.index_mut.ensures.value in
    let told_n : IsTrue n.media.tells = subst IsTrue (sym c.mount-2.ensures.goes.tells) c_tells in
    let c_mounted = c.in_default-mount.ensures.ends plans cs (has_risen o n) at_rest (watched o n at_rest c_tells c_on c_calm) c_stand in
    let to = own plans cs o n c_now c.args.at c.index_mut.result.now told_n c_here c_mounted in
    let works = own-works plans cs o n c_now c.args.at c.index_mut.result.now told_n c_here c_mounted in
    changed-left plans cs o n c_now c.args.at c.index_mut.result.now told_n c_here c_mounted (g.B.Flash.state c.ship_table.new.onto) c.ship_table.new.copy c.ship_table.ensures.goes c.ship_table.ensures.same c.ship_table.ensures.outside
    (c.ship_table.ensures.copy_stands (first_of plans c.args.at) to.plan to.table works)

-- .. or they weren't, to the end

pub returns-in-Err-ship_table-clause-ends : goal.returns-in-Err-ship_table-clause-ends
returns-in-Err-ship_table-clause-ends g c = λ plans ts cs name tells c_tells on c_on calm c_calm stand c_stand named c_named.
    let f = g.A.Flash.state c.args.from.now in
    let m = g.A.Flash.state c.mount.new.flash in
    let h = g.A.Flash.state c.ship_table.new.from in
    let now = c.mount.new.self.entries.items in
    let here = entry-at c.mount.new.self.entries.items c.args.at c.index.result.now (subst (λ (n : ℕ). c.args.at < n) (sym c.mount.ensures.as_many) c.requires.at) c.index.ensures in
    let told_m : IsTrue m.media.tells = subst IsTrue (sym c.mount.ensures.goes.tells) tells in
    let mounted = c.in_default.ensures.ends plans ts (has_risen f m) at_rest (watched f m at_rest tells on calm) stand in
    let from = own plans ts f m now c.args.at c.index.result.now told_m here mounted in
    let stood = subst (λ (t : Table 64 64). Stands t m (first_of plans c.args.at) (bare from.plan) (bare_table from.table)) (sym c.table-source.ensures) from.stands.on_flash.unlogged in
    let o = g.B.Flash.state c.args.onto.now in
    let n = g.B.Flash.state c.mount-2.new.flash in
    let c_now = c.mount-2.new.self.entries.items in
    let c_here = entry-at c.mount-2.new.self.entries.items c.args.at c.index_mut.result.now (subst (λ (n : ℕ). c.args.at < n) (sym (c.mount-2.ensures.as_many ∙ c.requires.as_many)) c.requires.at) c.index_mut.ensures.value in
    let told_n : IsTrue n.media.tells = subst IsTrue (sym c.mount-2.ensures.goes.tells) c_tells in
    let c_mounted = c.in_default-mount.ensures.ends plans cs (has_risen o n) at_rest (watched o n at_rest c_tells c_on c_calm) c_stand in
    let to = own plans cs o n c_now c.args.at c.index_mut.result.now told_n c_here c_mounted in
    let works = own-works plans cs o n c_now c.args.at c.index_mut.result.now told_n c_here c_mounted in
    rw c.stop_status.ensures
    (stopped plans ts cs name c.args.count f m h o n (g.B.Flash.state c.ship_table.new.onto) c.args.sources.now.entries.items now c.args.copies.now.entries.items c_now c.args.at c.index.result.now c.index_mut.result.now c.ship_table.new.copy
    c.mount.ensures.goes.faults c.ship_table.ensures.reads_only stand named here mounted c.mount-2.ensures.goes.faults c.ship_table.ensures.goes c.ship_table.ensures.same c.ship_table.ensures.outside told_m told_n c_stand c_named c_here c_mounted
    (g.K.Sink.written c.args.out.now) c.in-Err-ship_table.stop
    (c.in-Err-ship_table.ensures.ships (first_of plans c.args.at) (first_of plans c.args.at) (bare from.plan) to.plan (bare_table from.table) to.table told_m stood works) c.in-Err-ship_table.ensures.cause)

pub returns-in-Err-ship_table-clause-repairs : goal.returns-in-Err-ship_table-clause-repairs
returns-in-Err-ship_table-clause-repairs g c = λ plans ts name tells on calm stand named well page lt.
    let f = g.A.Flash.state c.args.from.now in
    let m = g.A.Flash.state c.mount.new.flash in
    repaired-read plans f.geometry page f m (g.A.Flash.state c.ship_table.new.from) c.ship_table.ensures.reads_only
    (c.in_default.ensures.repaired tells plans ts stand (inr (has_risen f m, at_rest, watched f m at_rest tells on calm)) page lt)

pub returns-in-Err-ship_table-clause-others : goal.returns-in-Err-ship_table-clause-others
returns-in-Err-ship_table-clause-others g c = λ plans cs name c_tells c_on c_calm c_stand c_named well.
    let o = g.B.Flash.state c.args.onto.now in
    let n = g.B.Flash.state c.mount-2.new.flash in
    let c_here = entry-at c.mount-2.new.self.entries.items c.args.at c.index_mut.result.now (subst (λ (n : ℕ). c.args.at < n) (sym (c.mount-2.ensures.as_many ∙ c.requires.as_many)) c.requires.at) c.index_mut.ensures.value in
    let c_mounted = c.in_default-mount.ensures.ends plans cs (has_risen o n) at_rest (watched o n at_rest c_tells c_on c_calm) c_stand in
    others-repaired plans cs _ name o n (g.B.Flash.state c.ship_table.new.onto) c.args.copies.now.entries.items c.mount-2.new.self.entries.items c.args.at c.index_mut.result.now c_stand c_named c_mounted.stand c_here
    (c.ship_table.ensures.outside (subst IsTrue (sym c.mount-2.ensures.goes.tells) c_tells)) (c.in_default-mount.ensures.repaired c_tells plans cs c_stand (inr (has_risen o n, at_rest, watched o n at_rest c_tells c_on c_calm)))

pub returns-in-Err-ship_table-clause-stands : goal.returns-in-Err-ship_table-clause-stands
returns-in-Err-ship_table-clause-stands g c = λ plans ts name tells on calm stand named.
    let f = g.A.Flash.state c.args.from.now in
    let m = g.A.Flash.state c.mount.new.flash in
    read-left plans ts f m (g.A.Flash.state c.ship_table.new.from) c.mount.new.self.entries.items c.ship_table.ensures.reads_only (c.in_default.ensures.ends plans ts (has_risen f m) at_rest (watched f m at_rest tells on calm) stand)

pub returns-in-Err-ship_table-clause-copy_stands : goal.returns-in-Err-ship_table-clause-copy_stands
returns-in-Err-ship_table-clause-copy_stands g c = λ plans cs name c_tells c_on c_calm c_stand c_named.
    let o = g.B.Flash.state c.args.onto.now in
    let n = g.B.Flash.state c.mount-2.new.flash in
    let c_now = c.mount-2.new.self.entries.items in
    let c_here = entry-at c.mount-2.new.self.entries.items c.args.at c.index_mut.result.now (subst (λ (n : ℕ). c.args.at < n) (sym (c.mount-2.ensures.as_many ∙ c.requires.as_many)) c.requires.at) c.index_mut.ensures.value in
    let told_n : IsTrue n.media.tells = subst IsTrue (sym c.mount-2.ensures.goes.tells) c_tells in
    let c_mounted = c.in_default-mount.ensures.ends plans cs (has_risen o n) at_rest (watched o n at_rest c_tells c_on c_calm) c_stand in
    let to = own plans cs o n c_now c.args.at c.index_mut.result.now told_n c_here c_mounted in
    let works = own-works plans cs o n c_now c.args.at c.index_mut.result.now told_n c_here c_mounted in
    changed-left plans cs o n c_now c.args.at c.index_mut.result.now told_n c_here c_mounted (g.B.Flash.state c.ship_table.new.onto) c.ship_table.new.copy c.ship_table.ensures.goes c.ship_table.ensures.same c.ship_table.ensures.outside
    (c.ship_table.ensures.copy_stands (first_of plans c.args.at) to.plan to.table works)

pub returns-in-Err-ship_table-clause-device : goal.returns-in-Err-ship_table-clause-device
returns-in-Err-ship_table-clause-device g c = λ is.
    rose-back _ _ _ c.mount.ensures.goes.faults
    (stop-rose Source (g.A.Flash.state c.mount.new.flash) (g.A.Flash.state c.ship_table.new.from) (g.B.Flash.state c.mount-2.new.flash) (g.B.Flash.state c.ship_table.new.onto) c.in-Err-ship_table.stop c.args.at
    (unarmed-then _ _ c.requires.unarmed c.mount.ensures.goes).on (unarmed-then _ _ c.requires.copy_unarmed c.mount-2.ensures.goes) (sym c.stop_status.ensures ∙ is) c.in-Err-ship_table.ensures.cause)

pub returns-in-Err-ship_table-clause-copy_device : goal.returns-in-Err-ship_table-clause-copy_device
returns-in-Err-ship_table-clause-copy_device g c = λ is.
    rose-back _ _ _ c.mount-2.ensures.goes.faults
    (stop-rose Copy (g.A.Flash.state c.mount.new.flash) (g.A.Flash.state c.ship_table.new.from) (g.B.Flash.state c.mount-2.new.flash) (g.B.Flash.state c.ship_table.new.onto) c.in-Err-ship_table.stop c.args.at
    (unarmed-then _ _ c.requires.unarmed c.mount.ensures.goes).on (unarmed-then _ _ c.requires.copy_unarmed c.mount-2.ensures.goes) (sym c.stop_status.ensures ∙ is) c.in-Err-ship_table.ensures.cause)

pub returns-in-Err-ship_table-clause-good : goal.returns-in-Err-ship_table-clause-good
returns-in-Err-ship_table-clause-good g c = λ plans ts name table tells on calm stand named is.
    let f = g.A.Flash.state c.args.from.now in
    let m = g.A.Flash.state c.mount.new.flash in
    let here = entry-at c.mount.new.self.entries.items c.args.at c.index.result.now (subst (λ (n : ℕ). c.args.at < n) (sym c.mount.ensures.as_many) c.requires.at) c.index.ensures in
    let told_m : IsTrue m.media.tells = subst IsTrue (sym c.mount.ensures.goes.tells) tells in
    let mounted = c.in_default.ensures.ends plans ts (has_risen f m) at_rest (watched f m at_rest tells on calm) stand in
    let from = own plans ts f m (c.mount.new.self.entries.items) c.args.at c.index.result.now told_m here mounted in
    let stood = subst (λ (t : Table 64 64). Stands t m (first_of plans c.args.at) (bare from.plan) (bare_table from.table)) (sym c.table-source.ensures) from.stands.on_flash.unlogged in
    stop-good c.in-Err-ship_table.stop c.args.at table
    (λ bad e. c.ship_table.ensures.none_bad (first_of plans c.args.at) (bare from.plan) (bare_table from.table) told_m stood bad (c.in-Err-ship_table.is ∙ ap (λ (s : Stop). Err s) e)) (sym c.stop_status.ensures ∙ is)

pub returns-in-Ok-clause-goes : goal.returns-in-Ok-clause-goes
returns-in-Ok-clause-goes g c = goes-then _ _ _ c.mount.ensures.goes (OnlyReads-goes _ _ c.ship_table.ensures.reads_only)

pub returns-in-Ok-clause-copy_goes : goal.returns-in-Ok-clause-copy_goes
returns-in-Ok-clause-copy_goes g c = goes-then _ _ _ c.mount-2.ensures.goes c.ship_table.ensures.goes

pub returns-in-Err-ship_table-clause-goes : goal.returns-in-Err-ship_table-clause-goes
returns-in-Err-ship_table-clause-goes g c = goes-then _ _ _ c.mount.ensures.goes (OnlyReads-goes _ _ c.ship_table.ensures.reads_only)

pub returns-in-Err-ship_table-clause-copy_goes : goal.returns-in-Err-ship_table-clause-copy_goes
returns-in-Err-ship_table-clause-copy_goes g c = goes-then _ _ _ c.mount-2.ensures.goes c.ship_table.ensures.goes

-- ---- over any bytes

pub returns-in-Err-clause-over : goal.returns-in-Err-clause-over
returns-in-Err-clause-over g c =
    let e = c.mount.ensures in
    let mounts : MountsOver c.args.sources.now.entries.items c.mount.new.self.entries.items (g.A.Flash.state c.args.from.now) c.mount.result (g.A.Flash.state c.mount.new.flash) =
    record { found = e.found; refused = e.refused; stops = e.stops; cause = e.cause; running = e.running; none = e.none; power = e.power; as_many = e.as_many; names = e.names; same = e.same; repairs = e.repairs; outside = e.outside } in
    rw c.mount_status.ensures (source-refused c.args.count c.args.at _ _ _ _ c.mount.result mounts c.args.copies.now.entries.items (g.B.Flash.state c.args.onto.now) c.in-Err.bad c.in-Err.is)

pub returns-in-Err-mount-clause-over : goal.returns-in-Err-mount-clause-over
returns-in-Err-mount-clause-over g c =
    let e = c.mount.ensures in
    let mounts : MountsOver c.args.sources.now.entries.items c.mount.new.self.entries.items (g.A.Flash.state c.args.from.now) c.mount.result (g.A.Flash.state c.mount.new.flash) =
    record { found = e.found; refused = e.refused; stops = e.stops; cause = e.cause; running = e.running; none = e.none; power = e.power; as_many = e.as_many; names = e.names; same = e.same; repairs = e.repairs; outside = e.outside } in
    let d = c.mount-2.ensures in
    let c_mounts : MountsOver c.args.copies.now.entries.items c.mount-2.new.self.entries.items (g.B.Flash.state c.args.onto.now) c.mount-2.result (g.B.Flash.state c.mount-2.new.flash) =
    record { found = d.found; refused = d.refused; stops = d.stops; cause = d.cause; running = d.running; none = d.none; power = d.power; as_many = d.as_many; names = d.names; same = d.same; repairs = d.repairs; outside = d.outside } in
    rw c.mount_status-in-Err-mount.ensures (copy-refused c.args.count c.args.at _ _ _ _ c.mount.result mounts c.args.copies.now.entries.items (g.B.Flash.state c.args.onto.now) tt c.in_default.is _ _ c.mount-2.result c_mounts c.in-Err-mount.bad c.in-Err-mount.is)

pub returns-in-Ok-clause-over : goal.returns-in-Ok-clause-over
returns-in-Ok-clause-over g c =
    let e = c.mount.ensures in
    let mounts : MountsOver c.args.sources.now.entries.items c.mount.new.self.entries.items (g.A.Flash.state c.args.from.now) c.mount.result (g.A.Flash.state c.mount.new.flash) =
    record { found = e.found; refused = e.refused; stops = e.stops; cause = e.cause; running = e.running; none = e.none; power = e.power; as_many = e.as_many; names = e.names; same = e.same; repairs = e.repairs; outside = e.outside } in
    let d = c.mount-2.ensures in
    let c_mounts : MountsOver c.args.copies.now.entries.items c.mount-2.new.self.entries.items (g.B.Flash.state c.args.onto.now) c.mount-2.result (g.B.Flash.state c.mount-2.new.flash) =
    record { found = d.found; refused = d.refused; stops = d.stops; cause = d.cause; running = d.running; none = d.none; power = d.power; as_many = d.as_many; names = d.names; same = d.same; repairs = d.repairs; outside = d.outside } in
    let c_here = entry-at c.mount-2.new.self.entries.items c.args.at c.index_mut.result.now (subst (λ (n : ℕ). c.args.at < n) (sym (c.mount-2.ensures.as_many ∙ c.requires.as_many)) c.requires.at) c.index_mut.ensures.value in
    let within = subst (λ (n : ℕ). c.args.at < n) (sym c.requires.as_many) c.requires.at in
    let changes = own-changes c.args.copies.now.entries.items c.mount-2.new.self.entries.items c.args.at c.index_mut.result.now (g.B.Flash.state c.mount-2.new.flash) (g.B.Flash.state c.ship_table.new.onto) d.same within c_here c.ship_table.ensures.outside in
    let tells = tells-shipped c.args.count c.args.at c.mount.new.self.entries.items (g.A.Flash.state c.mount.new.flash) c.mount-2.new.self.entries.items (g.B.Flash.state c.mount-2.new.flash) (g.B.Flash.state c.ship_table.new.onto)
    c.in-Ok.shipped _ _ _ _ c.told.result c.in-Ok.ensures.few c.told.ensures.tells in
    tables-shipped c.args.count c.args.at _ _ _ _ c.mount.result mounts c.args.copies.now.entries.items (g.B.Flash.state c.args.onto.now) tt c.in_default.is _ _ c.mount-2.result c_mounts c.told.result
    (g.A.Flash.state c.ship_table.new.from) (g.B.Flash.state c.ship_table.new.onto) tt c.in_default-mount.is d.goes c.ship_table.ensures.reads_only changes tells

pub returns-in-Err-ship_table-clause-over : goal.returns-in-Err-ship_table-clause-over
returns-in-Err-ship_table-clause-over g c =
    let e = c.mount.ensures in
    let mounts : MountsOver c.args.sources.now.entries.items c.mount.new.self.entries.items (g.A.Flash.state c.args.from.now) c.mount.result (g.A.Flash.state c.mount.new.flash) =
    record { found = e.found; refused = e.refused; stops = e.stops; cause = e.cause; running = e.running; none = e.none; power = e.power; as_many = e.as_many; names = e.names; same = e.same; repairs = e.repairs; outside = e.outside } in
    let d = c.mount-2.ensures in
    let c_mounts : MountsOver c.args.copies.now.entries.items c.mount-2.new.self.entries.items (g.B.Flash.state c.args.onto.now) c.mount-2.result (g.B.Flash.state c.mount-2.new.flash) =
    record { found = d.found; refused = d.refused; stops = d.stops; cause = d.cause; running = d.running; none = d.none; power = d.power; as_many = d.as_many; names = d.names; same = d.same; repairs = d.repairs; outside = d.outside } in
    let here = entry-at c.mount.new.self.entries.items c.args.at c.index.result.now (subst (λ (n : ℕ). c.args.at < n) (sym c.mount.ensures.as_many) c.requires.at) c.index.ensures in
    let c_here = entry-at c.mount-2.new.self.entries.items c.args.at c.index_mut.result.now (subst (λ (n : ℕ). c.args.at < n) (sym (c.mount-2.ensures.as_many ∙ c.requires.as_many)) c.requires.at) c.index_mut.ensures.value in
    let within = subst (λ (n : ℕ). c.args.at < n) (sym c.requires.as_many) c.requires.at in
    let changes = own-changes c.args.copies.now.entries.items c.mount-2.new.self.entries.items c.args.at c.index_mut.result.now (g.B.Flash.state c.mount-2.new.flash) (g.B.Flash.state c.ship_table.new.onto) d.same within c_here c.ship_table.ensures.outside in
    let tells = tells-stopped c.args.count c.args.at c.mount.new.self.entries.items (g.A.Flash.state c.mount.new.flash) c.mount-2.new.self.entries.items (g.B.Flash.state c.mount-2.new.flash) (g.B.Flash.state c.ship_table.new.onto) (g.A.Flash.state c.ship_table.new.from) c.in-Err-ship_table.stop c.in-Err-ship_table.ensures.cause
    (λ bad is. bad-there c.mount.new.self.entries.items c.args.at c.index.result.now c.table-source.result.now (g.A.Flash.state c.mount.new.flash) bad here c.table-source.ensures (c.ship_table.ensures.bad_page bad (c.in-Err-ship_table.is ∙ ap (λ (s : Stop). Err s) is)))
    (λ last oldest is.
    let stops = c.in-Err-ship_table.is ∙ ap (λ (s : Stop). Err s) is in
    (gap-there c.mount.new.self.entries.items c.mount-2.new.self.entries.items c.args.at last c.index.result.now c.index_mut.result.now c.table-source.result.now here c_here c.table-source.ensures (c.ship_table.ensures.gap last oldest stops), c.ship_table.ensures.gap_leaves last oldest stops))
    (λ is. spent-there c.mount-2.new.self.entries.items c.args.at c.args.count c.index_mut.result.now c_here (c.ship_table.ensures.numbers (c.in-Err-ship_table.is ∙ ap (λ (s : Stop). Err s) is))) in
    rw c.stop_status.ensures
    (tables-shipped c.args.count c.args.at _ _ _ _ c.mount.result mounts c.args.copies.now.entries.items (g.B.Flash.state c.args.onto.now) tt c.in_default.is _ _ c.mount-2.result c_mounts _
    (g.A.Flash.state c.ship_table.new.from) (g.B.Flash.state c.ship_table.new.onto) tt c.in_default-mount.is d.goes c.ship_table.ensures.reads_only changes tells)

-- ---- what is told

pub returns-in-Err-clause-others : goal.returns-in-Err-clause-others
returns-in-Err-clause-others g c = λ plans cs name tells on calm stand named well page other. inl (inl refl)

pub returns-in-Err-clause-copy_stands : goal.returns-in-Err-clause-copy_stands
returns-in-Err-clause-copy_stands g c = λ plans cs name tells on calm stand named. (cs, stand)

pub returns-in-Err-clause-good_copy : goal.returns-in-Err-clause-good_copy
returns-in-Err-clause-good_copy g c = λ plans cs name table tells on calm stand named is. sides-apart (mount-side Source Copy c.in-Err.bad.fault c.in-Err.bad.at table (sym c.mount_status.ensures ∙ is))

pub returns-in-Err-clause-statuses : goal.returns-in-Err-clause-statuses
returns-in-Err-clause-statuses g c = subst IsOfTables (sym c.mount_status.ensures) (mount-of-tables Source c.in-Err.bad.fault c.in-Err.bad.at)

pub returns-in-Err-clause-write : goal.returns-in-Err-clause-write
returns-in-Err-clause-write g c = λ is. absurd (mount-quiet Source c.in-Err.bad.fault c.in-Err.bad.at (sym c.mount_status.ensures ∙ is))

pub returns-in-Err-clause-later : goal.returns-in-Err-clause-later
returns-in-Err-clause-later g c = le_refl (g.K.Sink.faults c.args.out.now)

pub returns-in-Err-clause-line : goal.returns-in-Err-clause-line
returns-in-Err-clause-line g c = rw c.mount_status.ensures (mount-line c.args.count c.args.out.now (g.K.Sink.written c.args.out.now) Source c.in-Err.bad.fault c.in-Err.bad.at)

pub returns-in-Err-mount-clause-good : goal.returns-in-Err-mount-clause-good
returns-in-Err-mount-clause-good g c = λ plans ts name table tells on calm stand named is. sides-apart (sym (mount-side Copy Source c.in-Err-mount.bad.fault c.in-Err-mount.bad.at table (sym c.mount_status-in-Err-mount.ensures ∙ is)))

pub returns-in-Err-mount-clause-statuses : goal.returns-in-Err-mount-clause-statuses
returns-in-Err-mount-clause-statuses g c = subst IsOfTables (sym c.mount_status-in-Err-mount.ensures) (mount-of-tables Copy c.in-Err-mount.bad.fault c.in-Err-mount.bad.at)

pub returns-in-Err-mount-clause-write : goal.returns-in-Err-mount-clause-write
returns-in-Err-mount-clause-write g c = λ is. absurd (mount-quiet Copy c.in-Err-mount.bad.fault c.in-Err-mount.bad.at (sym c.mount_status-in-Err-mount.ensures ∙ is))

pub returns-in-Err-mount-clause-later : goal.returns-in-Err-mount-clause-later
returns-in-Err-mount-clause-later g c = le_refl (g.K.Sink.faults c.args.out.now)

pub returns-in-Err-mount-clause-line : goal.returns-in-Err-mount-clause-line
returns-in-Err-mount-clause-line g c = rw c.mount_status-in-Err-mount.ensures (mount-line c.args.count c.args.out.now (g.K.Sink.written c.args.out.now) Copy c.in-Err-mount.bad.fault c.in-Err-mount.bad.at)

pub returns-in-Ok-clause-good : goal.returns-in-Ok-clause-good
returns-in-Ok-clause-good g c = λ plans ts name table tells on calm stand named is. told-is _ _ _ _ _ c.told.result _ c.told.ensures.tells is

pub returns-in-Ok-clause-good_copy : goal.returns-in-Ok-clause-good_copy
returns-in-Ok-clause-good_copy g c = λ plans cs name table tells on calm stand named is. told-is _ _ _ _ _ c.told.result _ c.told.ensures.tells is

pub returns-in-Ok-clause-statuses : goal.returns-in-Ok-clause-statuses
returns-in-Ok-clause-statuses g c = told-of-tables _ _ _ _ _ c.told.result c.told.ensures.tells

pub returns-in-Ok-clause-device : goal.returns-in-Ok-clause-device
returns-in-Ok-clause-device g c = λ is. absurd (told-is _ _ _ _ _ c.told.result _ c.told.ensures.tells is)

pub returns-in-Ok-clause-copy_device : goal.returns-in-Ok-clause-copy_device
returns-in-Ok-clause-copy_device g c = λ is. absurd (told-is _ _ _ _ _ c.told.result _ c.told.ensures.tells is)

pub returns-in-Ok-clause-write : goal.returns-in-Ok-clause-write
returns-in-Ok-clause-write g c = λ is. (told-is _ _ _ _ _ c.told.result _ c.told.ensures.tells is).1

pub returns-in-Ok-clause-bad : goal.returns-in-Ok-clause-bad
returns-in-Ok-clause-bad g c = λ side table is. absurd (told-is _ _ _ _ _ c.told.result _ c.told.ensures.tells is)

pub returns-in-Ok-clause-line : goal.returns-in-Ok-clause-line
returns-in-Ok-clause-line g c = told-line c.args.count c.args.out.now c.told.new.out c.in-Ok.shipped _ _ _ _ c.told.result c.in-Ok.ensures.few c.told.ensures.tells

pub returns-in-Err-ship_table-clause-good_copy : goal.returns-in-Err-ship_table-clause-good_copy
returns-in-Err-ship_table-clause-good_copy g c = λ plans cs name table tells on calm stand named is. sides-apart (stop-place Copy table c.in-Err-ship_table.stop c.args.at (sym c.stop_status.ensures ∙ is)).0

pub returns-in-Err-ship_table-clause-statuses : goal.returns-in-Err-ship_table-clause-statuses
returns-in-Err-ship_table-clause-statuses g c = subst IsOfTables (sym c.stop_status.ensures) (stop-of-tables c.in-Err-ship_table.stop c.args.at)

pub returns-in-Err-ship_table-clause-write : goal.returns-in-Err-ship_table-clause-write
returns-in-Err-ship_table-clause-write g c = λ is. absurd (stop-quiet c.in-Err-ship_table.stop c.args.at (sym c.stop_status.ensures ∙ is))

pub returns-in-Err-ship_table-clause-bad : goal.returns-in-Err-ship_table-clause-bad
returns-in-Err-ship_table-clause-bad g c = λ side table is.
    subst (λ (n : ℕ). n < length c.args.sources.now.entries.items) (stop-place side table c.in-Err-ship_table.stop c.args.at (sym c.stop_status.ensures ∙ is)).1 c.requires.at

pub returns-in-Err-ship_table-clause-later : goal.returns-in-Err-ship_table-clause-later
returns-in-Err-ship_table-clause-later g c = le_refl (g.K.Sink.faults c.args.out.now)

pub returns-in-Err-ship_table-clause-line : goal.returns-in-Err-ship_table-clause-line
returns-in-Err-ship_table-clause-line g c = rw c.stop_status.ensures (stop-line c.args.count c.args.out.now (g.K.Sink.written c.args.out.now) c.in-Err-ship_table.stop c.args.at)

pub mount-requires-clause-lie : goal.mount-requires-clause-lie
mount-requires-clause-lie g c = c.requires.lie

pub mount-requires-clause-room : goal.mount-requires-clause-room
mount-requires-clause-room g c = c.requires.rows

pub mount-requires-2-clause-lie : goal.mount-requires-2-clause-lie
mount-requires-2-clause-lie g c = c.requires.copies_lie

pub mount-requires-2-clause-room : goal.mount-requires-2-clause-room
mount-requires-2-clause-room g c = c.mount.ensures.room ∙ (c.requires.rows ∙ sym c.requires.pages)

pub ship_table-requires-clause-rows : goal.ship_table-requires-clause-rows
ship_table-requires-clause-rows g c = c.mount-2.ensures.room ∙ (c.mount.ensures.room ∙ (c.requires.rows ∙ sym (ap (λ (x : Geometry). x.page) c.mount.ensures.goes.geometry)))

pub ship_table-requires-clause-index : goal.ship_table-requires-clause-index
ship_table-requires-clause-index g c = c.requires.index ∙ sym (ap (λ (x : Geometry). x.page) c.mount.ensures.goes.geometry)
