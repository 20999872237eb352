use Rattle.std.proofs.Common.{◌≡◌, inr, true, false, is_some, IsTrue, IfSome, Some, length, refl, sym, ◌∙◌, subst, arith}
use Rattle.std.proofs.lemmas.Option.{slice_get_within}
use Rattle.fl_base.proofs.Risen.{rose-back}
use Rattle.fl_frame.proofs.WatchedInTurn.{unarmed-then}
use Rattle.fl_frame.proofs.CallsInTurn.{goes-then}
use Rattle.fl_store.proofs.Called.{entry-at}
use Rattle.fl_store.specs.Store.{at_rest}
use Rattle.fl_store.proofs.TableByName.{stands-there}
use Rattle.fl_store.proofs.Risen.{has_risen, watched}
use Rattle.fl_store.proofs.Unmounted as mount
use Rattle.fl_image.specs.declared.status.ToolStatus.TheVariants.{Device, BadInput}
use Rattle.fl_store.specs.Tables.{first_of}
use Rattle.fl_import.specs.Images.{EndsOn, HasCauses, told_of}
use Rattle.fl_import.specs.Taking.{EndedOver}
use Rattle.fl_store.proofs.Changed.{own, own-works}
use Rattle.fl_import.proofs.FlashEnds.{unmounted, imported}
use Rattle.fl_import.proofs.ImageEnds.{as-end, mount-causes, mount-ended, mount-unread, of-mounted, table-bad, table-ended}
use Rattle.fl_store.proofs.Others.{others-repaired}
use Rattle.fl_store.proofs.Jobs.{own-changes}
use Rattle.fl_import.specs.Over.{ImportsOver}
use Rattle.fl_import.specs.declared.job_end.JobEnd.{JobEnd}
use Rattle.fl_import.proofs.OverBytes.{puts-over, refuses-over}
use Rattle.fl_import.proofs.import.import_on.Goals as goal

pub mount_status-requires : goal.mount_status-requires
mount_status-requires g c = omega (arith, slice_get_within c.mount.new.self.entries.items c.in-Err.bad.at c.in-Err.ensures.stops.entry c.in-Err.ensures.stops.here, c.mount.ensures.as_many, c.requires.few)

pub returns-in-Err-clause-ends : goal.returns-in-Err-clause-ends
returns-in-Err-clause-ends g c = λ plans ts name text tells on calm stand named forms is.
    let f = g.F.Flash.state c.args.flash.now in
    let m = g.F.Flash.state c.mount.new.flash in
    let breaks = c.in-Err.ensures.ends plans ts (has_risen f m) at_rest (watched f m at_rest tells on calm) stand in
    let has = stands-there f (λ i. false) plans c.args.tables.now.entries.items ts name c.args.at stand named in
    as-end (λ end. EndsOn plans ts name text (told_of c.args.gone end.taken (g.K.Sink.written c.args.out.now) (g.K.Sink.written c.args.out.now) (g.S.Source.left c.args.input.now)) f m c.mount.new.self.entries.items end.kept end.status) c.of.result _ _ c.of.ensures c.mount_status.ensures
    (unmounted c.args.gone plans ts name text f m (g.K.Sink.written c.args.out.now) (g.S.Source.left c.args.input.now) c.mount.new.self.entries.items has c.in-Err.bad.fault c.in-Err.bad.at breaks is)

pub returns-in-Err-clause-ended : goal.returns-in-Err-clause-ended
returns-in-Err-clause-ended g c = λ text is.
    as-end (λ end. EndedOver c.args.form.columns c.args.form.blobs text (g.S.Source.left c.args.input.now) end.status) c.of.result _ _ c.of.ensures c.mount_status.ensures
    (mount-ended c.args.form.columns c.args.form.blobs text (g.S.Source.left c.args.input.now) c.in-Err.bad.fault c.in-Err.bad.at is)

pub returns-in-Err-clause-causes : goal.returns-in-Err-clause-causes
returns-in-Err-clause-causes g c =
    let f = g.F.Flash.state c.args.flash.now in
    let m = g.F.Flash.state c.mount.new.flash in
    let source = g.S.Source.faults c.args.input.now in
    let sink = g.K.Sink.faults c.args.out.now in
    as-end (λ end. HasCauses (length c.args.tables.now.entries.items) f.media.faults m.media.faults source source sink sink end.kept end.status) c.of.result _ _ c.of.ensures c.mount_status.ensures
    (mount-causes f m (length c.args.tables.now.entries.items) source sink c.in-Err.bad.fault c.in-Err.bad.at c.requires.unarmed
    (omega (arith, slice_get_within c.mount.new.self.entries.items c.in-Err.bad.at c.in-Err.ensures.stops.entry c.in-Err.ensures.stops.here, c.mount.ensures.as_many)) c.in-Err.ensures.cause)

pub index_mut-requires : goal.index_mut-requires
index_mut-requires g c = omega (arith, c.requires.at, c.mount.ensures.as_many, c.mount.new.self.entries.ok.0)

pub import_table-status-requires-clause-lies : goal.import_table-status-requires-clause-lies
import_table-status-requires-clause-lies g c =
    c.mount.ensures.lie c.args.at c.index_mut.result.now (entry-at c.mount.new.self.entries.items c.args.at c.index_mut.result.now (omega (arith, c.requires.at, c.mount.ensures.as_many)) c.index_mut.ensures.value)

pub import_table-status-requires-clause-unarmed : goal.import_table-status-requires-clause-unarmed
import_table-status-requires-clause-unarmed g c = unarmed-then _ _ c.requires.unarmed c.mount.ensures.goes

pub returns-clause-ends : goal.returns-clause-ends
returns-clause-ends g c = λ plans ts name text tells on calm stand named forms is.
    let now = c.mount.new.self.entries.items in
    let here = entry-at c.mount.new.self.entries.items c.args.at c.index_mut.result.now (omega (arith, c.requires.at, c.mount.ensures.as_many)) c.index_mut.ensures.value in
    let f = g.F.Flash.state c.args.flash.now in
    let m = g.F.Flash.state c.mount.new.flash in
    let h = g.F.Flash.state c.import_table-status.new.flash in
    let told = g.K.Sink.written c.args.out.now in
    let told_now = g.K.Sink.written c.import_table-status.new.out in
    let rest = g.S.Source.left c.import_table-status.new.input in
    let mounted = c.in_default.ensures.ends plans ts (has_risen f m) at_rest (watched f m at_rest tells on calm) stand in
    let tell : IsTrue m.media.tells = subst IsTrue (sym c.mount.ensures.goes.tells) tells in
    let e = c.import_table-status.ensures in
    let entries = c.args.tables.now.entries.items in
    let entry = c.index_mut.result.now in
    let u = c.import_table-status.new.table in
    let place = own plans ts f m now c.args.at entry tell here mounted in
    imported plans ts name text f m h c.args.gone c.import_table-status.new.taken told told_now rest entries now c.args.at entry u e.goes e.same e.outside tell stand named here mounted c.kept_rows-kept.result c.import_table-status.result
    (λ device. rose-back f.media.faults m.media.faults h.media.faults c.mount.ensures.goes.faults (e.device device)) c.kept_rows-kept.ensures.rows
    (e.ends text (first_of plans c.args.at) place.plan place.table is (forms place.plan place.plan_is) (own-works plans ts f m now c.args.at entry tell here mounted))

pub returns-clause-ended : goal.returns-clause-ended
returns-clause-ended g c = λ text is. table-ended c.args.form.columns c.args.form.blobs text (g.S.Source.left c.import_table-status.new.input) c.import_table-status.result c.import_table-status.ensures.statuses (c.import_table-status.ensures.ended text is)

pub returns-clause-causes : goal.returns-clause-causes
returns-clause-causes g c =
    let e = c.import_table-status.ensures in
    record {
      known = of-mounted c.import_table-status.result e.statuses;
      device = λ is. rose-back (g.F.Flash.state c.args.flash.now).media.faults (g.F.Flash.state c.mount.new.flash).media.faults (g.F.Flash.state c.import_table-status.new.flash).media.faults c.mount.ensures.goes.faults (e.device is);
      bad = λ table is. absurd (table-bad c.import_table-status.result table e.statuses is);
      read = e.read;
      write = e.write;
      later = e.later;
      kept_is = c.kept_rows-kept.ensures.some;
    }

pub returns-clause-unread : goal.returns-clause-unread
returns-clause-unread g c = λ table is. absurd (table-bad c.import_table-status.result table c.import_table-status.ensures.statuses is)

pub returns-clause-goes : goal.returns-clause-goes
returns-clause-goes g c = goes-then _ _ _ c.mount.ensures.goes c.import_table-status.ensures.goes

pub returns-in-Err-clause-repairs : goal.returns-in-Err-clause-repairs
returns-in-Err-clause-repairs g c = λ plans ts name tells on calm stand named well.
    let f = g.F.Flash.state c.args.flash.now in
    let m = g.F.Flash.state c.mount.new.flash in
    let has = stands-there f (λ i. false) plans c.args.tables.now.entries.items ts name c.args.at stand named in
    let device = (mount.unmounted plans ts name f m (g.K.Sink.written c.args.out.now) c.mount.new.self.entries.items has c.in-Err.bad.fault c.in-Err.bad.at (c.in-Err.ensures.ends plans ts (has_risen f m) at_rest (watched f m at_rest tells on calm) stand)).0 in
    absurd (well (as-end (λ end. end.status ≡ Device) c.of.result _ _ c.of.ensures (c.mount_status.ensures ∙ device) refl))

pub returns-clause-repairs : goal.returns-clause-repairs
returns-clause-repairs g c = λ plans ts name tells on calm stand named well.
    let f = g.F.Flash.state c.args.flash.now in
    let m = g.F.Flash.state c.mount.new.flash in
    let h = g.F.Flash.state c.import_table-status.new.flash in
    let mounted = c.in_default.ensures.ends plans ts (has_risen f m) at_rest (watched f m at_rest tells on calm) stand in
    others-repaired plans ts _ name f m h c.args.tables.now.entries.items c.mount.new.self.entries.items c.args.at c.index_mut.result.now stand named mounted.stand (entry-at c.mount.new.self.entries.items c.args.at c.index_mut.result.now (omega (arith, c.requires.at, c.mount.ensures.as_many)) c.index_mut.ensures.value)
    (c.import_table-status.ensures.outside (subst IsTrue (sym c.mount.ensures.goes.tells) tells)) (c.in_default.ensures.repaired tells plans ts stand (inr (has_risen f m, at_rest, watched f m at_rest tells on calm)))

pub returns-in-Err-clause-form : goal.returns-in-Err-clause-form
returns-in-Err-clause-form g c = as-end (λ end. IfSome end.form (λ given. given ≡ c.args.form)) c.of.result _ _ c.of.ensures c.mount_status.ensures tt

pub returns-in-Err-clause-formed : goal.returns-in-Err-clause-formed
returns-in-Err-clause-formed g c = λ line. as-end (λ end. end.status ≡ BadInput line → is_some end.form ≡ true) c.of.result _ _ c.of.ensures c.mount_status.ensures (λ is. absurd (mount-unread c.in-Err.bad.fault c.in-Err.bad.at line is))

pub returns-in-Err-clause-over : goal.returns-in-Err-clause-over
returns-in-Err-clause-over g c =
    let e = c.mount.ensures in
    let entries = c.args.tables.now.entries.items in
    let now = c.mount.new.self.entries.items in
    let f = g.F.Flash.state c.args.flash.now in
    let m = g.F.Flash.state c.mount.new.flash in
    as-end (λ end. ImportsOver end c.args.input.now c.args.input.now c.args.out.now c.args.out.now c.args.at c.args.tables.now.entries.items (g.F.Flash.state c.args.flash.now) (g.F.Flash.state c.mount.new.flash)) c.of.result _ _ c.of.ensures c.mount_status.ensures
    (refuses-over entries now f m c.mount.result (record { found = e.found; refused = e.refused; stops = e.stops; cause = e.cause; running = e.running; none = e.none; power = e.power; as_many = e.as_many; names = e.names; same = e.same; repairs = e.repairs; outside = e.outside }) c.args.input.now c.args.out.now c.args.at c.in-Err.bad c.in-Err.is)

pub returns-clause-over : goal.returns-clause-over
returns-clause-over g c =
    let e = c.mount.ensures in
    let entries = c.args.tables.now.entries.items in
    let now = c.mount.new.self.entries.items in
    let f = g.F.Flash.state c.args.flash.now in
    let m = g.F.Flash.state c.mount.new.flash in
    let h = g.F.Flash.state c.import_table-status.new.flash in
    let end : JobEnd = record { status = c.import_table-status.result; kept = c.kept_rows-kept.result; taken = c.import_table-status.new.taken; form = Some c.args.form } in
    puts-over entries now f m c.mount.result (record { found = e.found; refused = e.refused; stops = e.stops; cause = e.cause; running = e.running; none = e.none; power = e.power; as_many = e.as_many; names = e.names; same = e.same; repairs = e.repairs; outside = e.outside })
    end c.args.input.now c.import_table-status.new.input c.args.out.now c.import_table-status.new.out c.args.at h tt c.in_default.is e.goes (λ table is. table-bad c.import_table-status.result table c.import_table-status.ensures.statuses is)
    (own-changes entries now c.args.at c.index_mut.result.now m h e.same c.requires.at (entry-at c.mount.new.self.entries.items c.args.at c.index_mut.result.now (omega (arith, c.requires.at, c.mount.ensures.as_many)) c.index_mut.ensures.value) c.import_table-status.ensures.outside)

pub returns-in-Err-clause-goes : goal.returns-in-Err-clause-goes
returns-in-Err-clause-goes g c = c.mount.ensures.goes

pub returns-in-Err-clause-unread : goal.returns-in-Err-clause-unread
returns-in-Err-clause-unread g c = λ table is. (refl, refl)

pub returns-clause-form : goal.returns-clause-form
returns-clause-form g c = refl

pub returns-clause-formed : goal.returns-clause-formed
returns-clause-formed g c = λ line is. refl
