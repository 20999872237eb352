use Rattle.std.proofs.Common.{◌≡◌, ◌⊎◌, ℕ, ◌+◌, Bool, false, Option, Some, IfSome, Result, Ok, Err, [], IsTrue, is_some, inl, inr, refl, sym, ◌∙◌, ap, subst, arith, true}
use Rattle.std.proofs.lemmas.Result.{err_from_is_err_and}
use Rattle.std.proofs.lemmas.Bool.{true≢false}
use Rattle.std.proofs.lemmas.Option.{same_Some, none-some}
use Rattle.fl_flash.specs.Flash.{page_at}
use Rattle.fl_flash.specs.declared.flash.FlashFault.TheVariants.{PowerLost}
use Rattle.fl_frame.proofs.CallsInTurn.{goes-then}
use Rattle.fl_model.specs.Bare.{bare, bare_table, log_of, beside}
use Rattle.fl_model.specs.Record.{Plan, RowLayout, row_layout, blocks_of}
use Rattle.fl_model.specs.Table.{Table}
use Rattle.fl_model.specs.Work.{Device}
use Rattle.fl_page.specs.Writer.{Gathers}
use Rattle.fl_ring.specs.declared.ring.Ring.{Ring}
use Rattle.fl_frame.specs.Watched.{IsWatched}
use Rattle.fl_frame.proofs.WatchedInTurn.{watched-first, watched-then}
use Rattle.fl_parts.specs.declared.mount_fault.MountFault.{MountFault}
use Rattle.fl_parts.specs.declared.mount_fault.MountFault.TheVariants as mount
use Rattle.fl_table.specs.declared.counts.Mounted.{Mounted}
use Rattle.fl_parts.proofs.MountParts.{mount-cause-later}
use Rattle.fl_table.proofs.SealAnswers.{same-then}
use Rattle.fl_parts.proofs.Sizes.{table-fits}
use Rattle.fl_rlc.specs.Left.{LeavesPages}
use Rattle.fl_rlc.specs.Logged.{Rests as LoggedRests}
use Rattle.fl_rlc.specs.Memory.{rows_in, is_mounted}
use Rattle.fl_rlc.specs.Repairing.{Rests}
use Rattle.fl_rlc.specs.Replaying.{ReplayEnds}
use Rattle.fl_rlc.specs.Table.{AreSameLog, IsLogPlanned, IsPlanned, is_logged, log_in}
use Rattle.fl_rlc.specs.declared.log.RecordLog.{RecordLog}
use Rattle.fl_rlc.specs.declared.table.LoggedTable.{LoggedTable}
use Rattle.fl_rlc.proofs.Assembled.{log-there}
use Rattle.fl_rlc.proofs.MountApart.{apart-mountable, table-ends, log-stays, between-stands, between-none, between-rests, replay-ends, replayed}
use Rattle.fl_rlc.proofs.MountEnded.{bare-mountable, fails, mounts-alone, apart-of, badly-of, well-of}
use Rattle.fl_rlc.proofs.MountLimits.{limit-alone, limit-behind}
use Rattle.fl_rlc.proofs.MountFound.{finds-alone, finds-behind, refuses-behind, outside-both, few-alone, few-both, log-here}
use Rattle.fl_rlc.proofs.MountLeaves.{bare-leaves, mount-leaves}
use Rattle.fl_rlc.proofs.PutFrames.{log-self, log-lies, log-moved, blobs-same, room-same}
use Rattle.fl_rlc.proofs.Written.{repairs-alone, repairs-both}
use Rattle.fl_rlc.proofs.table.LoggedTable.mount.Goals as goal

not-lost : (mounted : Mounted) → ◌≡◌ {A = Result Mounted MountFault} (Ok mounted) (Err (mount.Flash PowerLost)) → ⊥
not-lost mounted e = cc

pub mount-requires : goal.mount-requires
mount-requires g c = (table-fits g.row.KNOTS g.row.SLOTS c.args.self.now.table.few_knots c.args.self.now.table.few_slots, (c.requires.lies.table, c.requires.room))

-- ---- the table's mount fails

pub returns-in_err-mounted-clause-memory : goal.returns-in_err-mounted-clause-memory
returns-in_err-mounted-clause-memory g c =
    let p = err_from_is_err_and c.from_residual.result c.from_residual.ensures.1 in
    rw p.1 (record {
      same = record { table = c.in_err-mounted.ensures.memory.same; log = log-self c.args.self.now.log };
      lies = record {
        table = c.in_err-mounted.ensures.memory.lies;
        log = log-lies c.args.self.now.log (g.F.Flash.state c.args.flash.now) (g.F.Flash.state c.mount.new.flash) c.in_err-mounted.ensures.flash.goes c.requires.lies.log;
      };
      mounted = c.in_err-mounted.ensures.memory.mounted;
      calm = c.in_err-mounted.ensures.memory.calm;
      empty = tt;
    })

pub returns-in_err-mounted-clause-flash : goal.returns-in_err-mounted-clause-flash
returns-in_err-mounted-clause-flash g c =
    let p = err_from_is_err_and c.from_residual.result c.from_residual.ensures.1 in
    rw (p.1, p.2) (record {
      goes = c.in_err-mounted.ensures.flash.goes;
      power = tt;
      outside = λ told page rows index var log. c.in_err-mounted.ensures.flash.outside told page rows index var;
      reads = λ told. few-alone c.args.self.now (g.F.Flash.state c.args.flash.now) (g.F.Flash.state c.mount.new.flash) (c.in_err-mounted.ensures.flash.reads told);
      repairs = repairs-alone c.args.self.now (g.F.Flash.state c.args.flash.now) (g.F.Flash.state c.mount.new.flash) c.in_err-mounted.ensures.flash.repairs;
      cause = c.in_err-mounted.ensures.flash.cause;
      off = c.in_err-mounted.ensures.flash.off;
    })

pub returns-in_err-mounted-clause-buffer : goal.returns-in_err-mounted-clause-buffer
returns-in_err-mounted-clause-buffer g c = record { room = c.in_err-mounted.ensures.buffer.room; holds = c.in_err-mounted.ensures.buffer.holds }

pub returns-in_err-mounted-clause-ends : goal.returns-in_err-mounted-clause-ends
returns-in_err-mounted-clause-ends g c = λ first plan table rose device watched planned rests.
    let t = c.args.self.now in
    let old = g.F.Flash.state c.args.flash.now in
    let new = g.F.Flash.state c.mount.new.flash in
    let p = err_from_is_err_and c.from_residual.result c.from_residual.ensures.1 in
    rw (p.1, p.2) (fails t old first plan table planned rests rose device c.in_err-mounted.field-0.0 c.mount.new.self _ refl refl new (c.in_err-mounted.ensures.flash.outside watched.told)
    (c.in_err-mounted.ensures.mount.ends first (bare plan) (bare_table table) rose device watched planned.table (bare-mountable t old first plan table planned rests)))

pub returns-in_err-mounted-clause-alone : goal.returns-in_err-mounted-clause-alone
returns-in_err-mounted-clause-alone g c = λ first plan table rose device watched planned none rests.
    let p = err_from_is_err_and c.from_residual.result c.from_residual.ensures.1 in
    rw (p.1, p.2) (c.in_err-mounted.ensures.mount.ends first (bare plan) table rose device watched planned.table rests)

pub returns-in_err-mounted-clause-apart : goal.returns-in_err-mounted-clause-apart
returns-in_err-mounted-clause-apart g c = λ first plan table rose device l watched planned is apart.
    let p = err_from_is_err_and c.from_residual.result c.from_residual.ensures.1 in
    rw (p.1, p.2) (table-ends c.args.self.now (g.F.Flash.state c.args.flash.now) first plan table planned l apart rose device c.in_err-mounted.field-0.0 c.mount.new.self _ (g.F.Flash.state c.mount.new.flash) (c.in_err-mounted.ensures.flash.outside watched.told)
    (c.in_err-mounted.ensures.mount.ends first (bare plan) (bare_table table) rose device watched planned.table (apart-mountable c.args.self.now (g.F.Flash.state c.args.flash.now) first plan table planned l apart)))

pub returns-in_err-mounted-clause-found : goal.returns-in_err-mounted-clause-found
returns-in_err-mounted-clause-found g c = let p = err_from_is_err_and c.from_residual.result c.from_residual.ensures.1 in rw p.1 tt

pub returns-in_err-mounted-clause-leaves : goal.returns-in_err-mounted-clause-leaves
returns-in_err-mounted-clause-leaves g c = let p = err_from_is_err_and c.from_residual.result c.from_residual.ensures.1 in rw p.1 tt

pub returns-in_err-mounted-clause-alone_leaves : goal.returns-in_err-mounted-clause-alone_leaves
returns-in_err-mounted-clause-alone_leaves g c = let p = err_from_is_err_and c.from_residual.result c.from_residual.ensures.1 in rw p.1 tt

pub returns-in_err-mounted-clause-refused : goal.returns-in_err-mounted-clause-refused
returns-in_err-mounted-clause-refused g c =
    let p = err_from_is_err_and c.from_residual.result c.from_residual.ensures.1 in
    rw (p.1, p.2) (λ told. inl (c.in_err-mounted.ensures.pages.refused told))

pub returns-in_err-mounted-clause-limit : goal.returns-in_err-mounted-clause-limit
returns-in_err-mounted-clause-limit g c = λ first plan table rose device watched planned rests full.
    let t = c.args.self.now in
    let old = g.F.Flash.state c.args.flash.now in
    limit-alone plan table old.work.reads (g.F.Flash.state c.mount.new.flash).work.reads (c.in_err-mounted.ensures.mount.limit first (bare plan) (bare_table table) rose device watched planned.table (bare-mountable t old first plan table planned rests) full)

pub returns-in_err-mounted-clause-alone_limit : goal.returns-in_err-mounted-clause-alone_limit
returns-in_err-mounted-clause-alone_limit g c = λ first plan table rose device watched planned none rests full. c.in_err-mounted.ensures.mount.limit first (bare plan) table rose device watched planned.table rests full

-- ---- it has no log

pub returns-in_default-clause-memory : goal.returns-in_default-clause-memory
returns-in_default-clause-memory g c = record {
  same = record { table = c.in_ok-mounted.ensures.memory.same; log = log-self c.args.self.now.log };
  lies = record {
    table = c.in_ok-mounted.ensures.memory.lies;
    log = log-lies c.args.self.now.log (g.F.Flash.state c.args.flash.now) (g.F.Flash.state c.mount.new.flash) c.in_ok-mounted.ensures.flash.goes c.requires.lies.log;
  };
  mounted = c.in_ok-mounted.ensures.memory.mounted;
  calm = c.in_ok-mounted.ensures.memory.calm;
  empty = record {
    table = c.in_ok-mounted.ensures.memory.empty;
    log = subst (λ (o : Option RecordLog). IfSome o (λ l. (layout : RowLayout) → Gathers layout [] (rows_in l))) (sym c.in_default.is) tt;
  };
}

pub returns-in_default-clause-flash : goal.returns-in_default-clause-flash
returns-in_default-clause-flash g c = record {
  goes = c.in_ok-mounted.ensures.flash.goes;
  power = c.in_ok-mounted.ensures.flash.power;
  outside = λ told page rows index var log. c.in_ok-mounted.ensures.flash.outside told page rows index var;
  reads = λ told. few-alone c.args.self.now (g.F.Flash.state c.args.flash.now) (g.F.Flash.state c.mount.new.flash) (c.in_ok-mounted.ensures.flash.reads told);
  repairs = repairs-alone c.args.self.now (g.F.Flash.state c.args.flash.now) (g.F.Flash.state c.mount.new.flash) c.in_ok-mounted.ensures.flash.repairs;
  cause = tt;
  off = c.in_ok-mounted.ensures.flash.off;
}

pub returns-in_default-clause-buffer : goal.returns-in_default-clause-buffer
returns-in_default-clause-buffer g c = record { room = c.in_ok-mounted.ensures.buffer.room; holds = c.in_ok-mounted.ensures.buffer.holds }

pub returns-in_default-clause-ends : goal.returns-in_default-clause-ends
returns-in_default-clause-ends g c = λ first plan table rose device watched planned rests.
    let t = c.args.self.now in
    let old = g.F.Flash.state c.args.flash.now in
    let new = g.F.Flash.state c.mount.new.flash in
    mounts-alone t old first plan table planned rests rose device (Ok c.in_ok-mounted.mounted) _ new c.in_default.is c.in_default.is
    (c.in_ok-mounted.ensures.mount.ends first (bare plan) (bare_table table) rose device watched planned.table (bare-mountable t old first plan table planned rests))

pub returns-in_default-clause-alone : goal.returns-in_default-clause-alone
returns-in_default-clause-alone g c = λ first plan table rose device watched planned none rests. c.in_ok-mounted.ensures.mount.ends first (bare plan) table rose device watched planned.table rests

pub returns-in_default-clause-apart : goal.returns-in_default-clause-apart
returns-in_default-clause-apart g c = λ first plan table rose device l watched planned is apart. absurd (none-some l (sym c.in_default.is ∙ is))

pub returns-in_default-clause-found : goal.returns-in_default-clause-found
returns-in_default-clause-found g c = λ told.
    finds-alone c.args.self.now (g.F.Flash.state c.args.flash.now) c.in_ok-mounted.mounted _ (g.F.Flash.state c.mount.new.flash) c.in_default.is c.in_default.is (c.in_ok-mounted.ensures.pages.found told)

pub returns-in_default-clause-leaves : goal.returns-in_default-clause-leaves
returns-in_default-clause-leaves g c = λ told first plan table seen planned rests.
    let t = c.args.self.now in
    let none : plan.log_blocks ≡ 0 = subst (λ (o : Option RecordLog). IsLogPlanned o (first + blocks_of (bare plan)) plan) c.in_default.is planned.log in
    bare-leaves t.table (g.F.Flash.state c.args.flash.now) (g.F.Flash.state c.mount.new.flash) first plan planned.table told (c.requires.lies.table.geometry ∙ sym planned.table.geometry)
    c.in_ok-mounted.mounted c.mount.new.self (c.in_ok-mounted.ensures.pages.found told) none

pub returns-in_default-clause-alone_leaves : goal.returns-in_default-clause-alone_leaves
returns-in_default-clause-alone_leaves g c = λ told first plan planned none.
    let t = c.args.self.now in
    let alone : plan.log_blocks ≡ 0 = subst (λ (o : Option RecordLog). IsLogPlanned o (first + blocks_of (bare plan)) plan) c.in_default.is planned.log in
    bare-leaves t.table (g.F.Flash.state c.args.flash.now) (g.F.Flash.state c.mount.new.flash) first plan planned.table told (c.requires.lies.table.geometry ∙ sym planned.table.geometry)
    c.in_ok-mounted.mounted c.mount.new.self (c.in_ok-mounted.ensures.pages.found told) alone

pub returns-in_default-clause-limit : goal.returns-in_default-clause-limit
returns-in_default-clause-limit g c = λ first plan table rose device watched planned rests full.
    let t = c.args.self.now in
    let old = g.F.Flash.state c.args.flash.now in
    limit-alone plan table old.work.reads (g.F.Flash.state c.mount.new.flash).work.reads (c.in_ok-mounted.ensures.mount.limit first (bare plan) (bare_table table) rose device watched planned.table (bare-mountable t old first plan table planned rests) full)

pub returns-in_default-clause-alone_limit : goal.returns-in_default-clause-alone_limit
returns-in_default-clause-alone_limit g c = λ first plan table rose device watched planned none rests full. c.in_ok-mounted.ensures.mount.limit first (bare plan) table rose device watched planned.table rests full

-- ---- the replay

pub replay-requires : goal.replay-requires
replay-requires g c =
    let t = c.args.self.now in
    let goes = c.in_ok-mounted.ensures.flash.goes in (
      table-fits g.row.KNOTS g.row.SLOTS t.table.few_knots t.table.few_slots,
      (
        c.in_ok-mounted.ensures.memory.mounted,
        (
          c.in_ok-mounted.ensures.memory.empty,
          (
            blobs-same t.table c.mount.new.self c.in_ok-mounted.ensures.memory.same ∙ t.no_blobs (ap {B = Bool} (λ (o : Option RecordLog). is_some o) c.in-Some.is),
            (
              log-moved c.in-Some.log (g.F.Flash.state c.args.flash.now) (g.F.Flash.state c.mount.new.flash) goes (c.requires.lies.log c.in-Some.log c.in-Some.is),
              (c.in_ok-mounted.ensures.memory.lies, c.in_ok-mounted.ensures.buffer.room ∙ (c.requires.room ∙ sym (ap (λ x. x.page) goes.geometry))),
            ),
          ),
        ),
      ),
    )

-- ---- it fails

pub returns-in-Err-clause-memory : goal.returns-in-Err-clause-memory
returns-in-Err-clause-memory g c = record {
  same = record {
    table = same-then c.args.self.now.table c.mount.new.self c.unmount.new.self c.in_ok-mounted.ensures.memory.same (same-then c.mount.new.self c.replay.new.table c.unmount.new.self c.in-Err.ensures.keeps.table_same c.unmount.ensures.same);
    log = subst (λ (o : Option RecordLog). AreSameLog o (Some c.replay.new.log)) (sym c.in-Some.is) c.in-Err.ensures.keeps.same;
  };
  lies = record {
    table = c.unmount.ensures.lies (g.F.Flash.state c.replay.new.flash) c.in-Err.ensures.keeps.table_lies;
    log = log-here c.replay.new.log (g.F.Flash.state c.replay.new.flash) c.in-Err.ensures.keeps.lies;
  };
  mounted = ap (λ (o : Option Ring). is_some o) c.unmount.ensures.forgotten.down;
  calm = c.unmount.ensures.forgotten.calm;
  empty = tt;
}

pub returns-in-Err-clause-flash : goal.returns-in-Err-clause-flash
returns-in-Err-clause-flash g c = record {
  goes = goes-then (g.F.Flash.state c.args.flash.now) (g.F.Flash.state c.mount.new.flash) (g.F.Flash.state c.replay.new.flash) c.in_ok-mounted.ensures.flash.goes c.in-Err.ensures.flash.goes;
  power = tt;
  outside = λ told.
      let k = c.in_ok-mounted.ensures in
      outside-both c.args.self.now (g.F.Flash.state c.args.flash.now) c.in-Some.log c.in-Some.is c.mount.new.self (page_at (g.F.Flash.state c.mount.new.flash)) (page_at (g.F.Flash.state c.replay.new.flash)) k.memory.same (k.flash.outside told)
      (c.in-Err.ensures.flash.outside (subst IsTrue (sym k.flash.goes.tells) told));
  reads = λ told.
      let k = c.in_ok-mounted.ensures in
      few-both c.args.self.now (g.F.Flash.state c.args.flash.now) c.in-Some.log c.in-Some.is (g.F.Flash.state c.mount.new.flash) (g.F.Flash.state c.replay.new.flash) (k.flash.reads told) c.in-Err.ensures.flash.reads;
  repairs =
      repairs-both c.args.self.now c.mount.new.self (g.F.Flash.state c.args.flash.now) (g.F.Flash.state c.mount.new.flash) (g.F.Flash.state c.replay.new.flash) (ap {B = Bool} (λ (o : Option RecordLog). is_some o) c.in-Some.is)
      c.in_ok-mounted.ensures.memory.same c.in_ok-mounted.ensures.flash.repairs c.in-Err.ensures.flash.repairs;
  cause =
      let t = c.args.self.now in
      let k = c.in_ok-mounted.ensures in
      mount-cause-later (g.F.Flash.state c.args.flash.now) (g.F.Flash.state c.mount.new.flash) (g.F.Flash.state c.replay.new.flash) k.flash.goes k.flash.power c.in-Err.fault c.in-Err.ensures.fails.cause;
  off = λ down. absurd (not-lost c.in_ok-mounted.mounted (c.in_ok-mounted.ensures.flash.off down).0);
}

pub returns-in-Err-clause-buffer : goal.returns-in-Err-clause-buffer
returns-in-Err-clause-buffer g c = record { room = c.in-Err.ensures.buffer.room ∙ c.in_ok-mounted.ensures.buffer.room; holds = c.in-Err.ensures.buffer.holds }

pub returns-in-Err-clause-ends : goal.returns-in-Err-clause-ends
returns-in-Err-clause-ends g c = λ first plan table rose device watched planned rests.
    let t = c.args.self.now in
    let l = c.in-Some.log in
    let is = c.in-Some.is in
    let old = g.F.Flash.state c.args.flash.now in
    let f1 = g.F.Flash.state c.mount.new.flash in
    let f2 = g.F.Flash.state c.replay.new.flash in
    let k = c.in_ok-mounted.ensures in
    let apart = apart-of t old first plan table planned rests l is in
    let outside = k.flash.outside watched.told in
    let w = k.mount.ends first (bare plan) (bare_table table) rose device (watched-first old f1 f2 rose device watched c.in-Err.ensures.flash.goes) planned.table (apart-mountable t old first plan table planned l apart) in
    badly-of t old first plan table planned rests l is rose device c.in-Err.fault _ f2
    (replay-ends t old first plan table planned l apart rose device c.in_ok-mounted.mounted c.mount.new.self f1 outside w k.memory.none c.in-Err.fault c.replay.new.log c.replay.new.table _ f2
    (c.in-Err.ensures.ends first plan (beside (log_of table) w.now.state) rose w.now.device (watched-then old f1 f2 rose device w.now.device watched k.flash.goes w.power w.counts)
    (between-stands t old first plan table planned l apart rose device c.in_ok-mounted.mounted c.mount.new.self f1 outside w k.memory.none) (between-none t old first plan table planned l apart rose device c.in_ok-mounted.mounted c.mount.new.self f1 outside w k.memory.none)
    (between-rests t old first plan table planned l apart rose device c.in_ok-mounted.mounted c.mount.new.self f1 outside w k.memory.none)))

pub returns-in-Err-clause-alone : goal.returns-in-Err-clause-alone
returns-in-Err-clause-alone g c = λ first plan table rose device watched planned none rests. absurd (none-some c.in-Some.log (sym none ∙ c.in-Some.is))

pub returns-in-Err-clause-apart : goal.returns-in-Err-clause-apart
returns-in-Err-clause-apart g c = λ first plan table rose device l watched planned is apart.
    let t = c.args.self.now in
    let old = g.F.Flash.state c.args.flash.now in
    let f1 = g.F.Flash.state c.mount.new.flash in
    let f2 = g.F.Flash.state c.replay.new.flash in
    let k = c.in_ok-mounted.ensures in
    let here : c.in-Some.log ≡ l = same_Some _ _ (sym c.in-Some.is ∙ is) in
    let outside = k.flash.outside watched.told in
    let w = k.mount.ends first (bare plan) (bare_table table) rose device (watched-first old f1 f2 rose device watched c.in-Err.ensures.flash.goes) planned.table (apart-mountable t old first plan table planned l apart) in
    replay-ends t old first plan table planned l apart rose device c.in_ok-mounted.mounted c.mount.new.self f1 outside w k.memory.none c.in-Err.fault c.replay.new.log c.replay.new.table _ f2
    (subst (λ (x : RecordLog). ReplayEnds first plan (beside (log_of table) w.now.state) rose w.now.device x (Err c.in-Err.fault) c.replay.new.log c.replay.new.table f2) here
    (c.in-Err.ensures.ends first plan (beside (log_of table) w.now.state) rose w.now.device (watched-then old f1 f2 rose device w.now.device watched k.flash.goes w.power w.counts)
    (between-stands t old first plan table planned l apart rose device c.in_ok-mounted.mounted c.mount.new.self f1 outside w k.memory.none) (between-none t old first plan table planned l apart rose device c.in_ok-mounted.mounted c.mount.new.self f1 outside w k.memory.none)
    (subst (λ (x : RecordLog). Rests x f1 (first + blocks_of (bare plan)) plan (beside (log_of table) w.now.state)) (sym here)
    (between-rests t old first plan table planned l apart rose device c.in_ok-mounted.mounted c.mount.new.self f1 outside w k.memory.none))))

pub returns-in-Err-clause-refused : goal.returns-in-Err-clause-refused
returns-in-Err-clause-refused g c = λ told.
    let k = c.in_ok-mounted.ensures in
    refuses-behind c.args.self.now (g.F.Flash.state c.args.flash.now) c.in-Some.log c.in-Some.is c.in_ok-mounted.mounted c.mount.new.self (g.F.Flash.state c.mount.new.flash) (k.pages.found told) k.memory.same c.in-Err.fault (g.F.Flash.state c.replay.new.flash)
    (c.in-Err.ensures.fails.refused (subst IsTrue (sym k.flash.goes.tells) told))

pub returns-in-Err-clause-limit : goal.returns-in-Err-clause-limit
returns-in-Err-clause-limit g c = λ first plan table rose device watched planned rests full.
    let t = c.args.self.now in
    let old = g.F.Flash.state c.args.flash.now in
    let f1 = g.F.Flash.state c.mount.new.flash in
    let f2 = g.F.Flash.state c.replay.new.flash in
    let k = c.in_ok-mounted.ensures in
    let apart = apart-of t old first plan table planned rests c.in-Some.log c.in-Some.is in
    limit-behind plan table old.work.reads f1.work.reads f2.work.reads
    (k.mount.limit first (bare plan) (bare_table table) rose device (watched-first old f1 f2 rose device watched c.in-Err.ensures.flash.goes) planned.table (bare-mountable t old first plan table planned rests) full)
    (c.in-Err.ensures.limit (first + blocks_of (bare plan)) plan table (subst IsTrue (sym k.flash.goes.tells) watched.told) (log-stays t old first plan table planned c.in-Some.log apart f1 (k.flash.outside watched.told)))

pub returns-in-Err-clause-alone_limit : goal.returns-in-Err-clause-alone_limit
returns-in-Err-clause-alone_limit g c = λ first plan table rose device watched planned none rests full. absurd (none-some c.in-Some.log (sym none ∙ c.in-Some.is))

-- ---- all is mounted

pub returns-clause-memory : goal.returns-clause-memory
returns-clause-memory g c = record {
  same = record {
    table = same-then c.args.self.now.table c.mount.new.self c.replay.new.table c.in_ok-mounted.ensures.memory.same c.in_default-replay.ensures.keeps.table_same;
    log = subst (λ (o : Option RecordLog). AreSameLog o (Some c.replay.new.log)) (sym c.in-Some.is) c.in_default-replay.ensures.keeps.same;
  };
  lies = record {
    table = c.in_default-replay.ensures.keeps.table_lies;
    log = log-here c.replay.new.log (g.F.Flash.state c.replay.new.flash) c.in_default-replay.ensures.keeps.lies;
  };
  mounted = c.in_default-replay.ensures.finds.running;
  calm = c.in_default-replay.ensures.finds.calm ∙ c.in_ok-mounted.ensures.memory.calm;
  empty = record { table = c.in_default-replay.ensures.finds.table_empty; log = c.in_default-replay.ensures.keeps.empty };
}

pub returns-clause-flash : goal.returns-clause-flash
returns-clause-flash g c = record {
  goes = goes-then (g.F.Flash.state c.args.flash.now) (g.F.Flash.state c.mount.new.flash) (g.F.Flash.state c.replay.new.flash) c.in_ok-mounted.ensures.flash.goes c.in_default-replay.ensures.flash.goes;
  power = λ on. c.in_default-replay.ensures.finds.power;
  outside = λ told.
      let k = c.in_ok-mounted.ensures in
      outside-both c.args.self.now (g.F.Flash.state c.args.flash.now) c.in-Some.log c.in-Some.is c.mount.new.self (page_at (g.F.Flash.state c.mount.new.flash)) (page_at (g.F.Flash.state c.replay.new.flash)) k.memory.same (k.flash.outside told)
      (c.in_default-replay.ensures.flash.outside (subst IsTrue (sym k.flash.goes.tells) told));
  reads = λ told.
      let k = c.in_ok-mounted.ensures in
      few-both c.args.self.now (g.F.Flash.state c.args.flash.now) c.in-Some.log c.in-Some.is (g.F.Flash.state c.mount.new.flash) (g.F.Flash.state c.replay.new.flash) (k.flash.reads told) c.in_default-replay.ensures.flash.reads;
  repairs =
      repairs-both c.args.self.now c.mount.new.self (g.F.Flash.state c.args.flash.now) (g.F.Flash.state c.mount.new.flash) (g.F.Flash.state c.replay.new.flash) (ap {B = Bool} (λ (o : Option RecordLog). is_some o) c.in-Some.is)
      c.in_ok-mounted.ensures.memory.same c.in_ok-mounted.ensures.flash.repairs c.in_default-replay.ensures.flash.repairs;
  cause = tt;
  off = λ down. absurd (not-lost c.in_ok-mounted.mounted (c.in_ok-mounted.ensures.flash.off down).0);
}

pub returns-clause-buffer : goal.returns-clause-buffer
returns-clause-buffer g c = record { room = c.in_default-replay.ensures.buffer.room ∙ c.in_ok-mounted.ensures.buffer.room; holds = c.in_default-replay.ensures.buffer.holds }

pub returns-clause-ends : goal.returns-clause-ends
returns-clause-ends g c = λ first plan table rose device watched planned rests.
    let t = c.args.self.now in
    let l = c.in-Some.log in
    let is = c.in-Some.is in
    let old = g.F.Flash.state c.args.flash.now in
    let f1 = g.F.Flash.state c.mount.new.flash in
    let f2 = g.F.Flash.state c.replay.new.flash in
    let k = c.in_ok-mounted.ensures in
    let apart = apart-of t old first plan table planned rests l is in
    let outside = k.flash.outside watched.told in
    let w = k.mount.ends first (bare plan) (bare_table table) rose device (watched-first old f1 f2 rose device watched c.in_default-replay.ensures.flash.goes) planned.table (apart-mountable t old first plan table planned l apart) in
    let empty = c.in_default-replay.ensures.keeps.empty (row_layout plan) in
    well-of t old first plan table planned rests l is rose device c.replay.new.log _ f2 c.held.result refl empty
    (replayed t old first plan table planned l apart rose device c.in_ok-mounted.mounted c.mount.new.self f1 outside w k.memory.none c.replay.new.log _ f2 c.held.result refl empty (c.held.ensures.stands f2 first (bare plan))
    (c.in_default-replay.ensures.ends first plan (beside (log_of table) w.now.state) rose w.now.device (watched-then old f1 f2 rose device w.now.device watched k.flash.goes w.power w.counts)
    (between-stands t old first plan table planned l apart rose device c.in_ok-mounted.mounted c.mount.new.self f1 outside w k.memory.none) (between-none t old first plan table planned l apart rose device c.in_ok-mounted.mounted c.mount.new.self f1 outside w k.memory.none)
    (between-rests t old first plan table planned l apart rose device c.in_ok-mounted.mounted c.mount.new.self f1 outside w k.memory.none)))

pub returns-clause-alone : goal.returns-clause-alone
returns-clause-alone g c = λ first plan table rose device watched planned none rests. absurd (none-some c.in-Some.log (sym none ∙ c.in-Some.is))

pub returns-clause-apart : goal.returns-clause-apart
returns-clause-apart g c = λ first plan table rose device l watched planned is apart.
    let t = c.args.self.now in
    let old = g.F.Flash.state c.args.flash.now in
    let f1 = g.F.Flash.state c.mount.new.flash in
    let f2 = g.F.Flash.state c.replay.new.flash in
    let k = c.in_ok-mounted.ensures in
    let here : c.in-Some.log ≡ l = same_Some _ _ (sym c.in-Some.is ∙ is) in
    let outside = k.flash.outside watched.told in
    let w = k.mount.ends first (bare plan) (bare_table table) rose device (watched-first old f1 f2 rose device watched c.in_default-replay.ensures.flash.goes) planned.table (apart-mountable t old first plan table planned l apart) in (
      c.replay.new.log,
      (
        refl,
        replayed t old first plan table planned l apart rose device c.in_ok-mounted.mounted c.mount.new.self f1 outside w k.memory.none c.replay.new.log _ f2 c.held.result refl (c.in_default-replay.ensures.keeps.empty (row_layout plan)) (c.held.ensures.stands f2 first (bare plan))
            (c.in_default-replay.ensures.ends first plan (beside (log_of table) w.now.state) rose w.now.device (watched-then old f1 f2 rose device w.now.device watched k.flash.goes w.power w.counts)
            (between-stands t old first plan table planned l apart rose device c.in_ok-mounted.mounted c.mount.new.self f1 outside w k.memory.none) (between-none t old first plan table planned l apart rose device c.in_ok-mounted.mounted c.mount.new.self f1 outside w k.memory.none)
            (subst (λ (x : RecordLog). Rests x f1 (first + blocks_of (bare plan)) plan (beside (log_of table) w.now.state)) (sym here)
            (between-rests t old first plan table planned l apart rose device c.in_ok-mounted.mounted c.mount.new.self f1 outside w k.memory.none))),
      ),
    )

pub returns-clause-found : goal.returns-clause-found
returns-clause-found g c = λ told.
    let k = c.in_ok-mounted.ensures in
    finds-behind c.args.self.now (g.F.Flash.state c.args.flash.now) c.in-Some.log c.in-Some.is c.in_ok-mounted.mounted c.mount.new.self (g.F.Flash.state c.mount.new.flash) (k.pages.found told) k.memory.same c.held.result _ c.replay.new.log
    (g.F.Flash.state c.replay.new.flash) refl (c.in_default-replay.ensures.finds.found (subst IsTrue (sym k.flash.goes.tells) told)) c.held.ensures.exact

pub returns-clause-leaves : goal.returns-clause-leaves
returns-clause-leaves g c = λ told first plan table seen planned rests. by-seen first plan table seen planned rests
  where
    not-none : (t : LoggedTable g.row.KNOTS g.row.SLOTS) (l : RecordLog) → log_in t ≡ Some l → is_logged t ≡ false → ⊥
    not-none t l is none = true≢false (sym (ap (λ (o : Option RecordLog). is_some o) is) ∙ none)

    by-seen : (first : ℕ) (plan : Plan) (table : Table) → (is_logged c.args.self.now ≡ false) ⊎ ((rose : Bool) × (device : Device) × IsWatched (g.F.Flash.state c.args.flash.now) (g.F.Flash.state c.replay.new.flash) rose device) →
        IsPlanned c.args.self.now first plan → LoggedRests (g.F.Flash.state c.args.flash.now) first plan table → LeavesPages first plan (page_at (g.F.Flash.state c.args.flash.now)) (page_at (g.F.Flash.state c.replay.new.flash))
    by-seen first plan table (inl none) planned rests = absurd (not-none c.args.self.now c.in-Some.log c.in-Some.is none)
    by-seen first plan table (inr (rose, device, watched)) planned rests =
        let t = c.args.self.now in
        let l = c.in-Some.log in
        let is = c.in-Some.is in
        let old = g.F.Flash.state c.args.flash.now in
        let f1 = g.F.Flash.state c.mount.new.flash in
        let f2 = g.F.Flash.state c.replay.new.flash in
        let k = c.in_ok-mounted.ensures in
        let apart = apart-of t old first plan table planned rests l is in
        let outside = k.flash.outside watched.told in
        let w = k.mount.ends first (bare plan) (bare_table table) rose device (watched-first old f1 f2 rose device watched c.in_default-replay.ensures.flash.goes) planned.table (apart-mountable t old first plan table planned l apart) in
        let leaves = c.in_default-replay.ensures.finds.leaves first plan (beside (log_of table) w.now.state) rose w.now.device (watched-then old f1 f2 rose device w.now.device watched k.flash.goes w.power w.counts)
        (between-stands t old first plan table planned l apart rose device c.in_ok-mounted.mounted c.mount.new.self f1 outside w k.memory.none) (between-none t old first plan table planned l apart rose device c.in_ok-mounted.mounted c.mount.new.self f1 outside w k.memory.none)
        (between-rests t old first plan table planned l apart rose device c.in_ok-mounted.mounted c.mount.new.self f1 outside w k.memory.none) in
        mount-leaves t.table old f1 first plan planned.table watched.told (c.requires.lies.table.geometry ∙ sym planned.table.geometry) c.in_ok-mounted.mounted c.mount.new.self (k.pages.found watched.told)
        f2 table rose device w.now w.did rests.settled.facts rests.pages (beside (log_of table) w.now.state) refl refl (w.stands apart.unlogged.settled).facts.has_rings.0 leaves (log-there l (first + blocks_of (bare plan)) plan apart.log.planned)
        (g.met.F.Flash.reaches c.args.flash.now) (omega (arith, (c.requires.lies.log l is).within, apart.log.planned.begins))

pub returns-clause-alone_leaves : goal.returns-clause-alone_leaves
returns-clause-alone_leaves g c = λ told first plan planned none. absurd (none-some c.in-Some.log (sym none ∙ c.in-Some.is))

pub returns-clause-limit : goal.returns-clause-limit
returns-clause-limit g c = λ first plan table rose device watched planned rests full.
    let t = c.args.self.now in
    let old = g.F.Flash.state c.args.flash.now in
    let f1 = g.F.Flash.state c.mount.new.flash in
    let f2 = g.F.Flash.state c.replay.new.flash in
    let k = c.in_ok-mounted.ensures in
    let apart = apart-of t old first plan table planned rests c.in-Some.log c.in-Some.is in
    limit-behind plan table old.work.reads f1.work.reads f2.work.reads
    (k.mount.limit first (bare plan) (bare_table table) rose device (watched-first old f1 f2 rose device watched c.in_default-replay.ensures.flash.goes) planned.table (bare-mountable t old first plan table planned rests) full)
    (c.in_default-replay.ensures.limit (first + blocks_of (bare plan)) plan table (subst IsTrue (sym k.flash.goes.tells) watched.told) (log-stays t old first plan table planned c.in-Some.log apart f1 (k.flash.outside watched.told)))

pub returns-clause-alone_limit : goal.returns-clause-alone_limit
returns-clause-alone_limit g c = λ first plan table rose device watched planned none rests full. absurd (none-some c.in-Some.log (sym none ∙ c.in-Some.is))

pub unmount-requires : goal.unmount-requires
unmount-requires g c = table-fits g.row.KNOTS g.row.SLOTS c.args.self.now.table.few_knots c.args.self.now.table.few_slots

pub held-requires : goal.held-requires
held-requires g c = table-fits g.row.KNOTS g.row.SLOTS c.args.self.now.table.few_knots c.args.self.now.table.few_slots

pub invariant_of-self : goal.invariant_of-self
invariant_of-self g c =
    record {
      running = λ l is up. absurd (true≢false (sym up ∙ c.in_err-mounted.ensures.memory.mounted));
      no_blobs = λ some. blobs-same c.args.self.now.table c.mount.new.self c.in_err-mounted.ensures.memory.same ∙ c.args.self.now.no_blobs some;
      room = room-same c.args.self.now.table c.mount.new.self c.args.self.now.log c.args.self.now.log c.in_err-mounted.ensures.memory.same (log-self c.args.self.now.log) c.args.self.now.room;
    }

pub invariant_of-self-in_default : goal.invariant_of-self-in_default
invariant_of-self-in_default g c =
    record {
      running = λ l is up. absurd (none-some l (sym c.in_default.is ∙ is));
      no_blobs = λ some. blobs-same c.args.self.now.table c.mount.new.self c.in_ok-mounted.ensures.memory.same ∙ c.args.self.now.no_blobs some;
      room = room-same c.args.self.now.table c.mount.new.self c.args.self.now.log c.args.self.now.log c.in_ok-mounted.ensures.memory.same (log-self c.args.self.now.log) c.args.self.now.room;
    }

pub invariant_of-self-in-Err : goal.invariant_of-self-in-Err
invariant_of-self-in-Err g c =
    record {
      running = λ l is up. absurd (true≢false (sym up ∙ ap (λ (o : Option Ring). is_some o) c.unmount.ensures.forgotten.down));
      no_blobs = λ some. blobs-same c.replay.new.table c.unmount.new.self c.unmount.ensures.same ∙ (blobs-same c.mount.new.self c.replay.new.table c.in-Err.ensures.keeps.table_same ∙ (blobs-same c.args.self.now.table c.mount.new.self c.in_ok-mounted.ensures.memory.same ∙ c.args.self.now.no_blobs (ap {B = Bool} (λ (o : Option RecordLog). is_some o) c.in-Some.is)));
      room = room-same c.args.self.now.table c.unmount.new.self c.args.self.now.log (Some c.replay.new.log)
          (same-then c.args.self.now.table c.mount.new.self c.unmount.new.self c.in_ok-mounted.ensures.memory.same (same-then c.mount.new.self c.replay.new.table c.unmount.new.self c.in-Err.ensures.keeps.table_same c.unmount.ensures.same))
          (subst (λ (o : Option RecordLog). AreSameLog o (Some c.replay.new.log)) (sym c.in-Some.is) c.in-Err.ensures.keeps.same) c.args.self.now.room;
    }

pub invariant_of-self-in_default-replay : goal.invariant_of-self-in_default-replay
invariant_of-self-in_default-replay g c =
    record {
      running = λ l is up. subst (λ (x : RecordLog). is_mounted x ≡ true) (same_Some _ _ is) c.in_default-replay.ensures.finds.mounted;
      no_blobs = λ some. blobs-same c.mount.new.self c.replay.new.table c.in_default-replay.ensures.keeps.table_same ∙ (blobs-same c.args.self.now.table c.mount.new.self c.in_ok-mounted.ensures.memory.same ∙ c.args.self.now.no_blobs (ap {B = Bool} (λ (o : Option RecordLog). is_some o) c.in-Some.is));
      room = room-same c.args.self.now.table c.replay.new.table c.args.self.now.log (Some c.replay.new.log) (same-then c.args.self.now.table c.mount.new.self c.replay.new.table c.in_ok-mounted.ensures.memory.same c.in_default-replay.ensures.keeps.table_same)
          (subst (λ (o : Option RecordLog). AreSameLog o (Some c.replay.new.log)) (sym c.in-Some.is) c.in_default-replay.ensures.keeps.same) c.args.self.now.room;
    }

pub invariant_of-self-2 : goal.invariant_of-self-2
invariant_of-self-2 g c =
    record {
      running = λ l is up. subst (λ (x : RecordLog). is_mounted x ≡ true) (same_Some _ _ is) c.in_default-replay.ensures.finds.mounted;
      no_blobs = λ some. blobs-same c.mount.new.self c.replay.new.table c.in_default-replay.ensures.keeps.table_same ∙ (blobs-same c.args.self.now.table c.mount.new.self c.in_ok-mounted.ensures.memory.same ∙ c.args.self.now.no_blobs (ap {B = Bool} (λ (o : Option RecordLog). is_some o) c.in-Some.is));
      room = room-same c.args.self.now.table c.replay.new.table c.args.self.now.log (Some c.replay.new.log) (same-then c.args.self.now.table c.mount.new.self c.replay.new.table c.in_ok-mounted.ensures.memory.same c.in_default-replay.ensures.keeps.table_same)
          (subst (λ (o : Option RecordLog). AreSameLog o (Some c.replay.new.log)) (sym c.in-Some.is) c.in_default-replay.ensures.keeps.same) c.args.self.now.room;
    }
