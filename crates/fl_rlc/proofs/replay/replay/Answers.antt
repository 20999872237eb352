use Rattle.std.proofs.Common.{ℕ, ◌+◌, Some, None, inl, inr, IsTrue, refl, sym, ◌∙◌, ap, subst, arith, length, Option, List}
use Rattle.std.proofs.lemmas.Result.{err_from_is_err_and}
use Rattle.fl_flash.specs.Flash.{page_at}
use Rattle.fl_frame.proofs.CallsInTurn.{goes-then}
use Rattle.fl_model.specs.Bare.{bare, bare_table}
use Rattle.fl_model.specs.Mount.{ready, joined}
use Rattle.fl_model.specs.Record.{blocks_of}
use Rattle.fl_model.specs.Table.{Table}
use Rattle.fl_model.specs.Table.{LogRing, shape_of}
use Rattle.fl_ring.specs.declared.newest.NewestPage.{NewestPage}
use Rattle.fl_ring.proofs.Founds.{same_pages}
use Rattle.fl_ring.proofs.RepairSteps.{device_still}
use Rattle.fl_parts.specs.Faults.{IfPage}
use Rattle.fl_table.specs.Look.{layout_in}
use Rattle.fl_frame.proofs.WatchedInTurn.{watched-first, watched-then, cause-later}
use Rattle.fl_parts.proofs.MountParts.{pages-cause, ring-cause}
use Rattle.fl_table.proofs.Outsides.{outside-same}
use Rattle.fl_table.proofs.SealAnswers.{plan-self, same-then}
use Rattle.fl_parts.proofs.Sizes.{table-fits}
use Rattle.fl_table.proofs.ReadsKeepTable.{lies-moved}
use Rattle.fl_rlc.specs.Memory.{page_in}
use Rattle.fl_rlc.specs.Repairing.{Finds}
use Rattle.fl_rlc.specs.Finding.{OffersNewest}
use Rattle.fl_rlc.specs.Replaying.{IsBad}
use Rattle.fl_rlc.proofs.JoinedRow.{same-pages}
use Rattle.fl_rlc.proofs.LogReads.{log-reads, few-rings, found-none, found-some}
use Rattle.fl_rlc.proofs.MountLimits.{log-more}
use Rattle.fl_rlc.proofs.NewestRead.{if-told}
use Rattle.fl_rlc.proofs.OfferedRecords.{sealed-empty}
use Rattle.fl_rlc.proofs.PutFrames.{log-moved}
use Rattle.fl_rlc.proofs.ReplayLeft.{no-var-blocks, joined-rings, none-leaves, seal-leaves}
use Rattle.fl_rlc.proofs.Replays.{begun-stands, begun-none, begun-ring, log-fault, none-well, page-fault, seal-well, seal-badly}
use Rattle.fl_rlc.proofs.SealsInTable.{pages-size}
use Rattle.fl_rlc.proofs.Written.{repairs-log, repairs-read, repairs-sealed}
use Rattle.fl_flash.specs.Buffer.{BufferState}
use Rattle.fl_rlc.proofs.replay.replay.Goals as goal

pub mount-requires-clause-lies : goal.mount-requires-clause-lies
mount-requires-clause-lies g c = c.requires.lies

pub mount-requires-clause-room : goal.mount-requires-clause-room
mount-requires-clause-room g c = c.requires.room

-- ---- the ring is refused

pub returns-in_err-newest-clause-keeps : goal.returns-in_err-newest-clause-keeps
returns-in_err-newest-clause-keeps g c = record {
  same = c.in_err-newest.ensures.same;
  lies = c.in_err-newest.ensures.lies;
  empty = c.in_err-newest.ensures.empty;
  table_same = plan-self c.args.table.now;
  table_lies = lies-moved c.args.table.now (g.F.Flash.state c.args.flash.now) (g.F.Flash.state c.mount.new.flash) c.in_err-newest.ensures.beside.goes c.requires.table_lies;
}

pub returns-in_err-newest-clause-buffer : goal.returns-in_err-newest-clause-buffer
returns-in_err-newest-clause-buffer g c = record { room = c.in_err-newest.ensures.room; holds = c.in_err-newest.ensures.holds }

pub returns-in_err-newest-clause-ends : goal.returns-in_err-newest-clause-ends
returns-in_err-newest-clause-ends g c = λ first plan table rose device watched s none rests.
    let p = err_from_is_err_and c.from_residual.result c.from_residual.ensures.1 in
    rw (p.1, p.2) (log-fault c.args.table.now c.args.log.now (g.F.Flash.state c.args.flash.now) first plan table rose device s none rests.planned c.in_err-newest.field-0.0 c.mount.new.self c.mount.new.self c.args.table.now (g.F.Flash.state c.mount.new.flash)
    (c.in_err-newest.ensures.beside.outside watched.told) (c.in_err-newest.ensures.ends (first + blocks_of (bare plan)) plan table rose device watched rests))

pub returns-in_err-newest-clause-finds : goal.returns-in_err-newest-clause-finds
returns-in_err-newest-clause-finds g c = let p = err_from_is_err_and c.from_residual.result c.from_residual.ensures.1 in rw p.1 tt

pub returns-in_err-newest-clause-fails : goal.returns-in_err-newest-clause-fails
returns-in_err-newest-clause-fails g c =
    let p = err_from_is_err_and c.from_residual.result c.from_residual.ensures.1 in
    rw (p.1, p.2) (record {
      refused = λ told. inl (record { why = c.in_err-newest.field-0.0; fault_is = refl; found = c.in_err-newest.ensures.fault; fails = c.in_err-newest.ensures.fails });
      cause = ring-cause (g.F.Flash.state c.args.flash.now) (g.F.Flash.state c.mount.new.flash) c.in_err-newest.field-0.0 c.in_err-newest.ensures.cause;
    })

pub returns-in_err-newest-clause-flash : goal.returns-in_err-newest-clause-flash
returns-in_err-newest-clause-flash g c = record {
  goes = c.in_err-newest.ensures.beside.goes;
  outside = λ told page rows index var log. c.in_err-newest.ensures.beside.outside told page log;
  reads =
      let all = log-reads c.args.log.now in
      let block = ap (λ x. x.block) c.requires.lies.geometry in
      record { reads = omega (arith, c.in_err-newest.ensures.beside.few_reads, all, block); media_reads = omega (arith, c.in_err-newest.ensures.beside.media_reads, all, block) };
  repairs =
      let log = c.in_err-newest.ensures.beside in
      repairs-log c.args.table.now (g.F.Flash.state c.args.flash.now) (g.F.Flash.state c.mount.new.flash) log.few_programs log.few_erases;
}

pub returns-in_err-newest-clause-limit : goal.returns-in_err-newest-clause-limit
returns-in_err-newest-clause-limit g c = λ first plan table told rests.
    let more = log-more (shape_of plan LogRing) table.log rests.ring rests.ring_is in
    omega (arith, c.in_err-newest.ensures.reads first plan table told rests, more)

-- ---- it keeps no page with records

pub returns-in_default-clause-keeps : goal.returns-in_default-clause-keeps
returns-in_default-clause-keeps g c = record {
  same = c.in_ok-newest.ensures.same;
  lies = c.in_ok-newest.ensures.lies;
  empty = c.in_ok-newest.ensures.empty;
  table_same = plan-self c.args.table.now;
  table_lies = lies-moved c.args.table.now (g.F.Flash.state c.args.flash.now) (g.F.Flash.state c.mount.new.flash) c.in_ok-newest.ensures.beside.goes c.requires.table_lies;
}

pub returns-in_default-clause-buffer : goal.returns-in_default-clause-buffer
returns-in_default-clause-buffer g c = record { room = c.in_ok-newest.ensures.room; holds = c.in_ok-newest.ensures.holds }

pub returns-in_default-clause-ends : goal.returns-in_default-clause-ends
returns-in_default-clause-ends g c = λ first plan table rose device watched s none rests.
    let l = c.args.log.now in
    let l1 = c.mount.new.self in
    let old = g.F.Flash.state c.args.flash.now in
    let f1 = g.F.Flash.state c.mount.new.flash in
    let k = c.in_ok-newest.ensures in
    let m = k.ends (first + blocks_of (bare plan)) plan table rose device watched rests in
    let sizes = pages-size l1 f1 (g.met.F.Flash.reaches c.mount.new.flash) k.lies.geometry k.lies.within in
    let empty = found-none l l1 old f1 (first + blocks_of (bare plan)) plan m.now.state k.same m.ring sizes watched.told c.in_ok-newest.field-0 k.found c.in_default.is in
    none-well c.args.table.now l old first plan table rose device s none rests.planned l1 k.same f1 (k.beside.outside watched.told) m empty

pub returns-in_default-clause-finds : goal.returns-in_default-clause-finds
returns-in_default-clause-finds g c = record {
  mounted = c.in_ok-newest.ensures.mounted;
  running = c.requires.running;
  calm = refl;
  table_empty = c.requires.none;
  power = c.in_ok-newest.ensures.power;
  found = λ told.
      let f1 = g.F.Flash.state c.mount.new.flash in
      record {
        newest = None;
        repaired = f1;
        finds = subst (λ (o : Option NewestPage). Finds c.args.log.now (g.F.Flash.state c.args.flash.now) o c.mount.new.self f1) c.in_default.is c.in_ok-newest.ensures.found;
        replays = (refl, refl);
      };
  leaves = λ first plan table rose device watched s none rests.
      let found = subst (λ (o : Option NewestPage). Finds c.args.log.now (g.F.Flash.state c.args.flash.now) o c.mount.new.self (g.F.Flash.state c.mount.new.flash)) c.in_default.is c.in_ok-newest.ensures.found in
      none-leaves c.args.log.now (g.F.Flash.state c.args.flash.now) (g.F.Flash.state c.mount.new.flash) first plan table rests.planned watched.told c.requires.lies.geometry found.ring found.numbers;
}

pub returns-in_default-clause-flash : goal.returns-in_default-clause-flash
returns-in_default-clause-flash g c = record {
  goes = c.in_ok-newest.ensures.beside.goes;
  outside = λ told page rows index var log. c.in_ok-newest.ensures.beside.outside told page log;
  reads =
      let all = log-reads c.args.log.now in
      let block = ap (λ x. x.block) c.requires.lies.geometry in
      record { reads = omega (arith, c.in_ok-newest.ensures.beside.few_reads, all, block); media_reads = omega (arith, c.in_ok-newest.ensures.beside.media_reads, all, block) };
  repairs =
      let log = c.in_ok-newest.ensures.beside in
      repairs-log c.args.table.now (g.F.Flash.state c.args.flash.now) (g.F.Flash.state c.mount.new.flash) log.few_programs log.few_erases;
}

pub returns-in_default-clause-limit : goal.returns-in_default-clause-limit
returns-in_default-clause-limit g c = λ first plan table told rests.
    let more = log-more (shape_of plan LogRing) table.log rests.ring rests.ring_is in
    omega (arith, c.in_ok-newest.ensures.reads first plan table told rests, more)

-- ---- its newest page

pub join_newest-joined-requires : goal.join_newest-joined-requires
join_newest-joined-requires g c =
    let goes = c.in_ok-newest.ensures.beside.goes in (
      table-fits g.row.KNOTS g.row.SLOTS c.args.table.now.few_knots c.args.table.now.few_slots,
      (
        c.in_ok-newest.ensures.mounted,
        (
          c.requires.running,
          (
            c.requires.none.none,
            (
              c.requires.no_blobs,
              (
                c.in_ok-newest.ensures.lies,
                (
                  lies-moved c.args.table.now (g.F.Flash.state c.args.flash.now) (g.F.Flash.state c.mount.new.flash) c.in_ok-newest.ensures.beside.goes c.requires.table_lies,
                  c.in_ok-newest.ensures.room ∙ (c.requires.room ∙ sym (ap (λ x. x.page) goes.geometry)),
                ),
              ),
            ),
          ),
        ),
      ),
    )

-- ---- its newest page is refused

pub returns-in_err-joined-clause-keeps : goal.returns-in_err-joined-clause-keeps
returns-in_err-joined-clause-keeps g c = record {
  same = c.in_ok-newest.ensures.same;
  lies = log-moved c.mount.new.self (g.F.Flash.state c.mount.new.flash) (g.F.Flash.state c.join_newest-joined.new.flash) c.in_err-joined.ensures.reads.goes c.in_ok-newest.ensures.lies;
  empty = c.in_ok-newest.ensures.empty;
  table_same = c.in_err-joined.ensures.same;
  table_lies = c.in_err-joined.ensures.lies;
}

pub returns-in_err-joined-clause-buffer : goal.returns-in_err-joined-clause-buffer
returns-in_err-joined-clause-buffer g c = record { room = ap (λ (b : BufferState). length b.bytes) c.forget.ensures ∙ (c.in_err-joined.ensures.room ∙ c.in_ok-newest.ensures.room); holds = ap (λ (b : BufferState). b.holds) c.forget.ensures }

pub returns-in_err-joined-clause-ends : goal.returns-in_err-joined-clause-ends
returns-in_err-joined-clause-ends g c = λ first plan table rose device watched s none rests.
    let t = c.args.table.now in
    let l = c.args.log.now in
    let l1 = c.mount.new.self in
    let old = g.F.Flash.state c.args.flash.now in
    let f1 = g.F.Flash.state c.mount.new.flash in
    let f2 = g.F.Flash.state c.join_newest-joined.new.flash in
    let k = c.in_ok-newest.ensures in
    let reads = c.in_err-joined.ensures.reads in
    let m = k.ends (first + blocks_of (bare plan)) plan table rose device (watched-first old f1 f2 rose device watched reads.goes) rests in
    let outside = k.beside.outside watched.told in
    let sizes = pages-size l1 f1 (g.met.F.Flash.reaches c.mount.new.flash) k.lies.geometry k.lies.within in
    let ring = begun-ring t l old first plan table rose device s none rests.planned l1 k.same f1 outside m in
    let newest = found-some l l1 old f1 (first + blocks_of (bare plan)) plan (ready plan m.now.state) k.same ring sizes watched.told c.in_ok-newest.field-0 k.found c.in-Some.newest c.in-Some.is in
    let joins = c.in_err-joined.ensures.joins first plan (ready plan m.now.state) rose m.now.device (watched-then old f1 f2 rose device m.now.device watched k.beside.goes m.power m.counts)
    (begun-stands t l old first plan table rose device s none rests.planned l1 k.same f1 outside m) (begun-none t l old first plan table rose device s none rests.planned l1 k.same f1 outside m) newest in
    let p = err_from_is_err_and c.from_residual-in_err-joined.result c.from_residual-in_err-joined.ensures.1 in
    rw (p.1, p.2) (page-fault t l old first plan table rose device s none rests.planned l1 k.same f1 outside m c.in_err-joined.field-0.0 l1 c.join_newest-joined.new.table c.join_newest-joined.new.table f2 (same_pages f1 f2 1 reads) (device_still f1 f2 1 m.now.device reads m.counts) joins)

pub returns-in_err-joined-clause-finds : goal.returns-in_err-joined-clause-finds
returns-in_err-joined-clause-finds g c = let p = err_from_is_err_and c.from_residual-in_err-joined.result c.from_residual-in_err-joined.ensures.1 in rw p.1 tt

pub returns-in_err-joined-clause-fails : goal.returns-in_err-joined-clause-fails
returns-in_err-joined-clause-fails g c =
    let p = err_from_is_err_and c.from_residual-in_err-joined.result c.from_residual-in_err-joined.ensures.1 in
    rw (p.1, p.2) (record {
      refused = λ told.
          let l = c.args.log.now in
          let l1 = c.mount.new.self in
          let f1 = g.F.Flash.state c.mount.new.flash in
          let old = g.F.Flash.state c.args.flash.now in
          let here = subst IsTrue (sym c.in_ok-newest.ensures.beside.goes.tells) told in
          inr (inl (record {
            newest = c.in-Some.newest;
            repaired = f1;
            found = record { log = l1; finds = subst (λ (o : Option NewestPage). Finds l old o l1 f1) c.in-Some.is c.in_ok-newest.ensures.found };
            reads = c.in_err-joined.ensures.reads;
            only = c.in_err-joined.ensures.only;
            bad = subst (λ (at : ℕ → List ℕ). IfPage (λ e. IsBad (layout_in c.args.table.now) c.in-Some.newest.number (at c.in-Some.newest.number) e) c.in_err-joined.field-0.0) (same-pages l l1 f1 c.in_ok-newest.ensures.same)
                (if-told (IsTrue f1.media.tells) (λ e. IsBad (layout_in c.args.table.now) c.in-Some.newest.number (page_in l1 f1 c.in-Some.newest.number) e) c.in_err-joined.field-0.0 here c.in_err-joined.ensures.bad);
            fails = c.in_err-joined.ensures.fails;
          }));
      cause = pages-cause (g.F.Flash.state c.args.flash.now) (g.F.Flash.state c.mount.new.flash) (g.F.Flash.state c.join_newest-joined.new.flash) c.in_ok-newest.ensures.beside.goes c.in_ok-newest.ensures.power c.in_err-joined.field-0.0
          c.in_err-joined.ensures.only c.in_err-joined.ensures.fails;
    })

pub returns-in_err-joined-clause-flash : goal.returns-in_err-joined-clause-flash
returns-in_err-joined-clause-flash g c = record {
  goes =
      goes-then (g.F.Flash.state c.args.flash.now) (g.F.Flash.state c.mount.new.flash) (g.F.Flash.state c.join_newest-joined.new.flash) c.in_ok-newest.ensures.beside.goes c.in_err-joined.ensures.reads.goes;
  outside = λ told page rows index var log.
      ap (λ (at : ℕ → List ℕ). at page) (same_pages (g.F.Flash.state c.mount.new.flash) (g.F.Flash.state c.join_newest-joined.new.flash) 1 c.in_err-joined.ensures.reads) ∙ c.in_ok-newest.ensures.beside.outside told page log;
  reads =
      let all = log-reads c.args.log.now in
      let block = ap (λ x. x.block) c.requires.lies.geometry in
      record {
        reads = omega (arith, c.in_ok-newest.ensures.beside.few_reads, c.in_err-joined.ensures.reads.reads, all, block);
        media_reads = omega (arith, c.in_ok-newest.ensures.beside.media_reads, c.in_err-joined.ensures.reads.media_reads, all, block);
      };
  repairs =
      let log = c.in_ok-newest.ensures.beside in
      repairs-read c.args.table.now 1 (g.F.Flash.state c.args.flash.now) (g.F.Flash.state c.mount.new.flash) (g.F.Flash.state c.join_newest-joined.new.flash) log.few_programs log.few_erases c.in_err-joined.ensures.reads;
}

pub returns-in_err-joined-clause-limit : goal.returns-in_err-joined-clause-limit
returns-in_err-joined-clause-limit g c = λ first plan table told rests.
    let more = log-more (shape_of plan LogRing) table.log rests.ring rests.ring_is in
    omega (arith, c.in_ok-newest.ensures.reads first plan table told rests, c.in_err-joined.ensures.reads.reads, more)

-- ---- the seal fails

pub seal_rows-requires : goal.seal_rows-requires
seal_rows-requires g c = (table-fits g.row.KNOTS g.row.SLOTS c.args.table.now.few_knots c.args.table.now.few_slots, (c.in_ok-joined.ensures.running, c.in_ok-joined.ensures.lies))

pub returns-in_err-seal_rows-clause-keeps : goal.returns-in_err-seal_rows-clause-keeps
returns-in_err-seal_rows-clause-keeps g c = record {
  same = c.in_ok-newest.ensures.same;
  lies =
      log-moved c.mount.new.self (g.F.Flash.state c.mount.new.flash) (g.F.Flash.state c.seal_rows.new.flash)
      (goes-then (g.F.Flash.state c.mount.new.flash) (g.F.Flash.state c.join_newest-joined.new.flash) (g.F.Flash.state c.seal_rows.new.flash) c.in_ok-joined.ensures.reads.goes c.in_err-seal_rows.ensures.goes) c.in_ok-newest.ensures.lies;
  empty = c.in_ok-newest.ensures.empty;
  table_same = same-then c.args.table.now c.join_newest-joined.new.table c.seal_rows.new.table c.in_ok-joined.ensures.same c.in_err-seal_rows.ensures.same;
  table_lies = c.in_err-seal_rows.ensures.lies;
}

pub returns-in_err-seal_rows-clause-buffer : goal.returns-in_err-seal_rows-clause-buffer
returns-in_err-seal_rows-clause-buffer g c = record { room = ap (λ (b : BufferState). length b.bytes) c.forget.ensures ∙ (c.in_ok-joined.ensures.room ∙ c.in_ok-newest.ensures.room); holds = ap (λ (b : BufferState). b.holds) c.forget.ensures }

pub returns-in_err-seal_rows-clause-ends : goal.returns-in_err-seal_rows-clause-ends
returns-in_err-seal_rows-clause-ends g c = λ first plan table rose device watched s none rests.
    let t = c.args.table.now in
    let l = c.args.log.now in
    let l1 = c.mount.new.self in
    let old = g.F.Flash.state c.args.flash.now in
    let f1 = g.F.Flash.state c.mount.new.flash in
    let f2 = g.F.Flash.state c.join_newest-joined.new.flash in
    let f3 = g.F.Flash.state c.seal_rows.new.flash in
    let k = c.in_ok-newest.ensures in
    let reads = c.in_ok-joined.ensures.reads in
    let watched2 = watched-first old f2 f3 rose device watched c.in_err-seal_rows.ensures.goes in
    let m = k.ends (first + blocks_of (bare plan)) plan table rose device (watched-first old f1 f2 rose device watched2 reads.goes) rests in
    let outside = k.beside.outside watched.told in
    let sizes = pages-size l1 f1 (g.met.F.Flash.reaches c.mount.new.flash) k.lies.geometry k.lies.within in
    let ring = begun-ring t l old first plan table rose device s none rests.planned l1 k.same f1 outside m in
    let newest = found-some l l1 old f1 (first + blocks_of (bare plan)) plan (ready plan m.now.state) k.same ring sizes watched.told c.in_ok-newest.field-0 k.found c.in-Some.newest c.in-Some.is in
    let joins = c.in_ok-joined.ensures.joins first plan (ready plan m.now.state) rose m.now.device (watched-then old f1 f2 rose device m.now.device watched2 k.beside.goes m.power m.counts)
    (begun-stands t l old first plan table rose device s none rests.planned l1 k.same f1 outside m) (begun-none t l old first plan table rose device s none rests.planned l1 k.same f1 outside m) newest in
    let later = watched-then old f2 f3 rose device m.now.device watched (goes-then old f1 f2 k.beside.goes reads.goes) c.in_ok-joined.ensures.power (device_still f1 f2 1 m.now.device reads m.counts) in
    let p = err_from_is_err_and c.from_residual-in_err-seal_rows.result c.from_residual-in_err-seal_rows.ensures.1 in
    rw (p.1, p.2) (seal-badly t l old first plan table rose device s none rests.planned l1 k.same f1 outside m c.join_newest-joined.new.table f2 f3 (same_pages f1 f2 1 reads) joins.planned (c.in_err-seal_rows.ensures.outside later.told)
    c.seal_rows.new.table c.in_err-seal_rows.field-0.0 (c.in_err-seal_rows.ensures.ends first (bare plan) (bare_table (joined (ready plan m.now.state))) rose m.now.device later joins))

pub returns-in_err-seal_rows-clause-finds : goal.returns-in_err-seal_rows-clause-finds
returns-in_err-seal_rows-clause-finds g c = let p = err_from_is_err_and c.from_residual-in_err-seal_rows.result c.from_residual-in_err-seal_rows.ensures.1 in rw p.1 tt

pub returns-in_err-seal_rows-clause-fails : goal.returns-in_err-seal_rows-clause-fails
returns-in_err-seal_rows-clause-fails g c =
    let p = err_from_is_err_and c.from_residual-in_err-seal_rows.result c.from_residual-in_err-seal_rows.ensures.1 in
    rw (p.1, p.2) (record {
      refused = λ told.
          let l = c.args.log.now in
          let l1 = c.mount.new.self in
          let f1 = g.F.Flash.state c.mount.new.flash in
          let here = subst IsTrue (sym c.in_ok-newest.ensures.beside.goes.tells) told in
          inr (inr (record {
            newest = c.in-Some.newest;
            repaired = f1;
            found = record { log = l1; finds = subst (λ (o : Option NewestPage). Finds l (g.F.Flash.state c.args.flash.now) o l1 f1) c.in-Some.is c.in_ok-newest.ensures.found };
            read = g.F.Flash.state c.join_newest-joined.new.flash;
            joined = c.join_newest-joined.new.table;
            offers = subst (λ (at : ℕ → List ℕ). OffersNewest (layout_in c.args.table.now) c.in-Some.newest.number (at c.in-Some.newest.number) f1 c.args.table.now (g.F.Flash.state c.join_newest-joined.new.flash) c.join_newest-joined.new.table) (same-pages l l1 f1 c.in_ok-newest.ensures.same)
                (record { stands = c.in_ok-joined.ensures.stands here; reads = c.in_ok-joined.ensures.reads; offers = c.in_ok-joined.ensures.offers here });
            some = c.in_err-seal_rows.ensures.some;
            why = c.in_err-seal_rows.field-0.0;
            fault_is = refl;
            cause = c.in_err-seal_rows.ensures.cause;
            writes = c.in_err-seal_rows.ensures.writes;
          }));
      cause =
          let old = g.F.Flash.state c.args.flash.now in
          let f2 = g.F.Flash.state c.join_newest-joined.new.flash in
          cause-later old f2 (g.F.Flash.state c.seal_rows.new.flash) (goes-then old (g.F.Flash.state c.mount.new.flash) f2 c.in_ok-newest.ensures.beside.goes c.in_ok-joined.ensures.reads.goes) (λ on. c.in_ok-joined.ensures.power) c.in_err-seal_rows.field-0.0 c.in_err-seal_rows.ensures.cause;
    })

pub returns-in_err-seal_rows-clause-flash : goal.returns-in_err-seal_rows-clause-flash
returns-in_err-seal_rows-clause-flash g c = record {
  goes =
      goes-then (g.F.Flash.state c.args.flash.now) (g.F.Flash.state c.join_newest-joined.new.flash) (g.F.Flash.state c.seal_rows.new.flash)
      (goes-then (g.F.Flash.state c.args.flash.now) (g.F.Flash.state c.mount.new.flash) (g.F.Flash.state c.join_newest-joined.new.flash) c.in_ok-newest.ensures.beside.goes c.in_ok-joined.ensures.reads.goes) c.in_err-seal_rows.ensures.goes;
  outside = λ told page rows index var log.
      let f1 = g.F.Flash.state c.mount.new.flash in
      let f2 = g.F.Flash.state c.join_newest-joined.new.flash in
      let f3 = g.F.Flash.state c.seal_rows.new.flash in
      let here = subst IsTrue (sym c.in_ok-newest.ensures.beside.goes.tells) told in
      let then = subst IsTrue (sym c.in_ok-joined.ensures.reads.goes.tells) here in
      outside-same c.args.table.now c.join_newest-joined.new.table (page_at f2) (page_at f3) c.in_ok-joined.ensures.same (c.in_err-seal_rows.ensures.outside then) page rows index var
      ∙ (ap (λ (at : ℕ → List ℕ). at page) (same_pages f1 f2 1 c.in_ok-joined.ensures.reads) ∙ c.in_ok-newest.ensures.beside.outside told page log);
  reads =
      let all = log-reads c.args.log.now in
      let rings = few-rings c.join_newest-joined.new.table in
      let block = ap (λ x. x.block) c.requires.lies.geometry in
      record {
        reads = omega (arith, c.in_ok-newest.ensures.beside.few_reads, c.in_ok-joined.ensures.reads.reads, c.in_err-seal_rows.ensures.reads, all, block);
        media_reads = omega (arith, c.in_ok-newest.ensures.beside.media_reads, c.in_ok-joined.ensures.reads.media_reads, c.in_err-seal_rows.ensures.media_reads, all, block, rings);
      };
  repairs =
      let log = c.in_ok-newest.ensures.beside in
      repairs-sealed c.args.table.now c.join_newest-joined.new.table 1 (g.F.Flash.state c.args.flash.now) (g.F.Flash.state c.mount.new.flash) (g.F.Flash.state c.join_newest-joined.new.flash) (g.F.Flash.state c.seal_rows.new.flash)
      c.in_ok-joined.ensures.same log.few_programs log.few_erases c.in_ok-joined.ensures.reads c.in_err-seal_rows.ensures.writes;
}

pub returns-in_err-seal_rows-clause-limit : goal.returns-in_err-seal_rows-clause-limit
returns-in_err-seal_rows-clause-limit g c = λ first plan table told rests.
    let more = log-more (shape_of plan LogRing) table.log rests.ring rests.ring_is in
    omega (arith, c.in_ok-newest.ensures.reads first plan table told rests, c.in_ok-joined.ensures.reads.reads, c.in_err-seal_rows.ensures.reads, more)

-- ---- all is done

pub returns-clause-keeps : goal.returns-clause-keeps
returns-clause-keeps g c = record {
  same = c.in_ok-newest.ensures.same;
  lies =
      log-moved c.mount.new.self (g.F.Flash.state c.mount.new.flash) (g.F.Flash.state c.seal_rows.new.flash)
      (goes-then (g.F.Flash.state c.mount.new.flash) (g.F.Flash.state c.join_newest-joined.new.flash) (g.F.Flash.state c.seal_rows.new.flash) c.in_ok-joined.ensures.reads.goes c.in_ok-seal_rows.ensures.goes) c.in_ok-newest.ensures.lies;
  empty = c.in_ok-newest.ensures.empty;
  table_same = same-then c.args.table.now c.join_newest-joined.new.table c.seal_rows.new.table c.in_ok-joined.ensures.same c.in_ok-seal_rows.ensures.same;
  table_lies = c.in_ok-seal_rows.ensures.lies;
}

pub returns-clause-buffer : goal.returns-clause-buffer
returns-clause-buffer g c = record { room = ap (λ (b : BufferState). length b.bytes) c.forget.ensures ∙ (c.in_ok-joined.ensures.room ∙ c.in_ok-newest.ensures.room); holds = ap (λ (b : BufferState). b.holds) c.forget.ensures }

pub returns-clause-ends : goal.returns-clause-ends
returns-clause-ends g c = λ first plan table rose device watched s none rests.
    let t = c.args.table.now in
    let l = c.args.log.now in
    let l1 = c.mount.new.self in
    let old = g.F.Flash.state c.args.flash.now in
    let f1 = g.F.Flash.state c.mount.new.flash in
    let f2 = g.F.Flash.state c.join_newest-joined.new.flash in
    let f3 = g.F.Flash.state c.seal_rows.new.flash in
    let k = c.in_ok-newest.ensures in
    let reads = c.in_ok-joined.ensures.reads in
    let watched2 = watched-first old f2 f3 rose device watched c.in_ok-seal_rows.ensures.goes in
    let m = k.ends (first + blocks_of (bare plan)) plan table rose device (watched-first old f1 f2 rose device watched2 reads.goes) rests in
    let outside = k.beside.outside watched.told in
    let sizes = pages-size l1 f1 (g.met.F.Flash.reaches c.mount.new.flash) k.lies.geometry k.lies.within in
    let ring = begun-ring t l old first plan table rose device s none rests.planned l1 k.same f1 outside m in
    let newest = found-some l l1 old f1 (first + blocks_of (bare plan)) plan (ready plan m.now.state) k.same ring sizes watched.told c.in_ok-newest.field-0 k.found c.in-Some.newest c.in-Some.is in
    let joins = c.in_ok-joined.ensures.joins first plan (ready plan m.now.state) rose m.now.device (watched-then old f1 f2 rose device m.now.device watched2 k.beside.goes m.power m.counts)
    (begun-stands t l old first plan table rose device s none rests.planned l1 k.same f1 outside m) (begun-none t l old first plan table rose device s none rests.planned l1 k.same f1 outside m) newest in
    let later = watched-then old f2 f3 rose device m.now.device watched (goes-then old f1 f2 k.beside.goes reads.goes) c.in_ok-joined.ensures.power (device_still f1 f2 1 m.now.device reads m.counts) in
    seal-well t l old first plan table rose device s none rests.planned l1 k.same f1 outside m c.join_newest-joined.new.table f2 f3 (same_pages f1 f2 1 reads) joins.planned (c.in_ok-seal_rows.ensures.outside later.told)
    c.seal_rows.new.table (c.in_ok-seal_rows.ensures.ends first (bare plan) (bare_table (joined (ready plan m.now.state))) rose m.now.device later joins)

pub returns-clause-finds : goal.returns-clause-finds
returns-clause-finds g c = record {
  mounted = c.in_ok-newest.ensures.mounted;
  running = c.in_ok-seal_rows.ensures.running;
  calm = c.in_ok-seal_rows.ensures.calm ∙ c.in_ok-joined.ensures.calm;
  table_empty =
      sealed-empty c.args.table.now c.join_newest-joined.new.table c.seal_rows.new.table (g.F.Flash.state c.join_newest-joined.new.flash) (g.F.Flash.state c.seal_rows.new.flash) c.requires.none c.in_ok-joined.ensures.unjoined
      c.in_ok-seal_rows.ensures.sealed;
  power = c.in_ok-seal_rows.ensures.power c.in_ok-joined.ensures.power;
  found = λ told.
      let l = c.args.log.now in
      let l1 = c.mount.new.self in
      let f1 = g.F.Flash.state c.mount.new.flash in
      let here = subst IsTrue (sym c.in_ok-newest.ensures.beside.goes.tells) told in
      record {
        newest = Some c.in-Some.newest;
        repaired = f1;
        finds = subst (λ (o : Option NewestPage). Finds l (g.F.Flash.state c.args.flash.now) o l1 f1) c.in-Some.is c.in_ok-newest.ensures.found;
        replays = (
          g.F.Flash.state c.join_newest-joined.new.flash,
          c.join_newest-joined.new.table,
          (
            subst (λ (at : ℕ → List ℕ). OffersNewest (layout_in c.args.table.now) c.in-Some.newest.number (at c.in-Some.newest.number) f1 c.args.table.now (g.F.Flash.state c.join_newest-joined.new.flash) c.join_newest-joined.new.table) (same-pages l l1 f1 c.in_ok-newest.ensures.same)
                (record { stands = c.in_ok-joined.ensures.stands here; reads = c.in_ok-joined.ensures.reads; offers = c.in_ok-joined.ensures.offers here }),
            c.in_ok-seal_rows.ensures.sealed,
          ),
        );
      };
  leaves = λ first plan table rose device watched s none rests.
      let t = c.args.table.now in
      let l = c.args.log.now in
      let l1 = c.mount.new.self in
      let old = g.F.Flash.state c.args.flash.now in
      let f1 = g.F.Flash.state c.mount.new.flash in
      let f2 = g.F.Flash.state c.join_newest-joined.new.flash in
      let f3 = g.F.Flash.state c.seal_rows.new.flash in
      let k = c.in_ok-newest.ensures in
      let reads = c.in_ok-joined.ensures.reads in
      let watched2 = watched-first old f2 f3 rose device watched c.in_ok-seal_rows.ensures.goes in
      let m = k.ends (first + blocks_of (bare plan)) plan table rose device (watched-first old f1 f2 rose device watched2 reads.goes) rests in
      let outside = k.beside.outside watched.told in
      let sizes = pages-size l1 f1 (g.met.F.Flash.reaches c.mount.new.flash) k.lies.geometry k.lies.within in
      let ring = begun-ring t l old first plan table rose device s none rests.planned l1 k.same f1 outside m in
      let newest = found-some l l1 old f1 (first + blocks_of (bare plan)) plan (ready plan m.now.state) k.same ring sizes watched.told c.in_ok-newest.field-0 k.found c.in-Some.newest c.in-Some.is in
      let joins = c.in_ok-joined.ensures.joins first plan (ready plan m.now.state) rose m.now.device (watched-then old f1 f2 rose device m.now.device watched2 k.beside.goes m.power m.counts)
      (begun-stands t l old first plan table rose device s none rests.planned l1 k.same f1 outside m) (begun-none t l old first plan table rose device s none rests.planned l1 k.same f1 outside m) newest in
      let later = watched-then old f2 f3 rose device m.now.device watched (goes-then old f1 f2 k.beside.goes reads.goes) c.in_ok-joined.ensures.power (device_still f1 f2 1 m.now.device reads m.counts) in
      let p = c.in_ok-seal_rows.ensures.ends first (bare plan) (bare_table (joined (ready plan m.now.state))) rose m.now.device later joins in
      let found = subst (λ (o : Option NewestPage). Finds l old o l1 f1) c.in-Some.is k.found in
      let rings = joined-rings (ready plan m.now.state) in
      let goes = goes-then old f1 f3 k.beside.goes (goes-then f1 f2 f3 reads.goes c.in_ok-seal_rows.ensures.goes) in
      seal-leaves l old f1 first plan table rests.planned watched.told c.requires.lies.geometry found.ring found.numbers c.join_newest-joined.new.table c.seal_rows.new.table f2 f3 (same_pages f1 f2 1 reads) (bare_table (joined (ready plan m.now.state)))
      (rings.0 ∙ ap (λ (x : Table). x.rows) m.rest) (rings.1 ∙ ap (λ (x : Table). x.index) m.rest) joins p.stands (no-var-blocks t.blobs (first + plan.data_blocks + plan.index_blocks) (bare plan) c.requires.no_blobs s.planned.var) (c.in_ok-seal_rows.ensures.outside later.told) p.stand
      (g.met.F.Flash.reaches c.seal_rows.new.flash) (goes.geometry ∙ (c.requires.lies.geometry ∙ sym rests.planned.geometry)) (omega (arith, goes.blocks, c.requires.lies.within, rests.planned.begins));
}

pub returns-clause-flash : goal.returns-clause-flash
returns-clause-flash g c = record {
  goes =
      goes-then (g.F.Flash.state c.args.flash.now) (g.F.Flash.state c.join_newest-joined.new.flash) (g.F.Flash.state c.seal_rows.new.flash)
      (goes-then (g.F.Flash.state c.args.flash.now) (g.F.Flash.state c.mount.new.flash) (g.F.Flash.state c.join_newest-joined.new.flash) c.in_ok-newest.ensures.beside.goes c.in_ok-joined.ensures.reads.goes) c.in_ok-seal_rows.ensures.goes;
  outside = λ told page rows index var log.
      let f1 = g.F.Flash.state c.mount.new.flash in
      let f2 = g.F.Flash.state c.join_newest-joined.new.flash in
      let f3 = g.F.Flash.state c.seal_rows.new.flash in
      let here = subst IsTrue (sym c.in_ok-newest.ensures.beside.goes.tells) told in
      let then = subst IsTrue (sym c.in_ok-joined.ensures.reads.goes.tells) here in
      outside-same c.args.table.now c.join_newest-joined.new.table (page_at f2) (page_at f3) c.in_ok-joined.ensures.same (c.in_ok-seal_rows.ensures.outside then) page rows index var
      ∙ (ap (λ (at : ℕ → List ℕ). at page) (same_pages f1 f2 1 c.in_ok-joined.ensures.reads) ∙ c.in_ok-newest.ensures.beside.outside told page log);
  reads =
      let all = log-reads c.args.log.now in
      let rings = few-rings c.join_newest-joined.new.table in
      let block = ap (λ x. x.block) c.requires.lies.geometry in
      record {
        reads = omega (arith, c.in_ok-newest.ensures.beside.few_reads, c.in_ok-joined.ensures.reads.reads, c.in_ok-seal_rows.ensures.reads, all, block);
        media_reads = omega (arith, c.in_ok-newest.ensures.beside.media_reads, c.in_ok-joined.ensures.reads.media_reads, c.in_ok-seal_rows.ensures.media_reads, all, block, rings);
      };
  repairs =
      let log = c.in_ok-newest.ensures.beside in
      repairs-sealed c.args.table.now c.join_newest-joined.new.table 1 (g.F.Flash.state c.args.flash.now) (g.F.Flash.state c.mount.new.flash) (g.F.Flash.state c.join_newest-joined.new.flash) (g.F.Flash.state c.seal_rows.new.flash)
      c.in_ok-joined.ensures.same log.few_programs log.few_erases c.in_ok-joined.ensures.reads c.in_ok-seal_rows.ensures.writes;
}

pub returns-clause-limit : goal.returns-clause-limit
returns-clause-limit g c = λ first plan table told rests.
    let more = log-more (shape_of plan LogRing) table.log rests.ring rests.ring_is in
    omega (arith, c.in_ok-newest.ensures.reads first plan table told rests, c.in_ok-joined.ensures.reads.reads, c.in_ok-seal_rows.ensures.reads, more)
