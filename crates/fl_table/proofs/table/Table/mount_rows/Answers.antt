use Rattle.std.proofs.Common.{◌≡◌, ◌+◌, Option, IfSome, arith, refl, sym, ◌∙◌, ap, subst, IsTrue, inl, inr, ℕ, Result, Ok, Err, is_some}
use Rattle.std.proofs.lemmas.Result.{err_from_is_err_and}
use Rattle.fl_flash.specs.Flash.{page_at}
use Rattle.fl_model.specs.Mount.{ready}
use Rattle.fl_frame.proofs.CallsInTurn.{goes-then}
use Rattle.fl_find.proofs.Points.{mounts-points}
use Rattle.fl_parts.specs.Bitmaps.{EndAt, IsOutside}
use Rattle.fl_parts.specs.BlobEnds.{least_of}
use Rattle.fl_parts.specs.BlobMount.{FindsBlobs, RefusesWithin}
use Rattle.fl_parts.specs.Blobs.{room_of, rings_of, AreEmpty}
use Rattle.fl_table.specs.Memory.{NothingWaits}
use Rattle.fl_table.proofs.Stored.{pending-none}
use Rattle.fl_parts.proofs.Outsides.{var-outside}
use Rattle.fl_var.specs.Memory.{var_shape}
use Rattle.fl_parts.proofs.BlobsOfTable as blobbing
use Rattle.fl_frame.proofs.WatchedInTurn.{watched-first, watched-then}
use Rattle.fl_table.proofs.Learned.{finds-rows}
use Rattle.fl_parts.proofs.MountParts.{mount-cause-later}
use Rattle.fl_parts.proofs.BlobSeals.{with_var}
use Rattle.fl_table.proofs.MountVar.{data-fails, mounted-ends, rows-fail, rows-mount, var-limit}
use Rattle.fl_parts.proofs.Loose.{paged-ready}
use Rattle.fl_base.specs.declared.types.Geometry.{Geometry}
use Rattle.fl_base.specs.declared.types.RingPlace.{RingPlace}
use Rattle.fl_ring.specs.Mounting.{shape_at}
use Rattle.fl_ring.specs.Place as place
use Rattle.fl_ring.specs.Place.{next_of, shape_of}
use Rattle.fl_ring.specs.declared.ring.Ring.{Ring}
use Rattle.fl_ring.proofs.Exists.{lies_still}
use Rattle.fl_parts.proofs.IndexOfTable.{none-is, plan-same}
use Rattle.fl_table.proofs.ReadsKeepTable.{lies-moved}
use Rattle.fl_parts.proofs.Sizes.{table-fits}
use Rattle.fl_parts.proofs.PowerOn.{blobs-on}
use Rattle.fl_parts.specs.declared.mount_fault.MountFault.{MountFault}
use Rattle.fl_table.specs.declared.mount.FoundRows.{FoundRows}
use Rattle.fl_table.specs.declared.table.Table.{Table}
use Rattle.fl_table.proofs.SealAnswers.{same-then}
use Rattle.fl_parts.proofs.Untouched.{no-success}
use Rattle.fl_table.proofs.table.Table.mount_rows.Goals as goal
use Rattle.fl_var.specs.declared.var_data.VarData.{VarData}

pub returns-in_err-rows-clause-ends : goal.returns-in_err-rows-clause-ends
returns-in_err-rows-clause-ends g c = λ first plan table rose device watched planned rests stands end.
    let p = err_from_is_err_and c.from_residual.result c.from_residual.ensures.1 in
    rw (p.1, p.2) (data-fails first plan table rose device c.in_err-rows.field-0.0 _ _ (g.F.Flash.state c.read_rows.new.flash) (c.in_err-rows.ensures.ends first plan table rose device watched planned rests stands end))

pub returns-in_err-mount_within-clause-ends : goal.returns-in_err-mount_within-clause-ends
returns-in_err-mount_within-clause-ends g c = λ first plan table rose device watched planned rests stands end.
    let old = g.F.Flash.state c.args.flash.now in
    let mid = g.F.Flash.state c.read_rows.new.flash in
    let new = g.F.Flash.state c.mount_within.new.flash in
    let goes = c.in_ok-rows.ensures.leaves.goes in
    let w = c.in_ok-rows.ensures.ends first plan table rose device (watched-first old mid new rose device watched c.mount_within.ensures.goes) planned rests stands end in
    let then = watched-then old mid new rose device w.now.device watched goes w.power w.counts in
    let p = err_from_is_err_and c.from_residual-in_err-mount_within.result c.from_residual-in_err-mount_within.ensures.1 in
    rw (p.1, p.2) (rows-fail c.read_rows.new.self mid new first plan table rose device c.in_ok-rows.rows w then c.read_rows.new.self.blobs c.mount_within.new.blobs c.in_err-mount_within.field-0.0 _ refl (c.in_err-mount_within.ensures.outside then.told)
    (c.in_err-mount_within.ensures.ends (first + plan.data_blocks + plan.index_blocks) plan w.now.state rose w.now.device w.end_is))

pub returns-clause-ends : goal.returns-clause-ends
returns-clause-ends g c = λ first plan table rose device watched planned rests stands end.
    let t = c.read_rows.new.self in
    let old = g.F.Flash.state c.args.flash.now in
    let mid = g.F.Flash.state c.read_rows.new.flash in
    let new = g.F.Flash.state c.mount_within.new.flash in
    let goes = c.in_ok-rows.ensures.leaves.goes in
    let w = c.in_ok-rows.ensures.ends first plan table rose device (watched-first old mid new rose device watched c.mount_within.ensures.goes) planned rests stands end in
    let then = watched-then old mid new rose device w.now.device watched goes w.power w.counts in
    let h = rows-mount t mid new first plan table rose device c.in_ok-rows.rows w then t.blobs c.mount_within.new.blobs c.in_ok-mount_within.field-0 refl (c.in_ok-mount_within.ensures.outside then.told)
    (c.in_ok-mount_within.ensures.ends (first + plan.data_blocks + plan.index_blocks) plan w.now.state rose w.now.device w.end_is) in
    let memory = w.memory in
    let points = mounts-points plan w.now.state in
    mounted-ends t _ new first plan table w.now.state rose device c.in_ok-rows.rows c.mount_within.new.blobs h w.answer refl (record {
      planned = record {
        geometry = w.planned.geometry;
        layout = w.planned.layout;
        begins = w.planned.begins;
        blocks = w.planned.blocks;
        index = w.planned.index;
        var = blobbing.still-planned t.blobs c.mount_within.new.blobs (first + plan.data_blocks + plan.index_blocks) plan w.planned.var c.in_ok-mount_within.ensures.same;
        limit = w.planned.limit;
        buckets = w.planned.buckets;
        error = w.planned.error;
        log = w.planned.log;
      };
      paged = paged-ready plan (with_var w.now.state h.ring h.content h.bytes) h.paged;
      started = ap (ready plan) h.lost;
      whole = w.whole;
      clean = w.clean;
      pages = h.pages;
      memory = record {
        ring = c.in_ok-rows.rows.ring;
        ring_is = refl;
        next = memory.next;
        oldest = memory.oldest;
        gathers = memory.gathers;
        bitmap = memory.bitmap;
        blob_end = memory.blob_end;
        last = memory.last;
        counts = memory.counts;
        voids = memory.voids;
        index = memory.index;
      };
      bitmaps = h.bitmaps;
      blobs = h.blobs;
      points = record { older = points.older; points = points.points; last = points.last };
    })

pub returns-in_err-rows-clause-limit : goal.returns-in_err-rows-clause-limit
returns-in_err-rows-clause-limit g c = λ first plan table rose device watched planned rests stands end full.
    let few = c.in_err-rows.ensures.limit first plan table rose device watched planned rests stands end full in
    omega (arith, few)

pub returns-in_err-mount_within-clause-limit : goal.returns-in_err-mount_within-clause-limit
returns-in_err-mount_within-clause-limit g c = λ first plan table rose device watched planned rests stands end full.
    let t = c.read_rows.new.self in
    let old = g.F.Flash.state c.args.flash.now in
    let mid = g.F.Flash.state c.read_rows.new.flash in
    let new = g.F.Flash.state c.mount_within.new.flash in
    let goes = c.in_ok-rows.ensures.leaves.goes in
    let front = watched-first old mid new rose device watched c.mount_within.ensures.goes in
    let w = c.in_ok-rows.ensures.ends first plan table rose device front planned rests stands end in
    let then = watched-then old mid new rose device w.now.device watched goes w.power w.counts in
    let rows = c.in_ok-rows.ensures.limit first plan table rose device front planned rests stands end full in
    let var = var-limit t mid new first plan table rose device c.in_ok-rows.rows w then t.blobs refl (c.in_err-mount_within.ensures.outside then.told)
    (c.in_err-mount_within.ensures.limit (first + plan.data_blocks + plan.index_blocks) plan w.now.state then.told) in
    omega (arith, rows, var)

pub returns-clause-limit : goal.returns-clause-limit
returns-clause-limit g c = λ first plan table rose device watched planned rests stands end full.
    let t = c.read_rows.new.self in
    let old = g.F.Flash.state c.args.flash.now in
    let mid = g.F.Flash.state c.read_rows.new.flash in
    let new = g.F.Flash.state c.mount_within.new.flash in
    let goes = c.in_ok-rows.ensures.leaves.goes in
    let front = watched-first old mid new rose device watched c.mount_within.ensures.goes in
    let w = c.in_ok-rows.ensures.ends first plan table rose device front planned rests stands end in
    let then = watched-then old mid new rose device w.now.device watched goes w.power w.counts in
    let rows = c.in_ok-rows.ensures.limit first plan table rose device front planned rests stands end full in
    let var = var-limit t mid new first plan table rose device c.in_ok-rows.rows w then t.blobs refl (c.in_ok-mount_within.ensures.outside then.told)
    (c.in_ok-mount_within.ensures.limit (first + plan.data_blocks + plan.index_blocks) plan w.now.state then.told) in
    omega (arith, rows, var)

-- no row, and no byte of a blob
nothing-waits : {KNOTS SLOTS : ℕ} {t : Table KNOTS SLOTS} → (t.writer.count ≡ 0) × (t.bitmap ≡ 0) × (t.blob_end ≡ 0) → AreEmpty t.blobs → NothingWaits t
nothing-waits {t = t} rows blobs = record { none = rows.0; rows = pending-none t rows.0; bits = rows.1; ends = rows.2; blobs = blobs }

same-fault : (e f : MountFault) → ◌≡◌ {A = Result FoundRows MountFault} (Err e) (Err f) → e ≡ f
same-fault e f is = cc

not-ok : (rows : FoundRows) (e : MountFault) → ◌≡◌ {A = Result FoundRows MountFault} (Ok rows) (Err e) → ⊥
not-ok rows e is = cc

-- what is left in memory
pub returns-in_err-rows-clause-memory : goal.returns-in_err-rows-clause-memory
returns-in_err-rows-clause-memory g c =
    let p = err_from_is_err_and c.from_residual.result c.from_residual.ensures.1 in
    record {
      same = c.in_err-rows.ensures.leaves.same;
      lies = c.in_err-rows.ensures.leaves.lies;
      mounted = rw p.1 (ap (λ (o : Option Ring). is_some o) c.in_err-rows.ensures.leaves.down);
      calm = c.in_err-rows.ensures.leaves.calm;
      none = c.in_err-rows.ensures.leaves.none.0;
      empty = no-success _ _ c.from_residual.result c.from_residual.ensures.1;
    }

pub returns-in_err-mount_within-clause-memory : goal.returns-in_err-mount_within-clause-memory
returns-in_err-mount_within-clause-memory g c =
    let p = err_from_is_err_and c.from_residual-in_err-mount_within.result c.from_residual-in_err-mount_within.ensures.1 in
    let lies = lies-moved c.read_rows.new.self (g.F.Flash.state c.read_rows.new.flash) (g.F.Flash.state c.mount_within.new.flash) c.in_err-mount_within.ensures.goes c.in_ok-rows.ensures.leaves.lies in
    record {
      same =
          same-then c.args.self.now c.read_rows.new.self _ c.in_ok-rows.ensures.leaves.same (record { geometry = refl; layout = refl; place = refl; buckets = refl; error = refl; bitmaps = plan-same c.read_rows.new.self.bitmaps; blobs = c.in_err-mount_within.ensures.same; limit = refl });
      lies = record { geometry = lies.geometry; within = lies.within; few = lies.few; ring = lies.ring; bitmaps = lies.bitmaps; blobs = c.in_err-mount_within.ensures.lies };
      mounted = rw p.1 (ap (λ (o : Option Ring). is_some o) c.in_ok-rows.ensures.leaves.down);
      calm = c.in_ok-rows.ensures.leaves.calm;
      none = c.in_ok-rows.ensures.leaves.none.0;
      empty = no-success _ _ c.from_residual-in_err-mount_within.result c.from_residual-in_err-mount_within.ensures.1;
    }

pub returns-clause-memory : goal.returns-clause-memory
returns-clause-memory g c =
    let new = g.F.Flash.state c.mount_within.new.flash in
    let goes = c.in_ok-mount_within.ensures.goes in
    let lies = lies-moved c.read_rows.new.self (g.F.Flash.state c.read_rows.new.flash) new goes c.in_ok-rows.ensures.leaves.lies in
    let here = lies_still c.in_ok-rows.rows.ring (g.F.Flash.state c.read_rows.new.flash) new c.in_ok-rows.ensures.found.lies goes in
    record {
      same =
          same-then c.args.self.now c.read_rows.new.self _ c.in_ok-rows.ensures.leaves.same (record { geometry = refl; layout = refl; place = refl; buckets = refl; error = refl; bitmaps = plan-same c.read_rows.new.self.bitmaps; blobs = c.in_ok-mount_within.ensures.same; limit = refl });
      lies = record {
        geometry = lies.geometry;
        within = lies.within;
        few = lies.few;
        ring = λ ring is. subst (λ (o : Option Ring). IfSome o (λ r. place.LiesOn r new)) is here;
        bitmaps = lies.bitmaps;
        blobs = c.in_ok-mount_within.ensures.lies;
      };
      mounted = refl;
      calm = c.in_ok-rows.ensures.leaves.calm;
      none = c.in_ok-rows.ensures.leaves.none.0;
      empty = nothing-waits c.in_ok-rows.ensures.leaves.none c.in_ok-mount_within.ensures.empty;
    }

pub returns-in_err-rows-clause-buffer : goal.returns-in_err-rows-clause-buffer
returns-in_err-rows-clause-buffer g c = record { room = c.in_err-rows.ensures.buffer.room; holds = c.in_err-rows.ensures.buffer.holds }

pub returns-in_err-mount_within-clause-buffer : goal.returns-in_err-mount_within-clause-buffer
returns-in_err-mount_within-clause-buffer g c = record { room = c.in_err-mount_within.ensures.room ∙ c.in_ok-rows.ensures.buffer.room; holds = c.in_err-mount_within.ensures.holds }

pub returns-clause-buffer : goal.returns-clause-buffer
returns-clause-buffer g c = record { room = c.in_ok-mount_within.ensures.room ∙ c.in_ok-rows.ensures.buffer.room; holds = c.in_ok-mount_within.ensures.holds }

pub returns-in_err-rows-clause-still : goal.returns-in_err-rows-clause-still
returns-in_err-rows-clause-still g c = c.in_err-rows.ensures.leaves.still

pub returns-in_err-mount_within-clause-still : goal.returns-in_err-mount_within-clause-still
returns-in_err-mount_within-clause-still g c = c.in_ok-rows.ensures.leaves.still

pub returns-clause-still : goal.returns-clause-still
returns-clause-still g c = c.in_ok-rows.ensures.leaves.still

-- what was found
pub returns-in_err-rows-clause-found : goal.returns-in_err-rows-clause-found
returns-in_err-rows-clause-found g c = no-success _ _ c.from_residual.result c.from_residual.ensures.1

pub returns-in_err-mount_within-clause-found : goal.returns-in_err-mount_within-clause-found
returns-in_err-mount_within-clause-found g c = no-success _ _ c.from_residual-in_err-mount_within.result c.from_residual-in_err-mount_within.ensures.1

pub returns-clause-found : goal.returns-clause-found
returns-clause-found g c = λ told.
    let mid = g.F.Flash.state c.read_rows.new.flash in
    let rows = c.in_ok-rows.rows in
    let found = c.in_ok-rows.ensures.found in
    finds-rows c.args.self.now c.args.self.now.bitmaps (g.F.Flash.state c.args.flash.now) c.args.end rows.mounted _ (g.F.Flash.state c.mount_within.new.flash) rows.ring rows.blob_end mid (returns-clause-memory g c).same refl
    (found.found told) (found.waits told) (found.remembers told) (nothing-waits c.in_ok-rows.ensures.leaves.none c.in_ok-mount_within.ensures.empty) (found.learned told)
    (subst (λ (o : Option VarData). FindsBlobs o mid (least_of rows.blob_end) c.mount_within.new.blobs (g.F.Flash.state c.mount_within.new.flash)) c.in_ok-rows.ensures.leaves.blobs c.in_ok-mount_within.ensures.found)
    c.in_ok-mount_within.ensures.below

pub returns-in_err-rows-clause-refused : goal.returns-in_err-rows-clause-refused
returns-in_err-rows-clause-refused g c =
    let p = err_from_is_err_and c.from_residual.result c.from_residual.ensures.1 in
    rw (p.1, p.2) (λ told. inl (c.in_err-rows.ensures.refused.refused told))

pub returns-in_err-mount_within-clause-refused : goal.returns-in_err-mount_within-clause-refused
returns-in_err-mount_within-clause-refused g c =
    let mid = g.F.Flash.state c.read_rows.new.flash in
    let rows = c.in_ok-rows.rows in
    let p = err_from_is_err_and c.from_residual-in_err-mount_within.result c.from_residual-in_err-mount_within.ensures.1 in
    rw (p.1, p.2) (λ told. inr (record {
      ring = rows.ring;
      mounted = rows.mounted;
      last = c.read_rows.new.self.last_key;
      end = rows.blob_end;
      between = mid;
      pages = c.in_ok-rows.ensures.found.found told;
      why = subst (λ (o : Option VarData). RefusesWithin o mid rows.blob_end c.in_err-mount_within.field-0.0 (g.F.Flash.state c.mount_within.new.flash)) c.in_ok-rows.ensures.leaves.blobs c.in_err-mount_within.ensures.refused;
    }))

pub returns-clause-refused : goal.returns-clause-refused
returns-clause-refused g c = tt

-- what is done to the flash
pub returns-in_err-rows-clause-flash : goal.returns-in_err-rows-clause-flash
returns-in_err-rows-clause-flash g c =
    let p = err_from_is_err_and c.from_residual.result c.from_residual.ensures.1 in
    let rows = c.in_err-rows.ensures in
    record {
      goes = rows.leaves.goes;
      power = no-success _ _ c.from_residual.result c.from_residual.ensures.1;
      outside = λ told page out blobs. rows.leaves.outside told page out;
      reads = λ told.
          let few = rows.leaves.reads told in
          record { reads = omega (arith, few.reads); media_reads = omega (arith, few.media_reads) };
      repairs = record { programs = omega (arith, rows.leaves.repairs.programs); erases = omega (arith, rows.leaves.repairs.erases) };
      cause = rw (p.1, p.2) rows.refused.cause;
      off = λ down.
          let h = rows.off down in
          rw (p.1, p.2) (ap (λ (e : MountFault). Err e) (same-fault _ _ h.0), h.1);
    }

pub returns-in_err-mount_within-clause-flash : goal.returns-in_err-mount_within-clause-flash
returns-in_err-mount_within-clause-flash g c =
    let p = err_from_is_err_and c.from_residual-in_err-mount_within.result c.from_residual-in_err-mount_within.ensures.1 in
    let old = g.F.Flash.state c.args.flash.now in
    let mid = g.F.Flash.state c.read_rows.new.flash in
    let new = g.F.Flash.state c.mount_within.new.flash in
    let rows = c.in_ok-rows.ensures in
    let blobs = c.in_err-mount_within.ensures in
    record {
      goes = goes-then old mid new rows.leaves.goes blobs.goes;
      power = no-success _ _ c.from_residual-in_err-mount_within.result c.from_residual-in_err-mount_within.ensures.1;
      outside = λ told page out var.
          var-outside c.read_rows.new.self.blobs (page_at mid) (page_at new) page (blobs.outside (subst IsTrue (sym rows.leaves.goes.tells) told))
          (subst (λ (o : Option VarData). IfSome o (λ var. IsOutside (var_shape var) page)) (sym rows.leaves.blobs) var) ∙ rows.leaves.outside told page out;
      reads = λ told.
          let few = rows.leaves.reads told in
          let same = ap room_of rows.leaves.blobs in
          record { reads = omega (arith, few.reads, blobs.reads.reads, same); media_reads = omega (arith, few.media_reads, blobs.reads.media_reads, same) };
      repairs =
          let few = rows.leaves.repairs in
          let same = ap rings_of rows.leaves.blobs in
          record { programs = omega (arith, few.programs, blobs.repairs.programs, same); erases = omega (arith, few.erases, blobs.repairs.erases, same) };
      cause = rw (p.1, p.2) (mount-cause-later old mid new rows.leaves.goes rows.found.power c.in_err-mount_within.field-0.0 blobs.cause);
      off = λ down. absurd (not-ok _ _ (rows.off down).0);
    }

pub returns-clause-flash : goal.returns-clause-flash
returns-clause-flash g c =
    let old = g.F.Flash.state c.args.flash.now in
    let mid = g.F.Flash.state c.read_rows.new.flash in
    let new = g.F.Flash.state c.mount_within.new.flash in
    let rows = c.in_ok-rows.ensures in
    let blobs = c.in_ok-mount_within.ensures in
    record {
      goes = goes-then old mid new rows.leaves.goes blobs.goes;
      power = λ on. blobs-on _ _ mid new _ blobs.found (rows.found.power on);
      outside = λ told page out var.
          var-outside c.read_rows.new.self.blobs (page_at mid) (page_at new) page (blobs.outside (subst IsTrue (sym rows.leaves.goes.tells) told))
          (subst (λ (o : Option VarData). IfSome o (λ var. IsOutside (var_shape var) page)) (sym rows.leaves.blobs) var) ∙ rows.leaves.outside told page out;
      reads = λ told.
          let few = rows.leaves.reads told in
          let same = ap room_of rows.leaves.blobs in
          record { reads = omega (arith, few.reads, blobs.reads.reads, same); media_reads = omega (arith, few.media_reads, blobs.reads.media_reads, same) };
      repairs =
          let few = rows.leaves.repairs in
          let same = ap rings_of rows.leaves.blobs in
          record { programs = omega (arith, few.programs, blobs.repairs.programs, same); erases = omega (arith, few.erases, blobs.repairs.erases, same) };
      cause = tt;
      off = λ down. absurd (not-ok _ _ (rows.off down).0);
    }

pub invariant_of-self : goal.invariant_of-self
invariant_of-self g c =
    let t = c.read_rows.new.self in
    record {
      few_knots = t.few_knots;
      few_slots = t.few_slots;
      served = t.served;
      some_blocks = t.some_blocks;
      few_blocks = t.few_blocks;
      some_columns = t.some_columns;
      few_columns = t.few_columns;
      some_row = t.some_row;
      room_for_row = t.room_for_row;
      has_blobs = t.has_blobs ∙ sym (blobbing.same-some t.blobs c.mount_within.new.blobs c.in_err-mount_within.ensures.same);
      blobs_fit = t.blobs_fit;
      page = t.page;
      rows_end = t.rows_end;
      rows_room = t.rows_room;
      blank_rest = t.blank_rest;
      counted = t.counted;
      lies = t.lies;
      left = t.left;
      few_pages = t.few_pages;
      running = t.running;
      follow = t.follow;
      pages_left = t.pages_left;
      blobs_running = λ is. absurd (none-is t.ring c.in_ok-rows.ensures.leaves.down is);
      blobs_left = λ is. absurd (none-is t.ring c.in_ok-rows.ensures.leaves.down is);
    }

pub invariant_of-self-2 : goal.invariant_of-self-2
invariant_of-self-2 g c =
    let t = c.read_rows.new.self in
    record {
      few_knots = t.few_knots;
      few_slots = t.few_slots;
      served = t.served;
      some_blocks = t.some_blocks;
      few_blocks = t.few_blocks;
      some_columns = t.some_columns;
      few_columns = t.few_columns;
      some_row = t.some_row;
      room_for_row = t.room_for_row;
      has_blobs = t.has_blobs ∙ sym (blobbing.same-some t.blobs c.mount_within.new.blobs c.in_ok-mount_within.ensures.same);
      blobs_fit = t.blobs_fit;
      page = t.page;
      rows_end = t.rows_end;
      rows_room = t.rows_room;
      blank_rest = t.blank_rest;
      counted = t.counted;
      lies = λ ring is.
          let t = c.args.self.now in
          let m = c.read_rows.new.self in
          let shape : shape_at t.place t.geometry ≡ shape_at m.place m.geometry =
          sym (ap (λ (p : RingPlace). shape_at p m.geometry) c.in_ok-rows.ensures.leaves.same.place ∙ ap (λ (x : Geometry). shape_at t.place x) c.in_ok-rows.ensures.leaves.same.geometry) in
          subst (λ (o : Option Ring). IfSome o (λ r. shape_of r ≡ shape_at m.place m.geometry)) is (c.in_ok-rows.ensures.found.shape ∙ shape);
      left = λ ring is some. absurd (omega (arith, some, c.in_ok-rows.ensures.leaves.none.0));
      few_pages = t.few_pages;
      running = λ is. c.in_ok-rows.ensures.leaves.running;
      follow = λ ring is. subst (λ (o : Option Ring). IfSome o (λ r. EndAt c.read_rows.new.self.bitmaps (next_of r))) is c.in_ok-rows.ensures.found.follow;
      pages_left = λ some. absurd (omega (arith, some, c.in_ok-rows.ensures.leaves.none.0));
      blobs_running = λ is. c.in_ok-mount_within.ensures.running;
      blobs_left = λ is some. absurd (omega (arith, some, c.in_ok-rows.ensures.leaves.none.0));
    }

pub read_rows-requires : goal.read_rows-requires
read_rows-requires g c = (table-fits g.row.KNOTS g.row.SLOTS c.args.self.now.few_knots c.args.self.now.few_slots, (c.requires.forgotten, (c.requires.running, (c.requires.idle, (c.requires.lies, (c.requires.room, c.requires.few))))))

pub mount_within-requires : goal.mount_within-requires
mount_within-requires g c = record {
  lies = c.in_ok-rows.ensures.leaves.lies.blobs;
  room = c.in_ok-rows.ensures.buffer.room ∙ (c.requires.room ∙ sym (ap (λ (x : Geometry). x.page) c.in_ok-rows.ensures.leaves.goes.geometry));
  none = c.in_ok-rows.ensures.buffer.holds;
}
