use Rattle.std.proofs.Common.{arith, ◌*◌, ◌≡◌, ◌+◌, ◌-◌, Option, Err, IsTrue, refl, sym, ◌∙◌, ap, subst, inl, inr, is_some}
use Rattle.std.proofs.lemmas.Result.{err_from_is_err_and, IfErr-weaker, IfOk-weaker}
use Rattle.fl_flash.specs.Flash.{FlashState, page_at}
use Rattle.fl_frame.proofs.CallsInTurn.{goes-then, few-goes}
use Rattle.std.specs.Option.{unwrap_or}
use Rattle.fl_index.specs.declared.index.BitmapIndex.{BitmapIndex}
use Rattle.fl_base.specs.declared.types.Geometry.{Geometry}
use Rattle.fl_base.specs.declared.types.RingPlace.{RingPlace}
use Rattle.fl_ring.specs.Mounting.{shape_at}
use Rattle.fl_ring.specs.Ring.{Shape, room}
use Rattle.fl_parts.specs.Bitmaps.{AreSamePlan, IsOutside, StandOutside, rings_of, room_of}
use Rattle.fl_parts.specs.Coming.{index_pages_of}
use Rattle.fl_parts.specs.IndexMount.{FewRepairs, FindsBitmaps, RefusesBitmaps}
use Rattle.fl_parts.proofs.Firsts.{room-same}
use Rattle.fl_parts.proofs.FoundReads.{index-within, reads-joined}
use Rattle.fl_frame.proofs.WatchedInTurn.{watched-first, watched-then}
use Rattle.fl_frame.specs.Reads.{FewReads}
use Rattle.fl_parts.proofs.MountParts.{ring-cause, index-reads, index-repairs, repairs-joined, mount-cause-later}
use Rattle.fl_table.proofs.MountJoined.{index-limit, limit-then, mount-fails, mount-then, finds-as, refuses-by}
use Rattle.fl_parts.proofs.Outsides.{stand-outside, blobs-outside}
use Rattle.fl_table.proofs.RowsLeft.{same-beside}
use Rattle.fl_table.proofs.SealAnswers.{planned-same, same-then}
use Rattle.fl_ring.specs.declared.fault.RingFault.{RingFault}
use Rattle.fl_parts.specs.Faults.{of_ring}
use Rattle.fl_parts.specs.Blobs as variable
use Rattle.fl_parts.proofs.BlobsOfTable as blobbing
use Rattle.fl_parts.proofs.IndexOfTable.{none-is, none-there, still-few}
use Rattle.fl_var.specs.declared.var_data.VarData.{VarData}
use Rattle.fl_parts.proofs.Sizes.{table-fits}
use Rattle.fl_parts.proofs.PowerOn.{on-then}
use Rattle.fl_ring.specs.declared.ring.Ring.{Ring}
use Rattle.fl_parts.proofs.Untouched.{no-success}
use Rattle.fl_table.proofs.table.Table.mount.Goals as goal

-- ---- the index was not found

pub returns-in_err-end-clause-mount : goal.returns-in_err-end-clause-mount
returns-in_err-end-clause-mount g c = record {
  ends = λ first plan table rose device watched planned rests.
      let t = c.args.self.now in
      let old = g.F.Flash.state c.args.flash.now in
      let new = g.F.Flash.state c.mount_bitmaps.new.flash in
      let p = err_from_is_err_and c.from_residual.result c.from_residual.ensures.1 in
      rw (p.1, p.2) (mount-fails t old new first plan table rose device planned rests watched c.forget.new.self.bitmaps c.mount_bitmaps.new.bitmaps c.in_err-end.field-0.0 _ (sym c.forget.ensures.bitmaps) (c.in_err-end.ensures.outside watched.told)
      (c.in_err-end.ensures.ends (first + plan.data_blocks) plan table rose device));
  limit = λ first plan table rose device watched planned rests full.
      index-limit c.args.self.now (g.F.Flash.state c.args.flash.now) (g.F.Flash.state c.mount_bitmaps.new.flash) first plan table rose device planned rests watched c.forget.new.self.bitmaps (sym c.forget.ensures.bitmaps)
      (c.in_err-end.ensures.outside watched.told) (c.in_err-end.ensures.limit (first + plan.data_blocks) plan table watched.told) full;
}

pub returns-in_err-end-clause-pages : goal.returns-in_err-end-clause-pages
returns-in_err-end-clause-pages g c = record {
  found = no-success _ _ c.from_residual.result c.from_residual.ensures.1;
  refused =
      let old = g.F.Flash.state c.args.flash.now in
      let new = g.F.Flash.state c.mount_bitmaps.new.flash in
      let p = err_from_is_err_and c.from_residual.result c.from_residual.ensures.1 in
      rw (p.1, p.2) (λ told. inl (c.in_err-end.field-0.0, refl, subst (λ (o : Option BitmapIndex). RefusesBitmaps o old c.in_err-end.field-0.0 new) c.forget.ensures.bitmaps (c.in_err-end.ensures.refused told)));
}

pub returns-in_err-end-clause-memory : goal.returns-in_err-end-clause-memory
returns-in_err-end-clause-memory g c = record {
  same =
      same-beside c.args.self.now c.forget.new.self _ c.forget.ensures.same refl refl refl refl refl c.in_err-end.ensures.same (blobbing.plan-same c.forget.new.self.blobs) refl;
  lies =
      let old = g.F.Flash.state c.args.flash.now in
      let mid = g.F.Flash.state c.mount_bitmaps.new.flash in
      let goes = c.in_err-end.ensures.goes in
      let lies = c.requires.lies in
      let same = c.forget.ensures.same in
      record {
        geometry = goes.geometry ∙ (lies.geometry ∙ sym same.geometry);
        within = omega (arith, lies.within, goes.blocks, ap (λ (p : RingPlace). p.first_block) same.place, ap (λ (p : RingPlace). p.blocks) same.place);
        few = few-goes old mid goes lies.few;
        ring = λ ring is. absurd (none-there c.forget.new.self.ring ring c.forget.ensures.forgotten.down is);
        bitmaps = c.in_err-end.ensures.lies;
        blobs = blobbing.lies-goes c.forget.new.self.blobs old mid goes (subst (λ (o : Option VarData). variable.LieOn o old) (sym c.forget.ensures.blobs) lies.blobs);
      };
  mounted =
      let p = err_from_is_err_and c.from_residual.result c.from_residual.ensures.1 in
      rw p.1 (ap (λ (o : Option Ring). is_some o) c.forget.ensures.forgotten.down);
  calm = c.forget.ensures.forgotten.calm;
  none = c.forget.ensures.forgotten.none;
  empty = no-success _ _ c.from_residual.result c.from_residual.ensures.1;
}

pub returns-in_err-end-clause-buffer : goal.returns-in_err-end-clause-buffer
returns-in_err-end-clause-buffer g c = record {
  room = c.in_err-end.ensures.room;
  holds = c.in_err-end.ensures.holds;
}

pub returns-in_err-end-clause-flash : goal.returns-in_err-end-clause-flash
returns-in_err-end-clause-flash g c = record {
  goes = c.in_err-end.ensures.goes;
  power = no-success _ _ c.from_residual.result c.from_residual.ensures.1;
  outside = λ told page rows index blobs.
      let old = g.F.Flash.state c.args.flash.now in
      let mid = g.F.Flash.state c.mount_bitmaps.new.flash in
      stand-outside c.args.self.now.bitmaps (page_at old) (page_at mid) page (subst (λ (o : Option BitmapIndex). StandOutside o (page_at old) (page_at mid)) c.forget.ensures.bitmaps (c.in_err-end.ensures.outside told)) index;
  reads = λ told.
      let t = c.args.self.now in
      let old = g.F.Flash.state c.args.flash.now in
      let new = g.F.Flash.state c.mount_bitmaps.new.flash in
      index-reads (room (shape_at t.place t.geometry)) (room_of t.bitmaps) (variable.room_of t.blobs) old new (subst (λ (o : Option BitmapIndex). FewReads (4 * room_of o) old new) c.forget.ensures.bitmaps (c.in_err-end.ensures.reads told));
  repairs =
      let t = c.args.self.now in
      let old = g.F.Flash.state c.args.flash.now in
      let new = g.F.Flash.state c.mount_bitmaps.new.flash in
      index-repairs (rings_of t.bitmaps) (variable.rings_of t.blobs) old new (subst (λ (o : Option BitmapIndex). FewRepairs (rings_of o) old new) c.forget.ensures.bitmaps c.in_err-end.ensures.repairs);
  cause =
      let p = err_from_is_err_and c.from_residual.result c.from_residual.ensures.1 in
      rw (p.1, p.2) (ring-cause (g.F.Flash.state c.args.flash.now) (g.F.Flash.state c.mount_bitmaps.new.flash) c.in_err-end.field-0.0 c.in_err-end.ensures.cause);
  off = λ down.
      let p = err_from_is_err_and c.from_residual.result c.from_residual.ensures.1 in
      let h = c.in_err-end.ensures.off down in
      rw (p.1, p.2) (ap (λ (e : RingFault). Err (of_ring e)) h.0, h.1);
}

-- ---- behind the index

pub returns-clause-mount : goal.returns-clause-mount
returns-clause-mount g c = record {
  ends = λ first plan table rose device watched planned rests.
      let t = c.args.self.now in
      let old = g.F.Flash.state c.args.flash.now in
      let mid = g.F.Flash.state c.mount_bitmaps.new.flash in
      let new = g.F.Flash.state c.mount_rows.new.flash in
      let goes = c.in_ok-end.ensures.goes in
      mount-then t old mid first plan table rose device planned rests (watched-first old mid new rose device watched c.mount_rows.ensures.flash.goes) c.forget.new.self.bitmaps c.mount_bitmaps.new.bitmaps c.in_ok-end.end c.mount_rows.result c.mount_rows.new.self new (sym c.forget.ensures.bitmaps)
      c.in_ok-end.ensures.same (c.in_ok-end.ensures.outside watched.told) (c.in_ok-end.ensures.ends (first + plan.data_blocks) plan table rose device)
      (λ x later on counts at_rest stands end. c.mount_rows.ensures.ends first plan x rose later (watched-then old mid new rose device later watched goes on counts) (planned-same t _ first plan planned (same-beside t c.forget.new.self _ c.forget.ensures.same refl refl refl refl refl c.in_ok-end.ensures.same (blobbing.plan-same c.forget.new.self.blobs) refl)) at_rest stands (c.unwrap_or.ensures ∙ end));
  limit = λ first plan table rose device watched planned rests full.
      let t = c.args.self.now in
      let old = g.F.Flash.state c.args.flash.now in
      let mid = g.F.Flash.state c.mount_bitmaps.new.flash in
      let new = g.F.Flash.state c.mount_rows.new.flash in
      let goes = c.in_ok-end.ensures.goes in
      limit-then t old mid first plan table rose device planned rests (watched-first old mid new rose device watched c.mount_rows.ensures.flash.goes) c.forget.new.self.bitmaps c.mount_bitmaps.new.bitmaps c.in_ok-end.end new (sym c.forget.ensures.bitmaps)
      c.in_ok-end.ensures.same (c.in_ok-end.ensures.outside watched.told) (c.in_ok-end.ensures.ends (first + plan.data_blocks) plan table rose device) (c.in_ok-end.ensures.limit (first + plan.data_blocks) plan table watched.told) full
      (λ x later on counts at_rest stands end. c.mount_rows.ensures.limit first plan x rose later (watched-then old mid new rose device later watched goes on counts) (planned-same t _ first plan planned (same-beside t c.forget.new.self _ c.forget.ensures.same refl refl refl refl refl c.in_ok-end.ensures.same (blobbing.plan-same c.forget.new.self.blobs) refl)) at_rest stands (c.unwrap_or.ensures ∙ end) full);
}

pub returns-clause-pages : goal.returns-clause-pages
returns-clause-pages g c = record {
  found =
      let t = c.args.self.now in
      let old = g.F.Flash.state c.args.flash.now in
      let mid = g.F.Flash.state c.mount_bitmaps.new.flash in
      let new = g.F.Flash.state c.mount_rows.new.flash in
      let end = c.in_ok-end.end in
      let now = c.mount_rows.new.self in
      IfOk-weaker c.mount_rows.result _ _ (λ mounted h told. record {
        end = end;
        indexed = mid;
        found = c.mount_bitmaps.new.bitmaps;
        same = subst (λ (o : Option BitmapIndex). AreSamePlan o c.mount_bitmaps.new.bitmaps) c.forget.ensures.bitmaps c.in_ok-end.ensures.same;
        bitmaps = subst (λ (o : Option BitmapIndex). FindsBitmaps o old end c.mount_bitmaps.new.bitmaps mid) c.forget.ensures.bitmaps (c.in_ok-end.ensures.found told);
        still = c.mount_rows.ensures.still;
        rows = finds-as t _ c.mount_bitmaps.new.bitmaps mid c.unwrap_or.result (unwrap_or end 0) mounted now new (h (subst IsTrue (sym c.in_ok-end.ensures.goes.tells) told)) (same-beside t c.forget.new.self _ c.forget.ensures.same refl refl refl refl refl c.in_ok-end.ensures.same (blobbing.plan-same c.forget.new.self.blobs) refl) c.forget.ensures.blobs c.unwrap_or.ensures;
      }) c.mount_rows.ensures.found;
  refused =
      let t = c.args.self.now in
      let old = g.F.Flash.state c.args.flash.now in
      let mid = g.F.Flash.state c.mount_bitmaps.new.flash in
      let new = g.F.Flash.state c.mount_rows.new.flash in
      let end = c.in_ok-end.end in
      IfErr-weaker c.mount_rows.result _ _ (λ e h told. inr (
        end,
        mid,
        record {
          now = c.mount_bitmaps.new.bitmaps;
          same = subst (λ (o : Option BitmapIndex). AreSamePlan o c.mount_bitmaps.new.bitmaps) c.forget.ensures.bitmaps c.in_ok-end.ensures.same;
          bitmaps = subst (λ (o : Option BitmapIndex). FindsBitmaps o old end c.mount_bitmaps.new.bitmaps mid) c.forget.ensures.bitmaps (c.in_ok-end.ensures.found told);
        },
        refuses-by t _ c.mount_bitmaps.new.bitmaps mid c.unwrap_or.result (unwrap_or end 0) e new (h (subst IsTrue (sym c.in_ok-end.ensures.goes.tells) told)) (same-beside t c.forget.new.self _ c.forget.ensures.same refl refl refl refl refl c.in_ok-end.ensures.same (blobbing.plan-same c.forget.new.self.blobs) refl) c.forget.ensures.blobs c.unwrap_or.ensures,
      )) c.mount_rows.ensures.refused;
}

pub returns-clause-memory : goal.returns-clause-memory
returns-clause-memory g c = record {
  same =
      same-then c.args.self.now _ c.mount_rows.new.self (same-beside c.args.self.now c.forget.new.self _ c.forget.ensures.same refl refl refl refl refl c.in_ok-end.ensures.same (blobbing.plan-same c.forget.new.self.blobs) refl) c.mount_rows.ensures.memory.same;
  lies = c.mount_rows.ensures.memory.lies;
  mounted = c.mount_rows.ensures.memory.mounted;
  calm = c.mount_rows.ensures.memory.calm;
  none = c.mount_rows.ensures.memory.none;
  empty = c.mount_rows.ensures.memory.empty;
}

pub returns-clause-buffer : goal.returns-clause-buffer
returns-clause-buffer g c = record {
  room = c.mount_rows.ensures.buffer.room ∙ c.in_ok-end.ensures.room;
  holds = c.mount_rows.ensures.buffer.holds;
}

pub returns-clause-flash : goal.returns-clause-flash
returns-clause-flash g c = record {
  goes =
      goes-then (g.F.Flash.state c.args.flash.now) (g.F.Flash.state c.mount_bitmaps.new.flash) (g.F.Flash.state c.mount_rows.new.flash) c.in_ok-end.ensures.goes c.mount_rows.ensures.flash.goes;
  power = on-then (g.F.Flash.state c.args.flash.now) (g.F.Flash.state c.mount_bitmaps.new.flash) (g.F.Flash.state c.mount_rows.new.flash) c.mount_rows.result c.in_ok-end.ensures.power c.mount_rows.ensures.flash.power;
  outside = λ told page out index blobs.
      let t = c.args.self.now in
      let old = g.F.Flash.state c.args.flash.now in
      let mid = g.F.Flash.state c.mount_bitmaps.new.flash in
      let first = stand-outside t.bitmaps (page_at old) (page_at mid) page (subst (λ (o : Option BitmapIndex). StandOutside o (page_at old) (page_at mid)) c.forget.ensures.bitmaps (c.in_ok-end.ensures.outside told)) index in
      let shape : shape_at c.forget.new.self.place c.forget.new.self.geometry ≡ shape_at t.place t.geometry =
      ap (λ (p : RingPlace). shape_at p c.forget.new.self.geometry) c.forget.ensures.same.place ∙ ap (λ (x : Geometry). shape_at t.place x) c.forget.ensures.same.geometry in
      c.mount_rows.ensures.flash.outside (subst IsTrue (sym c.in_ok-end.ensures.goes.tells) told) page (subst (λ (r : Shape). IsOutside r page) (sym shape) out) (blobs-outside t.blobs c.forget.new.self.blobs page c.forget.ensures.same.blobs blobs) ∙ first;
  reads = λ told.
      let t = c.args.self.now in
      let old = g.F.Flash.state c.args.flash.now in
      let mid = g.F.Flash.state c.mount_bitmaps.new.flash in
      let new = g.F.Flash.state c.mount_rows.new.flash in
      let now = c.mount_bitmaps.new.bitmaps in
      let within = index-within t.bitmaps now old mid c.in_ok-end.end (subst (λ (o : Option BitmapIndex). AreSamePlan o now) c.forget.ensures.bitmaps c.in_ok-end.ensures.same)
      (subst (λ (o : Option BitmapIndex). FindsBitmaps o old c.in_ok-end.end now mid) c.forget.ensures.bitmaps (c.in_ok-end.ensures.found told)) told in
      let spared = subst (λ (o : Option BitmapIndex). FewReads (4 * room_of o - index_pages_of now) old mid) c.forget.ensures.bitmaps (c.in_ok-end.ensures.spared told) in
      let shape : shape_at c.forget.new.self.place c.forget.new.self.geometry ≡ shape_at t.place t.geometry =
      ap (λ (p : RingPlace). shape_at p c.forget.new.self.geometry) c.forget.ensures.same.place ∙ ap (λ (x : Geometry). shape_at t.place x) c.forget.ensures.same.geometry in
      let few = subst (λ (r : Shape). FewReads (4 * (room r + variable.room_of t.blobs) + index_pages_of now) mid new) shape
      (subst (λ (o : Option VarData). FewReads (4 * (room (shape_at c.forget.new.self.place c.forget.new.self.geometry) + variable.room_of o) + index_pages_of now) mid new) c.forget.ensures.blobs
      (c.mount_rows.ensures.flash.reads (subst IsTrue (sym c.in_ok-end.ensures.goes.tells) told))) in
      reads-joined (room_of t.bitmaps) (index_pages_of now) (room (shape_at t.place t.geometry)) (variable.room_of t.blobs) old mid new within spared few;
  repairs =
      let t = c.args.self.now in
      let old = g.F.Flash.state c.args.flash.now in
      let mid = g.F.Flash.state c.mount_bitmaps.new.flash in
      let new = g.F.Flash.state c.mount_rows.new.flash in
      repairs-joined (rings_of t.bitmaps) (variable.rings_of t.blobs) old mid new (subst (λ (o : Option BitmapIndex). FewRepairs (rings_of o) old mid) c.forget.ensures.bitmaps c.in_ok-end.ensures.repairs)
      (subst (λ (o : Option VarData). FewRepairs (1 + variable.rings_of o) mid new) c.forget.ensures.blobs c.mount_rows.ensures.flash.repairs);
  cause =
      let old = g.F.Flash.state c.args.flash.now in
      let mid = g.F.Flash.state c.mount_bitmaps.new.flash in
      let new = g.F.Flash.state c.mount_rows.new.flash in
      IfErr-weaker c.mount_rows.result _ _ (λ e h. mount-cause-later old mid new c.in_ok-end.ensures.goes c.in_ok-end.ensures.power e h) c.mount_rows.ensures.flash.cause;
  off = λ down.
      let first = c.in_ok-end.ensures.off down in
      let h = c.mount_rows.ensures.flash.off (ap (λ (f : FlashState). f.is_on) first.1 ∙ down) in
      (h.0, h.1 ∙ first.1);
}

pub mount_rows-requires : goal.mount_rows-requires
mount_rows-requires g c =
    let old = g.F.Flash.state c.args.flash.now in
    let mid = g.F.Flash.state c.mount_bitmaps.new.flash in
    let goes = c.in_ok-end.ensures.goes in
    let lies = c.requires.lies in
    let same = c.forget.ensures.same in
    let fresh = c.forget.ensures.forgotten in (
      table-fits g.row.KNOTS g.row.SLOTS c.args.self.now.few_knots c.args.self.now.few_slots,
      (
        record {
          down = fresh.down;
          calm = fresh.calm;
          none = fresh.none;
          last = fresh.last;
          empty = fresh.empty;
          bits = fresh.bits;
          ends = fresh.ends;
          index = fresh.index;
        },
        (
          c.in_ok-end.ensures.running,
          (
            c.in_ok-end.ensures.idle,
            (
              record {
                geometry = goes.geometry ∙ (lies.geometry ∙ sym same.geometry);
                within = omega (arith, lies.within, goes.blocks, ap (λ (p : RingPlace). p.first_block) same.place, ap (λ (p : RingPlace). p.blocks) same.place);
                few = few-goes old mid goes lies.few;
                ring = λ ring is. absurd (none-there c.forget.new.self.ring ring c.forget.ensures.forgotten.down is);
                bitmaps = c.in_ok-end.ensures.lies;
                blobs = blobbing.lies-goes c.forget.new.self.blobs old mid goes (subst (λ (o : Option VarData). variable.LieOn o old) (sym c.forget.ensures.blobs) lies.blobs);
              },
              (
                c.in_ok-end.ensures.room ∙ (c.requires.room ∙ sym (ap (λ (x : Geometry). x.page) goes.geometry)),
                λ told.
                    let was = c.forget.new.self.bitmaps in
                    let now = c.mount_bitmaps.new.bitmaps in
                    let told' = subst IsTrue goes.tells told in
                    let few = index-within was now old mid c.in_ok-end.end c.in_ok-end.ensures.same (c.in_ok-end.ensures.found told') told' in
                    omega (arith, few, room-same was now c.in_ok-end.ensures.same),
              ),
            ),
          ),
        ),
      ),
    )

pub invariant_of-self : goal.invariant_of-self
invariant_of-self g c =
    let t = c.forget.new.self in
    record {
      few_knots = t.few_knots;
      few_slots = t.few_slots;
      served = t.served;
      some_blocks = t.some_blocks;
      few_blocks = t.few_blocks;
      some_columns = t.some_columns;
      few_columns = t.few_columns;
      some_row = t.some_row;
      room_for_row = t.room_for_row;
      has_blobs = t.has_blobs;
      blobs_fit = t.blobs_fit;
      page = t.page;
      rows_end = t.rows_end;
      rows_room = t.rows_room;
      blank_rest = t.blank_rest;
      counted = t.counted;
      lies = t.lies;
      left = t.left;
      few_pages = still-few (t.place.blocks * t.geometry.block + 6) t.bitmaps c.mount_bitmaps.new.bitmaps c.mount_bitmaps.ensures.same t.few_pages;
      running = λ is. absurd (none-is t.ring c.forget.ensures.forgotten.down is);
      follow = λ ring is. absurd (none-there t.ring ring c.forget.ensures.forgotten.down is);
      pages_left = λ some. absurd (omega (arith, some, c.forget.ensures.forgotten.none));
      blobs_running = t.blobs_running;
      blobs_left = t.blobs_left;
    }

pub forget-requires : goal.forget-requires
forget-requires g c = table-fits g.row.KNOTS g.row.SLOTS c.args.self.now.few_knots c.args.self.now.few_slots
