-- How the mount of a data ring ends that found its ring and read the kept pages.
use Rattle.std.proofs.Common.{◌≡◌, ℕ, ◌+◌, ◌-◌, ◌*◌, ◌≤◌, Bool, true, Some, None, Ok, Err, [], length, sym, ◌∙◌, ap, subst, arith}
use Rattle.fl_find.specs.Index.{error_in}
use Rattle.fl_base.specs.declared.types.Geometry.{Geometry}
use Rattle.fl_flash.specs.Flash.{FlashState, Goes, page_at}
use Rattle.fl_flash.specs.Places.{extent}
use Rattle.fl_model.specs.Facts.{IsSettled}
use Rattle.fl_model.specs.Mount.{index_end}
use Rattle.fl_model.specs.Record.{Plan, RowLayout}
use Rattle.fl_model.specs.MountLimit.{repaired, ring_mount_limit}
use Rattle.fl_model.specs.Table.{Table, DataRing, shape_of as model_shape}
use Rattle.fl_model.specs.Work.{Device}
use Rattle.fl_page.specs.Writer.{Gathers}
use Rattle.fl_frame.specs.Reads.{OnlyReads}
use Rattle.fl_frame.specs.Causes.{ReadFails}
use Rattle.fl_ring.specs.Mounting as ring_mount
use Rattle.fl_ring.specs.Mounting.{shape_at}
use Rattle.fl_ring.specs.Numbers.{renumbered, voids_at_end}
use Rattle.fl_ring.specs.Place.{next_of, oldest_of}
use Rattle.fl_ring.specs.Place as place
use Rattle.fl_ring.specs.Ring.{Shape, RingState, OnRing, OutsideStands}
use Rattle.fl_frame.specs.Watched.{IsWatched}
use Rattle.fl_ring.specs.declared.ring.Ring.{Ring}
use Rattle.fl_schema.specs.Schema.{layout_of}
use Rattle.fl_parts.specs.Bitmaps.{StandForRing}
use Rattle.fl_parts.specs.ByEntries.{Come, mount_fault, unlisted_of}
use Rattle.fl_parts.specs.Faults.{IfFlash, IfPage, is_of_pages}
use Rattle.fl_parts.specs.Coming.{StandFound, WaitUnlisted, most_in}
use Rattle.fl_parts.specs.Knowing.{KnowsWith}
use Rattle.fl_table.specs.Memory.{IsPlanned, IsSamePlan, LiesOn}
use Rattle.fl_parts.specs.MountLimits.{rows_mount_limit}
use Rattle.fl_table.specs.Mounting.{comes_in}
use Rattle.fl_table.specs.Outcomes.{DataEnds, DataWell}
use Rattle.fl_parts.specs.Pages.{RestsToMount}
use Rattle.fl_parts.specs.Reading.{pages_of}
use Rattle.fl_parts.specs.declared.mount_fault.MountFault.{MountFault}
use Rattle.fl_parts.specs.declared.known.Known.{Known}
use Rattle.fl_table.specs.declared.table.Table as code
use Rattle.fl_parts.proofs.MountProgress.{come-most, come-rows, comes-of}
use Rattle.fl_frame.proofs.WatchedInTurn.{watched-first, risen-later}
use Rattle.fl_parts.proofs.IndexOfTable.{lies-goes}
use Rattle.fl_table.proofs.MountCalls.{OthersStill, index-read, index-still, same-shape}
use Rattle.fl_table.proofs.MountComes.{comes-to, few-come, few-unlisted, found-there, index-ends}
use Rattle.fl_table.proofs.MountEnded.{IsMounting, mounting-of, mount-answer, reads-end, ready_facts, before_now, pages_now, settled_now, ring-ends, ring-mounts, same_device, started-memory, started-stand}
use Rattle.fl_parts.proofs.Loose.{loose-paged}
use Rattle.fl_parts.proofs.MountLifted.{RowsMount}
use Rattle.fl_parts.proofs.MountLimits.{data-voids, mount-repaired}
use Rattle.fl_parts.proofs.Repaired.{idle-lost}
use Rattle.fl_table.proofs.SealAnswers.{lies-size, plan-self, planned-ring, planned-same}
use Rattle.fl_parts.proofs.StandingMount.{IsOf}
use Rattle.fl_parts.proofs.StandingKnown.{KnowsTable, knows-table}
use Rattle.fl_parts.proofs.States.{shape_in, state_of, HaveSize}

-- the medium reaches to the end of the flash
abbrev Reaches : FlashState → Type 0
Reaches f = f.start + extent f.geometry f.blocks ≤ length f.media.content

-- the mount of the ring reads at most its limit
pub ring-limit : {KNOTS SLOTS : ℕ} (t : code.Table KNOTS SLOTS) (first : ℕ) (plan : Plan) (table : Table) (old mid : FlashState) → IsPlanned t first plan → RestsToMount old first plan table → LiesOn t old → Reaches old →
    ((s : RingState) → OnRing (shape_at t.place old.geometry) (page_at old) s → mid.work.reads ≤ old.work.reads + (t.place.blocks + 2 * old.geometry.block + 1 + voids_at_end s.kept)) →
    mid.work.reads ≤ old.work.reads + ring_mount_limit (model_shape plan DataRing) table.rows
ring-limit t first plan table old mid planned rests lies reaches few =
    let is = mounting-of t old first plan table planned lies.geometry lies.within reaches rests in
    let at = same-shape t t old (plan-self t) lies.geometry ∙ planned-ring t first plan planned in
    let h = few (state_of plan table) (subst (λ (r : Shape). OnRing r (page_at old) (state_of plan table)) (sym at) is.on) in
    omega (arith, h, planned.blocks, ap (λ (x : Geometry). x.block) (lies.geometry ∙ sym planned.geometry), data-voids plan table)

module _ {KNOTS SLOTS : ℕ} (t : code.Table KNOTS SLOTS) (first : ℕ) (plan : Plan) (table : Table) (rose : Bool) (device : Device) (old mid new : FlashState) (ring : Ring) (n end : ℕ) (watched : IsWatched old new rose device) (planned : IsPlanned t first plan)
    (rests : RestsToMount old first plan table) (stands : StandFound t.bitmaps old (first + plan.data_blocks) plan table) (end_is : end ≡ index_end plan table) (lies : LiesOn t old) (reaches : Reaches old) (reaches_mid : Reaches mid) (reaches_new : Reaches new)
    (goes : Goes old mid) (outside : OutsideStands (shape_at t.place old.geometry) (page_at old) (page_at mid)) (shape : place.shape_of ring ≡ shape_at t.place old.geometry)
    (mounts : (s : RingState) (rose : Bool) (device : Device) → ring_mount.IsGood old (shape_at t.place old.geometry) end s → IsWatched old mid rose device →
    ring_mount.MountEnds (shape_at t.place old.geometry) rose device (renumbered (shape_at t.place old.geometry) end s) (Ok ring) mid) (reads : OnlyReads mid n new) where
  is : IsMounting first plan table old
  is = mounting-of t old first plan table planned lies.geometry lies.within reaches rests

  at : shape_at t.place old.geometry ≡ shape_in first plan
  at = same-shape t t old (plan-self t) lies.geometry ∙ planned-ring t first plan planned

  here : place.shape_of ring ≡ shape_in first plan
  here = shape ∙ at

  l : RowsMount (IsSettled plan table) first plan table rose device ring mid
  l = ring-mounts first plan table rose device old is ring mid (ring-ends first plan table rose device old is (shape_at t.place old.geometry) at end end_is mid (Ok ring) mounts (watched-first old mid new rose device watched reads.goes))

  mid_sizes : HaveSize first plan (page_at mid)
  mid_sizes = lies-size t mid first plan planned (goes.geometry ∙ lies.geometry) (omega (arith, goes.blocks, lies.within)) reaches_mid

  sizes : HaveSize first plan (page_at new)
  sizes = lies-size t new first plan planned (reads.goes.geometry ∙ (goes.geometry ∙ lies.geometry)) (omega (arith, reads.goes.blocks, goes.blocks, lies.within)) reaches_new

  mid_still : OthersStill old mid first plan
  mid_still = index-still t old mid first plan planned lies.geometry outside

  still : OthersStill old new first plan
  still = index-read t old mid new n first plan planned lies.geometry reads outside

  -- what it comes to
  abbrev come : Come
  come = comes_in t t.bitmaps ring mid

  most : come.most ≡ most_in t.geometry.page (layout_of t.schema)
  most = come-most (layout_of t.schema) (most_in t.geometry.page (layout_of t.schema)) t.bitmaps ring mid

  of : IsOf come l.now.state
  of = comes-to t first plan table rose device ring old mid planned here l mid_sizes mid_still stands come (comes-of (layout_of t.schema) (most_in t.geometry.page (layout_of t.schema)) t.bitmaps ring mid) most (lies-goes t.bitmaps old mid goes lies.bitmaps) reaches_mid

  -- a page wasn't read: none is refused
  pub kept-fails : (now : code.Table KNOTS SLOTS) (e : MountFault) → is_of_pages e ≡ true → IfFlash (λ fault. ReadFails mid fault new) e → IfPage (λ fault. mount_fault (comes_in t t.bitmaps ring mid) ≡ Some fault) e → DataEnds first plan table rose device (Err e) now new
  kept-fails now e only fails refused = reads-end first plan table rose device old is ring mid new n l reads sizes still now e come of (risen-later old mid new rose device watched goes) only fails refused

  -- all were read
  pub kept-well : (now : code.Table KNOTS SLOTS) (known : Known) → IsSamePlan t now → ((layout : RowLayout) → Gathers layout [] now.writer) → now.bitmap ≡ 0 → now.blob_end ≡ 0 → now.last_key ≡ known.last → now.voids ≡ known.voids → known.newest ≡ None →
      KnowsWith (error_in t.index) (comes_in t t.bitmaps ring mid) (comes_in t t.bitmaps ring mid).index_pages (comes_in t t.bitmaps ring mid).pages known now.counts.items now.index →
      ((table : Table) → StandFound t.bitmaps mid (first + plan.data_blocks) plan table → StandForRing now.bitmaps new (first + plan.data_blocks) plan table) →
      WaitUnlisted (comes_in t t.bitmaps ring mid) (pages_of ring mid) t.bitmaps end (next_of ring) now.bitmaps →
      DataWell first plan table rose device (record { ring = ring; mounted = record { rows = known.rows; pages = next_of ring - oldest_of ring; voids = known.voids }; blob_end = known.blob_end }) now new
  kept-well now known same empty bitmap ends last voids none knows found waits =
      let planned_now = planned-same t now first plan planned same in
      let known_all : KnowsTable plan.error come l.now.state known now.counts.items now.index =
      subst (λ error. KnowsTable error come l.now.state known now.counts.items now.index) (sym planned.error) (knows-table (error_in t.index) come l.now.state known now.counts.items now.index of knows none) in
      let begin : come.oldest ≡ oldest_of ring = (come-rows (layout_of t.schema) (most_in t.geometry.page (layout_of t.schema)) t.bitmaps ring mid).oldest in
      let listed = index-ends t first plan table rose device ring old mid planned here l mid_sizes mid_still stands come (comes-of (layout_of t.schema) (most_in t.geometry.page (layout_of t.schema)) t.bitmaps ring mid) most
      (lies-goes t.bitmaps old mid goes lies.bitmaps) reaches_mid in
      record {
        now = l.now;
        did = l.did;
        counts = same_device first plan table rose device old is ring mid new n l reads sizes still;
        power = reads.power ∙ l.power;
        lost = idle-lost l.now.state l.repaired.idle;
        paged = loose-paged plan l.now.state l.repaired.idle.pending l.facts;
        before = before_now first plan table rose device old is ring mid new n l reads sizes still;
        pages = pages_now first plan table rose device old is ring mid new n l reads sizes still;
        settled = settled_now first plan table rose device old is ring mid new n l reads sizes still;
        whole = l.whole;
        clean = l.clean;
        planned = planned_now;
        facts = ready_facts first plan table rose device old is ring mid new n l reads sizes still;
        memory = started-memory first plan table rose device old is ring mid new n l reads sizes still now come known planned_now begin empty bitmap ends last voids known_all;
        bitmaps = started-stand first plan table rose device old is ring mid new n l reads sizes still t come now.bitmaps end planned here (come-rows (layout_of t.schema) (most_in t.geometry.page (layout_of t.schema)) t.bitmaps ring mid).layout_is begin
            listed end_is same.bitmaps (found l.now.state (found-there t first plan table rose device ring old mid planned here l mid_sizes mid_still stands)) waits;
        answer = mount-answer first plan table rose device old is ring mid new n l reads sizes still come known now.counts.items now.index known_all;
        end_is = known_all.blob_end;
      }

  -- what was read at most then, where entries are full
  pub kept-limit : plan.full_index ≡ true → mid.work.reads ≤ old.work.reads + ring_mount_limit (model_shape plan DataRing) table.rows →
      new.work.reads ≤ mid.work.reads + come.index_pages + unlisted_of come come.oldest come.pages + 1 → new.work.reads ≤ old.work.reads + rows_mount_limit plan table (repaired plan DataRing table)
  kept-limit full found then =
      let comes = comes-of (layout_of t.schema) (most_in t.geometry.page (layout_of t.schema)) t.bitmaps ring mid in
      let on = lies-goes t.bitmaps old mid goes lies.bitmaps in
      let index = few-come t first plan table rose device ring old mid planned here l mid_sizes mid_still stands come comes most on reaches_mid in
      let rows = few-unlisted t first plan table rose device ring old mid planned here l mid_sizes mid_still stands come comes most on reaches_mid full in
      subst (λ (x : Table). new.work.reads ≤ old.work.reads + rows_mount_limit plan table x) (mount-repaired plan DataRing table rose device l.now l.did)
      (omega (arith, found, then, index, rows))
