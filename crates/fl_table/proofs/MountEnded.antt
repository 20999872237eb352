-- How the mount of a table ends, by the mount of its ring and the read of the kept pages.
use Rattle.fl_model.proofs.EntriesStayTold.{telling-stays}
use Rattle.std.specs.List.{slice_get, sum}
use Rattle.std.proofs.lemmas.Bool.{cases_lt}
use Rattle.std.proofs.Common.{◌≡◌, ℕ, ◌+◌, ◌-◌, ◌*◌, ◌%◌, ◌≤◌, min, max, Bool, true, false, cond, ◌==◌, Option, Some, None, Result, Ok, Err, List, [], ◌∷◌, IfSome, map, length, drop, get_or, refl, sym, ◌∙◌, ap, subst, ◌⊎◌, inl, inr, arith, IsTrue, ◌<◌, take}
use Rattle.std.proofs.lemmas.Option.{none-some}
use Rattle.std.proofs.lemmas.List.{drop_all}
use Rattle.fl_base.specs.Causes.{Rose}
use Rattle.fl_base.proofs.Tests.{zero_either}
use Rattle.fl_flash.specs.Flash.{FlashState, page_at}
use Rattle.fl_flash.specs.Places.{extent}
use Rattle.fl_flash.specs.declared.armed.Armed.{Armed}
use Rattle.fl_flash.specs.declared.flash.FlashFault.{FlashFault}
use Rattle.fl_flash.specs.declared.flash.FlashFault.TheVariants.{PowerLost, Media}
use Rattle.fl_model.specs.Record.{Plan, RowLayout, has_index, entries_per_page}
use Rattle.fl_model.specs.Ring as model
use Rattle.fl_model.specs.Row.{stored_row}
use Rattle.fl_model.specs.Table.{Table, Entry, DataRing, IndexRing, VarRing, shape_of, pending_entries, lose, end_of_blobs}
use Rattle.fl_model.specs.Layout.{IndexEntry, IndexPage, bitmap_of, full_of}
use Rattle.fl_model.specs.Limits.{rows_of_page}
use Rattle.fl_model.specs.Mount.{Of, renumber, ready, index_end, blob_end, waiting_after}
use Rattle.fl_model.specs.Facts.{IsTable, IsSettled}
use Rattle.fl_model.specs.Work.{Device, PartProgress}
use Rattle.fl_model.specs.Within.{TableMounts, TableStopped, TableUnread}
use Rattle.fl_model.proofs.Lists.{slice_get-some, take_none}
use Rattle.fl_ring.proofs.InTable.{TableAnswers}
use Rattle.fl_parts.proofs.BlobTables.{HoldsVar}
use Rattle.fl_parts.proofs.BlobsOfTable.{var-as, var-same}
use Rattle.fl_table.proofs.MountCalls.{OthersStill}
use Rattle.fl_parts.proofs.Loose.{IsLoose, has-listed, led-as, listed-as, loose-paged, paged-loose, plain-from}
use Rattle.fl_parts.proofs.Plain.{IsPlainTable, some_map, stand-as, table-parts, table-facts}
use Rattle.fl_parts.proofs.Renumbered.{blob-below, blob_end-most}
use Rattle.fl_parts.proofs.PageRows.{entries_from, HaveEntries, page-rows, entries-length, entries-same}
use Rattle.fl_parts.proofs.ListsStay.{HoldsIndexed, indexed-moved, indexed-same, ring-moved}
use Rattle.fl_page.specs.Writer.{Gathers}
use Rattle.fl_frame.specs.Device.{ArmsAs, SameDevice}
use Rattle.fl_frame.specs.Reads.{OnlyReads}
use Rattle.fl_frame.specs.Causes.{ReadFails}
use Rattle.fl_ring.specs.Mounting as ring_mount
use Rattle.fl_ring.specs.Numbers.{renumbered}
use Rattle.fl_ring.specs.Place.{next_of, oldest_of}
use Rattle.fl_ring.specs.Place as place
use Rattle.fl_ring.specs.Ring.{Shape, RingState, OnRing}
use Rattle.fl_ring.specs.Ring.{place as place_at}
use Rattle.fl_frame.specs.Watched.{IsWatched}
use Rattle.fl_ring.specs.declared.fault.RingFault.{RingFault}
use Rattle.fl_ring.specs.declared.fault.RingFault.TheVariants as ring
use Rattle.fl_ring.specs.declared.ring.Ring.{Ring}
use Rattle.fl_ring.proofs.Founds.{same_pages}
use Rattle.fl_schema.specs.Schema.{layout_of}
use Rattle.fl_parts.specs.ByEntries.{Come, end_before, mount_fault}
use Rattle.fl_parts.specs.Faults.{of_ring, IfFlash, IfPage, is_of_pages}
use Rattle.fl_table.specs.Memory.{IsPlanned, HoldsInMemory}
use Rattle.fl_parts.specs.Failing.{FaultEnds, MountsBadly}
use Rattle.fl_table.specs.Outcomes.{DataEnds, mounted_of}
use Rattle.fl_model.specs.Spline.{points_of}
use Rattle.fl_bitmap.specs.Widths.{is_bits}
use Rattle.fl_index.specs.declared.index.BitmapIndex.{BitmapIndex}
use Rattle.fl_index.specs.Memory as memory
use Rattle.fl_index.specs.Page.{full_view}
use Rattle.fl_index.specs.Standing.{Waits}
use Rattle.fl_index.proofs.Lists.{end_after}
use Rattle.fl_index.proofs.SealEnds.{planned-bits, planned-page}
use Rattle.fl_model.specs.Image.{rows_at, IsRingImage, HoldsRows}
use Rattle.fl_parts.specs.Bitmaps.{AreSamePlan, Stand, StandForRing, first_to_wait}
use Rattle.fl_parts.specs.Coming.{WaitUnlisted}
use Rattle.fl_parts.proofs.NotedEntries.{first-same, page-bitmap, void-bitmap}
use Rattle.fl_parts.proofs.IndexOfTable.{planned-none, planned-some, still-planned}
use Rattle.fl_parts.specs.Mountable.{AreVoid, BlobsBefore, IsPaged, RowsBehind}
use Rattle.fl_parts.specs.Pages.{HoldsTable, Rests, RestsToMount, bytes_in}
use Rattle.fl_find.specs.declared.index.KeyIndex.{KeyIndex}
use Rattle.fl_parts.specs.Reading.{pages_of, bitmap_on, full_on}
use Rattle.fl_table.specs.declared.counts.Mounted.{Mounted}
use Rattle.fl_parts.specs.declared.known.Known.{Known}
use Rattle.fl_parts.specs.declared.mount_fault.MountFault.{MountFault}
use Rattle.fl_parts.specs.declared.mount_fault.MountFault.TheVariants as mount
use Rattle.fl_table.specs.declared.table.Table as code
use Rattle.fl_parts.proofs.TablePages.{plain-on, plain-holds}
use Rattle.fl_parts.proofs.MountGood.{ring-renumbered, numbered-facts, numbered-idle, good-ring}
use Rattle.fl_parts.proofs.MountLifted.{RowsMount, mount-lifts, mount-fails}
use Rattle.fl_table.proofs.MountComes.{pages-hold}
use Rattle.fl_parts.proofs.Repaired.{IsHeld, IsIdle, IsRepaired, idle-lost, lost-idle}
use Rattle.fl_table.proofs.SealAnswers.{planned-shape, planned-large, planned-few, lies-size, counts-room}
use Rattle.fl_parts.proofs.SealEnds.{fault-ends}
use Rattle.fl_parts.proofs.StandingMount.{IsOf}
use Rattle.fl_parts.proofs.StandingKeys.{mount-fine}
use Rattle.fl_parts.proofs.StandingKnown.{KnowsTable}
use Rattle.fl_parts.proofs.States.{shape_in, state_of, state-oldest, HaveSize, to-image}

-- what the mount of the data ring is told of its table
pub record IsMounting (first : ℕ) (plan : Plan) (table : Table) (old : FlashState) : Type 0 where
  pub limit : plan.blob_limit ≤ 1500
  pub shape : model.IsShape (shape_of plan DataRing)
  pub large : 64 ≤ plan.geometry.page
  pub few : IsTrue (has_index plan) → plan.data_blocks * plan.geometry.block + 6 ≤ 65536
  pub held : IsHeld (IsSettled plan table) plan table
  pub behind : RowsBehind plan table
  pub before : BlobsBefore table
  pub idle : IsIdle table
  pub on : OnRing (shape_in first plan) (page_at old) (state_of plan table)
  pub indexed : HoldsIndexed (page_at old) first plan table
  pub var : HoldsVar (page_at old) first plan table

pub mounting-of : {KNOTS SLOTS : ℕ} (t : code.Table KNOTS SLOTS) (f : FlashState) (first : ℕ) (plan : Plan) (table : Table) → IsPlanned t first plan → f.geometry ≡ t.geometry → t.place.first_block + t.place.blocks ≤ f.blocks → f.start + extent f.geometry f.blocks ≤ length f.media.content → RestsToMount f first plan table →
    IsMounting first plan table f
mounting-of t f first plan table planned geometry within reaches rests =
    let idle = lost-idle table rests.mountable.lost in
    let facts = paged-loose plan table planned.log idle.pending idle.buffered idle.waiting rests.mountable.paged in
    let large = planned-large t first plan planned in
    record {
      limit = omega (arith, planned.limit, t.blobs_fit);
      shape = planned-shape t first plan planned;
      large = large;
      few = planned-few t first plan planned;
      held = record { loose = facts; plain = λ settled. table-parts plan table planned.log settled.facts };
      behind = rests.mountable.behind;
      before = rests.mountable.before;
      idle = idle;
      on = plain-on (page_at f) first plan table (lies-size t f first plan planned geometry within reaches) large facts.rows rests.pages;
      indexed = rests.pages.index;
      var = rests.pages.var;
    }

module _ (first : ℕ) (plan : Plan) (table : Table) (rose : Bool) (device : Device) (old : FlashState) (is : IsMounting first plan table old) where
  shape : model.IsShape (shape_of plan DataRing)
  shape = is.shape

  large : 64 ≤ plan.geometry.page
  large = is.large

  held : IsHeld (IsSettled plan table) plan table
  held = is.held

  idle : IsIdle table
  idle = is.idle

  limited : plan.blob_limit ≤ 1500
  limited = is.limit

  numbered : Table
  numbered = renumber plan DataRing table

  known : IsHeld (IsSettled plan table) plan (renumber plan DataRing table)
  known = numbered-facts (IsSettled plan table) first plan table shape large is.few held is.behind idle (page_at old) is.on

  same_state : renumbered (shape_in first plan) (index_end plan table) (state_of plan table) ≡ state_of plan (renumber plan DataRing table)
  same_state = ring-renumbered (IsSettled plan table) first plan table shape large is.few held is.behind idle (page_at old) is.on

  -- what the index lists stands where its pages do
  still_indexed : (now : Table) (new : FlashState) → IsRepaired (renumber plan DataRing table) now → ((n : ℕ) → bytes_in (page_at new) first plan IndexRing n ≡ bytes_in (page_at old) first plan IndexRing n) → HoldsIndexed (page_at new) first plan now
  still_indexed now new r still =
      indexed-same (page_at old) (page_at new) first plan now still (indexed-moved (page_at old) first plan table now r.index r.index_pages is.indexed)

  -- .. and its variable data
  still_var : (now : Table) (new : FlashState) → IsRepaired (renumber plan DataRing table) now → ((n : ℕ) → bytes_in (page_at new) first plan VarRing n ≡ bytes_in (page_at old) first plan VarRing n) → HoldsVar (page_at new) first plan now
  still_var now new r still = var-same (page_at old) (page_at new) first plan now still (var-as (page_at old) first plan table now r.var r.var_pages is.var)

  -- what the flash holds of it
  still_holds : (now : Table) (new : FlashState) → IsRepaired (renumber plan DataRing table) now → IsLoose plan now → HaveSize first plan (page_at new) → OthersStill old new first plan → OnRing (shape_in first plan) (page_at new) (state_of plan (lose now)) → HoldsTable (page_at new) first plan now
  still_holds now new r loose sizes still on =
      plain-holds (page_at new) first plan now sizes large loose.rows (subst (λ (x : Table). OnRing (shape_in first plan) (page_at new) (state_of plan x)) (sym (idle-lost now r.idle)) on) (still_indexed now new r (λ n. (still n).0)) (still_var now new r (λ n. (still n).1))

  -- .. and all facts where they held
  still_settled : (now : Table) → IsRepaired (renumber plan DataRing table) now → (IsSettled plan table → IsPlainTable plan now) → IsSettled plan table → IsSettled plan now
  still_settled now r strict settled = record { facts = table-facts plan now (strict settled); lost = idle-lost now r.idle }

  -- the mount of the ring failed
  pub ring-fails : {KNOTS SLOTS : ℕ} (e : RingFault) (t : code.Table KNOTS SLOTS) (new : FlashState) → HaveSize first plan (page_at new) → OthersStill old new first plan →
      ring_mount.MountEnds (shape_in first plan) rose device (renumbered (shape_in first plan) (index_end plan table) (state_of plan table)) (Err e) new → DataEnds first plan table rose device (Err (of_ring e)) t new
  ring-fails e t new sizes still h =
      by_fault e (subst (λ (s : RingState). ring_mount.MountEnds (shape_in first plan) rose device s (Err e) new) same_state h)
    where
      did_not : (now : PartProgress Table) (fault : FlashFault) → (TableMounts plan rose (Of DataRing ∷ []) device table (TableStopped now) × TableAnswers now.end (Err fault) new) ⊎ (TableMounts plan rose (Of DataRing ∷ []) device table (TableUnread now) × (fault ≡ Media)) →
          (TableMounts plan rose (Of DataRing ∷ []) device table (TableStopped now) × FaultEnds now.end fault new) ⊎ (TableMounts plan rose (Of DataRing ∷ []) device table (TableUnread now) × (fault ≡ Media))
      did_not now fault (inl p) = inl (p.0, fault-ends now.end fault new p.1)
      did_not now fault (inr p) = inr p

      by_fault : (e : RingFault) → ring_mount.MountEnds (shape_in first plan) rose device (state_of plan (renumber plan DataRing table)) (Err e) new → DataEnds first plan table rose device (Err (of_ring e)) t new
      by_fault (ring.Flash fault) m =
          let l = mount-fails (IsSettled plan table) first plan table rose device new shape known (numbered-idle (IsSettled plan table) first plan table shape large is.few held is.behind idle (page_at old) is.on) fault m in
          let pages = still_holds l.now.state new l.repaired l.facts sizes still l.on in
          record {
            now = l.now;
            did = did_not l.now fault l.did;
            counts = l.counts;
            lost = idle-lost l.now.state l.repaired.idle;
            paged = loose-paged plan l.now.state l.repaired.idle.pending l.facts;
            pages = pages;
            rests = λ settled. record { settled = still_settled l.now.state l.repaired l.strict settled; pages = pages };
          }
      by_fault (ring.BadHead heads) m = absurd m
      by_fault (ring.BadGap page) m = absurd m
      by_fault (ring.BadPage page wanted found) m = absurd m
      by_fault (ring.NoNumber least) m = absurd m

  -- what the ring's mount says of its state says it of the table
  pub ring-ends : (r : Shape) → r ≡ shape_in first plan → (least : ℕ) → least ≡ index_end plan table → (new : FlashState) (result : Result Ring RingFault) →
      ((s : RingState) (rose : Bool) (device : Device) → ring_mount.IsGood old r least s → IsWatched old new rose device → ring_mount.MountEnds r rose device (renumbered r least s) result new) →
      IsWatched old new rose device → ring_mount.MountEnds (shape_in first plan) rose device (renumbered (shape_in first plan) (index_end plan table) (state_of plan table)) result new
  ring-ends r e least end new result ends watched =
      subst (λ n. ring_mount.MountEnds (shape_in first plan) rose device (renumbered (shape_in first plan) n (state_of plan table)) result new) end
      (subst (λ (x : Shape). ring_mount.MountEnds x rose device (renumbered x least (state_of plan table)) result new) e
      (ends (state_of plan table) rose device (subst (λ (x : Shape). ring_mount.IsGood old x least (state_of plan table)) (sym e)
      (subst (λ n. ring_mount.IsGood old (shape_in first plan) n (state_of plan table)) (sym end) (good-ring (IsSettled plan table) first plan table shape large is.few held is.behind idle (page_at old) is.on old refl watched.told))) watched))

  -- it ended well
  pub ring-mounts : (ring : Ring) (new : FlashState) → ring_mount.MountEnds (shape_in first plan) rose device (renumbered (shape_in first plan) (index_end plan table) (state_of plan table)) (Ok ring) new →
      RowsMount (IsSettled plan table) first plan table rose device ring new
  ring-mounts ring new h =
      mount-lifts (IsSettled plan table) first plan table rose device new shape known (numbered-idle (IsSettled plan table) first plan table shape large is.few held is.behind idle (page_at old) is.on) ring
      (subst (λ (s : RingState). ring_mount.MountEnds (shape_in first plan) rose device s (Ok ring) new) same_state h)

  -- the same index pages end where they did
  ends_as : (now : Table) → now.index_pages ≡ table.index_pages → index_end plan now ≡ index_end plan table
  ends_as now same = ap (λ (pages : List IndexPage). end_after (entries_per_page plan) (map (λ page. page.first) pages)) same

  -- the index ends before its next number
  pub ends-within : (ring : Ring) (mid : FlashState) (l : RowsMount (IsSettled plan table) first plan table rose device ring mid) (least : ℕ) → least ≡ index_end plan table → least ≤ next_of ring
  ends-within ring mid l least end =
      let ended : index_end plan l.now.state ≡ index_end plan table = ends_as l.now.state l.repaired.index_pages in
      omega (arith, l.facts.index.listed, ended, end, l.stands.next)

  -- and then the kept pages are read
  module _ (ring : Ring) (mid new : FlashState) (n : ℕ) (l : RowsMount (IsSettled plan table) first plan table rose device ring mid) (reads : OnlyReads mid n new) (sizes : HaveSize first plan (page_at new))
      (still : OthersStill old new first plan) where
    on_now : OnRing (shape_in first plan) (page_at new) (state_of plan (lose l.now.state))
    on_now = subst (λ (page : ℕ → List ℕ). OnRing (shape_in first plan) page (state_of plan (lose l.now.state))) (sym (same_pages mid new n reads)) l.on

    mid_sizes : HaveSize first plan (page_at mid)
    mid_sizes = subst (λ (page : ℕ → List ℕ). HaveSize first plan page) (same_pages mid new n reads) sizes

    pub same_device : SameDevice new l.now.device
    same_device = record {
      armed = subst (λ (a : Option Armed). ArmsAs l.now.device.armed a) (sym reads.armed) l.counts.armed;
      programs = l.counts.programs ∙ sym reads.programs;
      erases = l.counts.erases ∙ sym reads.erases;
    }

    pub pages_now : HoldsTable (page_at new) first plan l.now.state
    pages_now = still_holds l.now.state new l.repaired l.facts sizes still on_now

    pub settled_now : IsSettled plan table → IsSettled plan l.now.state
    settled_now = still_settled l.now.state l.repaired l.strict

    -- its blobs are some of those that there were
    pub before_now : BlobsBefore l.now.state
    before_now =
        let less : blob_end l.now.state ≤ blob_end table = blob_end-most l.now.state (blob_end table) (λ i entry blob e k some. let w = l.repaired.left i entry e in blob-below table w.0 entry blob w.1 k some) in
        subst (λ (o : Option model.Ring). IfSome o (λ r. AreVoid r.counts → blob_end l.now.state ≤ model.oldest r)) (sym l.repaired.var)
        (some_map table.var (λ r. AreVoid r.counts → blob_end table ≤ model.oldest r) (λ r. AreVoid r.counts → blob_end l.now.state ≤ model.oldest r) (λ r was void. let le = was void in omega (arith, le, less)) is.before)

    pub reads-fail : (fault : FlashFault) → ReadFails mid fault new → (Rose mid.media.faults new.media.faults → IsTrue rose) → MountsBadly first plan (DataRing ∷ []) table rose device fault new
    reads-fail PowerLost off risen = absurd (not_both l.power off)
      where
        not_both : mid.is_on ≡ true → mid.is_on ≡ false → ⊥
        not_both e k = cc
    reads-fail Media rises risen =
        let u = l.unread (risen rises) in
        record {
          now = u.0;
          did = inr (u.1, refl);
          counts = subst (λ (d : Device). SameDevice new d) (sym u.2) same_device;
          lost = subst (λ (x : Table). x ≡ lose x) (sym u.3) (idle-lost l.now.state l.repaired.idle);
          paged = subst (IsPaged plan) (sym u.3) (loose-paged plan l.now.state l.repaired.idle.pending l.facts);
          pages = subst (λ (x : Table). HoldsTable (page_at new) first plan x) (sym u.3) pages_now;
          rests = λ settled. subst (λ (x : Table). Rests new first plan x) (sym u.3) (record { settled = settled_now settled; pages = pages_now });
        }

    -- no page is refused
    pub reads-end : {KNOTS SLOTS : ℕ} (t : code.Table KNOTS SLOTS) (e : MountFault) (c : Come) → IsOf c l.now.state → (Rose mid.media.faults new.media.faults → IsTrue rose) → is_of_pages e ≡ true → IfFlash (λ fault. ReadFails mid fault new) e →
        IfPage (λ fault. mount_fault c ≡ Some fault) e → DataEnds first plan table rose device (Err e) t new
    reads-end t e c is risen only fails refused = by_fault e only fails refused
      where
        fine : (fault : MountFault) → mount_fault c ≡ Some fault → ⊥
        fine fault h = none-some fault (sym (mount-fine c l.now.state is) ∙ h)

        by_fault : (e : MountFault) → is_of_pages e ≡ true → IfFlash (λ fault. ReadFails mid fault new) e → IfPage (λ fault. mount_fault c ≡ Some fault) e → DataEnds first plan table rose device (Err e) t new
        by_fault (mount.Flash fault) only fails refused = reads-fail fault fails risen
        by_fault (mount.BadPage bad) only fails refused = fine (mount.BadPage bad) refused
        by_fault (mount.BadKeys page last first_key) only fails refused = fine (mount.BadKeys page last first_key) refused
        by_fault (mount.BadEntry page count limit) only fails refused = fine (mount.BadEntry page count limit) refused
        by_fault (mount.Ring fault) only fails refused = absurd (cc only)
        by_fault (mount.BadIndex end next) only fails refused = absurd (cc only)
        by_fault (mount.BadBlob page next) only fails refused = absurd (cc only)

    nothing_pending : pending_entries (ready plan l.now.state) ≡ []
    nothing_pending = ap (λ k. drop (length l.now.state.entries - k) l.now.state.entries) l.repaired.idle.pending ∙ drop_all (length l.now.state.entries - 0) l.now.state.entries (omega arith)

    -- the entries of the pages that the index doesn't list wait
    many_wait : length (ready plan l.now.state).waiting ≡ waiting_after plan l.now.state
    many_wait = entries-length plan l.now.state (l.now.state.rows.next - waiting_after plan l.now.state) (waiting_after plan l.now.state)

    few_wait : length (ready plan l.now.state).waiting ≤ entries_per_page plan
    few_wait = omega (arith, many_wait, by_index (has_index plan))
      where
        by_index : (b : Bool) → cond b (min (entries_per_page plan) (l.now.state.rows.next - max (index_end plan l.now.state) (model.oldest l.now.state.rows))) 0 ≤ entries_per_page plan
        by_index true = omega arith
        by_index false = omega arith

    late_wait : index_end plan l.now.state + length (ready plan l.now.state).waiting ≤ l.now.state.rows.next
    late_wait = omega (arith, many_wait, by_index (has_index plan))
      where
        by_index : (b : Bool) → index_end plan l.now.state + (cond b (min (entries_per_page plan) (l.now.state.rows.next - max (index_end plan l.now.state) (model.oldest l.now.state.rows))) 0) ≤ l.now.state.rows.next
        by_index true = omega (arith, l.facts.index.listed)
        by_index false = omega (arith, l.facts.index.listed)

    ready_loose : IsLoose plan (ready plan l.now.state)
    ready_loose = record {
      plain = l.facts.plain;
      bare = l.facts.bare;
      rows = l.facts.rows;
      kept = l.facts.kept;
      index = listed-as plan l.now.state l.now.state.entries l.now.state.rows l.now.state.pending l.now.state.buffered (ready plan l.now.state).waiting (points_of l.now.state) l.facts.index late_wait l.facts.index.tell
          (telling-stays.ready plan l.now.state l.facts.rows.not_negative);
      blobs = led-as plan l.now.state l.now.state.entries l.now.state.rows l.now.state.pending (ready plan l.now.state).waiting (points_of l.now.state) (λ i entry e. (i, e))
          (stand-as plan l.now.state (ready plan l.now.state) refl (λ ring number. refl) l.facts.blobs.stand) l.facts.blobs;
      number = l.facts.number;
    }

    pub ready_facts : IsSettled plan table → IsTable plan (ready plan l.now.state)
    ready_facts settled =
        let p = l.strict settled in
        table-facts plan (ready plan l.now.state) (plain-from plan (ready plan l.now.state) ready_loose (record {
          few_pending = p.few_pending;
          waiting = λ t. few_wait;
          number = p.number;
          number_pending = p.number_pending;
          index = p.index.number;
          index_pending = p.index.number_pending;
          listed = p.index.number_listed;
          blobs = p.blobs.blobs;
          var = p.blobs.number;
          var_pending = p.blobs.number_pending;
        }))

    old_is : oldest_of ring ≡ model.oldest l.now.state.rows
    old_is = l.stands.oldest ∙ state-oldest plan (lose l.now.state)

    -- what the table holds in memory then
    pub started-memory : {KNOTS SLOTS : ℕ} (t : code.Table KNOTS SLOTS) (c : Come) (known : Known) → IsPlanned t first plan → c.oldest ≡ oldest_of ring → ((layout : RowLayout) → Gathers layout [] t.writer) → t.bitmap ≡ 0 → t.blob_end ≡ 0 →
        t.last_key ≡ known.last → t.voids ≡ known.voids → KnowsTable plan.error c l.now.state known t.counts.items t.index → HoldsInMemory t ring plan (ready plan l.now.state)
    started-memory t c known planned begin empty bitmap ends last voids knows =
        let room = counts-room t first plan planned in
        record {
          next = l.stands.next;
          oldest = old_is;
          gathers = subst (λ (es : List Entry). Gathers (layout_of t.schema) (map stored_row es) t.writer) (sym nothing_pending) (empty (layout_of t.schema));
          bitmap = bitmap ∙ sym (ap (bitmap_of plan) nothing_pending ∙ zero_either (plan.bits == 0));
          blob_end = ends ∙ sym (ap end_of_blobs nothing_pending);
          last = last ∙ knows.last;
          counts = λ i count e.
              ap (λ (k : ℕ). get_or t.counts.items (k % (plan.data_blocks * plan.geometry.block)) 0) (let s : model.oldest l.now.state.rows + i ≡ c.oldest + i = omega (arith, old_is, begin) in s)
              ∙ (ap (λ (k : ℕ). get_or t.counts.items ((c.oldest + i) % k) 0) (sym room) ∙ knows.noted i count e);
          voids = voids ∙ knows.voids;
          index = knows.points;
        }

    -- what it answers
    pub mount-answer : {KNOTS SLOTS : ℕ} (c : Come) (known : Known) (counts : List ℕ) (index : KeyIndex KNOTS SLOTS) → KnowsTable plan.error c l.now.state known counts index →
        ◌≡◌ {A = Mounted} (record { rows = known.rows; pages = next_of ring - oldest_of ring; voids = known.voids }) (mounted_of (ready plan l.now.state))
    mount-answer c known counts index knows =
        let many : next_of ring - oldest_of ring ≡ length l.now.state.rows.counts = omega (arith, l.stands.next, old_is, l.facts.rows.not_negative) in
        rw (knows.rows, knows.voids, many) refl

    -- the entries of the pages that the ring reads
    reads-entries : {KNOTS SLOTS : ℕ} (t : code.Table KNOTS SLOTS) → IsPlanned t first plan → place.shape_of ring ≡ shape_in first plan → IsTrue (is_bits plan.bits) → HaveEntries (layout_of t.schema) plan (ready plan l.now.state) (pages_of ring mid)
    reads-entries t planned is bits =
        let on : OnRing (shape_in first plan) (page_at mid) (state_of plan l.now.state) = subst (λ (x : Table). OnRing (shape_in first plan) (page_at mid) (state_of plan x)) (sym (idle-lost l.now.state l.repaired.idle)) l.on in
        let image = to-image (page_at mid) first plan l.now.state mid_sizes large l.facts.rows on in
        let bitmap : (number : ℕ) → model.oldest l.now.state.rows ≤ number → number < l.now.state.rows.next → bitmap_on (pages_of ring mid number) ≡ bitmap_of plan (rows_of_page l.now.state number) =
        subst (λ (r : Shape). (number : ℕ) → model.oldest l.now.state.rows ≤ number → number < l.now.state.rows.next → bitmap_on (page_at mid (place_at r number)) ≡ bitmap_of plan (rows_of_page l.now.state number)) (sym is) (λ number low high. one_page image mid_sizes number low high) in
        λ number low high. rw (sym (bitmap number low high), sym (full_page number low high)) refl
      where
        full_page : (number : ℕ) → model.oldest l.now.state.rows ≤ number → number < l.now.state.rows.next → full_view (full_on (layout_of t.schema) (pages_of ring mid number)) ≡ full_of (rows_of_page l.now.state number)
        full_page number low high =
            let i = number - model.oldest l.now.state.rows in
            let there : model.oldest l.now.state.rows + i ≡ number = omega (arith, low) in
            let c = slice_get-some l.now.state.rows.counts i (omega (arith, low, high, l.facts.rows.not_negative)) in
            subst (λ n. full_view (full_on (layout_of t.schema) (pages_of ring mid n)) ≡ full_of (rows_of_page l.now.state n)) there
            (subst (λ n. full_view (full_on (layout_of t.schema) (pages_of ring mid (n + i))) ≡ full_of (rows_of_page l.now.state (model.oldest l.now.state.rows + i))) old_is
            ((pages-hold t first plan table rose device ring old mid planned is l mid_sizes).full i c.0 c.1 ∙ ap full_of (sym (page-rows l.now.state i c.0 c.1))))

        one_page : IsRingImage (shape_of plan DataRing) l.now.state.rows (bytes_in (page_at mid) first plan DataRing) (HoldsRows plan l.now.state) → HaveSize first plan (page_at mid) → (number : ℕ) → model.oldest l.now.state.rows ≤ number → number < l.now.state.rows.next →
            bitmap_on (page_at mid (place_at (shape_in first plan) number)) ≡ bitmap_of plan (rows_of_page l.now.state number)
        one_page image mid_sizes number low high =
            let i = number - model.oldest l.now.state.rows in
            let there : model.oldest l.now.state.rows + i ≡ number = omega (arith, low) in
            let c = slice_get-some l.now.state.rows.counts i (omega (arith, low, high, l.facts.rows.not_negative)) in
            subst (λ n. bitmap_on (page_at mid (place_at (shape_in first plan) n)) ≡ bitmap_of plan (rows_of_page l.now.state n)) there
            (by_count i c.0 c.1 (cases_lt 0 c.0) ∙ ap (bitmap_of plan) (sym (page-rows l.now.state i c.0 c.1)))
          where
            by_count : (i c : ℕ) → slice_get l.now.state.rows.counts i ≡ Some c → (0 < c) ⊎ (c ≤ 0) → bitmap_on (page_at mid (place_at (shape_in first plan) (model.oldest l.now.state.rows + i))) ≡ bitmap_of plan (rows_at l.now.state i c)
            by_count i c e (inl some) = page-bitmap plan (model.oldest l.now.state.rows + i) (rows_at l.now.state i c) (page_at mid (place_at (shape_in first plan) (model.oldest l.now.state.rows + i))) bits (image.kept i c e some)
            by_count i c e (inr none) =
                let zero_is : c ≡ 0 = omega (arith, none) in
                let nothing : rows_at l.now.state i c ≡ [] = ap (λ k. take k (drop (sum (take i l.now.state.rows.counts)) l.now.state.entries)) zero_is ∙ take_none (drop (sum (take i l.now.state.rows.counts)) l.now.state.entries) in
                void-bitmap (page_at mid (place_at (shape_in first plan) (model.oldest l.now.state.rows + i))) (omega (arith, mid_sizes (model.oldest l.now.state.rows + i), large)) (image.void i (e ∙ ap (λ (n : ℕ). Some n) zero_is))
                ∙ sym (ap (bitmap_of plan) nothing ∙ zero_either (plan.bits == 0))

    -- the index stands for that of the table that was started, where entries of the data pages wait that it doesn't list
    pub started-stand : {KNOTS SLOTS : ℕ} (t : code.Table KNOTS SLOTS) (c : Come) (now : Option BitmapIndex) (least : ℕ) → IsPlanned t first plan → place.shape_of ring ≡ shape_in first plan → c.layout ≡ layout_of t.schema → c.oldest ≡ oldest_of ring →
        end_before c c.index_pages ≤ index_end plan l.now.state → least ≡ index_end plan table → AreSamePlan t.bitmaps now → StandForRing now new (first + plan.data_blocks) plan l.now.state →
        WaitUnlisted c (pages_of ring mid) t.bitmaps least (next_of ring) now → Stand now new (first + plan.data_blocks) plan (ready plan l.now.state)
    started-stand t c None least planned is layout begin ends end same stands waits =
        let none = planned-none (first + plan.data_blocks) plan (still-planned t.bitmaps None (first + plan.data_blocks) plan planned.index same) in
        let count : waiting_after plan l.now.state ≡ 0 =
        ap (λ b. cond b (min (entries_per_page plan) (l.now.state.rows.next - max (index_end plan l.now.state) (model.oldest l.now.state.rows))) 0) none in
        ap (λ k. entries_from plan l.now.state (l.now.state.rows.next - k) k) count
    started-stand t c (Some now) least planned is layout begin ends end same stands waits =
        let D = first + plan.data_blocks in
        let st = l.now.state in
        let there = still-planned t.bitmaps (Some now) D plan planned.index same in
        let has = planned-some now D plan there in
        let next_is : next_of ring ≡ st.rows.next = l.stands.next in
        let ended : index_end plan st ≡ index_end plan table = ends_as st l.repaired.index_pages in
        let per = planned-page now D plan there in
        let waiting : waiting_after plan st ≡ min (entries_per_page plan) (st.rows.next - max (index_end plan st) (model.oldest st.rows)) =
        ap (λ b. cond b (min (entries_per_page plan) (l.now.state.rows.next - max (index_end plan l.now.state) (model.oldest l.now.state.rows))) 0) has in
        let wait = first_to_wait t.bitmaps least waits.from (next_of ring) in
        let wait_is : wait ≡ next_of ring - min (next_of ring - max least waits.from) (memory.per_page now) = sym (first-same t.bitmaps (Some now) least waits.from (next_of ring) same) in
        let first_is : wait ≡ st.rows.next - min (st.rows.next - max (index_end plan st) (model.oldest st.rows)) (entries_per_page plan) =
        omega (arith, wait_is, end, ended, begin, waits.low, waits.listed.near, ends, old_is, next_is, per) in
        let low : model.oldest st.rows ≤ wait = omega (arith, first_is, end, ended, next_is, l.facts.rows.not_negative) in
        let w : Waits now wait (entries_from plan st wait (next_of ring - wait)) =
        subst (λ (es : List IndexEntry). Waits now wait es)
        (entries-same c.layout plan (ready plan st) (pages_of ring mid) wait (next_of ring - wait)
        (subst (λ (x : RowLayout). HaveEntries x plan (ready plan l.now.state) (pages_of ring mid)) (sym layout) (reads-entries t planned is (planned-bits now D plan there))) low (omega (arith, next_is, first_is))) waits.waits in
        let begins : wait ≡ st.rows.next - waiting_after plan st = omega (arith, first_is, waiting) in
        let count : next_of ring - wait ≡ waiting_after plan st = omega (arith, first_is, waiting, next_is) in
        record {
          in_ring = ring-moved now new new D plan st (ready plan st) stands refl (has-listed plan (ready plan st) stands.ring stands.facts.ring_is ready_loose few_wait) (λ k. refl);
          waits = subst (λ k. Waits now (st.rows.next - k) (ready plan st).waiting) (sym many_wait) (subst (λ k. Waits now k (entries_from plan st k (waiting_after plan st))) begins (subst (λ k. Waits now wait (entries_from plan st wait k)) count w));
        }
