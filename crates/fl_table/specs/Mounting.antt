-- What a mount found on a flash, over any bytes.
use Rattle.std.specs.Prelude.{◌≡◌, ◌⊎◌, ℕ, ◌+◌, ◌-◌, ◌<◌, ◌≤◌, Option, Some, None, IfSome, unwrap_or, List}
use Rattle.fl_flash.specs.Flash.{FlashState}
use Rattle.fl_flash.specs.declared.flash.FlashFault.{FlashFault}
use Rattle.fl_ring.specs.declared.fault.RingFault.{RingFault}
use Rattle.fl_ring.specs.declared.fault.RingFault.TheVariants as ring
use Rattle.fl_ring.specs.declared.ring.Ring.{Ring}
use Rattle.fl_ring.specs.Finding.{FoundFault}
use Rattle.fl_frame.specs.Reads.{OnlyReads}
use Rattle.fl_frame.specs.Causes.{ReadFails}
use Rattle.fl_ring.specs.Mounting.{search_reads, HasNumbers, FailsAs}
use Rattle.fl_ring.specs.Place.{next_of, oldest_of, shape_of}
use Rattle.fl_schema.specs.Schema.{layout_of}
use Rattle.fl_find.specs.Index.{error_in}
use Rattle.fl_index.specs.Memory as memory
use Rattle.fl_index.specs.declared.index.BitmapIndex.{BitmapIndex}
use Rattle.fl_ring.specs.Ring.{room}
use Rattle.fl_parts.specs.IndexMount.{FindsBitmaps, RefusesBitmaps, RemembersKept}
use Rattle.fl_parts.specs.Bitmaps.{room_of, rings_of, IsOutside, AreSamePlan, AreStillFound}
use Rattle.fl_parts.specs.Blobs as variable
use Rattle.fl_var.specs.Memory.{var_shape}
use Rattle.fl_parts.specs.Faults.{of_ring}
use Rattle.fl_parts.specs.Knowing.{IsLearned}
use Rattle.fl_table.specs.Look.{counts_in}
use Rattle.fl_table.specs.Memory.{ring_shape, IsSamePlan, NothingWaits}
use Rattle.fl_table.specs.declared.table.Table.{Table}
use Rattle.fl_parts.specs.declared.mount_fault.MountFault.{MountFault}
use Rattle.fl_parts.specs.declared.mount_fault.MountFault.TheVariants as mount
use Rattle.fl_table.specs.declared.counts.Mounted.{Mounted}
use Rattle.fl_parts.specs.BlobEnds.{least_of}
use Rattle.fl_parts.specs.BlobMount.{FindsBlobs, RefusesWithin, AreBelow}
use Rattle.fl_parts.specs.ByEntries.{Come, facts_on, known_after, rows_of, voids_of, end_of, mount_fault}
use Rattle.fl_parts.specs.Coming.{WaitUnlisted, come_of, most_in, index_pages_of}
use Rattle.fl_parts.specs.Reading.{pages_of}

-- how many rings a table has, and how many pages they have
abbrev pub rings_in : {KNOTS SLOTS : ℕ} → Table KNOTS SLOTS → ℕ
rings_in t = rings_of t.bitmaps + variable.rings_of t.blobs + 1

abbrev pub pages_in : {KNOTS SLOTS : ℕ} → Table KNOTS SLOTS → ℕ
pages_in t = room (ring_shape t) + room_of t.bitmaps + variable.room_of t.blobs

-- the index was found, and ends at this number
pub record Indexed {KNOTS SLOTS : ℕ} (t : Table KNOTS SLOTS) (old : FlashState) (end : Option ℕ) (found : FlashState) : Type 0 where
  pub now : Option BitmapIndex
  pub same : AreSamePlan t.bitmaps now
  pub bitmaps : FindsBitmaps t.bitmaps old end now found

-- The data ring was found and repaired, whose void pages follow a number. Then kept pages were read, no more than there are: those of
-- the data ring, and where entries are full those of the index that was found.
pub record ReadsRing {KNOTS SLOTS : ℕ} (t : Table KNOTS SLOTS) (bitmaps : Option BitmapIndex) (old : FlashState) (least : ℕ) (ring : Ring) (new : FlashState) : Type 0 where
  pub repaired : FlashState
  pub numbers : HasNumbers old (ring_shape t) least ring repaired
  pub shape : shape_of ring ≡ ring_shape t
  pub within : least ≤ next_of ring
  pub reads : OnlyReads repaired (index_pages_of bitmaps + (next_of ring - oldest_of ring)) new

-- what the mount of a table comes to behind the index that was found
abbrev pub comes_in : {KNOTS SLOTS : ℕ} → Table KNOTS SLOTS → Option BitmapIndex → Ring → FlashState → Come
comes_in t bitmaps ring f = come_of (layout_of t.schema) (most_in t.geometry.page (layout_of t.schema)) bitmaps ring f

-- nothing is wrong with the kept pages, and what is known of the data pages is counted
pub record FindsData {KNOTS SLOTS : ℕ} (t : Table KNOTS SLOTS) (bitmaps : Option BitmapIndex) (old : FlashState) (least : ℕ) (ring : Ring) (mounted : Mounted) (last : Option ℕ) (end : ℕ) (new : FlashState) : Type 0 where
  pub ring_reads : ReadsRing t bitmaps old least ring new
  pub fine : mount_fault (comes_in t bitmaps ring new) ≡ None
  pub mounted_is : mounted ≡ record {
    rows = rows_of (facts_on (comes_in t bitmaps ring new)) (oldest_of ring) (next_of ring - oldest_of ring);
    pages = next_of ring - oldest_of ring;
    voids = voids_of (facts_on (comes_in t bitmaps ring new)) (oldest_of ring) (next_of ring - oldest_of ring);
  }
  pub last_is : last ≡ known_after (comes_in t bitmaps ring new) (next_of ring - oldest_of ring)
  pub end_is : end ≡ end_of (facts_on (comes_in t bitmaps ring new)) (oldest_of ring) (next_of ring - oldest_of ring)

-- a table in memory has learned what the kept data pages hold that a mount came to
abbrev pub HasLearned : {KNOTS SLOTS : ℕ} → ℕ → Come → Table KNOTS SLOTS → Type 0
HasLearned error t now = IsLearned error t now.voids now.counts.items now.index

-- The entries of the last data pages wait that no index page lists, and nothing else. What was counted is what the table counts from
-- then on, and it has learned where the keys are. The variable data were found then, where the table has any: each blob begins before
-- their next page.
pub record FindsRows {KNOTS SLOTS : ℕ} (t : Table KNOTS SLOTS) (bitmaps : Option BitmapIndex) (old : FlashState) (least : ℕ) (mounted : Mounted) (now : Table KNOTS SLOTS) (new : FlashState) : Type 0 where
  pub plan : IsSamePlan t now
  pub ring : Ring
  pub ring_is : now.ring ≡ Some ring
  pub end : ℕ
  pub between : FlashState
  pub pages : FindsData t bitmaps old least ring mounted now.last_key end between
  pub waits : WaitUnlisted (comes_in t bitmaps ring between) (pages_of ring between) bitmaps least (next_of ring) now.bitmaps
  pub firsts : RemembersKept bitmaps between now.bitmaps
  pub empty : NothingWaits now
  pub learned : HasLearned (error_in t.index) (comes_in t bitmaps ring between) now
  pub counts : counts_in now ≡ record { rows = mounted.rows; pending = 0; pages = mounted.pages; voids = mounted.voids }
  pub blobs : FindsBlobs t.blobs between (least_of end) now.blobs new
  pub below : AreBelow end now.blobs

-- .. behind the index, which was found before
pub record FindsPages {KNOTS SLOTS : ℕ} (t : Table KNOTS SLOTS) (old : FlashState) (mounted : Mounted) (now : Table KNOTS SLOTS) (new : FlashState) : Type 0 where
  pub end : Option ℕ
  pub indexed : FlashState
  pub found : Option BitmapIndex
  pub same : AreSamePlan t.bitmaps found
  pub bitmaps : FindsBitmaps t.bitmaps old end found indexed
  pub still : AreStillFound found now.bitmaps
  pub rows : FindsRows t found indexed (unwrap_or end 0) mounted now new

-- a page of them is refused, and it is the first
pub record HasBadPage {KNOTS SLOTS : ℕ} (t : Table KNOTS SLOTS) (bitmaps : Option BitmapIndex) (old : FlashState) (least : ℕ) (fault : MountFault) (new : FlashState) : Type 0 where
  pub ring : Ring
  pub ring_reads : ReadsRing t bitmaps old least ring new
  pub refused : mount_fault (comes_in t bitmaps ring new) ≡ Some fault

-- the ring was found and repaired, and then a read of a kept page failed
pub record PagesUnread {KNOTS SLOTS : ℕ} (t : Table KNOTS SLOTS) (bitmaps : Option BitmapIndex) (old : FlashState) (least : ℕ) (fault : FlashFault) (new : FlashState) : Type 0 where
  pub ring : Ring
  pub ring_reads : ReadsRing t bitmaps old least ring new
  pub fails : ReadFails ring_reads.repaired fault new

-- a ring that is refused is left as it is
pub record HasBadRing {KNOTS SLOTS : ℕ} (t : Table KNOTS SLOTS) (old : FlashState) (least : ℕ) (fault : RingFault) (new : FlashState) : Type 0 where
  pub found : FoundFault old (ring_shape t) least fault
  pub reads : OnlyReads old (search_reads (ring_shape t)) new

-- the data ring was found and repaired, and the index lists pages from its next number on
pub record HasBadEnd {KNOTS SLOTS : ℕ} (t : Table KNOTS SLOTS) (old : FlashState) (least end next : ℕ) (new : FlashState) : Type 0 where
  pub ring : Ring
  pub numbers : HasNumbers old (ring_shape t) least ring new
  pub end_is : end ≡ least
  pub next_is : next ≡ next_of ring
  pub beyond : next < end

-- why the mount of the data ring and the read of its pages fail, and what was done
abbrev pub RefusesData : {KNOTS SLOTS : ℕ} → Table KNOTS SLOTS → Option BitmapIndex → FlashState → ℕ → MountFault → FlashState → Type 0
RefusesData t bitmaps old least (mount.Flash fault) new = FailsAs old (ring_shape t) least (ring.Flash fault) new ⊎ PagesUnread t bitmaps old least fault new
RefusesData t bitmaps old least (mount.Ring fault) new = HasBadRing t old least fault new
RefusesData t bitmaps old least (mount.BadPage bad) new = HasBadPage t bitmaps old least (mount.BadPage bad) new
RefusesData t bitmaps old least (mount.BadKeys page last first) new = HasBadPage t bitmaps old least (mount.BadKeys page last first) new
RefusesData t bitmaps old least (mount.BadIndex end next) new = HasBadEnd t old least end next new
RefusesData t bitmaps old least (mount.BadBlob page next) new = ⊥
RefusesData t bitmaps old least (mount.BadEntry page count limit) new = HasBadPage t bitmaps old least (mount.BadEntry page count limit) new

-- the data pages were found, and the variable data are refused
pub record BlobsRefused {KNOTS SLOTS : ℕ} (t : Table KNOTS SLOTS) (bitmaps : Option BitmapIndex) (old : FlashState) (least : ℕ) (fault : MountFault) (new : FlashState) : Type 0 where
  pub ring : Ring
  pub mounted : Mounted
  pub last : Option ℕ
  pub end : ℕ
  pub between : FlashState
  pub pages : FindsData t bitmaps old least ring mounted last end between
  pub why : RefusesWithin t.blobs between end fault new

-- why the mount of the data ring and of the variable data fails
abbrev pub RefusesRows : {KNOTS SLOTS : ℕ} → Table KNOTS SLOTS → Option BitmapIndex → FlashState → ℕ → MountFault → FlashState → Type 0
RefusesRows t bitmaps old least fault new = RefusesData t bitmaps old least fault new ⊎ BlobsRefused t bitmaps old least fault new

-- why a mount fails: the index is refused, or it is found, and the data pages or the variable data aren't
abbrev pub RefusesPages : {KNOTS SLOTS : ℕ} → Table KNOTS SLOTS → FlashState → MountFault → FlashState → Type 0
RefusesPages t old fault new =
    ((e : RingFault) × (fault ≡ of_ring e) × RefusesBitmaps t.bitmaps old e new)
    ⊎ ((end : Option ℕ) × (found : FlashState) × (i : Indexed t old end found) × RefusesRows t i.now found (unwrap_or end 0) fault new)

-- each flash page outside a table's rings stands
abbrev pub OutsideStands : {KNOTS SLOTS : ℕ} → Table KNOTS SLOTS → (ℕ → List ℕ) → (ℕ → List ℕ) → Type 0
OutsideStands t old new =
    (page : ℕ) → IsOutside (ring_shape t) page → IfSome t.bitmaps (λ index. IsOutside (memory.ring_shape index) page) → IfSome t.blobs (λ var. IsOutside (var_shape var) page) → new page ≡ old page

-- .. those outside the data ring and the ring of variable data
abbrev pub RowsStandOutside : {KNOTS SLOTS : ℕ} → Table KNOTS SLOTS → (ℕ → List ℕ) → (ℕ → List ℕ) → Type 0
RowsStandOutside t old new = (page : ℕ) → IsOutside (ring_shape t) page → IfSome t.blobs (λ var. IsOutside (var_shape var) page) → new page ≡ old page
