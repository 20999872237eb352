-- What the parts of a mount behind the index leave: the mount of the data ring with the read of its pages, and that of the variable data.
use Rattle.std.specs.Prelude.{◌≡◌, ℕ, ◌+◌, ◌*◌, true, false, None, Result, Err, OnOk, IfErr, IsTrue}
use Rattle.fl_flash.specs.Flash.{FlashState, Goes, page_at}
use Rattle.fl_flash.specs.declared.flash.FlashFault.TheVariants.{PowerLost}
use Rattle.fl_find.specs.Index.{error_in}
use Rattle.fl_frame.specs.Reads.{FewReads}
use Rattle.fl_ring.specs.Place.{next_of, shape_of}
use Rattle.fl_ring.specs.Place as place
use Rattle.fl_ring.specs.Ring as rings
use Rattle.fl_ring.specs.Ring.{room}
use Rattle.fl_parts.specs.Bitmaps.{AreRunning, AreStillFound, EndAt}
use Rattle.fl_parts.specs.Blobs as variable
use Rattle.fl_parts.specs.Coming.{WaitUnlisted, index_pages_of}
use Rattle.fl_parts.specs.Faults.{MountCausedBy}
use Rattle.fl_parts.specs.IndexMount.{FewRepairs, RemembersKept}
use Rattle.fl_parts.specs.Reading.{pages_of}
use Rattle.fl_parts.specs.declared.mount_fault.MountFault.{MountFault}
use Rattle.fl_parts.specs.declared.mount_fault.MountFault.TheVariants as mount
use Rattle.fl_table.specs.Memory.{ring_shape, IsSamePlan, LiesOn}
use Rattle.fl_table.specs.Mounting.{FindsData, HasLearned, RefusesData, RowsStandOutside, comes_in}
use Rattle.fl_table.specs.declared.counts.Mounted.{Mounted}
use Rattle.fl_table.specs.declared.mount.FoundRows.{FoundRows}
use Rattle.fl_table.specs.declared.table.Table.{Table}

-- However the mount of the data ring and the read of its pages end: the table isn't mounted, nothing waits in its page buffer, and it
-- lies on the flash that is left. The ring was repaired at most, and few pages were read.
pub record LeavesRows {KNOTS SLOTS : ℕ} (t : Table KNOTS SLOTS) (old : FlashState) (now : Table KNOTS SLOTS) (new : FlashState) : Type 0 where
  pub goes : Goes old new
  pub same : IsSamePlan t now
  pub still : AreStillFound t.bitmaps now.bitmaps
  pub blobs : now.blobs ≡ t.blobs
  pub lies : LiesOn now new
  pub running : AreRunning now.bitmaps
  pub none : (now.writer.count ≡ 0) × (now.bitmap ≡ 0) × (now.blob_end ≡ 0)
  pub down : now.ring ≡ None
  pub calm : now.stopped ≡ false
  pub outside : IsTrue old.media.tells → rings.OutsideStands (ring_shape t) (page_at old) (page_at new)
  pub reads : IsTrue old.media.tells → FewReads (4 * room (ring_shape t) + index_pages_of t.bitmaps) old new
  pub repairs : FewRepairs 1 old new

-- After an Ok: the ring, behind whose pages the entries of an index end, and what the pages hold.
pub record RowsFound {KNOTS SLOTS : ℕ} (t : Table KNOTS SLOTS) (old : FlashState) (end : ℕ) (rows : FoundRows) (now : Table KNOTS SLOTS)
    (new : FlashState) : Type 0 where
  pub shape : shape_of rows.ring ≡ ring_shape t
  pub follow : EndAt now.bitmaps (next_of rows.ring)
  pub lies : place.LiesOn rows.ring new
  pub power : old.is_on ≡ true → new.is_on ≡ true
  pub found : IsTrue old.media.tells → FindsData t t.bitmaps old end rows.ring rows.mounted now.last_key rows.blob_end new
  pub learned : IsTrue old.media.tells → HasLearned (error_in t.index) (comes_in t t.bitmaps rows.ring new) now
  pub waits : IsTrue old.media.tells →
      WaitUnlisted (comes_in t t.bitmaps rows.ring new) (pages_of rows.ring new) t.bitmaps end (next_of rows.ring) now.bitmaps
  pub remembers : IsTrue old.media.tells → RemembersKept t.bitmaps new now.bitmaps

-- .. and after an error why
pub record RowsRefused {KNOTS SLOTS : ℕ} (t : Table KNOTS SLOTS) (old : FlashState) (end : ℕ) (fault : MountFault) (new : FlashState) : Type 0 where
  pub refused : IsTrue old.media.tells → RefusesData t t.bitmaps old end fault new
  pub cause : MountCausedBy old fault new

-- What the mount of the data ring and of the variable data does to the flash.
pub record RowsFlash {KNOTS SLOTS : ℕ} (t : Table KNOTS SLOTS) (old : FlashState) (result : Result Mounted MountFault) (new : FlashState) : Type 0 where
  pub goes : Goes old new
  pub power : OnOk result (old.is_on ≡ true → new.is_on ≡ true)
  pub outside : IsTrue old.media.tells → RowsStandOutside t (page_at old) (page_at new)
  pub reads : IsTrue old.media.tells →
      FewReads (4 * (room (ring_shape t) + variable.room_of t.blobs) + index_pages_of t.bitmaps) old new
  pub repairs : FewRepairs (1 + variable.rings_of t.blobs) old new
  pub cause : IfErr result (λ e. MountCausedBy old e new)
  pub off : old.is_on ≡ false → (result ≡ Err (mount.Flash PowerLost)) × (new ≡ old)
