-- What a read of all kept pages comes to: those of the data ring, and those of an index whose entries are full.
use Rattle.std.specs.Prelude.{◌≡◌, ℕ, ◌+◌, ◌-◌, true, Option, Some, None, IsTrue}
use Rattle.fl_flash.specs.Flash.{FlashState}
use Rattle.fl_frame.specs.Causes.{ReadFails}
use Rattle.fl_frame.specs.Reads.{OnlyReads}
use Rattle.fl_index.specs.declared.index.BitmapIndex.{BitmapIndex}
use Rattle.fl_model.specs.Record.{Plan}
use Rattle.fl_model.specs.Table.{Table}
use Rattle.fl_ring.specs.Place.{next_of, oldest_of}
use Rattle.fl_ring.specs.declared.ring.Ring.{Ring}
use Rattle.fl_parts.specs.Bitmaps.{AreRunning, AreSamePlan, AreStillFound, EndAt, LieOn, StandForRing}
use Rattle.fl_parts.specs.ByEntries.{Come, mount_fault}
use Rattle.fl_parts.specs.Coming.{FirstsKnown, StandFound, WaitUnlisted, index_pages_of}
use Rattle.fl_parts.specs.Faults.{IfFlash, IfPage, is_of_pages}
use Rattle.fl_parts.specs.Reading.{pages_of}
use Rattle.fl_parts.specs.declared.known.Known.{Known}
use Rattle.fl_parts.specs.declared.mount_fault.MountFault.{MountFault}

-- However the read ends, pages were only read, and the index is the one that was found, which lies on the flash.
pub record LeavesKept (bitmaps : Option BitmapIndex) (ring : Ring) (old : FlashState) (now : Option BitmapIndex) (new : FlashState) : Type 0 where
  pub same : AreSamePlan bitmaps now
  pub still : AreStillFound bitmaps now
  pub running : AreRunning now
  pub lies : LieOn now new
  pub reads : OnlyReads old (index_pages_of bitmaps + (next_of ring - oldest_of ring)) new

-- All data pages are counted. Of those that no index page lists the entries of the last ones wait, up to the next number. If entries
-- are full, the first data page of each index page that isn't bad is remembered: so an index that stood for that of a table does so
-- now, with its first pages.
pub record FindsKept (t : Come) (bitmaps : Option BitmapIndex) (ring : Ring) (old : FlashState) (end : ℕ) (known : Known)
    (now : Option BitmapIndex) (new : FlashState) : Type 0 where
  pub counted : known.newest ≡ None
  pub follow : EndAt now (next_of ring)
  pub waits : IsTrue old.media.tells → WaitUnlisted t (pages_of ring old) bitmaps end (next_of ring) now
  pub remembers : IsTrue old.media.tells → FirstsKnown bitmaps old now
  pub stands : (first : ℕ) → (plan : Plan) → (table : Table) → IsTrue old.media.tells → StandFound bitmaps old first plan table →
      StandForRing now new first plan table

-- A read failed, or a page is refused, and it is the first.
pub record RefusesKept (t : Come) (old : FlashState) (fault : MountFault) (new : FlashState) : Type 0 where
  pub only : is_of_pages fault ≡ true
  pub fails : IfFlash (λ e. ReadFails old e new) fault
  pub refused : IsTrue old.media.tells → IfPage (λ e. mount_fault t ≡ Some e) fault
