-- What the mount of a table with a log finds of the log, over any bytes.
use Rattle.std.specs.Prelude.{◌≡◌, ◌⊎◌, ℕ, ◌≤◌, IsTrue, IfSome, Option, Some, None, List}
use Rattle.fl_flash.specs.Flash.{FlashState}
use Rattle.fl_flash.specs.declared.flash.FlashFault.{FlashFault}
use Rattle.fl_index.specs.Memory.{ring_shape as index_shape}
use Rattle.fl_model.specs.Record.{RowLayout}
use Rattle.fl_page.specs.Page.{rows_in}
use Rattle.fl_frame.specs.Causes.{CausedBy, ReadFails}
use Rattle.fl_ring.specs.Finding.{FoundFault}
use Rattle.fl_frame.specs.Reads.{OnlyReads}
use Rattle.fl_ring.specs.Mounting.{FailsAs}
use Rattle.fl_ring.specs.Written.{Writes}
use Rattle.fl_ring.specs.declared.fault.RingFault.{RingFault}
use Rattle.fl_ring.specs.declared.newest.NewestPage.{NewestPage}
use Rattle.fl_table.specs.BlobAt.{data_in}
use Rattle.fl_parts.specs.Bitmaps.{IsOutside}
use Rattle.fl_parts.specs.Faults.{of_ring, IfFlash, IfPage, is_of_pages}
use Rattle.fl_table.specs.Memory.{pending_in, ring_shape, MaySeal}
use Rattle.fl_table.specs.Mounting.{rings_in}
use Rattle.fl_table.specs.Look.{index_in}
use Rattle.fl_parts.specs.declared.mount_fault.MountFault.{MountFault}
use Rattle.fl_parts.specs.declared.mount_fault.MountFault.TheVariants as mount
use Rattle.fl_table.specs.declared.table.Table.{Table}
use Rattle.fl_var.specs.Memory.{var_shape}
use Rattle.fl_rlc.specs.Memory.{log_shape, page_in}
use Rattle.fl_rlc.specs.Offering.{AreOffered, AreSealed}
use Rattle.fl_rlc.specs.Repairing.{Finds}
use Rattle.fl_rlc.specs.Replaying.{MayStand, IsBad}
use Rattle.fl_rlc.specs.declared.log.RecordLog.{RecordLog}

-- The ring was found and repaired, and this is the newest page of those that it keeps.
pub record HasFound (old : RecordLog) (old_f : FlashState) (newest : Option NewestPage) (repaired : FlashState) : Type 0 where
  pub log : RecordLog
  pub finds : Finds old old_f newest log repaired

-- The newest page of those that it keeps was read, it may stand there, and its records were offered to the table.
pub record OffersNewest {KNOTS SLOTS : ℕ} (layout : RowLayout) (number : ℕ) (page : List ℕ) (repaired : FlashState) (seen : Table KNOTS SLOTS) (read : FlashState) (joined : Table KNOTS SLOTS) : Type 0 where
  pub stands : MayStand layout number page
  pub reads : OnlyReads repaired 1 read
  pub offers : AreOffered seen (rows_in layout page) joined

-- what the newest page gives the table, where the log keeps one
abbrev pub ReplaysNewest : {KNOTS SLOTS : ℕ} → RowLayout → RecordLog → FlashState → Option NewestPage → Table KNOTS SLOTS → Table KNOTS SLOTS → FlashState → Type 0
ReplaysNewest layout old repaired None seen now new = (now ≡ seen) × (new ≡ repaired)
ReplaysNewest {KNOTS} {SLOTS} layout old repaired (Some page) seen now new =
    (read : FlashState) × (joined : Table KNOTS SLOTS) × (OffersNewest layout page.number (page_in old repaired page.number) repaired seen read joined × AreSealed joined read now new)

-- The log was found and repaired, and what it keeps was replayed into the table.
pub record FindsLog {KNOTS SLOTS : ℕ} (layout : RowLayout) (old : RecordLog) (old_f : FlashState) (seen : Table KNOTS SLOTS) (log : RecordLog) (now : Table KNOTS SLOTS) (new : FlashState) : Type 0 where
  pub newest : Option NewestPage
  pub repaired : FlashState
  pub finds : Finds old old_f newest log repaired
  pub replays : ReplaysNewest layout old repaired newest seen now new

-- The ring is refused, and is left as it is but for its repairs ..
pub record HasBadRing (old : RecordLog) (old_f : FlashState) (fault : MountFault) (new : FlashState) : Type 0 where
  pub why : RingFault
  pub fault_is : fault ≡ of_ring why
  pub found : FoundFault old_f (log_shape old) 0 why
  pub fails : FailsAs old_f (log_shape old) 0 why new

-- .. or it was found and repaired, and its newest page may not stand there, or the read of it failed ..
pub record HasBadPage (layout : RowLayout) (old : RecordLog) (old_f : FlashState) (fault : MountFault) (new : FlashState) : Type 0 where
  pub newest : NewestPage
  pub repaired : FlashState
  pub found : HasFound old old_f (Some newest) repaired
  pub reads : OnlyReads repaired 1 new
  pub only : IsTrue (is_of_pages fault)
  pub bad : IfPage (λ e. IsBad layout newest.number (page_in old repaired newest.number) e) fault
  pub fails : IfFlash (λ e. ReadFails repaired e new) fault

-- .. or its records were offered to the table, and an operation of the seal of those that joined failed.
pub record SealFailed {KNOTS SLOTS : ℕ} (layout : RowLayout) (old : RecordLog) (old_f : FlashState) (seen : Table KNOTS SLOTS) (fault : MountFault) (new : FlashState) : Type 0 where
  pub newest : NewestPage
  pub repaired : FlashState
  pub found : HasFound old old_f (Some newest) repaired
  pub read : FlashState
  pub joined : Table KNOTS SLOTS
  pub offers : OffersNewest layout newest.number (page_in old repaired newest.number) repaired seen read joined
  pub some : 1 ≤ pending_in joined
  pub why : FlashFault
  pub fault_is : fault ≡ mount.Flash why
  pub cause : CausedBy read why new
  pub writes : Writes (MaySeal joined) 0 (rings_in joined) read new

abbrev pub RefusesLog : {KNOTS SLOTS : ℕ} → RowLayout → RecordLog → FlashState → Table KNOTS SLOTS → MountFault → FlashState → Type 0
RefusesLog layout old old_f seen fault new = HasBadRing old old_f fault new ⊎ (HasBadPage layout old old_f fault new ⊎ SealFailed layout old old_f seen fault new)

-- each flash page outside a table's rings and its log stands
abbrev pub StandBeside : {KNOTS SLOTS : ℕ} → Table KNOTS SLOTS → RecordLog → (ℕ → List ℕ) → (ℕ → List ℕ) → Type 0
StandBeside t l old new =
    (page : ℕ) → IsOutside (ring_shape t) page → IfSome (index_in t) (λ index. IsOutside (index_shape index) page) → IfSome (data_in t) (λ var. IsOutside (var_shape var) page) →
    IsOutside (log_shape l) page → new page ≡ old page
