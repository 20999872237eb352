-- The statuses of an export, and their causes.
use Rattle.std.proofs.Common.{◌≡◌, ℕ, ◌<◌, ◌⊎◌, inl, inr, true, IsTrue, List, length, refl, subst}
use Rattle.fl_base.specs.Causes.{Rose}
use Rattle.fl_flash.specs.Flash.{FlashState}
use Rattle.fl_flash.specs.Media.{MediaState}
use Rattle.fl_flash.specs.declared.flash.FlashFault.TheVariants.{PowerLost, Media}
use Rattle.fl_image.specs.declared.status.ToolStatus.{ToolStatus}
use Rattle.fl_image.specs.declared.status.ToolStatus.TheVariants.{Done, OutWrite, NoMemory, NotImage, Device, BadImage, NoTable, Unsound}
use Rattle.fl_page.specs.declared.fault.BadPage as page
use Rattle.fl_page.specs.declared.fault.ReadFault.TheVariants.{Flash, BadPage}
use Rattle.fl_parts.specs.declared.mount_fault.MountFault.{MountFault}
use Rattle.fl_store.specs.FoundTable.{FindsNone}
use Rattle.fl_store.specs.Named.{IsImageWith}
use Rattle.fl_store.specs.Status.{mount_status}
use Rattle.fl_store.proofs.FoundTables.{by-none}
use Rattle.fl_store.proofs.MountStatuses.{by-mount}
use Rattle.fl_export.specs.Ends.{StatusFits}
use Rattle.fl_export.specs.Tables.{status_of, IsOfTable}
use Rattle.fl_export.specs.Writing.{IfBadPage, IfSink, IfUnread}
use Rattle.fl_export.specs.declared.fault.ExportFault.{ExportFault}
use Rattle.fl_export.specs.declared.fault.ExportFault.TheVariants as fault

-- ---- of a table whose lines aren't written to the end

pub fault-rose : (old new : FlashState) (e : ExportFault) (at : ℕ) → old.is_on ≡ true → status_of e at ≡ Device → IfUnread old new e → Rose old.media.faults new.media.faults
fault-rose old new (fault.Read (Flash Media)) at on is cause = cause.0
fault-rose old new (fault.Read (Flash PowerLost)) at on is cause = absurd (cc (on, cause))
fault-rose old new e at on is cause = absurd (cc is)

pub fault-place : (e : ExportFault) (at table : ℕ) → status_of e at ≡ BadImage table → at ≡ table
fault-place (fault.Read (BadPage bad)) at table is = cc is
fault-place e at table is = absurd (cc is)

-- .. of which a page is bad
pub fault-bad : (P : page.BadPage → Type 0) (e : ExportFault) (at table : ℕ) → status_of e at ≡ BadImage table → IfBadPage P e → (bad : page.BadPage) × P bad
fault-bad P (fault.Read (BadPage bad)) at table is h = (bad, h)
fault-bad P e at table is h = absurd (cc is)

pub fault-sink : (P : Type 0) (e : ExportFault) (at : ℕ) → status_of e at ≡ OutWrite → IfSink P e → P
fault-sink P (fault.Sink failed) at is h = h
fault-sink P fault.NoMemory at is h = absurd (cc is)
fault-sink P (fault.Read (Flash e)) at is h = absurd (cc is)
fault-sink P (fault.Read (BadPage bad)) at is h = absurd (cc is)

pub fault-of-table : (e : ExportFault) (at : ℕ) → IsOfTable (status_of e at)
fault-of-table fault.NoMemory at = tt
fault-of-table (fault.Sink failed) at = tt
fault-of-table (fault.Read (Flash e)) at = tt
fault-of-table (fault.Read (BadPage bad)) at = tt

-- ---- which a status is not

pub mount-quiet : (e : MountFault) (at : ℕ) → mount_status e at ≡ OutWrite → ⊥
mount-quiet e at = by-mount (λ (status : ToolStatus). status ≡ OutWrite → ⊥) e at (λ is. cc is) (λ is. cc is)

pub done-good : (table : ℕ) → Done ≡ BadImage table → ⊥
done-good table is = cc

pub done-no-device : Done ≡ Device → ⊥
done-no-device is = cc

pub done-quiet : Done ≡ OutWrite → ⊥
done-quiet is = cc

pub memory-no-device : NoMemory ≡ Device → ⊥
memory-no-device is = cc

pub memory-known : NoMemory ≡ Unsound → ⊥
memory-known is = cc

pub memory-quiet : NoMemory ≡ OutWrite → ⊥
memory-quiet is = cc

-- ---- over any bytes

pub fits-table : (bytes name : List ℕ) (status : ToolStatus) → IsOfTable status → (found : IsImageWith bytes name true) → ((table : ℕ) → status ≡ BadImage table → table < length found.lines.plans) → StatusFits bytes name status
fits-table bytes name Done h is few = is
fits-table bytes name OutWrite h is few = is
fits-table bytes name (BadImage table) h is few = (is, few table refl)
fits-table bytes name NoMemory h is few = tt
fits-table bytes name Device h is few = tt
fits-table bytes name status h is few = absurd h

pub fits-early : (old new : MediaState) (name : List ℕ) (status : ToolStatus) → IsTrue old.tells → FindsNone old new name status → StatusFits old.content name status
fits-early old new name status tells none = by-none old new name (StatusFits old.content name) status none (λ h. h tells) (λ h. h tells) (λ rose. tt) tt

-- a status of the table isn't one of those before it
pub not-early : {P : Type 0} (status : ToolStatus) → IsOfTable status → (status ≡ NotImage) ⊎ (status ≡ NoTable) → P
not-early status h (inl is) = absurd (subst IsOfTable is h)
not-early status h (inr is) = absurd (subst IsOfTable is h)
