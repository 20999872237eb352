-- The statuses of a ship of tables.
use Rattle.std.proofs.Common.{◌≡◌, ℕ, ◌≤◌, true, Option, List, refl, sym, ◌∙◌, subst}
use Rattle.fl_store.specs.Status as store
use Rattle.fl_base.specs.Causes.{Appends, Rose}
use Rattle.fl_flash.specs.Flash.{FlashState}
use Rattle.fl_flash.specs.declared.flash.FlashFault.TheVariants.{PowerLost, Media}
use Rattle.fl_image.specs.declared.status.ToolStatus.TheVariants as job
use Rattle.fl_page.specs.declared.fault.BadPage.{BadPage}
use Rattle.fl_page.specs.declared.fault.ReadFault.TheVariants as read
use Rattle.fl_table.specs.declared.faults.FlushFault.TheVariants as flush
use Rattle.fl_parts.specs.declared.mount_fault.MountFault.{MountFault}
use Rattle.fl_parts.specs.declared.mount_fault.MountFault.TheVariants as mount
use Rattle.fl_table.specs.declared.faults.PutRefusal.TheVariants as put
use Rattle.fl_ship.specs.Fits.{is_refused}
use Rattle.fl_frame.proofs.WatchedInTurn.{never-lost}
use Rattle.fl_frame.specs.Causes.{IsUnarmed}
use Rattle.fl_parts.specs.Faults.{MountCausedBy}
use Rattle.fl_ship.specs.Over.{WritesLine}
use Rattle.fl_ship.specs.Ready.{IsEarly}
use Rattle.fl_ship.specs.Tables.{IsOfTables, RoseOn, StopCausedBy, TellsShipped, mount_status, stop_status}
use Rattle.fl_ship.specs.Text.{shipped_text}
use Rattle.fl_ship.specs.declared.fault.ShipFault.TheVariants.{Read, Put, Flush}
use Rattle.fl_ship.specs.declared.side.Side.{Side}
use Rattle.fl_ship.specs.declared.side.Side.TheVariants.{Source, Copy}
use Rattle.fl_ship.specs.declared.status.ShipStatus.{ShipStatus}
use Rattle.fl_ship.specs.declared.status.ShipStatus.TheVariants.{Done, OutWrite, NoMemory, NotImage, Device, BadImage, NoTable, Gap, OtherForm, Spent}
use Rattle.fl_ship.specs.declared.stop.Stop.{Stop}
use Rattle.fl_ship.specs.declared.stop.Stop.TheVariants as stop

-- ---- a status of tables isn't one of a ship that has begun with neither medium

pub not-refused : (status : ShipStatus) → IsOfTables status → is_refused status ≡ true → ⊥
not-refused (Done shipped) of is = cc is
not-refused OutWrite of is = cc is
not-refused NoMemory of is = cc is
not-refused (Device side) of is = cc is
not-refused (BadImage side table) of is = cc is
not-refused (Gap last oldest) of is = cc is
not-refused Spent of is = cc is
not-refused (NotImage side) of is = of
not-refused NoTable of is = of
not-refused OtherForm of is = of

-- ---- a mount that failed

-- its status tells the device where that of another job does
pub mount-device : (side : Side) (e : MountFault) (at : ℕ) → store.mount_status e at ≡ job.Device → mount_status side e at ≡ Device side
mount-device side (mount.Flash e) at is = refl
mount-device side (mount.Ring e) at is = absurd (cc is)
mount-device side (mount.BadPage page) at is = absurd (cc is)
mount-device side (mount.BadKeys page last key) at is = absurd (cc is)
mount-device side (mount.BadIndex end next) at is = absurd (cc is)
mount-device side (mount.BadBlob page next) at is = absurd (cc is)
mount-device side (mount.BadEntry page count limit) at is = absurd (cc is)

-- .. and then no bad table
pub good-device : (side other : Side) (table : ℕ) (status : ShipStatus) → status ≡ Device other → status ≡ BadImage side table → ⊥
good-device side other table status device is = no (sym device ∙ is)
  where
    no : Device other ≡ BadImage side table → ⊥
    no e = cc

-- it comes only where the medium of that side failed, since no power is lost
pub mount-rose : (side other : Side) (old new : FlashState) (e : MountFault) (at : ℕ) → IsUnarmed old → mount_status side e at ≡ Device other → MountCausedBy old e new → (side ≡ other) × Rose old.media.faults new.media.faults
mount-rose side other old new (mount.Flash Media) at unarmed is cause = (cc is, cause)
mount-rose side other old new (mount.Flash PowerLost) at unarmed is cause = absurd (never-lost old new unarmed cause)
mount-rose side other old new (mount.Ring e) at unarmed is cause = absurd (cc is)
mount-rose side other old new (mount.BadPage page) at unarmed is cause = absurd (cc is)
mount-rose side other old new (mount.BadKeys page last key) at unarmed is cause = absurd (cc is)
mount-rose side other old new (mount.BadIndex end next) at unarmed is cause = absurd (cc is)
mount-rose side other old new (mount.BadBlob page next) at unarmed is cause = absurd (cc is)
mount-rose side other old new (mount.BadEntry page count limit) at unarmed is cause = absurd (cc is)

pub sides-apart : Source ≡ Copy → ⊥
sides-apart e = cc

-- its status, by one case for each
mount-cases : (P : ShipStatus → Type 0) (side : Side) (at : ℕ) → P (Device side) → P (BadImage side at) → (e : MountFault) → P (mount_status side e at)
mount-cases P side at device bad (mount.Flash e) = device
mount-cases P side at device bad (mount.Ring e) = bad
mount-cases P side at device bad (mount.BadPage page) = bad
mount-cases P side at device bad (mount.BadKeys page last key) = bad
mount-cases P side at device bad (mount.BadIndex end next) = bad
mount-cases P side at device bad (mount.BadBlob page next) = bad
mount-cases P side at device bad (mount.BadEntry page count limit) = bad

pub mount-place : (side other : Side) (e : MountFault) (at table : ℕ) → mount_status side e at ≡ BadImage other table → at ≡ table
mount-place side other e at table = mount-cases (λ (status : ShipStatus). status ≡ BadImage other table → at ≡ table) side at (λ is. absurd (cc is)) (λ is. cc is) e

-- a table is told bad on that side alone
pub mount-side : (side other : Side) (e : MountFault) (at table : ℕ) → mount_status side e at ≡ BadImage other table → side ≡ other
mount-side side other e at table = mount-cases (λ (status : ShipStatus). status ≡ BadImage other table → side ≡ other) side at (λ is. absurd (cc is)) (λ is. cc is) e

pub mount-of-tables : (side : Side) (e : MountFault) (at : ℕ) → IsOfTables (mount_status side e at)
mount-of-tables side e at = mount-cases IsOfTables side at tt tt e

pub mount-quiet : (side : Side) (e : MountFault) (at : ℕ) → mount_status side e at ≡ OutWrite → ⊥
mount-quiet side e at = mount-cases (λ (status : ShipStatus). status ≡ OutWrite → ⊥) side at (λ is. cc is) (λ is. cc is) e

-- nothing was written then
pub mount-line : {K : Type 0} (count : ℕ) (out : K) (told : Option (List ℕ)) (side : Side) (e : MountFault) (at : ℕ) → WritesLine count out out told told (mount_status side e at)
mount-line count out told side e at = mount-cases (λ (status : ShipStatus). WritesLine count out out told told status) side at refl refl e

-- ---- it was told how many records were shipped

pub told-is : (shipped : ℕ) (told told_now : Option (List ℕ)) (faults faults_now : ℕ) (status other : ShipStatus) → TellsShipped shipped told told_now faults faults_now status → status ≡ other → TellsShipped shipped told told_now faults faults_now other
told-is shipped told told_now faults faults_now status other tells is = subst (TellsShipped shipped told told_now faults faults_now) is tells

pub told-of-tables : (shipped : ℕ) (told told_now : Option (List ℕ)) (faults faults_now : ℕ) (status : ShipStatus) → TellsShipped shipped told told_now faults faults_now status → IsOfTables status
told-of-tables shipped told told_now faults faults_now (Done count) tells = tt
told-of-tables shipped told told_now faults faults_now OutWrite tells = tt
told-of-tables shipped told told_now faults faults_now NoMemory tells = tt
told-of-tables shipped told told_now faults faults_now (Device side) tells = tt
told-of-tables shipped told told_now faults faults_now (BadImage side table) tells = tt
told-of-tables shipped told told_now faults faults_now (Gap last oldest) tells = tt
told-of-tables shipped told told_now faults faults_now Spent tells = tt
told-of-tables shipped told told_now faults faults_now (NotImage side) tells = tells
told-of-tables shipped told told_now faults faults_now NoTable tells = tells
told-of-tables shipped told told_now faults faults_now OtherForm tells = tells

-- .. and that line alone was written
pub told-line : {K : Type 0} (count : ℕ) (out out_now : K) (shipped : ℕ) (told told_now : Option (List ℕ)) (faults faults_now : ℕ) (status : ShipStatus) → shipped ≤ count → TellsShipped shipped told told_now faults faults_now status →
    WritesLine count out out_now told told_now status
told-line count out out_now shipped told told_now faults faults_now (Done n) few tells = subst (λ (m : ℕ). Appends told told_now (shipped_text m)) (sym tells.0) tells.1
told-line count out out_now shipped told told_now faults faults_now OutWrite few tells = (shipped, few, tells.0)
told-line count out out_now shipped told told_now faults faults_now NoMemory few tells = absurd tells
told-line count out out_now shipped told told_now faults faults_now (Device side) few tells = absurd tells
told-line count out out_now shipped told told_now faults faults_now (BadImage side table) few tells = absurd tells
told-line count out out_now shipped told told_now faults faults_now (Gap last oldest) few tells = absurd tells
told-line count out out_now shipped told told_now faults faults_now Spent few tells = absurd tells
told-line count out out_now shipped told told_now faults faults_now (NotImage side) few tells = absurd tells
told-line count out out_now shipped told told_now faults faults_now NoTable few tells = absurd tells
told-line count out out_now shipped told told_now faults faults_now OtherForm few tells = absurd tells

-- a ship that has begun with neither medium has written nothing
pub early-line : {K : Type 0} (count : ℕ) (out : K) (told : Option (List ℕ)) (status : ShipStatus) → IsEarly status → WritesLine count out out told told status
early-line count out told NoMemory early = refl
early-line count out told (NotImage side) early = refl
early-line count out told (Device side) early = refl
early-line count out told NoTable early = refl
early-line count out told OtherForm early = refl
early-line count out told (Done shipped) early = absurd early
early-line count out told OutWrite early = absurd early
early-line count out told (BadImage side table) early = absurd early
early-line count out told (Gap last oldest) early = absurd early
early-line count out told Spent early = absurd early

-- ---- a ship of a table that stopped

-- the status of each way to stop, by one case for each
stop-cases : (P : ShipStatus → Type 0) (at : ℕ) → ((last oldest : ℕ) → P (Gap last oldest)) → P (Device Source) → P (BadImage Source at) → P (Device Copy) → P Spent → P NoMemory → (why : Stop) → P (stop_status why at)
stop-cases P at gap source bad copy spent memory (stop.Gap last oldest) = gap last oldest
stop-cases P at gap source bad copy spent memory (stop.Ship (Read (read.Flash e))) = source
stop-cases P at gap source bad copy spent memory (stop.Ship (Read (read.BadPage page))) = bad
stop-cases P at gap source bad copy spent memory (stop.Ship (Put (put.Flash e))) = copy
stop-cases P at gap source bad copy spent memory (stop.Ship (Put (put.Key last))) = spent
stop-cases P at gap source bad copy spent memory (stop.Ship (Put (put.Columns wanted))) = spent
stop-cases P at gap source bad copy spent memory (stop.Ship (Put (put.Value column))) = spent
stop-cases P at gap source bad copy spent memory (stop.Ship (Put (put.Blob limit))) = spent
stop-cases P at gap source bad copy spent memory (stop.Ship (Put put.Spent)) = spent
stop-cases P at gap source bad copy spent memory (stop.Ship (Put put.Stopped)) = spent
stop-cases P at gap source bad copy spent memory (stop.Ship (Flush (flush.Flash e))) = copy
stop-cases P at gap source bad copy spent memory (stop.Ship (Flush flush.Stopped)) = memory

pub stop-of-tables : (why : Stop) (at : ℕ) → IsOfTables (stop_status why at)
stop-of-tables why at = stop-cases IsOfTables at (λ last oldest. tt) tt tt tt tt tt why

pub stop-quiet : (why : Stop) (at : ℕ) → stop_status why at ≡ OutWrite → ⊥
stop-quiet why at = stop-cases (λ (status : ShipStatus). status ≡ OutWrite → ⊥) at (λ last oldest is. cc is) (λ is. cc is) (λ is. cc is) (λ is. cc is) (λ is. cc is) (λ is. cc is) why

pub stop-line : {K : Type 0} (count : ℕ) (out : K) (told : Option (List ℕ)) (why : Stop) (at : ℕ) → WritesLine count out out told told (stop_status why at)
stop-line count out told why at = stop-cases (λ (status : ShipStatus). WritesLine count out out told told status) at (λ last oldest. refl) refl refl refl refl refl why

-- the source's table at the place is told bad, and no other
pub stop-place : (side : Side) (table : ℕ) (why : Stop) (at : ℕ) → stop_status why at ≡ BadImage side table → (Source ≡ side) × (at ≡ table)
stop-place side table why at =
    stop-cases (λ (status : ShipStatus). status ≡ BadImage side table → (Source ≡ side) × (at ≡ table)) at (λ last oldest is. absurd (cc is)) (λ is. absurd (cc is)) (λ is. (cc is, cc is)) (λ is. absurd (cc is)) (λ is. absurd (cc is)) (λ is. absurd (cc is)) why

-- one of the source's is told bad only where one of its pages is
pub stop-good : (why : Stop) (at table : ℕ) → ((bad : BadPage) → why ≡ stop.Ship (Read (read.BadPage bad)) → ⊥) → stop_status why at ≡ BadImage Source table → ⊥
stop-good (stop.Gap last oldest) at table none is = cc is
stop-good (stop.Ship (Read (read.Flash e))) at table none is = cc is
stop-good (stop.Ship (Read (read.BadPage bad))) at table none is = none bad refl
stop-good (stop.Ship (Put (put.Flash e))) at table none is = cc is
stop-good (stop.Ship (Put (put.Key last))) at table none is = cc is
stop-good (stop.Ship (Put (put.Columns wanted))) at table none is = cc is
stop-good (stop.Ship (Put (put.Value column))) at table none is = cc is
stop-good (stop.Ship (Put (put.Blob limit))) at table none is = cc is
stop-good (stop.Ship (Put put.Spent)) at table none is = cc is
stop-good (stop.Ship (Put put.Stopped)) at table none is = cc is
stop-good (stop.Ship (Flush (flush.Flash e))) at table none is = cc is
stop-good (stop.Ship (Flush flush.Stopped)) at table none is = cc is

-- it tells a medium only where that one failed
pub stop-rose : (side : Side) (from from_now onto onto_now : FlashState) (why : Stop) (at : ℕ) → from.is_on ≡ true → IsUnarmed onto → stop_status why at ≡ Device side → StopCausedBy from from_now onto onto_now why → RoseOn side from from_now onto onto_now
stop-rose side f g o n (stop.Gap last oldest) at on unarmed is cause = absurd (cc is)
stop-rose side f g o n (stop.Ship (Read (read.Flash Media))) at on unarmed is cause = let same : Source ≡ side = cc is in subst (λ (s : Side). RoseOn s f g o n) same cause.0
stop-rose side f g o n (stop.Ship (Read (read.Flash PowerLost))) at on unarmed is cause = absurd (cc (on, cause))
stop-rose side f g o n (stop.Ship (Read (read.BadPage bad))) at on unarmed is cause = absurd (cc is)
stop-rose side f g o n (stop.Ship (Put (put.Flash Media))) at on unarmed is cause = let same : Copy ≡ side = cc is in subst (λ (s : Side). RoseOn s f g o n) same cause
stop-rose side f g o n (stop.Ship (Put (put.Flash PowerLost))) at on unarmed is cause = absurd (never-lost o n unarmed cause)
stop-rose side f g o n (stop.Ship (Put (put.Key last))) at on unarmed is cause = absurd (cc is)
stop-rose side f g o n (stop.Ship (Put (put.Columns wanted))) at on unarmed is cause = absurd (cc is)
stop-rose side f g o n (stop.Ship (Put (put.Value column))) at on unarmed is cause = absurd (cc is)
stop-rose side f g o n (stop.Ship (Put (put.Blob limit))) at on unarmed is cause = absurd (cc is)
stop-rose side f g o n (stop.Ship (Put put.Spent)) at on unarmed is cause = absurd (cc is)
stop-rose side f g o n (stop.Ship (Put put.Stopped)) at on unarmed is cause = absurd (cc is)
stop-rose side f g o n (stop.Ship (Flush (flush.Flash Media))) at on unarmed is cause = let same : Copy ≡ side = cc is in subst (λ (s : Side). RoseOn s f g o n) same cause
stop-rose side f g o n (stop.Ship (Flush (flush.Flash PowerLost))) at on unarmed is cause = absurd (never-lost o n unarmed cause)
stop-rose side f g o n (stop.Ship (Flush flush.Stopped)) at on unarmed is cause = absurd (cc is)
