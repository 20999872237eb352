-- What an export does over any bytes and on any medium.
use Rattle.std.specs.Prelude.{◌≡◌, ◌⊎◌, ℕ, true, Result, Ok, Err, List}
use Rattle.fl_flash.specs.Flash.{FlashState}
use Rattle.fl_image.specs.declared.status.ToolStatus.{ToolStatus}
use Rattle.fl_image.specs.declared.status.ToolStatus.TheVariants.{BadImage}
use Rattle.fl_frame.specs.Contents.{OnlyReads}
use Rattle.fl_store.specs.InMemory.{has_blobs_at}
use Rattle.fl_store.specs.Jobs.{HasBadPage, MountsThen}
use Rattle.fl_store.specs.Status.{mount_status}
use Rattle.fl_store.specs.declared.tables.BadMount.{BadMount}
use Rattle.fl_store.specs.declared.tables.Entry.{Entry}

-- Where a table is refused, its status is told, the output stays as it was, and nothing more is done. Else pages are read and none is
-- changed, and a bad image is told only of the table at this place, of which a page is bad: of its rows or of its index, or, if it keeps
-- blobs, of these.
abbrev pub ReadsTable : {K : Type 0} → ToolStatus → K → K → ℕ → FlashState → Result (Unit {0}) BadMount → List Entry → FlashState → Type 0
ReadsTable status out out_now at g (Err bad) now between = (status ≡ mount_status bad.fault bad.at) × (g ≡ between) × (out_now ≡ out)
ReadsTable status out out_now at g (Ok done) now between =
    OnlyReads between g × ((table : ℕ) → status ≡ BadImage table → (table ≡ at) × (HasBadPage now at between ⊎ (has_blobs_at now at ≡ true)))

-- the tables were mounted, and the one at this place was read
abbrev pub ExportsOver : {K : Type 0} → ToolStatus → K → K → ℕ → List Entry → FlashState → FlashState → Type 0
ExportsOver status out out_now at entries f g = MountsThen entries f g (ReadsTable status out out_now at g)
