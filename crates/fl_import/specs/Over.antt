-- What an import does over any bytes and on any medium.
use Rattle.std.specs.Prelude.{◌≡◌, ℕ, Result, Ok, Err, List}
use Rattle.fl_flash.specs.Flash.{FlashState}
use Rattle.fl_image.specs.declared.status.ToolStatus.TheVariants.{BadImage}
use Rattle.fl_store.specs.Jobs.{ChangesOwn, MountsThen}
use Rattle.fl_store.specs.Status.{mount_status}
use Rattle.fl_store.specs.declared.tables.BadMount.{BadMount}
use Rattle.fl_store.specs.declared.tables.Entry.{Entry}
use Rattle.fl_import.specs.Taken.{end_of}
use Rattle.fl_import.specs.declared.job_end.JobEnd.{JobEnd}

-- Where a table is refused, its status is told, that no line was taken, and neither rows nor a form; input and output stay as they were, and
-- nothing more is done. Else no table is told as bad, and only pages in the rings of the table at this place change.
abbrev pub PutsInto : {S K : Type 0} → JobEnd → S → S → K → K → List Entry → ℕ → FlashState → Result (Unit {0}) BadMount → List Entry → FlashState → Type 0
PutsInto end input input_now out out_now entries at g (Err bad) now between =
    (end ≡ end_of (mount_status bad.fault bad.at)) × (g ≡ between) × (input_now ≡ input) × (out_now ≡ out)
PutsInto end input input_now out out_now entries at g (Ok done) now between = ((table : ℕ) → end.status ≡ BadImage table → ⊥) × ChangesOwn entries at between g

-- no line was taken, neither rows nor a form are handed up, and input and output stay as they were
abbrev pub IsUnbegun : {S K : Type 0} → JobEnd → S → S → K → K → Type 0
IsUnbegun end input input_now out out_now = (end ≡ end_of end.status) × (input_now ≡ input) × (out_now ≡ out)

-- the tables were mounted, and records were put into the one at this place
abbrev pub ImportsOver : {S K : Type 0} → JobEnd → S → S → K → K → ℕ → List Entry → FlashState → FlashState → Type 0
ImportsOver end input input_now out out_now at entries f g = MountsThen entries f g (PutsInto end input input_now out out_now entries at g)
