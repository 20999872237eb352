-- How a ship ends over two flashes on which the tables of two images lie.
use Rattle.std.specs.Prelude.{◌≡◌, ℕ, false, Option, Some, Result, Ok, Err, List, slice_get}
use Rattle.fl_base.specs.Causes.{Rose, Appends, AppendsFront}
use Rattle.fl_flash.specs.Flash.{FlashState}
use Rattle.fl_flash.specs.Media.{MediaState}
use Rattle.fl_model.specs.Record.{Plan}
use Rattle.fl_model.specs.Table as model
use Rattle.fl_model.specs.Table.{lose}
use Rattle.fl_page.specs.declared.fault.ReadFault.TheVariants as read
use Rattle.fl_rlc.specs.Logged.{Rests}
use Rattle.fl_rlc.specs.Table.{table_in}
use Rattle.fl_store.specs.Tables.{TablesStand}
use Rattle.fl_store.specs.declared.tables.Entry.{Entry}
use Rattle.fl_table.specs.Look.{layout_in}
use Rattle.fl_table.specs.declared.faults.FlushFault.TheVariants as flush
use Rattle.fl_parts.specs.declared.mount_fault.MountFault.{MountFault}
use Rattle.fl_parts.specs.declared.mount_fault.MountFault.TheVariants as mount
use Rattle.fl_table.specs.declared.faults.PutRefusal.TheVariants as put
use Rattle.fl_ship.specs.Ends.{Told, Holding, IsGapBetween, IsUnread, ShipsSo}
use Rattle.fl_ship.specs.Rows.{ShipCausedBy}
use Rattle.fl_ship.specs.Text.{shipped_text}
use Rattle.fl_ship.specs.declared.fault.ShipFault.TheVariants.{Read, Put, Flush}
use Rattle.fl_ship.specs.declared.side.Side.{Side}
use Rattle.fl_ship.specs.declared.side.Side.TheVariants.{Source, Copy}
use Rattle.fl_ship.specs.declared.status.ShipStatus.{ShipStatus}
use Rattle.fl_ship.specs.declared.status.ShipStatus.TheVariants.{Done, OutWrite, NoMemory, NotImage, Device, BadImage, NoTable, Gap, OtherForm, Spent}
use Rattle.fl_ship.specs.declared.stop.Stop.{Stop}
use Rattle.fl_ship.specs.declared.stop.Stop.TheVariants as stop

-- the status of a ship whose tables aren't mounted, since this one isn't
abbrev pub mount_status : Side → MountFault → ℕ → ShipStatus
mount_status side (mount.Flash fault) at = Device side
mount_status side bad at = BadImage side at

-- the status of a ship of the table at a place that stops so
abbrev pub stop_status : Stop → ℕ → ShipStatus
stop_status (stop.Gap last oldest) at = Gap last oldest
stop_status (stop.Ship (Read (read.Flash fault))) at = Device Source
stop_status (stop.Ship (Read (read.BadPage bad))) at = BadImage Source at
stop_status (stop.Ship (Put (put.Flash fault))) at = Device Copy
stop_status (stop.Ship (Put refusal)) at = Spent
stop_status (stop.Ship (Flush (flush.Flash fault))) at = Device Copy
stop_status (stop.Ship (Flush flush.Stopped)) at = NoMemory

-- a status that comes once both images have the table
abbrev pub IsOfTables : ShipStatus → Type 0
IsOfTables (Done shipped) = Unit {0}
IsOfTables OutWrite = Unit {0}
IsOfTables NoMemory = Unit {0}
IsOfTables (Device side) = Unit {0}
IsOfTables (BadImage side table) = Unit {0}
IsOfTables (Gap last oldest) = Unit {0}
IsOfTables Spent = Unit {0}
IsOfTables (NotImage side) = ⊥
IsOfTables NoTable = ⊥
IsOfTables OtherForm = ⊥

-- why the ship of a table isn't done, over any bytes
abbrev pub StopCausedBy : FlashState → FlashState → FlashState → FlashState → Stop → Type 0
StopCausedBy from from_now onto onto_now (stop.Gap last oldest) = Unit {0}
StopCausedBy from from_now onto onto_now (stop.Ship fault) = ShipCausedBy from from_now onto onto_now fault

-- the medium of this side failed
abbrev pub RoseOn : Side → FlashState → FlashState → FlashState → FlashState → Type 0
RoseOn Source from from_now onto onto_now = Rose from.media.faults from_now.media.faults
RoseOn Copy from from_now onto onto_now = Rose onto.media.faults onto_now.media.faults

-- how many records were shipped is told, or the sink failed
abbrev pub TellsShipped : ℕ → Option (List ℕ) → Option (List ℕ) → ℕ → ℕ → ShipStatus → Type 0
TellsShipped shipped told told_now faults faults_now (Done count) = (count ≡ shipped) × Appends told told_now (shipped_text shipped)
TellsShipped shipped told told_now faults faults_now OutWrite = AppendsFront told told_now (shipped_text shipped) × Rose faults faults_now
TellsShipped shipped told told_now faults faults_now status = ⊥

-- the tables at a place have rows of one form, without blobs
abbrev pub HaveOneForm : List Entry → List Entry → ℕ → Type 0
HaveOneForm sources copies at =
    (source copy : Entry) → slice_get sources at ≡ Some source → slice_get copies at ≡ Some copy →
    (layout_in (table_in source.table) ≡ layout_in (table_in copy.table)) × ((layout_in (table_in copy.table)).blobs ≡ false)

-- how the ship of a table ends, where both are mounted
abbrev pub StopsSo : ℕ → Plan → model.Table → model.Table → model.Table → Result ℕ Stop → Type 0
StopsSo count plan source copy after (Ok shipped) = ShipsSo count (Ok shipped) plan source copy after
StopsSo count plan source copy after (Err (stop.Gap last oldest)) = IsGapBetween last oldest plan source copy after
StopsSo count plan source copy after (Err (stop.Ship (Read (read.Flash fault)))) = IsUnread count plan source copy after
StopsSo count plan source copy after (Err (stop.Ship (Read (read.BadPage bad)))) = ⊥
StopsSo count plan source copy after (Err (stop.Ship (Put refusal))) = ShipsSo count (Err (Put refusal)) plan source copy after
StopsSo count plan source copy after (Err (stop.Ship (Flush fault))) = ShipsSo count (Err (Flush fault)) plan source copy after

-- .. and the copy's flash stands for what is left of its table, without what is in memory alone
pub record ShipLeaves (first : ℕ) (plan : Plan) (source copy : model.Table) (count : ℕ) (g : FlashState) (result : Result ℕ Stop) : Type 0 where
  pub after : model.Table
  pub stops : StopsSo count plan source copy after result
  pub rests : Rests g first plan (lose after)

-- both flashes stand for their tables afterwards
abbrev pub standing_on : List Plan → FlashState → List Entry → FlashState → List Entry → Holding
standing_on plans from sources onto copies =
    record { Source = TablesStand from (λ i. false) plans sources; Copy = TablesStand onto (λ i. false) plans copies }

abbrev pub told_of : MediaState → MediaState → MediaState → MediaState → Option (List ℕ) → Option (List ℕ) → Told
told_of source source_now copy copy_now told told_now =
    record { source = source.faults; source_now = source_now.faults; copy = copy.faults; copy_now = copy_now.faults; copy_reads = copy.reads; copy_reads_now = copy_now.reads; written = told; written_now = told_now }
