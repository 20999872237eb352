-- How the steps of an import of a table end.
use Rattle.std.specs.Prelude.{◌≡◌, ℕ, Bool, true, false, Option, None, Some, Result, Ok, Err, List, [], length}
use Rattle.fl_base.specs.Causes.{Rose, Appends, AppendsFront}
use Rattle.fl_base.specs.declared.stream.SinkFailed.{SinkFailed}
use Rattle.fl_csv.specs.declared.record.GoneBlobs.{GoneBlobs}
use Rattle.fl_csv.specs.declared.record.LineForm.{LineForm}
use Rattle.fl_csv.specs.declared.record.CsvRefusal.{CsvRefusal}
use Rattle.fl_csv.specs.declared.record.CsvRefusal.TheVariants as unread
use Rattle.fl_flash.specs.Flash.{FlashState}
use Rattle.fl_flash.specs.declared.flash.FlashFault.{FlashFault}
use Rattle.fl_import.specs.declared.job_end.LinesTaken.{LinesTaken}
use Rattle.fl_image.specs.declared.status.ToolStatus.{ToolStatus}
use Rattle.fl_image.specs.declared.status.ToolStatus.TheVariants.{Done, InputRead, OutWrite, InputLong, NoMemory, Device, BadInput}
use Rattle.fl_model.specs.Record.{Record, Plan, has_var}
use Rattle.fl_model.specs.Table as model
use Rattle.fl_model.specs.Table.{refusal_of, lose}
use Rattle.fl_rlc.specs.Logged.{Rests, Stands}
use Rattle.fl_rlc.specs.declared.table.LoggedTable.{LoggedTable}
use Rattle.fl_table.specs.declared.faults.FlushFault.{FlushFault}
use Rattle.fl_table.specs.declared.faults.FlushFault.TheVariants as flush
use Rattle.fl_table.specs.declared.faults.PutRefusal.{PutRefusal}
use Rattle.fl_table.specs.declared.faults.PutRefusal.TheVariants as refusal
use Rattle.fl_import.specs.Ends.{Told, Puts, PutFails, Leaves, table_after}
use Rattle.fl_import.specs.Counting.{count_text, end_of}
use Rattle.fl_store.specs.Works.{FailsInPut, Works}
use Rattle.fl_import.specs.Puts.{after_put}
use Rattle.fl_import.specs.Report.{told_line}
use Rattle.fl_import.specs.declared.line_end.LineEnd.{LineEnd}
use Rattle.fl_import.specs.declared.line_end.LineEnd.TheVariants.{Refused}

-- the lines of a plan's records
pub record IsFormOf (form : LineForm) (plan : Plan) : Type 0 where
  pub columns : form.columns ≡ length plan.columns
  pub blobs : form.blobs ≡ has_var plan

-- ---- one line

-- it wasn't read for want of memory
abbrev pub is_unread : CsvRefusal → Bool
is_unread unread.NoMemory = true
is_unread refusal = false

-- a line that is refused, once that is told
abbrev pub by_told : Result (Unit {0}) SinkFailed → Result LineEnd ToolStatus
by_told (Ok done) = Ok Refused
by_told (Err failed) = Err OutWrite

-- the fault of the flash in a put
abbrev pub fault_in : Result (Unit {0}) PutRefusal → Option FlashFault
fault_in (Err (refusal.Flash fault)) = Some fault
fault_in outcome = None

-- why it isn't passed
abbrev pub IsOfLine : ToolStatus → Type 0
IsOfLine OutWrite = Unit {0}
IsOfLine NoMemory = Unit {0}
IsOfLine Device = Unit {0}
IsOfLine status = ⊥

abbrev pub LineEnds : Bool → ℕ → Plan → model.Table → ℕ → Result Record CsvRefusal → LoggedTable 64 64 → FlashState → Option (List ℕ) → Option (List ℕ) → Result LineEnd ToolStatus → Type 0
LineEnds lacking first plan table number put t g told told_now (Ok end) =
    (end ≡ end_of plan table put lacking) × Works t g first plan (after_put plan table put) × Appends told told_now (told_line plan number table put)
LineEnds lacking first plan table number put t g told told_now (Err OutWrite) = Works t g first plan table × AppendsFront told told_now (told_line plan number table put)
LineEnds lacking first plan table number put t g told told_now (Err NoMemory) = Works t g first plan table × Appends told told_now []
LineEnds lacking first plan table number put t g told told_now (Err Device) =
    Appends told told_now []
    × ((item : Record) × (put ≡ Ok item) × (refusal_of plan table item ≡ None) × ((after : model.Table) × FailsInPut plan item table after × Rests g first plan (lose after)))
LineEnds lacking first plan table number put t g told told_now (Err status) = ⊥

-- ---- all lines

-- why they aren't taken to their end
abbrev pub IsOfLines : ToolStatus → Type 0
IsOfLines InputRead = Unit {0}
IsOfLines OutWrite = Unit {0}
IsOfLines InputLong = Unit {0}
IsOfLines NoMemory = Unit {0}
IsOfLines Device = Unit {0}
IsOfLines (BadInput number) = Unit {0}
IsOfLines status = ⊥

-- no more are taken, and the table goes on
pub record LinesEnd (gone : GoneBlobs) (counts : LinesTaken) (first : ℕ) (plan : Plan) (table : model.Table) (text : List ℕ) (t : LoggedTable 64 64) (g : FlashState) (told told_now rest : Option (List ℕ)) (status : ToolStatus) : Type 0 where
  pub puts : Puts gone counts plan table text told told_now rest status
  pub works : Works t g first plan (table_after gone plan table puts.taken)

-- an operation failed in a put
pub record LinesFail (gone : GoneBlobs) (counts : LinesTaken) (first : ℕ) (plan : Plan) (table : model.Table) (text : List ℕ) (g : FlashState) (told told_now rest : Option (List ℕ)) : Type 0 where
  pub after : model.Table
  pub fails : PutFails gone counts plan table text told told_now rest after
  pub rests : Rests g first plan (lose after)

abbrev pub AllEnds : GoneBlobs → LinesTaken → ℕ → Plan → model.Table → List ℕ → LoggedTable 64 64 → FlashState → Option (List ℕ) → Option (List ℕ) → Option (List ℕ) → Result (Unit {0}) ToolStatus → Type 0
AllEnds gone counts first plan table text t g told told_now rest (Ok all) = LinesEnd gone counts first plan table text t g told told_now rest Done
AllEnds gone counts first plan table text t g told told_now rest (Err Device) = LinesFail gone counts first plan table text g told told_now rest
AllEnds gone counts first plan table text t g told told_now rest (Err status) = LinesEnd gone counts first plan table text t g told told_now rest status

-- an operation failed in a put
abbrev pub is_broken : Result (Unit {0}) ToolStatus → Bool
is_broken (Err Device) = true
is_broken taken = false

abbrev pub status_of : Result (Unit {0}) ToolStatus → ToolStatus
status_of (Ok all) = Done
status_of (Err status) = status

-- ---- the table

-- it is told how many lines were put
abbrev pub TellsCounts : GoneBlobs → LinesTaken → Option (List ℕ) → Option (List ℕ) → ℕ → ℕ → ToolStatus → Type 0
TellsCounts gone counts told told_now faults faults_now Done = Appends told told_now (count_text gone counts)
TellsCounts gone counts told told_now faults faults_now OutWrite = AppendsFront told told_now (count_text gone counts) × Rose faults faults_now
TellsCounts gone counts told told_now faults faults_now status = ⊥

-- The status of an import whose table isn't flushed. The table isn't stopped, since the lines end at the operation that fails.
abbrev pub flush_status : FlushFault → ToolStatus
flush_status (flush.Flash fault) = Device
flush_status flush.Stopped = NoMemory

-- a status of an import of a table
abbrev pub IsOfTable : ToolStatus → Type 0
IsOfTable Done = Unit {0}
IsOfTable InputRead = Unit {0}
IsOfTable OutWrite = Unit {0}
IsOfTable InputLong = Unit {0}
IsOfTable NoMemory = Unit {0}
IsOfTable Device = Unit {0}
IsOfTable (BadInput number) = Unit {0}
IsOfTable status = ⊥

-- it was imported so, and the flash stands for what is left of it without what is in memory alone; where it is done the table
-- goes on
pub record TableEnds (first : ℕ) (plan : Plan) (table : model.Table) (text : List ℕ) (t : LoggedTable 64 64) (g : FlashState) (told : Told) (status : ToolStatus) : Type 0 where
  pub after : model.Table
  pub leaves : Leaves plan table text told after status
  pub rests : Rests g first plan (lose after)
  pub stands : status ≡ Done → Stands t g first plan after
