-- A check of the tables of an image.
use Rattle.std.specs.Prelude.{◌≡◌, ◌⊎◌, ℕ, ◌+◌, ◌^◌, ◌<◌, ◌≤◌, Bool, true, false, Option, Some, None, IfSome, Result, Ok, Err, List, [], ◌∷◌, ◌++◌, length, take, sum_by, slice_get}
use Rattle.std.specs.List.{list_all}
use Rattle.fl_base.specs.Causes.{Rose, Appends, AppendsFront}
use Rattle.fl_base.specs.declared.types.RingPlace.{RingPlace}
use Rattle.fl_flash.specs.Flash.{FlashState, pages}
use Rattle.fl_flash.specs.declared.flash.FlashFault.TheVariants.{PowerLost, Media}
use Rattle.fl_model.specs.Bare.{bare}
use Rattle.fl_model.specs.Record.{Plan, blocks_of}
use Rattle.fl_words.specs.Config.{Lines}
use Rattle.fl_plan.specs.declared.table_config.TableConfig.{TableConfig}
use Rattle.fl_plan.specs.Limits.{IsRingSize, IsWithinLimits}
use Rattle.fl_plan.specs.Plan.{IsConfigOf, IsRingAt, blocks_in}
use Rattle.fl_plan.specs.Refusal.{config_fault}
use Rattle.fl_image.specs.Header.{IsAccepted}
use Rattle.fl_image.specs.Image.{IsImageOf}
use Rattle.fl_image_check.specs.Report.{is_sound, FoundBy, found_text, found_sound, report_lines, report_text}
use Rattle.fl_image_check.specs.declared.extent.Extent.{Extent}
use Rattle.fl_image_check.specs.declared.extent.Extent.TheVariants.{FirstFault, AllTables}
use Rattle.fl_check.specs.declared.faults.TableRules.{TableRules}
use Rattle.fl_check.specs.declared.finding.Finding.{Finding}
use Rattle.fl_check.specs.declared.finding.CheckFault.{CheckFault}
use Rattle.fl_check.specs.declared.finding.CheckFault.TheVariants.{Flash, NoMemory as NoRoom}
use Rattle.fl_image.specs.declared.status.ToolStatus.{ToolStatus}
use Rattle.fl_image.specs.declared.status.ToolStatus.TheVariants.{Done, InputRead, OutWrite, InputLong, NoMemory, NotImage, Device, BadImage, NoTable, BadInput, Unsound}

-- the rings of a table that isn't refused lie on the flash, one behind another
pub record LiesOn (config : TableConfig) (f : FlashState) : Type 0 where
  pub geometry : config.geometry ≡ f.geometry
  pub limits : IsWithinLimits config
  pub passes : config_fault config ≡ None
  pub index : IfSome config.index (λ place. place.first_block ≡ config.rows.first_block + config.rows.blocks)
  pub var : IfSome config.var (λ place. place.first_block ≡ config.rows.first_block + config.rows.blocks + blocks_in config.index)
  pub within : config.rows.first_block + config.rows.blocks + blocks_in config.index + blocks_in config.var ≤ f.blocks
  pub few : pages f < 2 ^ 32

-- .. and its log behind them, if it has one
abbrev pub LogLies : TableConfig → Option RingPlace → FlashState → Type 0
LogLies config log f =
    IfSome log (λ place. IsRingSize place × (place.first_block ≡ config.rows.first_block + config.rows.blocks + blocks_in config.index + blocks_in config.var) × (place.first_block + place.blocks ≤ f.blocks))

-- why nothing is found; where memory is wanting the flash wasn't looked at
abbrev pub FailsBy : FlashState → CheckFault → FlashState → Type 0
FailsBy old (Flash PowerLost) new = old.is_on ≡ false
FailsBy old (Flash Media) new = Rose old.media.faults new.media.faults
FailsBy old NoRoom new = new ≡ old

-- a flash with the device of these lines, on a medium behind its header
pub record IsOver (lines : Lines) (f : FlashState) : Type 0 where
  pub device : lines.device ≡ Some f.geometry
  pub blocks : f.blocks ≡ sum_by blocks_of lines.plans
  pub few : pages f < 2 ^ 32
  pub start : f.start ≡ 1024
  pub on : f.is_on ≡ true

-- `Finds` says what is found rightly of a table over a flash. This was found of the i-th table in these bytes.
pub record IsFound {Found : Type 0} (Finds : TableConfig → Option RingPlace → FlashState → Found → Type 0) (lines : Lines) (bytes : List ℕ) (i : ℕ) (found : Found) : Type 0 where
  pub plan : Plan
  pub plan_is : slice_get lines.plans i ≡ Some plan
  pub config : TableConfig
  pub config_is : IsConfigOf config (bare plan)
  pub first : config.rows.first_block ≡ sum_by blocks_of (take i lines.plans)
  pub log : Option RingPlace
  pub log_is : IsRingAt log (config.rows.first_block + plan.data_blocks + plan.index_blocks + plan.var_blocks) plan.log_blocks
  pub log_alone : IfSome log (λ place. plan.var_blocks ≡ 0)
  pub flash : FlashState
  pub over : IsOver lines flash
  pub lies : LiesOn config flash
  pub log_lies : LogLies config log flash
  pub content : flash.media.content ≡ bytes
  pub finds : Finds config log flash found

-- .. and these of the tables from the i-th on
abbrev pub AreFound : {Found : Type 0} → (TableConfig → Option RingPlace → FlashState → Found → Type 0) → Lines → List ℕ → ℕ → List Found → Type 0
AreFound Finds lines bytes i [] = Unit {0}
AreFound Finds lines bytes i (found ∷ more) = IsFound Finds lines bytes i found × AreFound Finds lines bytes (i + 1) more

-- what is found rightly by the first rule that doesn't hold, or by all rules
abbrev pub FindsBy : (extent : Extent) → (TableConfig → Option RingPlace → FlashState → Finding → Type 0) → (TableConfig → Option RingPlace → FlashState → TableRules → Type 0) → TableConfig → Option RingPlace → FlashState → FoundBy extent → Type 0
FindsBy FirstFault Finds Rules = Finds
FindsBy AllTables Finds Rules = Rules

-- the first n tables have their lines, and all of these are sound, or not
pub record Tells (extent : Extent) (Finds : TableConfig → Option RingPlace → FlashState → FoundBy extent → Type 0) (lines : Lines) (bytes : List ℕ) (told told_now : Option (List ℕ)) (n : ℕ) (all : Bool) : Type 0 where
  pub findings : List (FoundBy extent)
  pub count : length findings ≡ n
  pub are : AreFound Finds lines bytes 0 findings
  pub sound : list_all (found_sound extent) findings ≡ all
  pub text : Appends told told_now (report_lines extent lines.plans findings)

-- .. or those of the next weren't written whole
pub record TellsNext (extent : Extent) (Finds : TableConfig → Option RingPlace → FlashState → FoundBy extent → Type 0) (lines : Lines) (bytes : List ℕ) (told told_now : Option (List ℕ)) (all : Bool) : Type 0 where
  pub findings : List (FoundBy extent)
  pub next : FoundBy extent
  pub are : AreFound Finds lines bytes 0 (findings ++ next ∷ [])
  pub sound : list_all (found_sound extent) findings ≡ all
  pub text : AppendsFront told told_now (report_lines extent lines.plans (findings ++ next ∷ []))

-- the lines of the i-th table were written, or a front of them
pub record TellsOne (extent : Extent) (Finds : TableConfig → Option RingPlace → FlashState → FoundBy extent → Type 0) (lines : Lines) (bytes : List ℕ) (i : ℕ) (sound : Bool) (Writes : List ℕ → Type 0) : Type 0 where
  pub found : FoundBy extent
  pub is : IsFound Finds lines bytes i found
  pub sound_is : found_sound extent found ≡ sound
  pub text : IfSome (slice_get lines.plans i) (λ plan. Writes (found_text extent plan.name found))

-- why nothing is found of a table
abbrev pub check_status : CheckFault → ToolStatus
check_status (Flash fault) = Device
check_status NoRoom = NoMemory

-- .. or its lines weren't written whole
abbrev pub IsCheckStatus : ToolStatus → Type 0
IsCheckStatus status = (status ≡ OutWrite) ⊎ ((status ≡ NoMemory) ⊎ (status ≡ Device))

-- how the check of the i-th table ends
abbrev pub TableEnds : (extent : Extent) → (TableConfig → Option RingPlace → FlashState → FoundBy extent → Type 0) → Lines → List ℕ → ℕ → Option (List ℕ) → Option (List ℕ) → Result Bool ToolStatus → Type 0
TableEnds extent Finds lines bytes i told told_now (Ok sound) = TellsOne extent Finds lines bytes i sound (λ text. Appends told told_now text)
TableEnds extent Finds lines bytes i told told_now (Err OutWrite) = (sound : Bool) × TellsOne extent Finds lines bytes i sound (λ text. AppendsFront told told_now text)
TableEnds extent Finds lines bytes i told told_now (Err status) = told_now ≡ told

-- ---- up to the first table that isn't sound

-- the first n tables are sound, and each has its line
abbrev pub TellsSound : (TableConfig → Option RingPlace → FlashState → Finding → Type 0) → Lines → List ℕ → Option (List ℕ) → Option (List ℕ) → ℕ → Type 0
TellsSound Finds lines bytes told told_now n = Tells FirstFault Finds lines bytes told told_now n true

-- .. and then one isn't, which has its line too
pub record TellsFault (Finds : TableConfig → Option RingPlace → FlashState → Finding → Type 0) (lines : Lines) (bytes : List ℕ) (told told_now : Option (List ℕ)) : Type 0 where
  pub findings : List Finding
  pub fault : Finding
  pub are : AreFound Finds lines bytes 0 (findings ++ fault ∷ [])
  pub sound : list_all is_sound findings ≡ true
  pub unsound : is_sound fault ≡ false
  pub text : Appends told told_now (report_text lines.plans (findings ++ fault ∷ []))

-- .. or the line of the next wasn't written whole
abbrev pub TellsPart : (TableConfig → Option RingPlace → FlashState → Finding → Type 0) → Lines → List ℕ → Option (List ℕ) → Option (List ℕ) → Type 0
TellsPart Finds lines bytes told told_now = TellsNext FirstFault Finds lines bytes told told_now true

-- .. or nothing was found of the next
abbrev pub TellsFew : (TableConfig → Option RingPlace → FlashState → Finding → Type 0) → Lines → List ℕ → Option (List ℕ) → Option (List ℕ) → Type 0
TellsFew Finds lines bytes told told_now = (n : ℕ) × (n < length lines.plans) × TellsSound Finds lines bytes told told_now n

-- how a check of the tables ends
abbrev pub TablesEnd : (TableConfig → Option RingPlace → FlashState → Finding → Type 0) → Lines → List ℕ → Option (List ℕ) → Option (List ℕ) → ToolStatus → Type 0
TablesEnd Finds lines bytes told told_now Done = TellsSound Finds lines bytes told told_now (length lines.plans)
TablesEnd Finds lines bytes told told_now Unsound = TellsFault Finds lines bytes told told_now
TablesEnd Finds lines bytes told told_now OutWrite = TellsPart Finds lines bytes told told_now
TablesEnd Finds lines bytes told told_now NoMemory = TellsFew Finds lines bytes told told_now
TablesEnd Finds lines bytes told told_now Device = TellsFew Finds lines bytes told told_now
TablesEnd Finds lines bytes told told_now NotImage = ⊥
TablesEnd Finds lines bytes told told_now (BadImage table) = ⊥
TablesEnd Finds lines bytes told told_now NoTable = ⊥
TablesEnd Finds lines bytes told told_now InputRead = ⊥
TablesEnd Finds lines bytes told told_now InputLong = ⊥
TablesEnd Finds lines bytes told told_now (BadInput number) = ⊥

-- ---- over all tables

-- some have their lines, and nothing was found of the next
abbrev pub TellsSome : (TableConfig → Option RingPlace → FlashState → TableRules → Type 0) → Lines → List ℕ → Option (List ℕ) → Option (List ℕ) → Type 0
TellsSome Rules lines bytes told told_now = (n : ℕ) × (n < length lines.plans) × ((all : Bool) × Tells AllTables Rules lines bytes told told_now n all)

-- how a check of all tables ends
abbrev pub AllTablesEnd : (TableConfig → Option RingPlace → FlashState → TableRules → Type 0) → Lines → List ℕ → Option (List ℕ) → Option (List ℕ) → ToolStatus → Type 0
AllTablesEnd Rules lines bytes told told_now Done = Tells AllTables Rules lines bytes told told_now (length lines.plans) true
AllTablesEnd Rules lines bytes told told_now Unsound = Tells AllTables Rules lines bytes told told_now (length lines.plans) false
AllTablesEnd Rules lines bytes told told_now OutWrite = (all : Bool) × TellsNext AllTables Rules lines bytes told told_now all
AllTablesEnd Rules lines bytes told told_now NoMemory = TellsSome Rules lines bytes told told_now
AllTablesEnd Rules lines bytes told told_now Device = TellsSome Rules lines bytes told told_now
AllTablesEnd Rules lines bytes told told_now NotImage = ⊥
AllTablesEnd Rules lines bytes told told_now (BadImage table) = ⊥
AllTablesEnd Rules lines bytes told told_now NoTable = ⊥
AllTablesEnd Rules lines bytes told told_now InputRead = ⊥
AllTablesEnd Rules lines bytes told told_now InputLong = ⊥
AllTablesEnd Rules lines bytes told told_now (BadInput number) = ⊥

abbrev pub TablesEndBy : Extent → (TableConfig → Option RingPlace → FlashState → Finding → Type 0) → (TableConfig → Option RingPlace → FlashState → TableRules → Type 0) → Lines → List ℕ → Option (List ℕ) → Option (List ℕ) → ToolStatus → Type 0
TablesEndBy FirstFault Finds Rules lines bytes told told_now status = TablesEnd Finds lines bytes told told_now status
TablesEndBy AllTables Finds Rules lines bytes told told_now status = AllTablesEnd Rules lines bytes told told_now status

-- ---- of an image

-- the bytes are an image, whose tables were checked so
pub record ImageChecked (bytes : List ℕ) (Ends : Lines → Type 0) : Type 0 where
  pub lines : Lines
  pub accepted : IsAccepted lines
  pub image : IsImageOf bytes lines
  pub ends : Ends lines

-- how a check of an image ends, by how that of its tables does; where it ends before the first table nothing is written
abbrev pub ChecksBy : (Lines → ToolStatus → Type 0) → List ℕ → Option (List ℕ) → Option (List ℕ) → ToolStatus → Type 0
ChecksBy Ends bytes told told_now NotImage = ((lines : Lines) → IsAccepted lines → IsImageOf bytes lines → ⊥) × Appends told told_now []
ChecksBy Ends bytes told told_now NoMemory = Appends told told_now [] ⊎ ImageChecked bytes (λ lines. Ends lines NoMemory)
ChecksBy Ends bytes told told_now Device = Appends told told_now [] ⊎ ImageChecked bytes (λ lines. Ends lines Device)
ChecksBy Ends bytes told told_now status = ImageChecked bytes (λ lines. Ends lines status)

-- up to the first table that isn't sound
abbrev pub ImageEnds : (TableConfig → Option RingPlace → FlashState → Finding → Type 0) → List ℕ → Option (List ℕ) → Option (List ℕ) → ToolStatus → Type 0
ImageEnds Finds bytes told told_now status = ImageChecked bytes (λ lines. TablesEnd Finds lines bytes told told_now status)

abbrev pub CheckEnds : (TableConfig → Option RingPlace → FlashState → Finding → Type 0) → List ℕ → Option (List ℕ) → Option (List ℕ) → ToolStatus → Type 0
CheckEnds Finds bytes told told_now status = ChecksBy (λ lines status. TablesEnd Finds lines bytes told told_now status) bytes told told_now status

-- .. or over all tables
abbrev pub CheckAllEnds : (TableConfig → Option RingPlace → FlashState → TableRules → Type 0) → List ℕ → Option (List ℕ) → Option (List ℕ) → ToolStatus → Type 0
CheckAllEnds Rules bytes told told_now status = ChecksBy (λ lines status. AllTablesEnd Rules lines bytes told told_now status) bytes told told_now status

abbrev pub CheckedTo : Extent → (TableConfig → Option RingPlace → FlashState → Finding → Type 0) → (TableConfig → Option RingPlace → FlashState → TableRules → Type 0) → List ℕ → Option (List ℕ) → Option (List ℕ) → ToolStatus → Type 0
CheckedTo extent Finds Rules bytes told told_now status = ChecksBy (λ lines status. TablesEndBy extent Finds Rules lines bytes told told_now status) bytes told told_now status
