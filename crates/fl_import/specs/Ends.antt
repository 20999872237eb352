-- How an import ends, by its status.
use Rattle.std.specs.Prelude.{◌≡◌, ◌⊎◌, ℕ, ◌+◌, ◌≤◌, IsTrue, Bool, false, Option, None, Some, Result, Ok, List, [], ◌∷◌, ◌++◌, length, map, find}
use Rattle.fl_base.specs.Causes.{Rose, Appends, AppendsFront, IsFront}
use Rattle.fl_csv.specs.declared.record.GoneBlobs.{GoneBlobs}
use Rattle.fl_csv.specs.declared.record.CsvRefusal.{CsvRefusal}
use Rattle.fl_csv.specs.declared.record.LineForm.{LineForm}
use Rattle.fl_store.specs.MountEnds as store
use Rattle.fl_store.specs.Named.{IsImageOver, IsImageWith}
use Rattle.fl_store.specs.MountEnds.{IsUntouched, MountFails}
use Rattle.fl_store.specs.Store.{at_rest}
use Rattle.fl_image.specs.Header.{IsAccepted}
use Rattle.fl_image.specs.Image.{IsImageOf}
use Rattle.fl_import.specs.Taken.{none_taken}
use Rattle.fl_import.specs.declared.job_end.LinesTaken.{LinesTaken}
use Rattle.fl_image.specs.declared.status.ToolStatus.{ToolStatus}
use Rattle.fl_image.specs.declared.status.ToolStatus.TheVariants.{Done, InputRead, OutWrite, InputLong, NoMemory, NotImage, Device, BadImage, NoTable, BadInput, Unsound}
use Rattle.fl_machine.specs.Step.{Located, located_from, all_ready}
use Rattle.fl_model.specs.Mount.{Mounts, Mounted, turns_from}
use Rattle.fl_model.specs.Record.{Record, Plan, Config, has_var, bytes_equal}
use Rattle.fl_model.specs.Table.{Table, refusal_of, flushed, lose}
use Rattle.fl_model.specs.Within.{with_table}
use Rattle.fl_model.specs.Work.{Progress}
use Rattle.fl_words.specs.Config.{Lines}
use Rattle.fl_words.specs.Medium.{IsImage}
use Rattle.fl_import.specs.Counting.{count_text, counts_of}
use Rattle.fl_import.specs.Lines.{meaning, meanings, Takes}
use Rattle.fl_store.specs.Works.{FailsInFlush, FailsInPut}
use Rattle.fl_import.specs.Puts.{after_puts}
use Rattle.fl_import.specs.Reading.{Stops, TakesSome, TakesUntil}
use Rattle.fl_lines.specs.Taken.{TakesFew}
use Rattle.fl_import.specs.Report.{told_line, told_lines}

-- What becomes of blobs that are gone; how far the lines were taken; what is written, before and after; and what the source
-- has left.
pub record Told : Type 0 where
  pub gone : GoneBlobs
  pub taken : LinesTaken
  pub written : Option (List ℕ)
  pub written_now : Option (List ℕ)
  pub left_now : Option (List ℕ)

-- ---- what an import does to its table, once that is mounted

-- what the lines that were taken mean for the table of this plan
abbrev pub puts_of : GoneBlobs → Plan → List (List ℕ) → List (Result Record CsvRefusal)
puts_of gone plan taken = meanings gone (length plan.columns) (has_var plan) taken

abbrev pub table_after : GoneBlobs → Plan → Table → List (List ℕ) → Table
table_after gone plan table taken = after_puts plan table (puts_of gone plan taken)

abbrev pub told_of_lines : GoneBlobs → Plan → Table → List (List ℕ) → List ℕ
told_of_lines gone plan table taken = told_lines plan 2 table (puts_of gone plan taken)

-- what is told of the line that comes next
abbrev pub told_next : GoneBlobs → Plan → Table → List (List ℕ) → List ℕ → List ℕ
told_next gone plan table taken line =
    told_line plan (length taken + 1) (table_after gone plan table taken) (meaning gone (length plan.columns) (has_var plan) line)

-- it was told of the lines that were taken; and where the sink failed, by a front of what is told of the next one
abbrev pub Reports : GoneBlobs → Plan → Table → List (List ℕ) → ToolStatus → List (List ℕ) → Option (List ℕ) → Option (List ℕ) → Type 0
Reports gone plan table taken OutWrite [] told told_now = ⊥
Reports gone plan table taken OutWrite (line ∷ left) told told_now =
    (front : List ℕ) × IsFront front (told_next gone plan table taken line) × Appends told told_now (told_of_lines gone plan table taken ++ front)
Reports gone plan table taken status left told told_now = Appends told told_now (told_of_lines gone plan table taken)

-- The lines that were taken were put and told, so many as are counted, and no more are taken. At most 4,097 bytes were read from
-- the first byte of the next one on.
pub record Puts (gone : GoneBlobs) (counts : LinesTaken) (plan : Plan) (table : Table) (text : List ℕ) (told told_now rest : Option (List ℕ)) (status : ToolStatus) : Type 0 where
  pub taken : List (List ℕ)
  pub left : List (List ℕ)
  pub takes : Takes (length plan.columns) (has_var plan) text taken left
  pub few : TakesFew text taken rest
  pub stops : Stops (length plan.columns) (has_var plan) text taken left rest status
  pub reports : Reports gone plan table taken status left told told_now
  pub counted : counts ≡ counts_of gone plan table taken

-- .. but an operation failed in the put of the next one.
pub record PutFails (gone : GoneBlobs) (counts : LinesTaken) (plan : Plan) (table : Table) (text : List ℕ) (told told_now rest : Option (List ℕ)) (after : Table) : Type 0 where
  pub taken : List (List ℕ)
  pub line : List ℕ
  pub left : List (List ℕ)
  pub takes : Takes (length plan.columns) (has_var plan) text taken (line ∷ left)
  pub few : TakesFew text taken rest
  pub some : 1 ≤ length taken
  pub item : Record
  pub means : meaning gone (length plan.columns) (has_var plan) line ≡ Ok item
  pub accepted : refusal_of plan (table_after gone plan table taken) item ≡ None
  pub fails : FailsInPut plan item (table_after gone plan table taken) after
  pub reports : Appends told told_now (told_of_lines gone plan table taken)
  pub counted : counts ≡ counts_of gone plan table taken

-- .. and then the table was flushed,
pub record Flushes (plan : Plan) (table : Table) (text : List ℕ) (told : Told) (after : Table) (status : ToolStatus) : Type 0 where
  pub puts : Puts told.gone told.taken plan table text told.written told.written_now told.left_now status
  pub after_is : after ≡ flushed plan (table_after told.gone plan table puts.taken)

-- or an operation failed in the flush.
pub record FlushFails (plan : Plan) (table : Table) (text : List ℕ) (told : Told) (after : Table) : Type 0 where
  pub status : ToolStatus
  pub puts : Puts told.gone told.taken plan table text told.written told.written_now told.left_now status
  pub fails : FailsInFlush plan (table_after told.gone plan table puts.taken) after

-- All lines were put, the table was flushed, and it was told how many were put: `Wrote` says what was written of that.
pub record Counts (plan : Plan) (table : Table) (text : List ℕ) (told : Told) (after : Table) (Wrote : Option (List ℕ) → Option (List ℕ) → List ℕ → Type 0) : Type 0 where
  pub written_then : Option (List ℕ)
  pub puts : Puts told.gone told.taken plan table text told.written written_then told.left_now Done
  pub after_is : after ≡ flushed plan (table_after told.gone plan table puts.taken)
  pub counts : Wrote written_then told.written_now (count_text told.gone (counts_of told.gone plan table puts.taken))

-- the table after an import that ended so
abbrev pub Leaves : Plan → Table → List ℕ → Told → Table → ToolStatus → Type 0
Leaves plan table text told after Done = Counts plan table text told after Appends
Leaves plan table text told after OutWrite = Flushes plan table text told after OutWrite ⊎ Counts plan table text told after AppendsFront
Leaves plan table text told after InputRead = Flushes plan table text told after InputRead
Leaves plan table text told after InputLong = Flushes plan table text told after InputLong
Leaves plan table text told after (BadInput number) = Flushes plan table text told after (BadInput number)
Leaves plan table text told after NoMemory = Flushes plan table text told after NoMemory
Leaves plan table text told after Device = PutFails told.gone told.taken plan table text told.written told.written_now told.left_now after ⊎ FlushFails plan table text told after
Leaves plan table text told after status = ⊥

-- ---- how an import of an image of tables ends

-- no byte was read, and no line was taken
abbrev pub IsUnread : List ℕ → Told → Type 0
IsUnread text told = (told.left_now ≡ Some text) × (told.taken ≡ none_taken)

-- what is told of the mount alone
abbrev pub of_mount : Told → ℕ → ℕ → store.Told
of_mount told faults faults_now = record { written = told.written; written_now = told.written_now; faults = faults; faults_now = faults_now }

-- The tables were mounted, and the one with the name is left so.
pub record Imports (plans : List Plan) (tables : List Table) (name : List ℕ) (told : Told) (faults faults_now : ℕ) (Holds : List Table → Type 0) (Left : Plan → Table → Table → Type 0) : Type 0 where
  pub rose : Bool
  pub risen : IsTrue rose → Rose faults faults_now
  pub end : Progress
  pub did : Mounts plans rose (turns_from 0 plans) at_rest tables (Mounted end)
  pub at : Located
  pub found : located_from 0 plans (all_ready plans end.tables) name ≡ Some at
  pub after : Table
  pub left : Left at.plan at.table after
  pub holds : Holds (map lose (with_table at.place (all_ready plans end.tables) after))

-- How it ends over tables of which one has the name. Where it is done, the rows are told that stand on the medium then; where
-- the mount fails no byte is read.
abbrev pub TablesEnd : List Plan → List Table → List ℕ → List ℕ → Told → ℕ → ℕ → (List Table → Type 0) → Option ℕ → ToolStatus → Type 0
TablesEnd plans tables name text told faults faults_now Holds kept Device =
    Rose faults faults_now
    × ((MountFails plans tables name (of_mount told faults faults_now) Holds × IsUnread text told)
    ⊎ Imports plans tables name told faults faults_now Holds (λ plan table after. Leaves plan table text told after Device))
TablesEnd plans tables name text told faults faults_now Holds kept Done =
    Imports plans tables name told faults faults_now Holds (λ plan table after. Leaves plan table text told after Done × (kept ≡ Some (length (lose after).entries)))
TablesEnd plans tables name text told faults faults_now Holds kept status =
    Imports plans tables name told faults faults_now Holds (λ plan table after. Leaves plan table text told after status)

-- nothing was mounted, written or read
abbrev pub IsUnbegun : List ℕ → List ℕ → List ℕ → Told → ℕ → ℕ → Type 0
IsUnbegun content content_now text told faults faults_now = IsUntouched content content_now (of_mount told faults faults_now) × IsUnread text told

-- how it ends over a medium that stands for tables
abbrev pub ImportEnds : Config → List Table → List ℕ → List ℕ → Told → ℕ → ℕ → List ℕ → List ℕ → Option ℕ → ToolStatus → Type 0
ImportEnds config tables name text told faults faults_now content content_now kept NoTable =
    (located_from 0 config.plans tables name ≡ None) × IsUnbegun content content_now text told faults faults_now
ImportEnds config tables name text told faults faults_now content content_now kept NoMemory =
    IsUnbegun content content_now text told faults faults_now ⊎ TablesEnd config.plans tables name text told faults faults_now (IsImage config content_now) kept NoMemory
ImportEnds config tables name text told faults faults_now content content_now kept Device =
    (Rose faults faults_now × IsUnbegun content content_now text told faults faults_now)
    ⊎ TablesEnd config.plans tables name text told faults faults_now (IsImage config content_now) kept Device
ImportEnds config tables name text told faults faults_now content content_now kept status = TablesEnd config.plans tables name text told faults faults_now (IsImage config content_now) kept status

-- ---- the causes of statuses, over any bytes

-- The bytes are an image, and a table of it has the name. `Until` says of a text how its lines are taken for the first such.
pub record IsImageFor (bytes : List ℕ) (name : List ℕ) (text : Option (List ℕ)) (Until : ℕ → Bool → List ℕ → Type 0) : Type 0 where
  pub lines : Lines
  pub accepted : IsAccepted lines
  pub image : IsImageOf bytes lines
  pub plan : Plan
  pub named : find (λ plan. bytes_equal plan.name name) lines.plans ≡ Some plan
  pub takes : (l : List ℕ) → text ≡ Some l → Until (length plan.columns) (has_var plan) l

-- The bytes are an image, and the first table of it with the name has lines of this form.
pub record IsFormIn (bytes : List ℕ) (name : List ℕ) (form : LineForm) : Type 0 where
  pub lines : Lines
  pub accepted : IsAccepted lines
  pub image : IsImageOf bytes lines
  pub plan : Plan
  pub named : find (λ plan. bytes_equal plan.name name) lines.plans ≡ Some plan
  pub columns : form.columns ≡ length plan.columns
  pub blobs : form.blobs ≡ has_var plan

abbrev pub EndsLines : Option (List ℕ) → ToolStatus → ℕ → Bool → List ℕ → Type 0
EndsLines rest status columns blobs text = TakesUntil columns blobs text rest status

-- No line was taken, or some were
abbrev pub MayTake : List ℕ → List ℕ → Option (List ℕ) → Option (List ℕ) → Type 0
MayTake bytes name text rest = (rest ≡ text) ⊎ IsImageFor bytes name text (λ columns blobs l. TakesSome columns blobs l rest)

-- There is no image, or it has no such table, or its lines end so; the medium and memory may fail before. A bad table is one of
-- the image. `text` is what the source had at first.
abbrev pub StatusFits : List ℕ → List ℕ → Option (List ℕ) → Option (List ℕ) → ToolStatus → Type 0
StatusFits bytes name text rest NotImage = (lines : Lines) → IsAccepted lines → IsImageOf bytes lines → ⊥
StatusFits bytes name text rest NoTable = IsImageWith bytes name false
StatusFits bytes name text rest (BadImage table) = IsImageOver bytes name table × (rest ≡ text)
StatusFits bytes name text rest OutWrite =
    IsImageFor bytes name text (λ columns blobs l. TakesUntil columns blobs l rest OutWrite ⊎ TakesUntil columns blobs l rest Done)
StatusFits bytes name text rest NoMemory = MayTake bytes name text rest
StatusFits bytes name text rest Device = MayTake bytes name text rest
StatusFits bytes name text rest Unsound = ⊥
StatusFits bytes name text rest status = IsImageFor bytes name text (EndsLines rest status)
