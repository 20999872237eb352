-- The text that standard error has of an ending: the headline, and the explanation below it. An exit that failed has a line as its
-- headline, and what is read beside status 0 is one too, with nothing to explain.
use Rattle.std.specs.Prelude.{ℕ, ◌==◌, Option, Some, None, is_some, List, [], ◌∷◌, ◌++◌, codes, decimal, if◌then◌else◌}
use Rattle.std.specs.List.{list_any}
use Rattle.fl_csv.specs.declared.record.LineForm.{LineForm}
use Rattle.fl_image.specs.Number.{number_of}
use Rattle.fl_image.specs.declared.status.ToolStatus.{ToolStatus}
use Rattle.fl_image.specs.declared.status.ToolStatus.TheVariants as job
use Rattle.fl_import.specs.declared.job_end.JobEnd.{JobEnd}
use Rattle.fl_import.specs.declared.job_end.LinesTaken.{LinesTaken}
use Rattle.fl_salvage.specs.declared.passed_over.PassedOver.{PassedOver}
use Rattle.fl_salvage.specs.declared.salvage.SalvageEnd.{SalvageEnd}
use Rattle.fl_ship.specs.Number as ship_number
use Rattle.fl_ship.specs.declared.side.Side.TheVariants.{Source, Copy}
use Rattle.fl_ship.specs.declared.status.ShipStatus.{ShipStatus}
use Rattle.fl_ship.specs.declared.status.ShipStatus.TheVariants as ship
use Rattle.fl_sizing.specs.declared.end.PlanStatus.{PlanStatus}
use Rattle.fl_sizing.specs.declared.end.PlanStatus.TheVariants as plan
use Rattle.fl_ends.specs.declared.pending.TableRows.{TableRows}
use Rattle.fl_ends.specs.declared.run.Status.{Status}
use Rattle.fl_ends.specs.declared.run.Status.TheVariants.{Done, Usage, Line, ScriptRead, OutWrite, MediaMake, Config, OtherConfig, ScriptLong, NoMemory}
use Rattle.fl_ends.specs.declared.shell.Flushed.{Flushed}
use Rattle.fl_ends.specs.declared.shell.ShellEnd.{ShellEnd}
use Rattle.fl_ends.specs.declared.shell.ShellStatus.{ShellStatus}
use Rattle.fl_ends.specs.declared.shell.ShellStatus.TheVariants as shell
use Rattle.fl_command.specs.declared.exit.Exit.{Exit}
use Rattle.fl_command.specs.declared.exit.Exit.TheVariants.{Run, Shell, Plan, Job, Salvage, Ship, Words, Help, InUse, CopyInUse, CopyIsImage}

-- a line of the program
abbrev pub line_of : List ℕ → List ℕ
line_of words = codes "flashts: " ++ words

-- a table and how many of its rows are pending, behind these words
abbrev pub table_text : List ℕ → Option TableRows → List ℕ
table_text before (Some table) = before ++ table.name ++ codes " " ++ decimal table.rows
table_text before None = []

-- what stands before the table behind this one
abbrev pub behind : List ℕ → Option TableRows → List ℕ
behind before (Some table) = codes ", "
behind before None = before

abbrev pub tables_text : List ℕ → List (Option TableRows) → List ℕ
tables_text before [] = []
tables_text before (table ∷ tables) = table_text before table ++ tables_text (behind before table) tables

-- the tables of which rows are pending, joined by commas; nothing where there are none
abbrev pub pending_text : List (Option TableRows) → List ℕ
pending_text tables = if list_any is_some tables then line_of (codes "rows that no flush has written: " ++ tables_text [] tables ++ codes "\n") else []

-- of a run: what is pending where it is done
abbrev pub run_headline : Status → List ℕ
run_headline (Done pending) = pending_text pending.tables
run_headline Usage = line_of (codes "usage: flashts run IMAGE\n")
run_headline (Line n) = line_of (codes "line " ++ decimal n ++ codes " is not a command\n")
run_headline ScriptRead = line_of (codes "the script cannot be read\n")
run_headline OutWrite = line_of (codes "the replies cannot be written\n")
run_headline MediaMake = line_of (codes "the image cannot be made or read\n")
run_headline (Config n) =
    if n == 0 then line_of (codes "the configuration is incomplete\n") else line_of (codes "configuration line " ++ decimal n ++ codes " is refused\n")
run_headline (OtherConfig wanted found at) = line_of (codes "the image has another configuration\n")
run_headline ScriptLong = line_of (codes "the script is longer than 16777216 bytes\n")
run_headline NoMemory = line_of (codes "no memory\n")

-- a form of the command line, below that of a run
abbrev pub form_of : List ℕ → List ℕ
form_of words = codes "                flashts " ++ words

abbrev pub run_explanation : Status → List ℕ
run_explanation Usage = form_of (codes "run sync IMAGE\n")
run_explanation (Config n) = if n == 0 then line_of (codes "a script begins with a device line and one to four table lines\n") else []
run_explanation other = []

-- of a plan: the words of the same statuses of a run
abbrev pub plan_headline : PlanStatus → List ℕ
plan_headline plan.Done = []
plan_headline (plan.Line n) = run_headline (Line n)
plan_headline (plan.Config n) = run_headline (Config n)
plan_headline plan.InputRead = run_headline ScriptRead
plan_headline plan.OutWrite = run_headline OutWrite
plan_headline plan.InputLong = line_of (codes "the text is longer than 65536 bytes: the first lines of a script are enough\n")
plan_headline plan.NoMemory = run_headline NoMemory

abbrev pub plan_explanation : PlanStatus → List ℕ
plan_explanation (plan.Config n) = run_explanation (Config n)
plan_explanation other = []

-- how many rows the table of an import holds
abbrev pub kept_text : Option ℕ → List ℕ
kept_text (Some rows) = line_of (codes "the table holds " ++ decimal rows ++ codes " rows\n")
kept_text None = []

-- what a status means that has a number alone, and what to do
abbrev pub meaning_text : ToolStatus → List ℕ
meaning_text job.NotImage = line_of (codes "the file is no image, is missing, or can't be opened: look at its name and its rights\n")
meaning_text job.Device = line_of (codes "the image can't be read or written: look for room and for its rights, and call again\n")
meaning_text (job.BadImage table) =
    line_of (codes "no run has left what the pages of table " ++ decimal table ++ codes ", counted from 0, have: flashts check IMAGE all tells which\n")
meaning_text job.NoTable = line_of (codes "no table has this name: flashts check IMAGE all tells the names\n")
meaning_text (job.BadInput line) =
    line_of (codes "line " ++ decimal line ++ codes " of the input has more than 4096 bytes, or is the first and not the one that an export begins with\n")
meaning_text job.Unsound = line_of (codes "a table isn't sound: each line that begins with fault says which, in which ring and page, and the rule (docs/CHECK.md)\n")
meaning_text other = []

-- of a job's status: the words of the same statuses of a run, and the number of the others
abbrev pub status_headline : ToolStatus → Option ℕ → List ℕ
status_headline job.Done kept = kept_text kept
status_headline job.InputRead kept = run_headline ScriptRead
status_headline job.OutWrite kept = run_headline OutWrite
status_headline job.InputLong kept = run_headline ScriptLong
status_headline job.NoMemory kept = run_headline NoMemory
status_headline status kept = line_of (codes "status " ++ decimal (number_of status) ++ codes "\n")

-- what became of the rows that were pending, where some were
abbrev pub flushed_text : Flushed → List ℕ
flushed_text flushed =
    if flushed.pending == 0 then []
    else if flushed.all then line_of (codes "pending rows flushed: " ++ decimal flushed.pending ++ codes "\n")
    else line_of (codes "of the pending rows, " ++ decimal flushed.pending ++ codes ", some may be lost: scan tells which are there\n")

-- of a shell: the words of the same statuses of a run, and of a job; what was flushed is a headline where all went well
abbrev pub shell_status_headline : ShellStatus → Flushed → List ℕ
shell_status_headline shell.Done flushed = flushed_text flushed
shell_status_headline shell.InputRead flushed = run_headline ScriptRead
shell_status_headline shell.OutWrite flushed = run_headline OutWrite
shell_status_headline shell.MediaMake flushed = run_headline MediaMake
shell_status_headline shell.Unconfigured flushed = run_headline (Config 0)
shell_status_headline shell.InputLong flushed = line_of (codes "the input is longer than 17592186044416 bytes\n")
shell_status_headline shell.NoMemory flushed = run_headline NoMemory
shell_status_headline shell.NotImage flushed = status_headline job.NotImage None
shell_status_headline shell.Unflushed flushed = line_of (codes "the last flush failed\n")

abbrev pub shell_headline : ShellEnd → List ℕ
shell_headline end = shell_status_headline end.status end.flushed

abbrev pub shell_status_explanation : ShellStatus → Flushed → List ℕ
shell_status_explanation shell.Done flushed = []
shell_status_explanation shell.Unconfigured flushed = run_explanation (Config 0) ++ flushed_text flushed
shell_status_explanation shell.NotImage flushed = meaning_text job.NotImage ++ flushed_text flushed
shell_status_explanation status flushed = flushed_text flushed

abbrev pub shell_explanation : ShellEnd → List ℕ
shell_explanation end = shell_status_explanation end.status end.flushed

-- what the first line of an import has to be, where it isn't that
abbrev pub names_text : Option LineForm → List ℕ
names_text (Some form) =
    if form.blobs then line_of (codes "the first line has to be key, c1 to c" ++ decimal form.columns ++ codes " and blob, joined by commas\n")
    else line_of (codes "the first line has to be key and c1 to c" ++ decimal form.columns ++ codes ", joined by commas\n")
names_text None = []

abbrev pub first_text : ToolStatus → Option LineForm → List ℕ
first_text (job.BadInput line) form = if line == 1 then names_text form else []
first_text status form = []

-- how far the lines of an import were taken that ended early
abbrev pub taken_text : ToolStatus → LinesTaken → List ℕ
taken_text job.Done taken = []
taken_text status taken =
    if taken.line == 0 then [] else line_of (decimal taken.rows ++ codes " rows were put, and line " ++ decimal taken.line ++ codes " was the last one that was taken\n")

-- of a job: the line of its status, and below it what that means, what the first line has to be, and how far an import came
abbrev pub job_headline : JobEnd → List ℕ
job_headline end = status_headline end.status end.kept

abbrev pub job_explanation : JobEnd → List ℕ
job_explanation end = meaning_text end.status ++ first_text end.status end.form ++ taken_text end.status end.taken

-- how many pages a salvage passed over, by the reason
abbrev pub passed_text : PassedOver → List ℕ
passed_text passed =
    line_of (codes "pages passed over: missing " ++ decimal passed.missing ++ codes ", torn " ++ decimal passed.torn ++ codes ", void " ++ decimal passed.void
    ++ codes ", misplaced " ++ decimal passed.misplaced ++ codes ", unformed " ++ decimal passed.unformed ++ codes "\n")

-- of a salvage: those pages where it is done, and else the line of its status, below which stands what that means
abbrev pub salvage_status_headline : ToolStatus → PassedOver → List ℕ
salvage_status_headline job.Done passed = passed_text passed
salvage_status_headline status passed = status_headline status None

abbrev pub salvage_headline : SalvageEnd → List ℕ
salvage_headline end = salvage_status_headline end.status end.passed_over

-- the keys of a gap
abbrev pub gap_text : ℕ → ℕ → List ℕ
gap_text last oldest = line_of (codes "the image has no record with the copy's last key " ++ decimal last ++ codes ", its first one is " ++ decimal oldest ++ codes "\n")

-- what became of the copy, or what a status of a ship means that has a number alone, on which side, and what to do
abbrev pub ship_explanation : ShipStatus → List ℕ
ship_explanation (ship.NotImage Source) = line_of (codes "the first file is no image, is missing, or can't be opened: look at its name and its rights\n")
ship_explanation (ship.NotImage Copy) =
    line_of (codes "the copy is neither empty nor an image of the same configuration: name another file, or remove it if its making failed\n")
ship_explanation (ship.Device Source) = line_of (codes "the image can't be read or repaired: look for room and for its rights, and call again\n")
ship_explanation (ship.Device Copy) = line_of (codes "the copy can't be made, read or written: look at its name, for room and for its rights, and call again\n")
ship_explanation (ship.BadImage Source table) =
    line_of (codes "no run has left what the pages of table " ++ decimal table ++ codes " of the image, counted from 0, have: flashts check IMAGE all tells which\n")
ship_explanation (ship.BadImage Copy table) =
    line_of (codes "no run has left what the pages of table " ++ decimal table ++ codes " of the copy, counted from 0, have: flashts check COPY all tells which\n")
ship_explanation ship.NoTable = meaning_text job.NoTable
ship_explanation (ship.Gap last oldest) =
    gap_text last oldest ++ line_of (codes "records between were reclaimed, or the copy is of another image: keep it, and begin a new one\n")
ship_explanation ship.OutWrite = line_of (codes "what was shipped is in the copy: call again to ship what is left\n")
ship_explanation ship.OtherForm = line_of (codes "a table with variable data or a log isn't shipped: export it and import it\n")
ship_explanation ship.Spent = line_of (codes "the copy's table has no page number left: keep this copy, and begin a new one\n")
ship_explanation other = []

-- of a ship: the words of the same statuses of a run, and the number of the others
abbrev pub ship_headline : ShipStatus → List ℕ
ship_headline (ship.Done shipped) = []
ship_headline ship.OutWrite = run_headline OutWrite
ship_headline ship.NoMemory = run_headline NoMemory
ship_headline status = line_of (codes "status " ++ decimal (ship_number.number_of status) ++ codes "\n")

-- all forms of the command line, below that of a run
abbrev pub forms_text : List ℕ
forms_text =
    run_explanation Usage ++ form_of (codes "shell IMAGE\n") ++ form_of (codes "shell sync IMAGE\n") ++ form_of (codes "plan [SECONDS]\n") ++ form_of (codes "check IMAGE [all]\n") ++ form_of (codes "map IMAGE [svg]\n")
    ++ form_of (codes "export IMAGE NAME [LOW HIGH]\n") ++ form_of (codes "import IMAGE NAME [gone]\n") ++ form_of (codes "salvage IMAGE NAME\n") ++ form_of (codes "ship IMAGE COPY NAME COUNT\n") ++ form_of (codes "help\n")

abbrev pub exit_headline : Exit → List ℕ
exit_headline (Run status) = run_headline status
exit_headline (Shell end) = shell_headline end
exit_headline (Plan status) = plan_headline status
exit_headline (Job end) = job_headline end
exit_headline (Salvage end) = salvage_headline end
exit_headline (Ship status) = ship_headline status
exit_headline Words = run_headline Usage
exit_headline Help = []
exit_headline InUse = line_of (codes "another program uses the image\n")
exit_headline CopyInUse = line_of (codes "another program uses the copy\n")
exit_headline CopyIsImage = line_of (codes "the copy is the image itself\n")

abbrev pub exit_explanation : Exit → List ℕ
exit_explanation (Run status) = run_explanation status
exit_explanation (Shell end) = shell_explanation end
exit_explanation (Plan status) = plan_explanation status
exit_explanation (Job end) = job_explanation end
exit_explanation (Salvage end) = meaning_text end.status
exit_explanation (Ship status) = ship_explanation status
exit_explanation Words = forms_text
exit_explanation Help = []
exit_explanation InUse = line_of (codes "it is left as it is; call again if that one has ended\n")
exit_explanation CopyInUse = line_of (codes "it is left as it is; call again if that one has ended\n")
exit_explanation CopyIsImage = line_of (codes "it is left as it is; name another file for the copy\n")

abbrev pub exit_text : Exit → List ℕ
exit_text exit = exit_headline exit ++ exit_explanation exit
