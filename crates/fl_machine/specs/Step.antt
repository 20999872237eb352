-- One command of the machine: what it may reply, and the state to which it may go on.
use Rattle.std.specs.Prelude.{◌≡◌, ℕ, zero, suc, ◌+◌, ◌-◌, ◌*◌, ◌/◌, ◌%◌, ◌^◌, ◌<◌, ◌≤◌, min, Bool, true, nat_lt, ◌==◌, ◌⊎◌, ℤ, pos, ◌-ℤ◌, Option, Some, None, option_map, unwrap_or, MatchOption, MatchBool, List, [], ◌∷◌, ◌++◌, length, take, map, find, slice_get, slice_set, if◌then◌else◌, IsTrue}
use Rattle.fl_base.specs.Generator.{next_random}
use Rattle.fl_base.specs.declared.types.KeyRange.{KeyRange}
use Rattle.fl_base.specs.declared.types.Span.{Span}
use Rattle.fl_model.specs.Record.{Record, Column, Plan, Config, bytes_equal, has_var, has_log}
use Rattle.fl_model.specs.Table.{Table, Entry, refusal_of, put_record, table_seals, flushed, lose, last_entry, Refusal, BadKey, BadColumns, BadValue, BadBlob, Spent}
use Rattle.fl_model.specs.Work.{Device, Progress, Outcome, Finished, CutShort, Failed, Performs, operations_of, changed_at}
use Rattle.fl_model.specs.Puts.{Puts}
use Rattle.fl_model.specs.Mount.{Mounts, MountEnd, Mounted, Stopped, Unread, turns_from, ready}
use Rattle.fl_model.specs.Query.{begin, left_of, moved, selected, entry_at, BlobState, Without, Lost, Stands, blob_of}
use Rattle.fl_model.specs.Spline.{lookup_limit, voids_of}
use Rattle.fl_model.specs.Operators.{Group, select, project, aggregate, key_join}
use Rattle.fl_words.specs.Command as command
use Rattle.fl_words.specs.Command.{Command, TableLine}
use Rattle.fl_words.specs.Reply as reply
use Rattle.fl_words.specs.Reply.{Reply, Row, BlobNote, NoneKept, RefusedKey, NoRing, Length, RefusedColumns, RefusedValue, RefusedBlob, RefusedSpent}
use Rattle.fl_machine.specs.Machine.{Machine, OpenCursor, Cost, NothingYet, OfGet, OfScan, stopped, no_cursors}

-- the row line of an entry
abbrev pub row_note : Plan → Option (List ℕ) → BlobNote
row_note plan None = if has_var plan then NoneKept else NoRing
row_note plan (Some bytes) = if has_var plan then Length (length bytes) else NoRing

abbrev pub row_of : Plan → Entry → Reply
row_of plan entry = Row entry.kept.key entry.kept.values (row_note plan entry.kept.blob)

abbrev pub refused : Refusal → Reply
refused (BadKey last) = RefusedKey last
refused (BadColumns wanted) = RefusedColumns wanted
refused (BadValue column) = RefusedValue column
refused (BadBlob limit) = RefusedBlob limit
refused Spent = RefusedSpent

-- one command of a run, as it went
pub record Moment : Type 0 where
  pub command : Command
  -- the medium's faults rose in it
  pub rose : Bool
  -- how many pages it read
  pub reads : ℕ
  -- the tables just before the operation that failed in it, if one did
  pub last : Option (List Table)
  pub replies : List Reply
  pub after : Machine

-- it replies this and goes on to this state, and no operation of it failed
pub record Says (moment : Moment) (replies : List Reply) (new : Machine) : Type 0 where
  pub replies_are : moment.replies ≡ replies
  pub after_is : moment.after ≡ new
  pub last_is : moment.last ≡ None

-- an operation failed in it, and the session stopped
pub record Stops (old : Machine) (moment : Moment) (end : Progress) (before : List Table) (replies : List Reply) : Type 0 where
  pub replies_are : moment.replies ≡ replies
  pub after_is : moment.after ≡ stopped (record old { device = end.device; tables = end.tables })
  pub last_is : moment.last ≡ Some before

-- its operations ended so: all are done and it says ok, or one failed
abbrev pub EndsAs : Outcome → Machine → Moment → Progress → List Reply → List Reply → Machine → Type 0
EndsAs Finished old moment end before ok new = Says moment (before ++ ok) new
EndsAs (CutShort last) old moment end before ok new = Stops old moment end last (before ++ reply.PowerLost ∷ [])
EndsAs (Failed last) old moment end before ok new = Stops old moment end last (before ++ reply.DeviceFault ∷ [])

-- a table by its place
pub record Located : Type 0 where
  pub place : ℕ
  pub plan : Plan
  pub table : Table

abbrev pub located_from : ℕ → List Plan → List Table → List ℕ → Option Located
located_from place [] tables name = None
located_from place (plan ∷ plans) [] name = None
located_from place (plan ∷ plans) (table ∷ tables) name =
    if bytes_equal plan.name name
    then Some (record { place = place; plan = plan; table = table })
    else located_from (place + 1) plans tables name

abbrev pub located : Config → Machine → List ℕ → Option Located
located config old name = located_from 0 config.plans old.tables name

-- the command needs a mounted session
abbrev pub WhenMounted : Machine → Moment → Type 0 → Type 0
WhenMounted old moment P = MatchBool old.mounted P (Says moment (reply.NotMounted ∷ []) old)

-- .. and a table of this name
abbrev pub WithTable : Config → Machine → Moment → List ℕ → (Located → Type 0) → Type 0
WithTable config old moment name P =
    WhenMounted old moment (MatchOption (located config old name) (Says moment (reply.NoTable ∷ []) old) P)

-- each table made ready by its plan; one with a log was, before the records of its log joined it
abbrev pub made_ready : Plan → Table → Table
made_ready plan table = if has_log plan then table else ready plan table

abbrev pub all_ready : List Plan → List Table → List Table
all_ready [] tables = tables
all_ready (plan ∷ plans) [] = []
all_ready (plan ∷ plans) (table ∷ tables) = made_ready plan table ∷ all_ready plans tables

-- a mount
abbrev pub EndsMount : Config → Machine → Moment → MountEnd → Type 0
EndsMount config old moment (Mounted end) =
    Says moment (reply.Done ∷ []) (record old { device = end.device; tables = all_ready config.plans end.tables; mounted = true; cursors = no_cursors })
EndsMount config old moment (Stopped end) = EndsAs end.outcome old moment end [] [] old
EndsMount config old moment (Unread end) =
    Says moment (reply.DeviceFault ∷ []) (record old { device = end.device; tables = map lose end.tables })

abbrev pub MountStep : Config → Machine → Moment → Type 0
MountStep config old moment =
    MatchBool old.mounted
    (Says moment (reply.AlreadyMounted ∷ []) old)
    ((how : MountEnd) × Mounts config.plans moment.rose (turns_from 0 config.plans) old.device old.tables how × EndsMount config old moment how)

-- a put of this record, and a flush
abbrev pub PutStep : Config → Machine → Moment → Record → Located → Type 0
PutStep config old moment item at =
    MatchOption (refusal_of at.plan at.table item)
    ((end : Progress) × Puts config.plans moment.rose at.plan at.place item at.table old.device old.tables end
    × EndsAs end.outcome old moment end [] (reply.Done ∷ []) (record old { device = end.device; tables = changed_at at.place (put_record at.plan item) old.tables }))
    (λ refusal. Says moment (refused refusal ∷ []) old)

abbrev pub FlushStep : Config → Machine → Moment → Located → Type 0
FlushStep config old moment at =
    (end : Progress) × Performs config.plans moment.rose (operations_of at.plan at.place (table_seals at.plan at.table) at.table) old.device old.tables end
    × EndsAs end.outcome old moment end [] (reply.Done ∷ []) (record old { device = end.device; tables = changed_at at.place (flushed at.plan) old.tables })

-- the i-th record of a load
abbrev pub load_values : ℕ → ℕ → ℕ → List Column → List ℤ
load_values i seed c [] = []
load_values i seed c (column ∷ columns) =
    (if column.signed then pos ((i * 37 + seed + c) % 200) -ℤ pos 100 else pos ((i * 37 + seed + c) % 200))
    ∷ load_values i seed (c + 1) columns

abbrev pub load_record : Plan → Table → ℕ → ℕ → ℕ → ℕ → Record
load_record plan table step seed i s = record {
  key = min (unwrap_or (option_map (λ last. last.kept.key) (last_entry table)) 0 + 1 + (s / 2 ^ 33) % step) (2 ^ 64 - 1);
  values = load_values i seed 1 plan.columns;
  blob = None;
}

-- a put of a load ended; the load goes on where it was finished
abbrev pub LoadsOn : Outcome → Machine → Moment → Progress → ℕ → Type 0 → Type 0
LoadsOn Finished old moment end loaded others = others
LoadsOn (CutShort last) old moment end loaded others = Stops old moment end last (reply.Loaded loaded ∷ reply.PowerLost ∷ [])
LoadsOn (Failed last) old moment end loaded others = Stops old moment end last (reply.Loaded loaded ∷ reply.DeviceFault ∷ [])

-- puts of a load, from the i-th on, after `loaded` of them; `turns` are left
abbrev pub LoadsFrom : Config → Machine → Moment → Plan → ℕ → ℕ → ℕ → ℕ → ℕ → ℕ → ℕ → Device → List Table → Type 0
LoadsFrom config old moment plan place step seed zero i s loaded device tables =
    Says moment (reply.Loaded loaded ∷ []) (record old { device = device; tables = tables })
LoadsFrom config old moment plan place step seed (suc turns) i s loaded device tables =
    MatchOption (slice_get tables place) (Says moment [] (record old { device = device; tables = tables })) (λ table.
    let item = load_record plan table step seed i s in
    MatchOption (refusal_of plan table item)
    ((end : Progress) × Puts config.plans moment.rose plan place item table device tables end
    × LoadsOn end.outcome old moment end loaded
    (LoadsFrom config old moment plan place step seed turns (i + 1) (next_random s) (loaded + 1) end.device (changed_at place (put_record plan item) tables)))
    (λ refusal. Says moment (reply.Loaded loaded ∷ refused refusal ∷ []) (record old { device = device; tables = tables })))

abbrev pub LoadStep : Config → Machine → Moment → ℕ → ℕ → ℕ → Located → Type 0
LoadStep config old moment count step seed at =
    LoadsFrom config old moment at.plan at.place step seed count 1 (next_random seed) 0 old.device old.tables

-- lines and then the last one; or a read fails after some of the lines, which it may only where the medium's faults rose
abbrev pub Lists : Bool → List Reply → Reply → List Reply → Type 0
Lists rose lines ending replies =
    (replies ≡ lines ++ ending ∷ [])
    ⊎ (IsTrue rose × ((n : ℕ) × (n ≤ length lines) × (replies ≡ take n lines ++ reply.ReadFault ∷ [])))

-- lines and their number
abbrev pub Counts : Machine → Moment → List Reply → Machine → Type 0
Counts old moment lines new =
    (moment.after ≡ new) × (moment.last ≡ None) × Lists moment.rose lines (reply.EndCount (length lines)) moment.replies

-- a lookup
abbrev pub found_reply : Plan → Option Entry → Reply
found_reply plan None = reply.Absent
found_reply plan (Some entry) = row_of plan entry

abbrev pub GetStep : Config → Machine → Moment → ℕ → Located → Type 0
GetStep config old moment key at =
    (moment.after ≡ record old { cost = OfGet moment.reads (lookup_limit config.knots at.plan at.table key) })
    × (moment.last ≡ None)
    × ((moment.replies ≡ found_reply at.plan (entry_at key at.table.entries) ∷ []) ⊎ (IsTrue moment.rose × (moment.replies ≡ reply.ReadFault ∷ [])))

-- a blob's bytes; where a read fails, some of them, and not all, may stand before the fault
abbrev pub BlobReplies : Bool → BlobState → List Reply → Type 0
BlobReplies rose Without replies = replies ≡ reply.NoBlob ∷ []
BlobReplies rose Lost replies = replies ≡ reply.Gone ∷ []
BlobReplies rose (Stands []) replies = replies ≡ reply.BytesEmpty ∷ []
BlobReplies rose (Stands (byte ∷ bytes)) replies =
    (replies ≡ reply.Bytes (byte ∷ bytes) ∷ [])
    ⊎ (IsTrue rose × ((n : ℕ) × (1 ≤ n) × (n < length (byte ∷ bytes)) × (replies ≡ reply.Bytes (take n (byte ∷ bytes)) ∷ reply.ReadFault ∷ [])))

abbrev pub BlobStep : Machine → Moment → ℕ → Located → Type 0
BlobStep old moment key at =
    (moment.after ≡ old) × (moment.last ≡ None)
    × (MatchOption (entry_at key at.table.entries) (moment.replies ≡ reply.Absent ∷ []) (λ entry. BlobReplies moment.rose (blob_of at.table entry) moment.replies)
    ⊎ (IsTrue moment.rose × (moment.replies ≡ reply.ReadFault ∷ [])))

abbrev pub rows_of : Plan → List Entry → List Reply
rows_of plan entries = map (row_of plan) entries

abbrev pub ScanStep : Config → Machine → Moment → KeyRange → Option Span → Located → Type 0
ScanStep config old moment range span at =
    Counts old moment (rows_of at.plan (selected range span at.table.entries)) (record old { cost = OfScan moment.reads })

abbrev pub OpenStep : Machine → Moment → ℕ → KeyRange → Option Span → Located → Type 0
OpenStep old moment cursor range span at =
    Says moment (reply.Done ∷ [])
    (record old { cursors = slice_set old.cursors cursor (Some (record { table = at.place; cursor = begin range span at.table })) })

abbrev pub cursor_at : Machine → ℕ → Option OpenCursor
cursor_at old n = unwrap_or (slice_get old.cursors n) None

-- the cursor gives the first of what it has left, and is moved behind what it gave
abbrev pub NextStep : Config → Machine → Moment → ℕ → ℕ → OpenCursor → Type 0
NextStep config old moment n count open_cursor =
    MatchOption (slice_get config.plans open_cursor.table) (Says moment [] old) (λ plan.
    MatchOption (slice_get old.tables open_cursor.table) (Says moment [] old) (λ table.
    let given = take count (left_of open_cursor.cursor table.entries) in
    let ending = if length given == count then reply.More else reply.CursorEnd in
    (moment.last ≡ None)
    × ((g : ℕ) × (g ≤ length given)
    × (moment.after ≡ record old { cursors = slice_set old.cursors n (Some (record open_cursor { cursor = moved open_cursor.cursor (take g given) })) })
    × (((g ≡ length given) × (moment.replies ≡ rows_of plan given ++ ending ∷ []))
    ⊎ (IsTrue moment.rose × (g < count) × (moment.replies ≡ rows_of plan (take g given) ++ reply.ReadFault ∷ []))))))

-- the first column number above the number of columns
abbrev pub no_column : Plan → List ℕ → Option ℕ
no_column plan columns = find (λ column. nat_lt (length plan.columns) column) columns

abbrev pub WithColumns : Machine → Moment → List ℕ → (Located → Type 0) → Located → Type 0
WithColumns old moment columns P at =
    MatchOption (no_column at.plan columns) (P at) (λ column. Says moment (reply.NoColumn column ∷ []) old)

abbrev pub records_of : KeyRange → Located → List Record
records_of range at = map (λ entry. entry.kept) (selected range None at.table.entries)

abbrev pub note_of : Plan → Record → Reply
note_of plan item = row_of plan (record { kept = item; page = 0; offset = 0 })

abbrev pub group_reply : Group → Reply
group_reply g = reply.Group g.group g.count g.least g.greatest g.sum g.mean

abbrev pub pair_reply : Record × Record → Reply
pair_reply p = reply.Pair p.0.key p.0.values p.1.values

abbrev pub stat_reply : Machine → Table → Reply
stat_reply old table =
    reply.Stat (length table.entries) table.pending (length table.rows.counts) (voids_of table) old.device.programs old.device.erases

abbrev pub cost_reply : Cost → Reply
cost_reply NothingYet = reply.NoCost
cost_reply (OfGet reads limit) = reply.CostGet reads limit
cost_reply (OfScan reads) = reply.CostScan reads

-- From old, the machine may go through a command so.
abbrev pub StepOf : Config → Machine → Moment → Command → Type 0
StepOf config old moment command.Nothing = Says moment [] old
StepOf config old moment command.Mount = MountStep config old moment
StepOf config old moment command.Off = Says moment (reply.Done ∷ []) (stopped old)
StepOf config old moment (command.Cut n kind) =
    Says moment (reply.Done ∷ []) (record old { device = record old.device { armed = Some (n, kind) } })
StepOf config old moment (command.Put name key values blob) =
    WithTable config old moment name (PutStep config old moment (record { key = key; values = values; blob = blob }))
StepOf config old moment (command.Flush name) = WithTable config old moment name (FlushStep config old moment)
StepOf config old moment (command.Get name key) = WithTable config old moment name (GetStep config old moment key)
StepOf config old moment (command.Blob name key) = WithTable config old moment name (BlobStep old moment key)
StepOf config old moment (command.Scan name range span) = WithTable config old moment name (ScanStep config old moment range span)
StepOf config old moment (command.Open cursor name range span) = WithTable config old moment name (OpenStep old moment cursor range span)
StepOf config old moment (command.Next cursor count) =
    WhenMounted old moment (MatchOption (cursor_at old cursor) (Says moment (reply.NoCursor ∷ []) old) (NextStep config old moment cursor count))
StepOf config old moment (command.Close cursor) =
    WhenMounted old moment (MatchOption (cursor_at old cursor) (Says moment (reply.NoCursor ∷ []) old)
    (λ _. Says moment (reply.Done ∷ []) (record old { cursors = slice_set old.cursors cursor None })))
StepOf config old moment (command.Select name range column op value) =
    WithTable config old moment name (WithColumns old moment (column ∷ [])
    (λ at. Counts old moment (map (note_of at.plan) (select column op value (records_of range at))) old))
StepOf config old moment (command.Project name range columns) =
    WithTable config old moment name (WithColumns old moment columns
    (λ at. Counts old moment (map (λ fields. reply.Fields fields) (project columns (records_of range at))) old))
StepOf config old moment (command.Agg name range column width) =
    WithTable config old moment name (WithColumns old moment (column ∷ [])
    (λ at. Counts old moment (map group_reply (aggregate column width (records_of range at))) old))
StepOf config old moment (command.Join left right range) =
    WithTable config old moment left (λ a. WithTable config old moment right (λ b.
    Counts old moment (map pair_reply (key_join (records_of range a) (records_of range b))) old))
StepOf config old moment (command.Stat name) =
    WithTable config old moment name (λ at. Says moment (stat_reply old at.table ∷ []) old)
StepOf config old moment command.Cost = Says moment (cost_reply old.cost ∷ []) old
StepOf config old moment (command.Load name count step seed) =
    WithTable config old moment name (LoadStep config old moment count step seed)
-- configuration lines are no commands of the machine
StepOf config old moment (command.Device page block) = ⊥
StepOf config old moment (command.Table line) = ⊥

abbrev pub Step : Config → Machine → Moment → Type 0
Step config old moment = StepOf config old moment moment.command
