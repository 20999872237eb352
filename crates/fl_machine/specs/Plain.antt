-- The machine as a plain program, over a medium that never fails: one of the steps that it may take.
use Rattle.std.specs.Prelude.{ℕ, zero, suc, ◌+◌, true, false, ◌==◌, Option, Some, None, List, [], ◌∷◌, ◌++◌, length, take, map, slice_get, slice_set, if◌then◌else◌}
use Rattle.fl_base.specs.declared.types.CutKind.{CutKind}
use Rattle.fl_base.specs.Generator.{next_random}
use Rattle.fl_model.specs.Record.{Record, Plan, Config}
use Rattle.fl_model.specs.Table.{Table, Entry, Refusal, refusal_of, put_joined, put_record, table_seals, flushed, lose}
use Rattle.fl_model.specs.Work.{Operation, Ending, AsBefore, AsAfter, Either, ending_of, Device, cut_now, counted, fired, done, Progress, Outcome, Finished, CutShort, Failed, operations_of, changed_at}
use Rattle.fl_model.specs.Puts.{room_operations, join_operations}
use Rattle.fl_model.specs.Mount.{MountEnd, Mounted, Stopped, Unread, Turn, turns_from, turned_at, operations_at}
use Rattle.fl_model.specs.Query.{begin, left_of, moved, selected, entry_at, BlobState, Without, Lost, Stands, blob_of}
use Rattle.fl_model.specs.Spline.{lookup_limit}
use Rattle.fl_model.specs.Operators.{select, project, aggregate, key_join}
use Rattle.fl_words.specs.Command as command
use Rattle.fl_words.specs.Command.{Command}
use Rattle.fl_words.specs.Reply as reply
use Rattle.fl_words.specs.Reply.{Reply}
use Rattle.fl_machine.specs.Machine.{Machine, OpenCursor, OfGet, OfScan, stopped, no_cursors}
use Rattle.fl_machine.specs.Step.{Moment, StepOf, Located, located, all_ready, rows_of, found_reply, cursor_at, no_column, records_of, note_of, group_reply, pair_reply, stat_reply, cost_reply, load_record, refused}

-- the end that a torn operation leaves, or the later one where either may be left
abbrev pub chosen : {S : Type 0} → Ending → S → S → S
chosen AsBefore before after = before
chosen AsAfter before after = after
chosen Either before after = after

abbrev pub perform_first : List Plan → Option CutKind → Operation → Device → List Table → Progress → Progress
perform_first plans (Some kind) operation device tables others =
    record { outcome = CutShort tables; device = fired operation.kind device; tables = chosen (ending_of kind operation.kind) tables (done plans operation tables) }
perform_first plans None operation device tables others = others

abbrev pub perform : List Plan → List Operation → Device → List Table → Progress
perform plans [] device tables = record { outcome = Finished; device = device; tables = tables }
perform plans (operation ∷ operations) device tables =
    perform_first plans (cut_now device) operation device tables (perform plans operations (counted operation.kind device) (done plans operation tables))

abbrev pub mount_on : Outcome → Progress → MountEnd → MountEnd
mount_on Finished end others = others
mount_on (CutShort last) end others = Stopped end
mount_on (Failed last) end others = Stopped end

abbrev pub mount_turns : List Plan → List (ℕ × Turn) → Device → List Table → MountEnd
mount_turns plans [] device tables = Mounted (record { outcome = Finished; device = device; tables = tables })
mount_turns plans (at ∷ turns) device tables =
    let begun = turned_at plans at tables in
    let end = perform plans (operations_at plans at begun) device begun in
    mount_on end.outcome end (mount_turns plans turns end.device end.tables)

abbrev pub says : Command → List Reply → Machine → Moment
says c replies new = record { command = c; rose = false; reads = 0; last = None; replies = replies; after = new }

abbrev pub stops : Command → Machine → Progress → List Table → List Reply → Moment
stops c old end last replies = record {
  command = c;
  rose = false;
  reads = 0;
  last = Some last;
  replies = replies;
  after = stopped (record old { device = end.device; tables = end.tables });
}

abbrev pub ends_as : Command → Outcome → Machine → Progress → List Reply → List Reply → Machine → Moment
ends_as c Finished old end before ok new = says c (before ++ ok) new
ends_as c (CutShort last) old end before ok new = stops c old end last (before ++ reply.PowerLost ∷ [])
ends_as c (Failed last) old end before ok new = stops c old end last (before ++ reply.DeviceFault ∷ [])

abbrev pub located_or : Command → Machine → Option Located → (Located → Moment) → Moment
located_or c old None f = says c (reply.NoTable ∷ []) old
located_or c old (Some at) f = f at

abbrev pub if_mounted : Command → Machine → Moment → Moment
if_mounted c old m = if old.mounted then m else says c (reply.NotMounted ∷ []) old

abbrev pub on_table : Config → Command → Machine → List ℕ → (Located → Moment) → Moment
on_table config c old name f = if_mounted c old (located_or c old (located config old name) f)

abbrev pub ends_mount : Config → Machine → MountEnd → Moment
ends_mount config old (Mounted end) =
    says command.Mount (reply.Done ∷ []) (record old { device = end.device; tables = all_ready config.plans end.tables; mounted = true; cursors = no_cursors })
ends_mount config old (Stopped end) = ends_as command.Mount end.outcome old end [] [] old
ends_mount config old (Unread end) = says command.Mount (reply.DeviceFault ∷ []) (record old { device = end.device; tables = map lose end.tables })

abbrev pub mounts : Config → Machine → Moment
mounts config old =
    if old.mounted then says command.Mount (reply.AlreadyMounted ∷ []) old
    else ends_mount config old (mount_turns config.plans (turns_from 0 config.plans) old.device old.tables)

-- a put of an accepted record
abbrev pub put_on : Outcome → Progress → Progress → Progress
put_on Finished mid others = others
put_on (CutShort last) mid others = mid
put_on (Failed last) mid others = mid

abbrev pub put_performs : List Plan → Plan → ℕ → Record → Table → Device → List Table → Progress
put_performs plans plan place item table device tables =
    let mid = perform plans (room_operations plan place table) device tables in
    put_on mid.outcome mid (perform plans (join_operations plan place item table) mid.device (changed_at place (put_joined plan item) tables))

abbrev pub put_or : Config → Command → Machine → Record → Located → Option Refusal → Moment
put_or config c old item at (Some refusal) = says c (refused refusal ∷ []) old
put_or config c old item at None =
    let end = put_performs config.plans at.plan at.place item at.table old.device old.tables in
    ends_as c end.outcome old end [] (reply.Done ∷ []) (record old { device = end.device; tables = changed_at at.place (put_record at.plan item) old.tables })

abbrev pub flushes : Config → Command → Machine → Located → Moment
flushes config c old at =
    let end = perform config.plans (operations_of at.plan at.place (table_seals at.plan at.table) at.table) old.device old.tables in
    ends_as c end.outcome old end [] (reply.Done ∷ []) (record old { device = end.device; tables = changed_at at.place (flushed at.plan) old.tables })

-- lines and their number
abbrev pub counted_lines : List Reply → List Reply
counted_lines lines = lines ++ reply.EndCount (length lines) ∷ []

abbrev pub blob_replies : BlobState → List Reply
blob_replies Without = reply.NoBlob ∷ []
blob_replies Lost = reply.Gone ∷ []
blob_replies (Stands []) = reply.BytesEmpty ∷ []
blob_replies (Stands (byte ∷ bytes)) = reply.Bytes (byte ∷ bytes) ∷ []

abbrev pub blob_reply : Table → Option Entry → List Reply
blob_reply table None = reply.Absent ∷ []
blob_reply table (Some entry) = blob_replies (blob_of table entry)

abbrev pub next_on : Config → Command → Machine → ℕ → ℕ → OpenCursor → Option Plan → Option Table → Moment
next_on config c old n count open_cursor (Some plan) (Some table) =
    let given = take count (left_of open_cursor.cursor table.entries) in
    let ending = if length given == count then reply.More else reply.CursorEnd in
    says c (rows_of plan given ++ ending ∷ [])
    (record old { cursors = slice_set old.cursors n (Some (record open_cursor { cursor = moved open_cursor.cursor given })) })
next_on config c old n count open_cursor (Some plan) None = says c [] old
next_on config c old n count open_cursor None table = says c [] old

abbrev pub on_cursor : Command → Machine → Option OpenCursor → (OpenCursor → Moment) → Moment
on_cursor c old None f = says c (reply.NoCursor ∷ []) old
on_cursor c old (Some open_cursor) f = f open_cursor

abbrev pub on_columns : Command → Machine → Option ℕ → Moment → Moment
on_columns c old None m = m
on_columns c old (Some column) m = says c (reply.NoColumn column ∷ []) old

abbrev pub loads_on : Command → Outcome → Machine → Progress → ℕ → Moment → Moment
loads_on c Finished old end loaded others = others
loads_on c (CutShort last) old end loaded others = stops c old end last (reply.Loaded loaded ∷ reply.PowerLost ∷ [])
loads_on c (Failed last) old end loaded others = stops c old end last (reply.Loaded loaded ∷ reply.DeviceFault ∷ [])

abbrev pub load_on : Command → Machine → ℕ → Device → List Table → Option Refusal → Moment → Moment
load_on c old loaded device tables None m = m
load_on c old loaded device tables (Some refusal) m = says c (reply.Loaded loaded ∷ refused refusal ∷ []) (record old { device = device; tables = tables })

abbrev pub or_stuck : Command → Machine → Device → List Table → Option Table → (Table → Moment) → Moment
or_stuck c old device tables None f = says c [] (record old { device = device; tables = tables })
or_stuck c old device tables (Some table) f = f table

abbrev pub loads_from : Config → Command → Machine → Plan → ℕ → ℕ → ℕ → ℕ → ℕ → ℕ → ℕ → Device → List Table → Moment
loads_from config c old plan place step seed zero i s loaded device tables =
    says c (reply.Loaded loaded ∷ []) (record old { device = device; tables = tables })
loads_from config c old plan place step seed (suc turns) i s loaded device tables =
    or_stuck c old device tables (slice_get tables place) (λ table.
    let item = load_record plan table step seed i s in
    load_on c old loaded device tables (refusal_of plan table item)
    (let end = put_performs config.plans plan place item table device tables in
    loads_on c end.outcome old end loaded
    (loads_from config c old plan place step seed turns (i + 1) (next_random s) (loaded + 1) end.device (changed_at place (put_record plan item) tables))))

-- a step of each command
abbrev pub plain : Config → Machine → Command → Moment
plain config old command.Nothing = says command.Nothing [] old
plain config old command.Mount = mounts config old
plain config old command.Off = says command.Off (reply.Done ∷ []) (stopped old)
plain config old (command.Cut n kind) = says (command.Cut n kind) (reply.Done ∷ []) (record old { device = record old.device { armed = Some (n, kind) } })
plain config old (command.Put name key values blob) =
    let item : Record = record { key = key; values = values; blob = blob } in
    on_table config (command.Put name key values blob) old name (λ at. put_or config (command.Put name key values blob) old item at (refusal_of at.plan at.table item))
plain config old (command.Flush name) = on_table config (command.Flush name) old name (flushes config (command.Flush name) old)
plain config old (command.Scan name range span) =
    on_table config (command.Scan name range span) old name
    (λ at. says (command.Scan name range span) (counted_lines (rows_of at.plan (selected range span at.table.entries))) (record old { cost = OfScan 0 }))
plain config old (command.Stat name) = on_table config (command.Stat name) old name (λ at. says (command.Stat name) (stat_reply old at.table ∷ []) old)
plain config old command.Cost = says command.Cost (cost_reply old.cost ∷ []) old
plain config old (command.Get name key) =
    on_table config (command.Get name key) old name
    (λ at. says (command.Get name key) (found_reply at.plan (entry_at key at.table.entries) ∷ []) (record old { cost = OfGet 0 (lookup_limit config.knots at.plan at.table key) }))
plain config old (command.Blob name key) =
    on_table config (command.Blob name key) old name (λ at. says (command.Blob name key) (blob_reply at.table (entry_at key at.table.entries)) old)
plain config old (command.Open cursor name range span) =
    on_table config (command.Open cursor name range span) old name
    (λ at. says (command.Open cursor name range span) (reply.Done ∷ []) (record old { cursors = slice_set old.cursors cursor (Some (record { table = at.place; cursor = begin range span at.table })) }))
plain config old (command.Next cursor count) =
    if_mounted (command.Next cursor count) old (on_cursor (command.Next cursor count) old (cursor_at old cursor)
    (λ open_cursor. next_on config (command.Next cursor count) old cursor count open_cursor (slice_get config.plans open_cursor.table) (slice_get old.tables open_cursor.table)))
plain config old (command.Close cursor) =
    if_mounted (command.Close cursor) old (on_cursor (command.Close cursor) old (cursor_at old cursor)
    (λ _. says (command.Close cursor) (reply.Done ∷ []) (record old { cursors = slice_set old.cursors cursor None })))
plain config old (command.Select name range column op value) =
    on_table config (command.Select name range column op value) old name
    (λ at. on_columns (command.Select name range column op value) old (no_column at.plan (column ∷ []))
    (says (command.Select name range column op value) (counted_lines (map (note_of at.plan) (select column op value (records_of range at)))) old))
plain config old (command.Project name range columns) =
    on_table config (command.Project name range columns) old name
    (λ at. on_columns (command.Project name range columns) old (no_column at.plan columns)
    (says (command.Project name range columns) (counted_lines (map (λ fields. reply.Fields fields) (project columns (records_of range at)))) old))
plain config old (command.Agg name range column width) =
    on_table config (command.Agg name range column width) old name
    (λ at. on_columns (command.Agg name range column width) old (no_column at.plan (column ∷ []))
    (says (command.Agg name range column width) (counted_lines (map group_reply (aggregate column width (records_of range at)))) old))
plain config old (command.Join left right range) =
    on_table config (command.Join left right range) old left
    (λ a. on_table config (command.Join left right range) old right
    (λ b. says (command.Join left right range) (counted_lines (map pair_reply (key_join (records_of range a) (records_of range b)))) old))
plain config old (command.Load name count step seed) =
    on_table config (command.Load name count step seed) old name
    (λ at. loads_from config (command.Load name count step seed) old at.plan at.place step seed count 1 (next_random seed) 0 old.device old.tables)
plain config old (command.Device page block) = says (command.Device page block) [] old
plain config old (command.Table line) = says (command.Table line) [] old

-- its run
abbrev pub plain_run : Config → Machine → List Command → List Moment
plain_run config old [] = []
plain_run config old (c ∷ commands) = let m = plain config old c in m ∷ plain_run config m.after commands

-- a command of the machine
abbrev pub IsRun : Command → Type 0
IsRun (command.Device page block) = ⊥
IsRun (command.Table line) = ⊥
IsRun c = Unit {0}

-- In each state each command has a step, without a fault: what the plain machine does.
abbrev pub AlwaysGoesOn : Type 0
AlwaysGoesOn = (config : Config) (old : Machine) (c : Command) → IsRun c → StepOf config old (plain config old c) c
