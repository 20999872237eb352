-- What the plain machine does is a step, so that the machine always goes on.
use Rattle.std.proofs.Common.{◌≡◌, ℕ, zero, suc, ◌+◌, ◌<◌, ◌≤◌, Bool, true, false, cond, Option, Some, None, List, [], ◌∷◌, ◌++◌, length, map, take, refl, sym, ap, subst, ◌⊎◌, inl, inr, MatchOption, MatchBool, le_refl, slice_set, nat_eq, IsTrue}
use Rattle.std.specs.List.{slice_get}
use Rattle.std.proofs.Math.Seq.{take-length}
use Rattle.fl_base.specs.declared.types.CutKind.{CutKind}
use Rattle.fl_base.specs.Generator.{next_random}
use Rattle.fl_model.specs.Record.{Plan, Record, Config}
use Rattle.fl_model.specs.Table.{Table, Entry, Refusal, refusal_of, put_joined, put_record, table_seals, flushed}
use Rattle.fl_model.specs.Work.{Operation, Ending, AsBefore, AsAfter, Either, ending_of, Leaves, Device, cut_now, counted, done, Progress, Outcome, Finished, CutShort, Failed, Performs, PerformsFirst, operations_of, changed_at}
use Rattle.fl_model.specs.Puts.{Puts, PutGoesOn, room_operations, join_operations}
use Rattle.fl_model.specs.Mount.{Turn, Mounts, MountEnd, Mounted, Stopped, Unread, GoesOn, turns_from, turned_at, operations_at}
use Rattle.fl_model.specs.Query.{BlobState, Without, Lost, Stands, blob_of, entry_at, left_of, moved}
use Rattle.fl_words.specs.Command as command
use Rattle.fl_words.specs.Command.{Command, TableLine}
use Rattle.fl_machine.specs.Run.{Run}
use Rattle.fl_words.specs.Reply as reply
use Rattle.fl_words.specs.Reply.{Reply}
use Rattle.fl_machine.specs.Machine.{Machine, OpenCursor}
use Rattle.fl_machine.specs.Step.{Moment, StepOf, Says, Stops, EndsAs, EndsMount, MountStep, PutStep, FlushStep, WhenMounted, WithTable, WithColumns, Located, located, LoadsFrom, LoadsOn, NextStep, BlobReplies, cursor_at, no_column, load_record, rows_of, LoadStep, GetStep, BlobStep, ScanStep, OpenStep, Counts, note_of, records_of, group_reply, pair_reply, stat_reply, cost_reply, refused}
use Rattle.fl_model.specs.Operators.{select, project, aggregate, key_join}
use Rattle.fl_machine.specs.Plain.{chosen, perform, perform_first, mount_on, mount_turns, put_on, put_performs, says, stops, ends_as, located_or, if_mounted, on_table, ends_mount, mounts, put_or, flushes, plain, blob_replies, blob_reply, next_on, on_cursor, on_columns, loads_on, load_on, or_stuck, loads_from, IsRun, AlwaysGoesOn, plain_run}

chosen-leaves : {S : Type 0} (ending : Ending) (before after : S) → Leaves ending before after (chosen ending before after)
chosen-leaves AsBefore before after = refl
chosen-leaves AsAfter before after = refl
chosen-leaves Either before after = inr refl

performs-first : (plans : List Plan) (now : Option CutKind) (operation : Operation) (device : Device) (tables : List Table) (others : Progress) (P : Progress → Type 0) → P others →
    PerformsFirst plans false now operation device tables (perform_first plans now operation device tables others) (P (perform_first plans now operation device tables others))
performs-first plans (Some kind) operation device tables others P h = (refl, refl, chosen-leaves (ending_of kind operation.kind) tables (done plans operation tables))
performs-first plans None operation device tables others P h = inr h

pub performs-perform : (plans : List Plan) (operations : List Operation) (device : Device) (tables : List Table) → Performs plans false operations device tables (perform plans operations device tables)
performs-perform plans [] device tables = (refl, refl, refl)
performs-perform plans (operation ∷ operations) device tables =
    performs-first plans (cut_now device) operation device tables (perform plans operations (counted operation.kind device) (done plans operation tables))
    (λ end. Performs plans false operations (counted operation.kind device) (done plans operation tables) end)
    (performs-perform plans operations (counted operation.kind device) (done plans operation tables))

put-goes : (o : Outcome) (mid others : Progress) (P : Progress → Type 0) → P others → PutGoesOn o mid (put_on o mid others) (P (put_on o mid others))
put-goes Finished mid others P h = h
put-goes (CutShort last) mid others P h = refl
put-goes (Failed last) mid others P h = refl

puts-perform : (plans : List Plan) (plan : Plan) (place : ℕ) (item : Record) (table : Table) (device : Device) (tables : List Table) →
    Puts plans false plan place item table device tables (put_performs plans plan place item table device tables)
puts-perform plans plan place item table device tables =
    let first = room_operations plan place table in
    let mid = perform plans first device tables in
    let joined = changed_at place (put_joined plan item) tables in (
      mid,
      performs-perform plans first device tables,
      put-goes mid.outcome mid (perform plans (join_operations plan place item table) mid.device joined) (λ end. Performs plans false (join_operations plan place item table) mid.device joined end)
          (performs-perform plans (join_operations plan place item table) mid.device joined),
    )

goes-on : (o : Outcome) (end : Progress) (others : MountEnd) (P : MountEnd → Type 0) → P others → GoesOn o end (mount_on o end others) (P (mount_on o end others))
goes-on Finished end others P h = h
goes-on (CutShort last) end others P h = refl
goes-on (Failed last) end others P h = refl

mounts-rings : (plans : List Plan) (rings : List (ℕ × Turn)) (device : Device) (tables : List Table) → Mounts plans false rings device tables (mount_turns plans rings device tables)
mounts-rings plans [] device tables = refl
mounts-rings plans (at ∷ rings) device tables =
    let numbered = turned_at plans at tables in
    let end = perform plans (operations_at plans at numbered) device numbered in
    inr (
      end,
      performs-perform plans (operations_at plans at numbered) device numbered,
      goes-on end.outcome end (mount_turns plans rings end.device end.tables) (λ how. Mounts plans false rings end.device end.tables how) (mounts-rings plans rings end.device end.tables),
    )

says-says : (c : Command) (old new : Machine) (replies : List Reply) → Says (says c replies new) replies new
says-says c old new replies = record { replies_are = refl; after_is = refl; last_is = refl }

-- what is so of each moment that says and of each that stops
record Moments (c : Command) (P : Moment → Type 0) : Type 0 where
  says_so : (replies : List Reply) (new : Machine) → P (says c replies new)
  stops_so : (old : Machine) (end : Progress) (last : List Table) (replies : List Reply) → P (stops c old end last replies)

abbrev IsCalm : Moment → Type 0
IsCalm m = m.rose ≡ false

calm : (c : Command) → Moments c IsCalm
calm c = record { says_so = λ replies new. refl; stops_so = λ old end last replies. refl }

commands : (c : Command) → Moments c (λ m. m.command ≡ c)
commands c = record { says_so = λ replies new. refl; stops_so = λ old end last replies. refl }

ends-so : (c : Command) (P : Moment → Type 0) → Moments c P → (o : Outcome) (old new : Machine) (end : Progress) (before ok : List Reply) → P (ends_as c o old end before ok new)
ends-so c P so Finished old new end before ok = so.says_so (before ++ ok) new
ends-so c P so (CutShort last) old new end before ok = so.stops_so old end last _
ends-so c P so (Failed last) old new end before ok = so.stops_so old end last _

ends-ends : (c : Command) (o : Outcome) (old new : Machine) (end : Progress) (before ok : List Reply) → EndsAs o old (ends_as c o old end before ok new) end before ok new
ends-ends c Finished old new end before ok = says-says c old new (before ++ ok)
ends-ends c (CutShort last) old new end before ok = record { replies_are = refl; after_is = refl; last_is = refl }
ends-ends c (Failed last) old new end before ok = record { replies_are = refl; after_is = refl; last_is = refl }

on-table : (config : Config) (c : Command) (old : Machine) (name : List ℕ) (f : Located → Moment) (P : Moment → Located → Type 0) → ((at : Located) → P (f at) at) →
    WithTable config old (on_table config c old name f) name (λ at. P (on_table config c old name f) at)
on-table config c old name f P h = by_cases old.mounted (located config old name)
  where
    by_cases : (b : Bool) (o : Option Located) → let m = cond b (located_or c old o f) (says c (reply.NotMounted ∷ []) old) in
        MatchBool b (MatchOption o (Says m (reply.NoTable ∷ []) old) (λ at. P m at)) (Says m (reply.NotMounted ∷ []) old)
    by_cases true None = says-says c old old (reply.NoTable ∷ [])
    by_cases true (Some at) = h at
    by_cases false o = says-says c old old (reply.NotMounted ∷ [])

if-mounted : (c : Command) (old : Machine) (m : Moment) (P : Moment → Type 0) → P m → WhenMounted old (if_mounted c old m) (P (if_mounted c old m))
if-mounted c old m P h = by_test old.mounted
  where
    by_test : (b : Bool) → let n = cond b m (says c (reply.NotMounted ∷ []) old) in MatchBool b (P n) (Says n (reply.NotMounted ∷ []) old)
    by_test true = h
    by_test false = says-says c old old (reply.NotMounted ∷ [])

on-columns : (c : Command) (old : Machine) (o : Option ℕ) (m : Moment) (P : Moment → Type 0) → P m →
    MatchOption o (P (on_columns c old o m)) (λ column. Says (on_columns c old o m) (reply.NoColumn column ∷ []) old)
on-columns c old None m P h = h
on-columns c old (Some column) m P h = says-says c old old (reply.NoColumn column ∷ [])

-- operations and how they end, for a moment of which rose is known
performed : (config : Config) (c : Command) (old : Machine) (new : Progress → Machine) (operations : List Operation) (before ok : List Reply) →
    let end = perform config.plans operations old.device old.tables in
    let m = ends_as c end.outcome old end before ok (new end) in
    (e : Progress) × Performs config.plans m.rose operations old.device old.tables e × EndsAs e.outcome old m e before ok (new e)
performed config c old new operations before ok =
    let end = perform config.plans operations old.device old.tables in (
      end,
      subst (λ (r : Bool). Performs config.plans r operations old.device old.tables end) (sym (ends-so c IsCalm (calm c) end.outcome old (new end) end before ok)) (performs-perform config.plans operations old.device old.tables),
      ends-ends c end.outcome old (new end) end before ok,
    )

put-step : (config : Config) (c : Command) (old : Machine) (item : Record) (at : Located) → PutStep config old (put_or config c old item at (refusal_of at.plan at.table item)) item at
put-step config c old item at = by_refusal (refusal_of at.plan at.table item)
  where
    by_refusal : (o : Option Refusal) → let m = put_or config c old item at o in
        MatchOption o
        ((end : Progress) × Puts config.plans m.rose at.plan at.place item at.table old.device old.tables end
        × EndsAs end.outcome old m end [] (reply.Done ∷ []) (record old { device = end.device; tables = changed_at at.place (put_record at.plan item) old.tables }))
        (λ refusal. Says m (refused refusal ∷ []) old)
    by_refusal (Some refusal) = says-says c old old (refused refusal ∷ [])
    by_refusal None =
        let end = put_performs config.plans at.plan at.place item at.table old.device old.tables in
        let new = record old { device = end.device; tables = changed_at at.place (put_record at.plan item) old.tables } in (
          end,
          subst (λ (r : Bool). Puts config.plans r at.plan at.place item at.table old.device old.tables end) (sym (ends-so c IsCalm (calm c) end.outcome old new end [] (reply.Done ∷ [])))
              (puts-perform config.plans at.plan at.place item at.table old.device old.tables),
          ends-ends c end.outcome old new end [] (reply.Done ∷ []),
        )

flush-step : (config : Config) (c : Command) (old : Machine) (at : Located) → FlushStep config old (flushes config c old at) at
flush-step config c old at =
    performed config c old (λ end. record old { device = end.device; tables = changed_at at.place (flushed at.plan) old.tables })
    (operations_of at.plan at.place (table_seals at.plan at.table) at.table) [] (reply.Done ∷ [])

mount-step : (config : Config) (old : Machine) → MountStep config old (mounts config old)
mount-step config old = by_test old.mounted
  where
    by_end : (how : MountEnd) → EndsMount config old (ends_mount config old how) how
    by_end (Mounted end) = says-says command.Mount old _ (reply.Done ∷ [])
    by_end (Stopped end) = ends-ends command.Mount end.outcome old old end [] []
    by_end (Unread end) = says-says command.Mount old _ (reply.DeviceFault ∷ [])

    rose : (how : MountEnd) → (ends_mount config old how).rose ≡ false
    rose (Mounted end) = refl
    rose (Stopped end) = ends-so command.Mount IsCalm (calm command.Mount) end.outcome old old end [] []
    rose (Unread end) = refl

    by_test : (b : Bool) → let m = cond b (says command.Mount (reply.AlreadyMounted ∷ []) old) (ends_mount config old (mount_turns config.plans (turns_from 0 config.plans) old.device old.tables)) in
        MatchBool b (Says m (reply.AlreadyMounted ∷ []) old) ((how : MountEnd) × Mounts config.plans m.rose (turns_from 0 config.plans) old.device old.tables how × EndsMount config old m how)
    by_test true = says-says command.Mount old old (reply.AlreadyMounted ∷ [])
    by_test false =
        let how = mount_turns config.plans (turns_from 0 config.plans) old.device old.tables in
        (how, subst (λ (r : Bool). Mounts config.plans r (turns_from 0 config.plans) old.device old.tables how) (sym (rose how)) (mounts-rings config.plans (turns_from 0 config.plans) old.device old.tables), by_end how)

blob-replies : (state : BlobState) → BlobReplies false state (blob_replies state)
blob-replies Without = refl
blob-replies Lost = refl
blob-replies (Stands []) = refl
blob-replies (Stands (byte ∷ bytes)) = inl refl

blob-step : (table : Table) (o : Option Entry) → MatchOption o (blob_reply table o ≡ reply.Absent ∷ []) (λ entry. BlobReplies false (blob_of table entry) (blob_reply table o))
blob-step table None = refl
blob-step table (Some entry) = blob-replies (blob_of table entry)

next-step : (config : Config) (c : Command) (old : Machine) (n count : ℕ) (open_cursor : OpenCursor) →
    NextStep config old (next_on config c old n count open_cursor (slice_get config.plans open_cursor.table) (slice_get old.tables open_cursor.table)) n count open_cursor
next-step config c old n count open_cursor = by_cases (slice_get config.plans open_cursor.table) (slice_get old.tables open_cursor.table)
  where
    by_cases : (p : Option Plan) (t : Option Table) → let m = next_on config c old n count open_cursor p t in
        MatchOption p (Says m [] old) (λ plan. MatchOption t (Says m [] old) (λ table.
        let given = take count (left_of open_cursor.cursor table.entries) in
        let ending = cond (nat_eq (length given) count) reply.More reply.CursorEnd in
        (m.last ≡ None)
        × ((g : ℕ) × (g ≤ length given)
        × (m.after ≡ record old { cursors = slice_set old.cursors n (Some (record open_cursor { cursor = moved open_cursor.cursor (take g given) })) })
        × (((g ≡ length given) × (m.replies ≡ rows_of plan given ++ ending ∷ []))
        ⊎ (IsTrue m.rose × (g < count) × (m.replies ≡ rows_of plan (take g given) ++ reply.ReadFault ∷ []))))))
    by_cases None t = says-says c old old []
    by_cases (Some plan) None = says-says c old old []
    by_cases (Some plan) (Some table) =
        let given = take count (left_of open_cursor.cursor table.entries) in (
          refl,
          (
            length given,
            le_refl (length given),
            ap (λ (es : List Entry). record old { cursors = slice_set old.cursors n (Some (record open_cursor { cursor = moved open_cursor.cursor es })) }) (sym (take-length given)),
            inl (refl, refl),
          ),
        )

-- loads
says-eq : (c : Command) (old new : Machine) (replies : List Reply) (m : Moment) → m ≡ says c replies new → Says m replies new
says-eq c old new replies m e = subst (λ (n : Moment). Says n replies new) (sym e) (says-says c old new replies)

stops-eq : (c : Command) (old : Machine) (end : Progress) (last : List Table) (replies : List Reply) (m : Moment) → m ≡ stops c old end last replies → Stops old m end last replies
stops-eq c old end last replies m e = subst (λ (n : Moment). Stops old n end last replies) (sym e) (record { replies_are = refl; after_is = refl; last_is = refl })

loads-so : (config : Config) (c : Command) (P : Moment → Type 0) → Moments c P → (old : Machine) (plan : Plan) (place step seed turns i s loaded : ℕ) (device : Device) (tables : List Table) →
    P (loads_from config c old plan place step seed turns i s loaded device tables)
loads-so config c P so old plan place step seed zero i s loaded device tables = so.says_so _ _
loads-so config c P so old plan place step seed (suc turns) i s loaded device tables =
    by_table (slice_get tables place) (λ d ts. loads-so config c P so old plan place step seed turns (i + 1) (next_random s) (loaded + 1) d ts)
  where
    by_outcome : (o : Outcome) (end : Progress) (others : Moment) → P others → P (loads_on c o old end loaded others)
    by_outcome Finished end others h = h
    by_outcome (CutShort last) end others h = so.stops_so old end last _
    by_outcome (Failed last) end others h = so.stops_so old end last _

    by_refusal : (o : Option Refusal) (m : Moment) → P m → P (load_on c old loaded device tables o m)
    by_refusal None m h = h
    by_refusal (Some refusal) m h = so.says_so _ _

    by_table : (o : Option Table) → ((d : Device) (ts : List Table) → P (loads_from config c old plan place step seed turns (i + 1) (next_random s) (loaded + 1) d ts)) →
        P (or_stuck c old device tables o (λ table.
        let item = load_record plan table step seed i s in
        load_on c old loaded device tables (refusal_of plan table item)
        (let end = put_performs config.plans plan place item table device tables in
        loads_on c end.outcome old end loaded
        (loads_from config c old plan place step seed turns (i + 1) (next_random s) (loaded + 1) end.device (changed_at place (put_record plan item) tables)))))
    by_table None h = so.says_so _ _
    by_table (Some table) h =
        let item = load_record plan table step seed i s in
        let end = put_performs config.plans plan place item table device tables in
        by_refusal (refusal_of plan table item) _ (by_outcome end.outcome end _ (h end.device (changed_at place (put_record plan item) tables)))

loads-steps : (config : Config) (c : Command) (old : Machine) (plan : Plan) (place step seed turns i s loaded : ℕ) (device : Device) (tables : List Table) (m : Moment) →
    m ≡ loads_from config c old plan place step seed turns i s loaded device tables → m.rose ≡ false → LoadsFrom config old m plan place step seed turns i s loaded device tables
loads-steps config c old plan place step seed zero i s loaded device tables m e rose = says-eq c old _ (reply.Loaded loaded ∷ []) m e
loads-steps config c old plan place step seed (suc turns) i s loaded device tables m e rose =
    by_table (slice_get tables place) e (λ d ts q. loads-steps config c old plan place step seed turns (i + 1) (next_random s) (loaded + 1) d ts m q rose)
  where
    by_outcome : (o : Outcome) (end : Progress) (others : Moment) (P : Type 0) → m ≡ loads_on c o old end loaded others → (m ≡ others → P) → LoadsOn o old m end loaded P
    by_outcome Finished end others P e go = go e
    by_outcome (CutShort last) end others P e go = stops-eq c old end last _ m e
    by_outcome (Failed last) end others P e go = stops-eq c old end last _ m e

    by_refusal : (o : Option Refusal) (others : Moment) (P : Type 0) → m ≡ load_on c old loaded device tables o others → (m ≡ others → P) →
        MatchOption o P (λ refusal. Says m (reply.Loaded loaded ∷ refused refusal ∷ []) (record old { device = device; tables = tables }))
    by_refusal None others P e go = go e
    by_refusal (Some refusal) others P e go = says-eq c old _ _ m e

    by_table : (o : Option Table) →
        m ≡ or_stuck c old device tables o (λ table.
        let item = load_record plan table step seed i s in
        load_on c old loaded device tables (refusal_of plan table item)
        (let end = put_performs config.plans plan place item table device tables in
        loads_on c end.outcome old end loaded
        (loads_from config c old plan place step seed turns (i + 1) (next_random s) (loaded + 1) end.device (changed_at place (put_record plan item) tables)))) →
        ((d : Device) (ts : List Table) → m ≡ loads_from config c old plan place step seed turns (i + 1) (next_random s) (loaded + 1) d ts →
        LoadsFrom config old m plan place step seed turns (i + 1) (next_random s) (loaded + 1) d ts) →
        MatchOption o (Says m [] (record old { device = device; tables = tables })) (λ table.
        let item = load_record plan table step seed i s in
        MatchOption (refusal_of plan table item)
        ((end : Progress) × Puts config.plans m.rose plan place item table device tables end
        × LoadsOn end.outcome old m end loaded
        (LoadsFrom config old m plan place step seed turns (i + 1) (next_random s) (loaded + 1) end.device (changed_at place (put_record plan item) tables)))
        (λ refusal. Says m (reply.Loaded loaded ∷ refused refusal ∷ []) (record old { device = device; tables = tables })))
    by_table None e go = says-eq c old _ [] m e
    by_table (Some table) e go =
        let item = load_record plan table step seed i s in
        let end = put_performs config.plans plan place item table device tables in
        by_refusal (refusal_of plan table item) _ _ e
        (λ q. (
          end,
          subst (λ (r : Bool). Puts config.plans r plan place item table device tables end) (sym rose) (puts-perform config.plans plan place item table device tables),
          by_outcome end.outcome end _ _ q (λ z. go end.device (changed_at place (put_record plan item) tables) z),
        ))

-- in each state each command has a step
pub plain-steps : (config : Config) (old : Machine) (c : Command) → IsRun c → StepOf config old (plain config old c) c
plain-steps config old command.Nothing h = says-says command.Nothing old old []
plain-steps config old command.Mount h = mount-step config old
plain-steps config old command.Off h = says-says command.Off old _ (reply.Done ∷ [])
plain-steps config old (command.Cut n kind) h = says-says (command.Cut n kind) old _ (reply.Done ∷ [])
plain-steps config old (command.Put name key values blob) h =
    let c = command.Put name key values blob in
    let item : Record = record { key = key; values = values; blob = blob } in
    on-table config c old name (λ at. put_or config c old item at (refusal_of at.plan at.table item)) (λ m at. PutStep config old m item at) (put-step config c old item)
plain-steps config old (command.Flush name) h =
    let c = command.Flush name in
    on-table config c old name (flushes config c old) (λ m at. FlushStep config old m at) (flush-step config c old)
plain-steps config old (command.Get name key) h =
    on-table config (command.Get name key) old name _ (λ m at. GetStep config old m key at) (λ at. (refl, refl, inl refl))
plain-steps config old (command.Blob name key) h =
    on-table config (command.Blob name key) old name _ (λ m at. BlobStep old m key at) (λ at. (refl, refl, inl (blob-step at.table (entry_at key at.table.entries))))
plain-steps config old (command.Scan name range span) h =
    on-table config (command.Scan name range span) old name _ (λ m at. ScanStep config old m range span at) (λ at. (refl, refl, inl refl))
plain-steps config old (command.Open cursor name range span) h =
    let c = command.Open cursor name range span in
    on-table config c old name _ (λ m at. OpenStep old m cursor range span at) (λ at. says-says c old _ (reply.Done ∷ []))
plain-steps config old (command.Next cursor count) h =
    let c = command.Next cursor count in
    if-mounted c old _ (λ m. MatchOption (cursor_at old cursor) (Says m (reply.NoCursor ∷ []) old) (NextStep config old m cursor count))
    (by_cursor (cursor_at old cursor))
  where
    by_cursor : (o : Option OpenCursor) →
        let c = command.Next cursor count in
        let m = on_cursor c old o (λ open_cursor. next_on config c old cursor count open_cursor (slice_get config.plans open_cursor.table) (slice_get old.tables open_cursor.table)) in
        MatchOption o (Says m (reply.NoCursor ∷ []) old) (NextStep config old m cursor count)
    by_cursor None = says-says (command.Next cursor count) old old (reply.NoCursor ∷ [])
    by_cursor (Some open_cursor) = next-step config (command.Next cursor count) old cursor count open_cursor
plain-steps config old (command.Close cursor) h =
    let c = command.Close cursor in
    if-mounted c old _ (λ m. MatchOption (cursor_at old cursor) (Says m (reply.NoCursor ∷ []) old) (λ _. Says m (reply.Done ∷ []) (record old { cursors = slice_set old.cursors cursor None })))
    (by_cursor (cursor_at old cursor))
  where
    by_cursor : (o : Option OpenCursor) →
        let c = command.Close cursor in
        let m = on_cursor c old o (λ _. says c (reply.Done ∷ []) (record old { cursors = slice_set old.cursors cursor None })) in
        MatchOption o (Says m (reply.NoCursor ∷ []) old) (λ _. Says m (reply.Done ∷ []) (record old { cursors = slice_set old.cursors cursor None }))
    by_cursor None = says-says (command.Close cursor) old old (reply.NoCursor ∷ [])
    by_cursor (Some open_cursor) = says-says (command.Close cursor) old _ (reply.Done ∷ [])
plain-steps config old (command.Select name range column op value) h =
    let c = command.Select name range column op value in
    on-table config c old name _ (λ m at. WithColumns old m (column ∷ []) (λ at. Counts old m (map (note_of at.plan) (select column op value (records_of range at))) old) at)
    (λ at. on-columns c old (no_column at.plan (column ∷ [])) _ (λ m. Counts old m (map (note_of at.plan) (select column op value (records_of range at))) old) (refl, refl, inl refl))
plain-steps config old (command.Project name range columns) h =
    let c = command.Project name range columns in
    on-table config c old name _ (λ m at. WithColumns old m columns (λ at. Counts old m (map (λ fields. reply.Fields fields) (project columns (records_of range at))) old) at)
    (λ at. on-columns c old (no_column at.plan columns) _ (λ m. Counts old m (map (λ fields. reply.Fields fields) (project columns (records_of range at))) old) (refl, refl, inl refl))
plain-steps config old (command.Agg name range column width) h =
    let c = command.Agg name range column width in
    on-table config c old name _ (λ m at. WithColumns old m (column ∷ []) (λ at. Counts old m (map group_reply (aggregate column width (records_of range at))) old) at)
    (λ at. on-columns c old (no_column at.plan (column ∷ [])) _ (λ m. Counts old m (map group_reply (aggregate column width (records_of range at))) old) (refl, refl, inl refl))
plain-steps config old (command.Join left right range) h =
    let c = command.Join left right range in
    on-table config c old left _ (λ m a. WithTable config old m right (λ b. Counts old m (map pair_reply (key_join (records_of range a) (records_of range b))) old))
    (λ a. on-table config c old right _ (λ m b. Counts old m (map pair_reply (key_join (records_of range a) (records_of range b))) old) (λ b. (refl, refl, inl refl)))
plain-steps config old (command.Stat name) h =
    let c = command.Stat name in
    on-table config c old name _ (λ m at. Says m (stat_reply old at.table ∷ []) old) (λ at. says-says c old old (stat_reply old at.table ∷ []))
plain-steps config old command.Cost h = says-says command.Cost old old (cost_reply old.cost ∷ [])
plain-steps config old (command.Load name count step seed) h =
    let c = command.Load name count step seed in
    on-table config c old name _ (λ m at. LoadStep config old m count step seed at)
    (λ at. loads-steps config c old at.plan at.place step seed count 1 (next_random seed) 0 old.device old.tables _ refl
    (loads-so config c IsCalm (calm c) old at.plan at.place step seed count 1 (next_random seed) 0 old.device old.tables))
plain-steps config old (command.Device page block) h = absurd h
plain-steps config old (command.Table line) h = absurd h

-- .. and its moment is of that command
on_table-of : (config : Config) (c : Command) (old : Machine) (name : List ℕ) (f : Located → Moment) → ((at : Located) → (f at).command ≡ c) → (on_table config c old name f).command ≡ c
on_table-of config c old name f h = by_cases old.mounted (located config old name)
  where
    by_cases : (b : Bool) (o : Option Located) → (cond b (located_or c old o f) (says c (reply.NotMounted ∷ []) old)).command ≡ c
    by_cases true None = refl
    by_cases true (Some at) = h at
    by_cases false o = refl

mount-of : (config : Config) (old : Machine) → (mounts config old).command ≡ command.Mount
mount-of config old = by_test old.mounted
  where
    by_end : (how : MountEnd) → (ends_mount config old how).command ≡ command.Mount
    by_end (Mounted end) = refl
    by_end (Stopped end) = ends-so command.Mount (λ m. m.command ≡ command.Mount) (commands command.Mount) end.outcome old old end [] []
    by_end (Unread end) = refl

    by_test : (b : Bool) → (cond b (says command.Mount (reply.AlreadyMounted ∷ []) old) (ends_mount config old (mount_turns config.plans (turns_from 0 config.plans) old.device old.tables))).command ≡ command.Mount
    by_test true = refl
    by_test false = by_end (mount_turns config.plans (turns_from 0 config.plans) old.device old.tables)

put-of : (config : Config) (c : Command) (old : Machine) (item : Record) (at : Located) (o : Option Refusal) → (put_or config c old item at o).command ≡ c
put-of config c old item at (Some refusal) = refl
put-of config c old item at None =
    let end = put_performs config.plans at.plan at.place item at.table old.device old.tables in
    ends-so c (λ m. m.command ≡ c) (commands c) end.outcome old (record old { device = end.device; tables = changed_at at.place (put_record at.plan item) old.tables }) end [] (reply.Done ∷ [])

flush-of : (config : Config) (c : Command) (old : Machine) (at : Located) → (flushes config c old at).command ≡ c
flush-of config c old at =
    let end = perform config.plans (operations_of at.plan at.place (table_seals at.plan at.table) at.table) old.device old.tables in
    ends-so c (λ m. m.command ≡ c) (commands c) end.outcome old (record old { device = end.device; tables = changed_at at.place (flushed at.plan) old.tables }) end [] (reply.Done ∷ [])

columns-of : (c : Command) (old : Machine) (o : Option ℕ) (m : Moment) → m.command ≡ c → (on_columns c old o m).command ≡ c
columns-of c old None m h = h
columns-of c old (Some column) m h = refl

if_mounted-of : (c : Command) (old : Machine) (m : Moment) → m.command ≡ c → (if_mounted c old m).command ≡ c
if_mounted-of c old m h = by_test old.mounted
  where
    by_test : (b : Bool) → (cond b m (says c (reply.NotMounted ∷ []) old)).command ≡ c
    by_test true = h
    by_test false = refl

cursor-of : (c : Command) (old : Machine) (o : Option OpenCursor) (f : OpenCursor → Moment) → ((open_cursor : OpenCursor) → (f open_cursor).command ≡ c) → (on_cursor c old o f).command ≡ c
cursor-of c old None f h = refl
cursor-of c old (Some open_cursor) f h = h open_cursor

next-of : (config : Config) (c : Command) (old : Machine) (n count : ℕ) (open_cursor : OpenCursor) (p : Option Plan) (t : Option Table) → (next_on config c old n count open_cursor p t).command ≡ c
next-of config c old n count open_cursor None t = refl
next-of config c old n count open_cursor (Some plan) None = refl
next-of config c old n count open_cursor (Some plan) (Some table) = refl

pub plain-of : (config : Config) (old : Machine) (c : Command) → (plain config old c).command ≡ c
plain-of config old command.Nothing = refl
plain-of config old command.Mount = mount-of config old
plain-of config old command.Off = refl
plain-of config old (command.Cut n kind) = refl
plain-of config old (command.Put name key values blob) = on_table-of config (command.Put name key values blob) old name _ (λ at. put-of config _ old (record { key = key; values = values; blob = blob }) at _)
plain-of config old (command.Flush name) = on_table-of config (command.Flush name) old name _ (λ at. flush-of config _ old at)
plain-of config old (command.Get name key) = on_table-of config (command.Get name key) old name _ (λ at. refl)
plain-of config old (command.Blob name key) = on_table-of config (command.Blob name key) old name _ (λ at. refl)
plain-of config old (command.Scan name range span) = on_table-of config (command.Scan name range span) old name _ (λ at. refl)
plain-of config old (command.Open cursor name range span) = on_table-of config (command.Open cursor name range span) old name _ (λ at. refl)
plain-of config old (command.Next cursor count) = if_mounted-of (command.Next cursor count) old _ (cursor-of _ old (cursor_at old cursor) _ (λ o. next-of config _ old cursor count o _ _))
plain-of config old (command.Close cursor) = if_mounted-of (command.Close cursor) old _ (cursor-of _ old (cursor_at old cursor) _ (λ o. refl))
plain-of config old (command.Select name range column op value) = on_table-of config (command.Select name range column op value) old name _ (λ at. columns-of _ old _ _ refl)
plain-of config old (command.Project name range columns) = on_table-of config (command.Project name range columns) old name _ (λ at. columns-of _ old _ _ refl)
plain-of config old (command.Agg name range column width) = on_table-of config (command.Agg name range column width) old name _ (λ at. columns-of _ old _ _ refl)
plain-of config old (command.Join left right range) = on_table-of config (command.Join left right range) old left _ (λ a. on_table-of config _ old right _ (λ b. refl))
plain-of config old (command.Stat name) = on_table-of config (command.Stat name) old name _ (λ at. refl)
plain-of config old command.Cost = refl
plain-of config old (command.Load name count step seed) = on_table-of config (command.Load name count step seed) old name _ (λ at. loads-so config _ _ (commands (command.Load name count step seed)) old at.plan at.place step seed count _ _ _ _ _)
plain-of config old (command.Device page block) = refl
plain-of config old (command.Table line) = refl

-- what the plain machine computes is a run
abbrev pub AllRun : List Command → Type 0
AllRun [] = Unit {0}
AllRun (c ∷ commands) = IsRun c × AllRun commands

pub plain-runs : (config : Config) (old : Machine) (commands : List Command) → AllRun commands → Run config old (plain_run config old commands)
plain-runs config old [] h = tt
plain-runs config old (c ∷ commands) h =
    (subst (λ (k : Command). StepOf config old (plain config old c) k) (sym (plain-of config old c)) (plain-steps config old c h.0), plain-runs config (plain config old c).after commands h.1)

pub goes_on : AlwaysGoesOn
goes_on config old c h = plain-steps config old c h
