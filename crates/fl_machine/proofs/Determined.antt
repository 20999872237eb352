-- A run in which nothing fails is that of the plain machine.
use Rattle.std.proofs.Common.{◌≡◌, ℕ, zero, suc, ◌+◌, ◌<◌, ◌≤◌, Bool, true, false, cond, Option, Some, None, List, [], ◌∷◌, ◌++◌, length, map, take, refl, sym, ap, subst, ◌∙◌, arith, ◌⊎◌, inl, inr, MatchOption, MatchBool, slice_set, nat_eq, IsTrue}
use Rattle.std.specs.List.{slice_get, AllByRecursion}
use Rattle.std.proofs.Math.Seq.{take-length}
use Rattle.fl_base.specs.declared.types.CutKind.{CutKind}
use Rattle.fl_base.specs.Generator.{next_random}
use Rattle.fl_base.proofs.Tests.{not_counted}
use Rattle.fl_model.specs.Record.{Plan, Record, Config}
use Rattle.fl_model.specs.Table.{Table, Entry, Refusal, refusal_of, put_joined, put_record, lose, table_seals, flushed}
use Rattle.fl_model.specs.Work.{Operation, Device, cut_now, counted, done, Progress, Outcome, Finished, CutShort, Failed, Performs, PerformsFirst, operations_of, changed_at}
use Rattle.fl_model.specs.Puts.{Puts, PutGoesOn, room_operations, join_operations}
use Rattle.fl_model.specs.Mount.{Turn, Mounts, MountEnd, Mounted, Stopped, Unread, GoesOn, turns_from, turned_at, operations_at}
use Rattle.fl_model.specs.Query.{BlobState, Without, Lost, Stands, blob_of, entry_at, left_of, moved, selected, begin}
use Rattle.fl_model.specs.Operators.{select, project, aggregate, key_join}
use Rattle.fl_words.specs.Command as command
use Rattle.fl_words.specs.Command.{Command, TableLine}
use Rattle.fl_words.specs.Reply as reply
use Rattle.fl_words.specs.Reply.{Reply}
use Rattle.fl_machine.specs.Machine.{Machine, OpenCursor, Cost, NothingYet, OfGet, OfScan, stopped, no_cursors}
use Rattle.fl_machine.specs.Step.{Moment, StepOf, Says, EndsAs, EndsMount, WithTable, Located, located, LoadsFrom, LoadsOn, NextStep, BlobReplies, Lists, Counts, cursor_at, no_column, load_record, rows_of, note_of, records_of, group_reply, pair_reply, stat_reply, cost_reply, refused, all_ready}
use Rattle.fl_machine.specs.Plain.{perform, perform_first, mount_on, mount_turns, put_on, put_performs, says, ends_as, located_or, on_table, ends_mount, mounts, put_or, flushes, plain, blob_replies, blob_reply, next_on, on_cursor, on_columns, loads_on, load_on, or_stuck, loads_from, counted_lines, plain_run}
use Rattle.fl_machine.specs.Run.{Run, end_of, commands_of, risen_in}
use Rattle.fl_machine.specs.Determined.{without_reads, reply_without_reads, state_without_reads, replies_of, IsWhole, IsDetermined}

-- two moments reply the same and go on to the same state, and no operation of the first failed
record Agrees (m n : Moment) : Type 0 where
  last : m.last ≡ None
  replies : map reply_without_reads m.replies ≡ map reply_without_reads n.replies
  after : state_without_reads m.after ≡ state_without_reads n.after

-- the state with another cost, which differs from its own by reads alone
abbrev recost : Cost → Machine → Machine
recost k old = record old { cost = k }

abbrev IsAlike : Cost → Machine → Type 0
IsAlike k old = without_reads old.cost ≡ without_reads k

alike : (k : Cost) (old : Machine) → IsAlike k old → state_without_reads old ≡ state_without_reads (recost k old)
alike k old e = ap (λ cost. record old { cost = cost }) e

agrees-says : (c : Command) (m : Moment) (new other : Machine) (replies : List Reply) → Says m replies new → state_without_reads new ≡ state_without_reads other → Agrees m (says c replies other)
agrees-says c m new other replies h e = record { last = h.last_is; replies = ap (map reply_without_reads) h.replies_are; after = ap state_without_reads h.after_is ∙ e }

pub cut-not-finished : (last : List Table) → CutShort last ≡ Finished → ⊥
cut-not-finished last e = cc

pub failed-not-finished : (last : List Table) → Failed last ≡ Finished → ⊥
failed-not-finished last e = cc

pub not-both : (b : Bool) → b ≡ false → IsTrue b → ⊥
not-both b e h = cc

some-not-none : (last : List Table) → Some last ≡ None → ⊥
some-not-none last e = cc

-- operations that the plain machine finishes are finished so
progress-is : (a : Progress) (o : Outcome) (d : Device) (ts : List Table) → a.outcome ≡ o → a.device ≡ d → a.tables ≡ ts → a ≡ record { outcome = o; device = d; tables = ts }
progress-is a o d ts e f g = rw (sym e, sym f, sym g) refl

performs-finished : (plans : List Plan) (operations : List Operation) (device : Device) (tables : List Table) (end : Progress) →
    Performs plans false operations device tables end → (perform plans operations device tables).outcome ≡ Finished → end ≡ perform plans operations device tables
performs-finished plans [] device tables end (outcome, d, ts) e = progress-is end Finished device tables outcome d ts
performs-finished plans (operation ∷ operations) device tables end h e =
    by_cut (cut_now device) h e (performs-finished plans operations (counted operation.kind device) (done plans operation tables) end)
  where
    others : Progress
    others = perform plans operations (counted operation.kind device) (done plans operation tables)

    by_cut : (now : Option CutKind) → PerformsFirst plans false now operation device tables end (Performs plans false operations (counted operation.kind device) (done plans operation tables) end) →
        (perform_first plans now operation device tables others).outcome ≡ Finished →
        (Performs plans false operations (counted operation.kind device) (done plans operation tables) end → others.outcome ≡ Finished → end ≡ others) →
        end ≡ perform_first plans now operation device tables others
    by_cut (Some kind) h e go = absurd (cut-not-finished tables e)
    by_cut None (inl failed) e go = absurd (not-both false refl failed.0)
    by_cut None (inr goes) e go = go goes e

puts-finished : (plans : List Plan) (plan : Plan) (place : ℕ) (item : Record) (table : Table) (device : Device) (tables : List Table) (end : Progress) →
    Puts plans false plan place item table device tables end → (put_performs plans plan place item table device tables).outcome ≡ Finished → end ≡ put_performs plans plan place item table device tables
puts-finished plans plan place item table device tables end (mid, did, goes) e = by_outcome m.outcome refl e
  where
    first : List Operation
    first = room_operations plan place table

    m : Progress
    m = perform plans first device tables

    joined : List Table
    joined = changed_at place (put_joined plan item) tables

    others : Progress
    others = perform plans (join_operations plan place item table) m.device joined

    by_outcome : (o : Outcome) → m.outcome ≡ o → (put_on o m others).outcome ≡ Finished → end ≡ put_on o m others
    by_outcome Finished q w =
        let is : mid ≡ m = performs-finished plans first device tables mid did q in
        let g : PutGoesOn m.outcome m end (Performs plans false (join_operations plan place item table) m.device joined end) =
        subst (λ (x : Progress). PutGoesOn x.outcome x end (Performs plans false (join_operations plan place item table) x.device joined end)) is goes in
        let h : Performs plans false (join_operations plan place item table) m.device joined end =
        subst (λ (o : Outcome). PutGoesOn o m end (Performs plans false (join_operations plan place item table) m.device joined end)) q g in
        performs-finished plans (join_operations plan place item table) m.device joined end h w
    by_outcome (CutShort last) q w = absurd (cut-not-finished last (sym q ∙ w))
    by_outcome (Failed last) q w = absurd (failed-not-finished last (sym q ∙ w))

ends-finished : (c : Command) (o : Outcome) (old new : Machine) (end : Progress) (before ok : List Reply) → (ends_as c o old end before ok new).last ≡ None → o ≡ Finished
ends-finished c Finished old new end before ok e = refl
ends-finished c (CutShort last) old new end before ok e = absurd (some-not-none last e)
ends-finished c (Failed last) old new end before ok e = absurd (some-not-none last e)

ends-agree : (c : Command) (old other : Machine) (m : Moment) (o : Outcome) (end : Progress) (before ok : List Reply) (new new_other : Machine) →
    state_without_reads new ≡ state_without_reads new_other → o ≡ Finished → EndsAs o old m end before ok new → Agrees m (ends_as c o other end before ok new_other)
ends-agree c old other m Finished end before ok new new_other same e h = agrees-says c m new new_other (before ++ ok) h same
ends-agree c old other m (CutShort last) end before ok new new_other same e h = absurd (cut-not-finished last e)
ends-agree c old other m (Failed last) end before ok new new_other same e h = absurd (failed-not-finished last e)

-- a command that is a list of operations
operations-agree : (c : Command) (plans : List Plan) (old other : Machine) (m : Moment) (operations : List Operation) (before ok : List Reply) (new new_other : Progress → Machine) →
    m.rose ≡ false → ((e : Progress) → state_without_reads (new e) ≡ state_without_reads (new_other e)) →
    ((end : Progress) × Performs plans m.rose operations old.device old.tables end × EndsAs end.outcome old m end before ok (new end)) →
    let e = perform plans operations old.device old.tables in
    (ends_as c e.outcome other e before ok (new_other e)).last ≡ None → Agrees m (ends_as c e.outcome other e before ok (new_other e))
operations-agree c plans old other m operations before ok new new_other rose same (end, did, ends) whole =
    let e = perform plans operations old.device old.tables in
    let finished : e.outcome ≡ Finished = ends-finished c e.outcome other (new_other e) e before ok whole in
    let is : end ≡ e = performs-finished plans operations old.device old.tables end (subst (λ (r : Bool). Performs plans r operations old.device old.tables end) rose did) finished in
    ends-agree c old other m e.outcome e before ok (new e) (new_other e) (same e) finished
    (subst (λ (x : Progress). EndsAs x.outcome old m x before ok (new x)) is ends)

-- a command on a table
on-table : (config : Config) (c : Command) (old : Machine) (k : Cost) (name : List ℕ) (m : Moment) (P : Located → Type 0) (f : Located → Moment) → IsAlike k old →
    WithTable config old m name P → IsWhole (on_table config c (recost k old) name f) → ((at : Located) → P at → IsWhole (f at) → Agrees m (f at)) → Agrees m (on_table config c (recost k old) name f)
on-table config c old k name m P f same h whole go = by_cases old.mounted (located config old name) h whole
  where
    by_cases : (b : Bool) (o : Option Located) → MatchBool b (MatchOption o (Says m (reply.NoTable ∷ []) old) P) (Says m (reply.NotMounted ∷ []) old) →
        let n = cond b (located_or c (recost k old) o f) (says c (reply.NotMounted ∷ []) (recost k old)) in IsWhole n → Agrees m n
    by_cases true None h whole = agrees-says c m old (recost k old) (reply.NoTable ∷ []) h (alike k old same)
    by_cases true (Some at) h whole = go at h whole
    by_cases false o h whole = agrees-says c m old (recost k old) (reply.NotMounted ∷ []) h (alike k old same)

on-columns : (c : Command) (old : Machine) (k : Cost) (o : Option ℕ) (m n : Moment) (P : Type 0) → IsAlike k old →
    MatchOption o P (λ column. Says m (reply.NoColumn column ∷ []) old) → (P → Agrees m n) → Agrees m (on_columns c (recost k old) o n)
on-columns c old k None m n P same h go = go h
on-columns c old k (Some column) m n P same h go = agrees-says c m old (recost k old) (reply.NoColumn column ∷ []) h (alike k old same)

lists-agree : (rose : Bool) (lines : List Reply) (ending : Reply) (replies : List Reply) → rose ≡ false → Lists rose lines ending replies → replies ≡ lines ++ ending ∷ []
lists-agree rose lines ending replies e (inl h) = h
lists-agree rose lines ending replies e (inr h) = absurd (not-both rose e h.0)

counts-agree : (c : Command) (old new other : Machine) (m : Moment) (lines : List Reply) → m.rose ≡ false → Counts old m lines new → state_without_reads new ≡ state_without_reads other →
    Agrees m (says c (counted_lines lines) other)
counts-agree c old new other m lines rose (after, last, lists) same = record {
  last = last;
  replies = ap (map reply_without_reads) (lists-agree m.rose lines (reply.EndCount (length lines)) m.replies rose lists);
  after = ap state_without_reads after ∙ same;
}

-- put and flush
put-agrees : (config : Config) (c : Command) (old : Machine) (k : Cost) (m : Moment) (item : Record) (at : Located) (o : Option Refusal) → IsAlike k old → m.rose ≡ false →
    MatchOption o
    ((end : Progress) × Puts config.plans m.rose at.plan at.place item at.table old.device old.tables end
    × EndsAs end.outcome old m end [] (reply.Done ∷ []) (record old { device = end.device; tables = changed_at at.place (put_record at.plan item) old.tables }))
    (λ refusal. Says m (refused refusal ∷ []) old) →
    IsWhole (put_or config c (recost k old) item at o) → Agrees m (put_or config c (recost k old) item at o)
put-agrees config c old k m item at (Some refusal) same rose h whole = agrees-says c m old (recost k old) (refused refusal ∷ []) h (alike k old same)
put-agrees config c old k m item at None same rose (end, did, ends) whole =
    let e = put_performs config.plans at.plan at.place item at.table old.device old.tables in
    let new : Progress → Machine = λ end. record old { device = end.device; tables = changed_at at.place (put_record at.plan item) old.tables } in
    let new_other : Progress → Machine = λ end. record (recost k old) { device = end.device; tables = changed_at at.place (put_record at.plan item) old.tables } in
    let finished : e.outcome ≡ Finished = ends-finished c e.outcome (recost k old) (new_other e) e [] (reply.Done ∷ []) whole in
    let is : end ≡ e = puts-finished config.plans at.plan at.place item at.table old.device old.tables end (subst (λ (r : Bool). Puts config.plans r at.plan at.place item at.table old.device old.tables end) rose did) finished in
    ends-agree c old (recost k old) m e.outcome e [] (reply.Done ∷ []) (new e) (new_other e)
    (ap (λ (cost : Cost). record old { device = e.device; tables = changed_at at.place (put_record at.plan item) old.tables; cost = cost }) same) finished
    (subst (λ (x : Progress). EndsAs x.outcome old m x [] (reply.Done ∷ []) (new x)) is ends)

flush-agrees : (config : Config) (c : Command) (old : Machine) (k : Cost) (m : Moment) (at : Located) → IsAlike k old → m.rose ≡ false →
    ((end : Progress) × Performs config.plans m.rose (operations_of at.plan at.place (table_seals at.plan at.table) at.table) old.device old.tables end
    × EndsAs end.outcome old m end [] (reply.Done ∷ []) (record old { device = end.device; tables = changed_at at.place (flushed at.plan) old.tables })) →
    IsWhole (flushes config c (recost k old) at) → Agrees m (flushes config c (recost k old) at)
flush-agrees config c old k m at same rose h whole =
    operations-agree c config.plans old (recost k old) m (operations_of at.plan at.place (table_seals at.plan at.table) at.table) [] (reply.Done ∷ [])
    (λ end. record old { device = end.device; tables = changed_at at.place (flushed at.plan) old.tables })
    (λ end. record (recost k old) { device = end.device; tables = changed_at at.place (flushed at.plan) old.tables })
    rose (λ end. ap (λ (cost : Cost). record old { device = end.device; tables = changed_at at.place (flushed at.plan) old.tables; cost = cost }) same) h whole

-- blobs and cursors
blob-agrees : (state : BlobState) (rose : Bool) (replies : List Reply) → rose ≡ false → BlobReplies rose state replies → replies ≡ blob_replies state
blob-agrees Without rose replies e h = h
blob-agrees Lost rose replies e h = h
blob-agrees (Stands []) rose replies e h = h
blob-agrees (Stands (byte ∷ bytes)) rose replies e (inl h) = h
blob-agrees (Stands (byte ∷ bytes)) rose replies e (inr h) = absurd (not-both rose e h.0)

entry-agrees : (table : Table) (o : Option Entry) (rose : Bool) (replies : List Reply) → rose ≡ false →
    MatchOption o (replies ≡ reply.Absent ∷ []) (λ entry. BlobReplies rose (blob_of table entry) replies) → replies ≡ blob_reply table o
entry-agrees table None rose replies e h = h
entry-agrees table (Some entry) rose replies e h = blob-agrees (blob_of table entry) rose replies e h

or-fault : (rose : Bool) (P Q : Type 0) → rose ≡ false → P ⊎ (IsTrue rose × Q) → P
or-fault rose P Q e (inl h) = h
or-fault rose P Q e (inr h) = absurd (not-both rose e h.0)

-- what a cursor gives where no read fails
next-agrees : (config : Config) (c : Command) (old : Machine) (k : Cost) (m : Moment) (n count : ℕ) (open_cursor : OpenCursor) → IsAlike k old → m.rose ≡ false →
    NextStep config old m n count open_cursor →
    Agrees m (next_on config c (recost k old) n count open_cursor (slice_get config.plans open_cursor.table) (slice_get old.tables open_cursor.table))
next-agrees config c old k m n count open_cursor same rose h = by_cases (slice_get config.plans open_cursor.table) (slice_get old.tables open_cursor.table) h
  where
    by_given : (plan : Plan) (given : List Entry) (ending : Reply) (g : ℕ) → m.last ≡ None →
        (m.after ≡ record old { cursors = slice_set old.cursors n (Some (record open_cursor { cursor = moved open_cursor.cursor (take g given) })) }) →
        (g ≡ length given) × (m.replies ≡ rows_of plan given ++ ending ∷ []) →
        Agrees m (says c (rows_of plan given ++ ending ∷ []) (record (recost k old) { cursors = slice_set old.cursors n (Some (record open_cursor { cursor = moved open_cursor.cursor given })) }))
    by_given plan given ending g last after (whole, replies) = record {
      last = last;
      replies = ap (map reply_without_reads) replies;
      after =
          ap state_without_reads after
          ∙ (ap (λ (es : List Entry). record (state_without_reads old) { cursors = slice_set old.cursors n (Some (record open_cursor { cursor = moved open_cursor.cursor es })) }) (ap (λ (i : ℕ). take i given) whole ∙ take-length given)
          ∙ ap (λ (cost : Cost). record old { cursors = slice_set old.cursors n (Some (record open_cursor { cursor = moved open_cursor.cursor given })); cost = cost }) same);
    }

    by_cases : (p : Option Plan) (t : Option Table) →
        MatchOption p (Says m [] old) (λ plan. MatchOption t (Says m [] old) (λ table.
        let given = take count (left_of open_cursor.cursor table.entries) in
        let ending = cond (nat_eq (length given) count) reply.More reply.CursorEnd in
        (m.last ≡ None)
        × ((g : ℕ) × (g ≤ length given)
        × (m.after ≡ record old { cursors = slice_set old.cursors n (Some (record open_cursor { cursor = moved open_cursor.cursor (take g given) })) })
        × (((g ≡ length given) × (m.replies ≡ rows_of plan given ++ ending ∷ []))
        ⊎ (IsTrue m.rose × (g < count) × (m.replies ≡ rows_of plan (take g given) ++ reply.ReadFault ∷ [])))))) →
        Agrees m (next_on config c (recost k old) n count open_cursor p t)
    by_cases None t h = agrees-says c m old (recost k old) [] h (alike k old same)
    by_cases (Some plan) None h = agrees-says c m old (recost k old) [] h (alike k old same)
    by_cases (Some plan) (Some table) (last, (g, within, after, ends)) =
        let given = take count (left_of open_cursor.cursor table.entries) in
        by_given plan given (cond (nat_eq (length given) count) reply.More reply.CursorEnd) g last after (elim ends [ inl h ↦ h | inr h ↦ absurd (not-both m.rose rose h.0) ])

-- a load
loads-agree : (config : Config) (c : Command) (old : Machine) (k : Cost) (m : Moment) (plan : Plan) (place step seed turns i s loaded : ℕ) (device : Device) (tables : List Table) → IsAlike k old → m.rose ≡ false →
    LoadsFrom config old m plan place step seed turns i s loaded device tables →
    IsWhole (loads_from config c (recost k old) plan place step seed turns i s loaded device tables) →
    Agrees m (loads_from config c (recost k old) plan place step seed turns i s loaded device tables)
loads-agree config c old k m plan place step seed zero i s loaded device tables same rose h whole =
    agrees-says c m _ _ (reply.Loaded loaded ∷ []) h (ap (λ (cost : Cost). record old { device = device; tables = tables; cost = cost }) same)
loads-agree config c old k m plan place step seed (suc turns) i s loaded device tables same rose h whole =
    by_table (slice_get tables place) h whole
    (λ d ts. loads-agree config c old k m plan place step seed turns (i + 1) (next_random s) (loaded + 1) d ts same rose)
  where
    Goes : Device → List Table → Type 0
    Goes d ts = LoadsFrom config old m plan place step seed turns (i + 1) (next_random s) (loaded + 1) d ts

    goes : Device → List Table → Moment
    goes d ts = loads_from config c (recost k old) plan place step seed turns (i + 1) (next_random s) (loaded + 1) d ts

    finished : (o : Outcome) (end : Progress) (others : Moment) → IsWhole (loads_on c o (recost k old) end loaded others) → o ≡ Finished
    finished Finished end others e = refl
    finished (CutShort last) end others e = absurd (some-not-none last e)
    finished (Failed last) end others e = absurd (some-not-none last e)

    on_finished : (o : Outcome) (end : Progress) (P : Type 0) (others : Moment) → o ≡ Finished → LoadsOn o old m end loaded P → IsWhole (loads_on c o (recost k old) end loaded others) →
        (P → IsWhole others → Agrees m others) → Agrees m (loads_on c o (recost k old) end loaded others)
    on_finished Finished end P others e h whole go = go h whole
    on_finished (CutShort last) end P others e h whole go = absurd (cut-not-finished last e)
    on_finished (Failed last) end P others e h whole go = absurd (failed-not-finished last e)

    by_refusal : (table : Table) (item : Record) (o : Option Refusal) →
        let e = put_performs config.plans plan place item table device tables in
        MatchOption o
        ((end : Progress) × Puts config.plans m.rose plan place item table device tables end
        × LoadsOn end.outcome old m end loaded (Goes end.device (changed_at place (put_record plan item) tables)))
        (λ refusal. Says m (reply.Loaded loaded ∷ refused refusal ∷ []) (record old { device = device; tables = tables })) →
        let n = load_on c (recost k old) loaded device tables o (loads_on c e.outcome (recost k old) e loaded (goes e.device (changed_at place (put_record plan item) tables))) in
        IsWhole n → ((d : Device) (ts : List Table) → Goes d ts → IsWhole (goes d ts) → Agrees m (goes d ts)) → Agrees m n
    by_refusal table item (Some refusal) h whole go =
        agrees-says c m _ _ (reply.Loaded loaded ∷ refused refusal ∷ []) h (ap (λ (cost : Cost). record old { device = device; tables = tables; cost = cost }) same)
    by_refusal table item None (end, did, on) whole go =
        let e = put_performs config.plans plan place item table device tables in
        let after = changed_at place (put_record plan item) tables in
        let done : e.outcome ≡ Finished = finished e.outcome e (goes e.device after) whole in
        let is : end ≡ e = puts-finished config.plans plan place item table device tables end (subst (λ (r : Bool). Puts config.plans r plan place item table device tables end) rose did) done in
        on_finished e.outcome e (Goes e.device after) (goes e.device after) done
        (subst (λ (x : Progress). LoadsOn x.outcome old m x loaded (Goes x.device after)) is on) whole (go e.device after)

    by_table : (o : Option Table) →
        MatchOption o (Says m [] (record old { device = device; tables = tables })) (λ table.
        let item = load_record plan table step seed i s in
        MatchOption (refusal_of plan table item)
        ((end : Progress) × Puts config.plans m.rose plan place item table device tables end
        × LoadsOn end.outcome old m end loaded (Goes end.device (changed_at place (put_record plan item) tables)))
        (λ refusal. Says m (reply.Loaded loaded ∷ refused refusal ∷ []) (record old { device = device; tables = tables }))) →
        let n = or_stuck c (recost k old) device tables o (λ table.
        let item = load_record plan table step seed i s in
        load_on c (recost k old) loaded device tables (refusal_of plan table item)
        (let end = put_performs config.plans plan place item table device tables in
        loads_on c end.outcome (recost k old) end loaded (goes end.device (changed_at place (put_record plan item) tables)))) in
        IsWhole n → ((d : Device) (ts : List Table) → Goes d ts → IsWhole (goes d ts) → Agrees m (goes d ts)) → Agrees m n
    by_table None h whole go = agrees-says c m _ _ [] h (ap (λ (cost : Cost). record old { device = device; tables = tables; cost = cost }) same)
    by_table (Some table) h whole go = by_refusal table (load_record plan table step seed i s) (refusal_of plan table (load_record plan table step seed i s)) h whole go

-- a mount; where the plain machine stops, an operation failed
abbrev IsEnd : MountEnd → Type 0
IsEnd (Mounted end) = Unit {0}
IsEnd (Stopped end) = end.outcome ≡ Finished
IsEnd (Unread end) = Unit {0}

rings-agree : (plans : List Plan) (rings : List (ℕ × Turn)) (device : Device) (tables : List Table) (how : MountEnd) →
    Mounts plans false rings device tables how → IsEnd (mount_turns plans rings device tables) → how ≡ mount_turns plans rings device tables
rings-agree plans [] device tables how h ends = h
rings-agree plans (at ∷ rings) device tables how h ends =
    by_outcome (perform plans (operations_at plans at (turned_at plans at tables)) device (turned_at plans at tables)).outcome refl ends
    (λ d ts. rings-agree plans rings d ts how) h
  where
    numbered : List Table
    numbered = turned_at plans at tables

    e : Progress
    e = perform plans (operations_at plans at numbered) device numbered

    goes_on : (o : Outcome) (end : Progress) (P : Type 0) → o ≡ Finished → GoesOn o end how P → P
    goes_on Finished end P q h = h
    goes_on (CutShort last) end P q h = absurd (cut-not-finished last q)
    goes_on (Failed last) end P q h = absurd (failed-not-finished last q)

    others : e.outcome ≡ Finished → Mounts plans false (at ∷ rings) device tables how → Mounts plans false rings e.device e.tables how
    others q (inl (end, unread, is)) = absurd (not-both false refl unread.may_fail)
    others q (inr (end, did, goes)) =
        let is : end ≡ e = performs-finished plans (operations_at plans at numbered) device numbered end did q in
        goes_on e.outcome e (Mounts plans false rings e.device e.tables how) q
        (subst (λ (x : Progress). GoesOn x.outcome x how (Mounts plans false rings x.device x.tables how)) is goes)

    by_outcome : (o : Outcome) → e.outcome ≡ o → IsEnd (mount_on o e (mount_turns plans rings e.device e.tables)) →
        ((d : Device) (ts : List Table) → Mounts plans false rings d ts how → IsEnd (mount_turns plans rings d ts) → how ≡ mount_turns plans rings d ts) →
        Mounts plans false (at ∷ rings) device tables how → how ≡ mount_on o e (mount_turns plans rings e.device e.tables)
    by_outcome Finished q ends go h = go e.device e.tables (others q h) ends
    by_outcome (CutShort last) q ends go h = absurd (cut-not-finished last (sym q ∙ ends))
    by_outcome (Failed last) q ends go h = absurd (failed-not-finished last (sym q ∙ ends))

mount-agrees : (config : Config) (old : Machine) (k : Cost) (m : Moment) → IsAlike k old → m.rose ≡ false →
    MatchBool old.mounted (Says m (reply.AlreadyMounted ∷ []) old)
    ((how : MountEnd) × Mounts config.plans m.rose (turns_from 0 config.plans) old.device old.tables how × EndsMount config old m how) →
    IsWhole (mounts config (recost k old)) → Agrees m (mounts config (recost k old))
mount-agrees config old k m same rose h whole = by_test old.mounted h whole
  where
    rings : List (ℕ × Turn)
    rings = turns_from 0 config.plans

    is_end : (how : MountEnd) → IsWhole (ends_mount config (recost k old) how) → IsEnd how
    is_end (Mounted end) w = tt
    is_end (Stopped end) w = ends-finished command.Mount end.outcome (recost k old) (recost k old) end [] [] w
    is_end (Unread end) w = tt

    by_end : (how : MountEnd) → IsEnd how → EndsMount config old m how → Agrees m (ends_mount config (recost k old) how)
    by_end (Mounted end) w h =
        agrees-says command.Mount m _ _ (reply.Done ∷ []) h
        (ap (λ (cost : Cost). record old { device = end.device; tables = all_ready config.plans end.tables; mounted = true; cursors = no_cursors; cost = cost }) same)
    by_end (Stopped end) w h = ends-agree command.Mount old (recost k old) m end.outcome end [] [] old (recost k old) (alike k old same) w h
    by_end (Unread end) w h =
        agrees-says command.Mount m _ _ (reply.DeviceFault ∷ []) h (ap (λ (cost : Cost). record old { device = end.device; tables = map lose end.tables; cost = cost }) same)

    by_how : ((how : MountEnd) × Mounts config.plans m.rose rings old.device old.tables how × EndsMount config old m how) →
        let how = mount_turns config.plans rings old.device old.tables in
        IsWhole (ends_mount config (recost k old) how) → Agrees m (ends_mount config (recost k old) how)
    by_how (how, did, ends) w =
        let plain_how = mount_turns config.plans rings old.device old.tables in
        let end : IsEnd plain_how = is_end plain_how w in
        let is : how ≡ plain_how = rings-agree config.plans rings old.device old.tables how (subst (λ (r : Bool). Mounts config.plans r rings old.device old.tables how) rose did) end in
        by_end plain_how end (subst (λ (x : MountEnd). EndsMount config old m x) is ends)

    by_test : (b : Bool) →
        MatchBool b (Says m (reply.AlreadyMounted ∷ []) old)
        ((how : MountEnd) × Mounts config.plans m.rose rings old.device old.tables how × EndsMount config old m how) →
        let n = cond b (says command.Mount (reply.AlreadyMounted ∷ []) (recost k old)) (ends_mount config (recost k old) (mount_turns config.plans rings old.device old.tables)) in
        IsWhole n → Agrees m n
    by_test true h w = agrees-says command.Mount m old (recost k old) (reply.AlreadyMounted ∷ []) h (alike k old same)
    by_test false h w = by_how h w

cost-agrees : (cost : Cost) → reply_without_reads (cost_reply cost) ≡ cost_reply (without_reads cost)
cost-agrees NothingYet = refl
cost-agrees (OfGet reads limit) = refl
cost-agrees (OfScan reads) = refl

-- a command on a cursor
on-cursor : (c : Command) (old : Machine) (k : Cost) (n : ℕ) (m : Moment) (P : OpenCursor → Type 0) (f : OpenCursor → Moment) → IsAlike k old →
    MatchBool old.mounted (MatchOption (cursor_at old n) (Says m (reply.NoCursor ∷ []) old) P) (Says m (reply.NotMounted ∷ []) old) →
    ((open_cursor : OpenCursor) → P open_cursor → Agrees m (f open_cursor)) →
    Agrees m (cond old.mounted (on_cursor c (recost k old) (cursor_at old n) f) (says c (reply.NotMounted ∷ []) (recost k old)))
on-cursor c old k n m P f same h go = by_cases old.mounted (cursor_at old n) h
  where
    by_cases : (b : Bool) (o : Option OpenCursor) → MatchBool b (MatchOption o (Says m (reply.NoCursor ∷ []) old) P) (Says m (reply.NotMounted ∷ []) old) →
        Agrees m (cond b (on_cursor c (recost k old) o f) (says c (reply.NotMounted ∷ []) (recost k old)))
    by_cases true None h = agrees-says c m old (recost k old) (reply.NoCursor ∷ []) h (alike k old same)
    by_cases true (Some open_cursor) h = go open_cursor h
    by_cases false o h = agrees-says c m old (recost k old) (reply.NotMounted ∷ []) h (alike k old same)

-- each step in which nothing fails is the plain machine's
step-agrees : (config : Config) (old : Machine) (k : Cost) (m : Moment) (c : Command) → IsAlike k old → m.rose ≡ false → StepOf config old m c →
    IsWhole (plain config (recost k old) c) → Agrees m (plain config (recost k old) c)
step-agrees config old k m command.Nothing same rose h whole = agrees-says command.Nothing m old (recost k old) [] h (alike k old same)
step-agrees config old k m command.Mount same rose h whole = mount-agrees config old k m same rose h whole
step-agrees config old k m command.Off same rose h whole =
    agrees-says command.Off m (stopped old) (stopped (recost k old)) (reply.Done ∷ []) h (ap (λ (cost : Cost). record (stopped old) { cost = cost }) same)
step-agrees config old k m (command.Cut n kind) same rose h whole =
    agrees-says (command.Cut n kind) m _ _ (reply.Done ∷ []) h (ap (λ (cost : Cost). record old { device = record old.device { armed = Some (n, kind) }; cost = cost }) same)
step-agrees config old k m (command.Put name key values blob) same rose h whole =
    let item : Record = record { key = key; values = values; blob = blob } in
    on-table config (command.Put name key values blob) old k name m _ _ same h whole
    (λ at p w. put-agrees config (command.Put name key values blob) old k m item at (refusal_of at.plan at.table item) same rose p w)
step-agrees config old k m (command.Flush name) same rose h whole =
    on-table config (command.Flush name) old k name m _ _ same h whole (λ at p w. flush-agrees config (command.Flush name) old k m at same rose p w)
step-agrees config old k m (command.Get name key) same rose h whole =
    on-table config (command.Get name key) old k name m _ _ same h whole
    (λ at p w. record { last = p.1; replies = ap (map reply_without_reads) (or-fault m.rose _ _ rose p.2); after = ap state_without_reads p.0 })
step-agrees config old k m (command.Blob name key) same rose h whole =
    on-table config (command.Blob name key) old k name m _ _ same h whole
    (λ at p w. record {
      last = p.1;
      replies = ap (map reply_without_reads) (entry-agrees at.table (entry_at key at.table.entries) m.rose m.replies rose (or-fault m.rose _ _ rose p.2));
      after = ap state_without_reads p.0 ∙ alike k old same;
    })
step-agrees config old k m (command.Scan name range span) same rose h whole =
    on-table config (command.Scan name range span) old k name m _ _ same h whole
    (λ at p w. counts-agree (command.Scan name range span) old (record old { cost = OfScan m.reads }) (record (recost k old) { cost = OfScan 0 }) m (rows_of at.plan (selected range span at.table.entries)) rose p refl)
step-agrees config old k m (command.Open cursor name range span) same rose h whole =
    on-table config (command.Open cursor name range span) old k name m _ _ same h whole
    (λ at p w. agrees-says (command.Open cursor name range span) m _ _ (reply.Done ∷ []) p
    (ap (λ (cost : Cost). record old { cursors = slice_set old.cursors cursor (Some (record { table = at.place; cursor = begin range span at.table })); cost = cost }) same))
step-agrees config old k m (command.Next cursor count) same rose h whole =
    on-cursor (command.Next cursor count) old k cursor m (NextStep config old m cursor count) _ same h
    (λ open_cursor p. next-agrees config (command.Next cursor count) old k m cursor count open_cursor same rose p)
step-agrees config old k m (command.Close cursor) same rose h whole =
    on-cursor (command.Close cursor) old k cursor m _ _ same h
    (λ open_cursor p. agrees-says (command.Close cursor) m _ _ (reply.Done ∷ []) p (ap (λ (cost : Cost). record old { cursors = slice_set old.cursors cursor None; cost = cost }) same))
step-agrees config old k m (command.Select name range column op value) same rose h whole =
    on-table config (command.Select name range column op value) old k name m _ _ same h whole
    (λ at p w. on-columns (command.Select name range column op value) old k (no_column at.plan (column ∷ [])) m _ _ same p
    (λ q. counts-agree (command.Select name range column op value) old old (recost k old) m (map (note_of at.plan) (select column op value (records_of range at))) rose q (alike k old same)))
step-agrees config old k m (command.Project name range columns) same rose h whole =
    on-table config (command.Project name range columns) old k name m _ _ same h whole
    (λ at p w. on-columns (command.Project name range columns) old k (no_column at.plan columns) m _ _ same p
    (λ q. counts-agree (command.Project name range columns) old old (recost k old) m (map (λ fields. reply.Fields fields) (project columns (records_of range at))) rose q (alike k old same)))
step-agrees config old k m (command.Agg name range column width) same rose h whole =
    on-table config (command.Agg name range column width) old k name m _ _ same h whole
    (λ at p w. on-columns (command.Agg name range column width) old k (no_column at.plan (column ∷ [])) m _ _ same p
    (λ q. counts-agree (command.Agg name range column width) old old (recost k old) m (map group_reply (aggregate column width (records_of range at))) rose q (alike k old same)))
step-agrees config old k m (command.Join left right range) same rose h whole =
    on-table config (command.Join left right range) old k left m _ _ same h whole
    (λ a p w. on-table config (command.Join left right range) old k right m _ _ same p w
    (λ b q v. counts-agree (command.Join left right range) old old (recost k old) m (map pair_reply (key_join (records_of range a) (records_of range b))) rose q (alike k old same)))
step-agrees config old k m (command.Stat name) same rose h whole =
    on-table config (command.Stat name) old k name m _ _ same h whole
    (λ at p w. agrees-says (command.Stat name) m old (recost k old) (stat_reply old at.table ∷ []) p (alike k old same))
step-agrees config old k m command.Cost same rose h whole = record {
  last = h.last_is;
  replies = ap (map reply_without_reads) h.replies_are ∙ ap (λ (r : Reply). r ∷ []) (cost-agrees old.cost ∙ (ap cost_reply same ∙ sym (cost-agrees k)));
  after = ap state_without_reads h.after_is ∙ alike k old same;
}
step-agrees config old k m (command.Load name count step seed) same rose h whole =
    on-table config (command.Load name count step seed) old k name m _ _ same h whole
    (λ at p w. loads-agree config (command.Load name count step seed) old k m at.plan at.place step seed count 1 (next_random seed) 0 old.device old.tables same rose p w)
step-agrees config old k m (command.Device page block) same rose h whole = absurd h
step-agrees config old k m (command.Table line) same rose h whole = absurd h

-- .. and each run
recosted : (old other : Machine) → state_without_reads old ≡ state_without_reads other → recost other.cost old ≡ other
recosted old other h = ap (λ (x : Machine). recost other.cost x) h

one-not-zero : (n : ℕ) → 1 + n ≡ 0 → ⊥
one-not-zero n e = omega arith

risen-others : (b : Bool) (n : ℕ) → cond b 1 0 + n ≡ 0 → n ≡ 0
risen-others true n e = absurd (one-not-zero n e)
risen-others false n e = omega arith

run-agrees : (config : Config) (old other : Machine) (moments : List Moment) → state_without_reads old ≡ state_without_reads other →
    Run config old moments → risen_in moments ≡ 0 → AllByRecursion IsWhole (plain_run config other (commands_of moments)) →
    (replies_of moments ≡ replies_of (plain_run config other (commands_of moments)))
    × (state_without_reads (end_of old moments) ≡ state_without_reads (end_of other (plain_run config other (commands_of moments))))
    × AllByRecursion IsWhole moments
run-agrees config old other [] same run risen whole = (refl, same, tt)
run-agrees config old other (m ∷ ms) same (step, run) risen (first, rest) =
    let n = plain config other m.command in
    let a : Agrees m n =
    subst (λ (x : Machine). IsWhole (plain config x m.command) → Agrees m (plain config x m.command)) (recosted old other same)
    (λ w. step-agrees config old other.cost m m.command (ap (λ (x : Machine). x.cost) same) (not_counted m.rose (risen_in ms) risen) step w) first in
    let others = run-agrees config m.after n.after ms a.after run (risen-others m.rose (risen_in ms) risen) rest in
    (rw (a.replies, others.0) refl, others.1, (a.last, others.2))

pub determined : IsDetermined
determined config old moments run risen whole =
    let h = run-agrees config old old moments refl run risen whole in
    record { replies = h.0; ends = h.1; whole = h.2 }
