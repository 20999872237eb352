-- A reply that tells of a fault has its cause.
use Rattle.std.proofs.Common.{◌≡◌, ℕ, zero, suc, ◌+◌, ◌<◌, ◌≤◌, Bool, true, false, cond, Option, Some, None, List, [], ◌∷◌, ◌++◌, length, map, take, refl, sym, ap, subst, ◌∙◌, arith, ◌⊎◌, inl, inr, MatchOption, MatchBool, slice_set, nat_eq, IsTrue, zero-add, add-le-add}
use Rattle.std.specs.List.{slice_get, count_by}
use Rattle.std.proofs.lemmas.List.Sums.{sum_by-cons, sum_by_push, sum_by-take-le}
use Rattle.fl_base.specs.declared.types.CutKind.{CutKind}
use Rattle.fl_base.specs.Generator.{next_random}
use Rattle.fl_model.specs.Record.{Plan, Record, Config}
use Rattle.fl_model.specs.Table.{Table, Entry, Refusal, BadKey, BadColumns, BadValue, BadBlob, Spent, refusal_of, put_joined, put_record, table_seals, flushed}
use Rattle.fl_model.specs.Work.{Operation, Device, cut_now, counted, done, Progress, Outcome, Finished, CutShort, Failed, Performs, PerformsFirst, operations_of, changed_at}
use Rattle.fl_model.specs.Puts.{Puts, PutGoesOn, room_operations, join_operations}
use Rattle.fl_model.specs.Mount.{Turn, Mounts, MountEnd, Mounted, Stopped, Unread, GoesOn, turns_from, turned_at, operations_at}
use Rattle.fl_model.specs.Query.{BlobState, Without, Lost, Stands, blob_of, entry_at, left_of, moved, selected}
use Rattle.fl_model.specs.Operators.{select, project, aggregate, key_join}
use Rattle.fl_words.specs.Command as command
use Rattle.fl_words.specs.Command.{Command}
use Rattle.fl_words.specs.Reply as reply
use Rattle.fl_words.specs.Reply.{Reply}
use Rattle.fl_machine.specs.Machine.{Machine, OpenCursor, Cost, NothingYet, OfGet, OfScan}
use Rattle.fl_machine.specs.Step.{Moment, StepOf, Says, EndsAs, EndsMount, WithTable, Located, located, LoadsFrom, LoadsOn, NextStep, BlobReplies, Lists, Counts, cursor_at, no_column, load_record, row_of, rows_of, found_reply, note_of, records_of, group_reply, pair_reply, cost_reply, stat_reply, refused}
use Rattle.fl_machine.specs.Run.{risen_in}
use Rattle.fl_machine.specs.Faults.{is_fault, faults_told, FaultsHaveCauses}

-- no more replies of a moment tell of a fault than its faults rose
abbrev IsCaused : Moment → Type 0
IsCaused m = count_by is_fault m.replies ≤ cond m.rose 1 0

no-fault : (m : Moment) (replies : List Reply) → m.replies ≡ replies → count_by is_fault replies ≡ 0 → IsCaused m
no-fault m replies e z = subst (λ (n : ℕ). n ≤ cond m.rose 1 0) (sym (ap (count_by is_fault) e ∙ z)) (omega arith)

one-fault : (m : Moment) (replies : List Reply) → IsTrue m.rose → m.replies ≡ replies → count_by is_fault replies ≤ 1 → IsCaused m
one-fault m replies rose e h =
    subst (λ (b : Bool). count_by is_fault m.replies ≤ cond b 1 0) (sym rose) (subst (λ (rs : List Reply). count_by is_fault rs ≤ 1) (sym e) h)

none-says : (m : Moment) (replies : List Reply) (new : Machine) → count_by is_fault replies ≡ 0 → Says m replies new → IsCaused m
none-says m replies new z h = no-fault m replies h.replies_are z

-- lines that tell of no fault, and one that may
count-end : (lines : List Reply) (ending : Reply) → count_by is_fault lines ≡ 0 → count_by is_fault (lines ++ ending ∷ []) ≡ cond (is_fault ending) 1 0
count-end lines ending z =
    sum_by_push (λ r. cond (is_fault r) 1 0) lines ending
    ∙ (ap (λ (n : ℕ). n + cond (is_fault ending) 1 0) z ∙ zero-add (cond (is_fault ending) 1 0))

count-map : {X : Type 0} (f : X → Reply) (xs : List X) → ((x : X) → is_fault (f x) ≡ false) → count_by is_fault (map f xs) ≡ 0
count-map f [] h = refl
count-map f (x ∷ xs) h =
    sum_by-cons (λ r. cond (is_fault r) 1 0) (f x) (map f xs)
    ∙ (ap (λ (b : Bool). cond b 1 0 + count_by is_fault (map f xs)) (h x) ∙ (zero-add (count_by is_fault (map f xs)) ∙ count-map f xs h))

none-least : (a b : ℕ) → a ≤ b → b ≡ 0 → a ≡ 0
none-least a b h e = omega arith

count-front : (n : ℕ) (rs : List Reply) → count_by is_fault rs ≡ 0 → count_by is_fault (take n rs) ≡ 0
count-front n rs z = none-least (count_by is_fault (take n rs)) (count_by is_fault rs) (sum_by-take-le (λ r. cond (is_fault r) 1 0) rs n) z

lists-caused : (m : Moment) (lines : List Reply) (ending : Reply) → count_by is_fault lines ≡ 0 → is_fault ending ≡ false → Lists m.rose lines ending m.replies → IsCaused m
lists-caused m lines ending z e (inl h) = no-fault m (lines ++ ending ∷ []) h (count-end lines ending z ∙ ap (λ (b : Bool). cond b 1 0) e)
lists-caused m lines ending z e (inr (rose, (n, within, h))) =
    one-fault m (take n lines ++ reply.ReadFault ∷ []) rose h (rw (count-end (take n lines) reply.ReadFault (count-front n lines z)) (omega arith))

counts-caused : (old new : Machine) (m : Moment) (lines : List Reply) → count_by is_fault lines ≡ 0 → Counts old m lines new → IsCaused m
counts-caused old new m lines z (after, last, lists) = lists-caused m lines (reply.EndCount (length lines)) z refl lists

-- operations
failed-rose : (plans : List Plan) (rose : Bool) (operations : List Operation) (device : Device) (tables : List Table) (end : Progress) (last : List Table) →
    Performs plans rose operations device tables end → end.outcome ≡ Failed last → IsTrue rose
failed-rose plans rose [] device tables end last (outcome, d, ts) e = absurd (let f : ⊥ = differ (sym outcome ∙ e) in f)
  where
    differ : Finished ≡ Failed last → ⊥
    differ e = cc
failed-rose plans rose (operation ∷ operations) device tables end last h e =
    by_cut (cut_now device) h (λ g. failed-rose plans rose operations (counted operation.kind device) (done plans operation tables) end last g e)
  where
    differ : CutShort tables ≡ Failed last → ⊥
    differ e = cc

    by_cut : (now : Option CutKind) → PerformsFirst plans rose now operation device tables end (Performs plans rose operations (counted operation.kind device) (done plans operation tables) end) →
        (Performs plans rose operations (counted operation.kind device) (done plans operation tables) end → IsTrue rose) → IsTrue rose
    by_cut (Some kind) (outcome, d, leaves) go = absurd (differ (sym outcome ∙ e))
    by_cut None (inl failed) go = failed.0
    by_cut None (inr goes) go = go goes

-- .. also of a put
puts-rose : (plans : List Plan) (rose : Bool) (plan : Plan) (place : ℕ) (item : Record) (table : Table) (device : Device) (tables : List Table) (end : Progress) (last : List Table) →
    Puts plans rose plan place item table device tables end → end.outcome ≡ Failed last → IsTrue rose
puts-rose plans rose plan place item table device tables end last (mid, did, goes) e = by_outcome mid.outcome goes
  where
    before : mid.outcome ≡ Failed last → IsTrue rose
    before q = failed-rose plans rose (room_operations plan place table) device tables mid last did q

    by_outcome : (o : Outcome) → PutGoesOn o mid end (Performs plans rose (join_operations plan place item table) mid.device (changed_at place (put_joined plan item) tables) end) → IsTrue rose
    by_outcome Finished g = failed-rose plans rose (join_operations plan place item table) mid.device (changed_at place (put_joined plan item) tables) end last g e
    by_outcome (CutShort l) g = before (ap (λ (x : Progress). x.outcome) (sym g) ∙ e)
    by_outcome (Failed l) g = before (ap (λ (x : Progress). x.outcome) (sym g) ∙ e)

-- they ended so; `before` are replies that tell of no fault
ends-caused : (old new : Machine) (m : Moment) (o : Outcome) (end : Progress) (before ok : List Reply) → count_by is_fault before ≡ 0 → count_by is_fault (before ++ ok) ≡ 0 →
    ((last : List Table) → o ≡ Failed last → IsTrue m.rose) → EndsAs o old m end before ok new → IsCaused m
ends-caused old new m Finished end before ok z w rose h = none-says m (before ++ ok) new w h
ends-caused old new m (CutShort last) end before ok z w rose h = no-fault m (before ++ reply.PowerLost ∷ []) h.replies_are (count-end before reply.PowerLost z)
ends-caused old new m (Failed last) end before ok z w rose h =
    one-fault m (before ++ reply.DeviceFault ∷ []) (rose last refl) h.replies_are (rw (count-end before reply.DeviceFault z) (omega arith))

operations-caused : (plans : List Plan) (old : Machine) (m : Moment) (operations : List Operation) (device : Device) (tables : List Table) (ok : List Reply) (new : Progress → Machine) →
    count_by is_fault ok ≡ 0 → ((end : Progress) × Performs plans m.rose operations device tables end × EndsAs end.outcome old m end [] ok (new end)) → IsCaused m
operations-caused plans old m operations device tables ok new z (end, did, ends) =
    ends-caused old (new end) m end.outcome end [] ok refl z (λ last e. failed-rose plans m.rose operations device tables end last did e) ends

-- a command on a table
on-table : (config : Config) (old : Machine) (name : List ℕ) (m : Moment) (P : Located → Type 0) → WithTable config old m name P → ((at : Located) → P at → IsCaused m) → IsCaused m
on-table config old name m P h go = by_cases old.mounted (located config old name) h
  where
    by_cases : (b : Bool) (o : Option Located) → MatchBool b (MatchOption o (Says m (reply.NoTable ∷ []) old) P) (Says m (reply.NotMounted ∷ []) old) → IsCaused m
    by_cases true None h = none-says m (reply.NoTable ∷ []) old refl h
    by_cases true (Some at) h = go at h
    by_cases false o h = none-says m (reply.NotMounted ∷ []) old refl h

on-columns : (old : Machine) (m : Moment) (o : Option ℕ) (P : Type 0) → MatchOption o P (λ column. Says m (reply.NoColumn column ∷ []) old) → (P → IsCaused m) → IsCaused m
on-columns old m None P h go = go h
on-columns old m (Some column) P h go = none-says m (reply.NoColumn column ∷ []) old refl h

on-cursor : (old : Machine) (n : ℕ) (m : Moment) (P : OpenCursor → Type 0) →
    MatchBool old.mounted (MatchOption (cursor_at old n) (Says m (reply.NoCursor ∷ []) old) P) (Says m (reply.NotMounted ∷ []) old) →
    ((open_cursor : OpenCursor) → P open_cursor → IsCaused m) → IsCaused m
on-cursor old n m P h go = by_cases old.mounted (cursor_at old n) h
  where
    by_cases : (b : Bool) (o : Option OpenCursor) → MatchBool b (MatchOption o (Says m (reply.NoCursor ∷ []) old) P) (Says m (reply.NotMounted ∷ []) old) → IsCaused m
    by_cases true None h = none-says m (reply.NoCursor ∷ []) old refl h
    by_cases true (Some open_cursor) h = go open_cursor h
    by_cases false o h = none-says m (reply.NotMounted ∷ []) old refl h

refused-tells : (refusal : Refusal) → is_fault (refused refusal) ≡ false
refused-tells (BadKey last) = refl
refused-tells (BadColumns wanted) = refl
refused-tells (BadValue column) = refl
refused-tells (BadBlob limit) = refl
refused-tells Spent = refl

count-one : (r : Reply) → is_fault r ≡ false → count_by is_fault (r ∷ []) ≡ 0
count-one r e = ap (λ (b : Bool). 0 + cond b 1 0) e

put-caused : (config : Config) (old : Machine) (m : Moment) (item : Record) (at : Located) (o : Option Refusal) →
    MatchOption o
    ((end : Progress) × Puts config.plans m.rose at.plan at.place item at.table old.device old.tables end
    × EndsAs end.outcome old m end [] (reply.Done ∷ []) (record old { device = end.device; tables = changed_at at.place (put_record at.plan item) old.tables }))
    (λ refusal. Says m (refused refusal ∷ []) old) → IsCaused m
put-caused config old m item at (Some refusal) h = none-says m (refused refusal ∷ []) old (count-one (refused refusal) (refused-tells refusal)) h
put-caused config old m item at None (end, did, ends) =
    ends-caused old _ m end.outcome end [] (reply.Done ∷ []) refl refl (λ last e. puts-rose config.plans m.rose at.plan at.place item at.table old.device old.tables end last did e) ends

-- a mount
rings-caused : (config : Config) (old : Machine) (m : Moment) (rings : List (ℕ × Turn)) (device : Device) (tables : List Table) (how : MountEnd) →
    Mounts config.plans m.rose rings device tables how → EndsMount config old m how → IsCaused m
rings-caused config old m [] device tables how is ends = ended (subst (λ (x : MountEnd). EndsMount config old m x) is ends)
  where
    ended : EndsMount config old m (Mounted (record { outcome = Finished; device = device; tables = tables })) → IsCaused m
    ended h = none-says m (reply.Done ∷ []) _ refl h
rings-caused config old m (at ∷ rings) device tables how (inl (end, unread, is)) ends = unread_end (subst (λ (x : MountEnd). EndsMount config old m x) is ends)
  where
    unread_end : EndsMount config old m (Unread end) → IsCaused m
    unread_end h = one-fault m (reply.DeviceFault ∷ []) unread.may_fail h.replies_are (omega arith)
rings-caused config old m (at ∷ rings) device tables how (inr (end, did, goes)) ends = by_outcome end.outcome refl goes (λ g. rings-caused config old m rings end.device end.tables how g ends)
  where
    numbered : List Table
    numbered = turned_at config.plans at tables

    by_stop : how ≡ Stopped end → IsCaused m
    by_stop is = stop_end (subst (λ (x : MountEnd). EndsMount config old m x) is ends)
      where
        stop_end : EndsMount config old m (Stopped end) → IsCaused m
        stop_end h = ends-caused old old m end.outcome end [] [] refl refl (λ last e. failed-rose config.plans m.rose (operations_at config.plans at numbered) device numbered end last did e) h

    by_outcome : (o : Outcome) → end.outcome ≡ o → GoesOn o end how (Mounts config.plans m.rose rings end.device end.tables how) →
        (Mounts config.plans m.rose rings end.device end.tables how → IsCaused m) → IsCaused m
    by_outcome Finished e h go = go h
    by_outcome (CutShort last) e h go = by_stop h
    by_outcome (Failed last) e h go = by_stop h

mount-caused : (config : Config) (old : Machine) (m : Moment) (b : Bool) →
    MatchBool b (Says m (reply.AlreadyMounted ∷ []) old)
    ((how : MountEnd) × Mounts config.plans m.rose (turns_from 0 config.plans) old.device old.tables how × EndsMount config old m how) → IsCaused m
mount-caused config old m true h = none-says m (reply.AlreadyMounted ∷ []) old refl h
mount-caused config old m false (how, did, ends) = rings-caused config old m (turns_from 0 config.plans) old.device old.tables how did ends

-- lookups and blobs
found-tells : (plan : Plan) (o : Option Entry) → is_fault (found_reply plan o) ≡ false
found-tells plan None = refl
found-tells plan (Some entry) = refl

blob-caused : (m : Moment) (state : BlobState) → BlobReplies m.rose state m.replies → IsCaused m
blob-caused m Without h = no-fault m (reply.NoBlob ∷ []) h refl
blob-caused m Lost h = no-fault m (reply.Gone ∷ []) h refl
blob-caused m (Stands []) h = no-fault m (reply.BytesEmpty ∷ []) h refl
blob-caused m (Stands (byte ∷ bytes)) (inl h) = no-fault m (reply.Bytes (byte ∷ bytes) ∷ []) h refl
blob-caused m (Stands (byte ∷ bytes)) (inr (rose, (n, some, within, h))) = one-fault m (reply.Bytes (take n (byte ∷ bytes)) ∷ reply.ReadFault ∷ []) rose h (omega arith)

entry-caused : (m : Moment) (table : Table) (o : Option Entry) → MatchOption o (m.replies ≡ reply.Absent ∷ []) (λ entry. BlobReplies m.rose (blob_of table entry) m.replies) → IsCaused m
entry-caused m table None h = no-fault m (reply.Absent ∷ []) h refl
entry-caused m table (Some entry) h = blob-caused m (blob_of table entry) h

read-caused : (m : Moment) (P : Type 0) → P ⊎ (IsTrue m.rose × (m.replies ≡ reply.ReadFault ∷ [])) → (P → IsCaused m) → IsCaused m
read-caused m P (inl h) go = go h
read-caused m P (inr h) go = one-fault m (reply.ReadFault ∷ []) h.0 h.1 (omega arith)

rows-tell : (plan : Plan) (entries : List Entry) → count_by is_fault (rows_of plan entries) ≡ 0
rows-tell plan entries = count-map (row_of plan) entries (λ entry. refl)

more-tells : (b : Bool) → is_fault (cond b reply.More reply.CursorEnd) ≡ false
more-tells true = refl
more-tells false = refl

next-caused : (config : Config) (old : Machine) (m : Moment) (n count : ℕ) (open_cursor : OpenCursor) → NextStep config old m n count open_cursor → IsCaused m
next-caused config old m n count open_cursor h = by_cases (slice_get config.plans open_cursor.table) (slice_get old.tables open_cursor.table) h
  where
    by_cases : (p : Option Plan) (t : Option Table) →
        MatchOption p (Says m [] old) (λ plan. MatchOption t (Says m [] old) (λ table.
        let given = take count (left_of open_cursor.cursor table.entries) in
        let ending = cond (nat_eq (length given) count) reply.More reply.CursorEnd in
        (m.last ≡ None)
        × ((g : ℕ) × (g ≤ length given)
        × (m.after ≡ record old { cursors = slice_set old.cursors n (Some (record open_cursor { cursor = moved open_cursor.cursor (take g given) })) })
        × (((g ≡ length given) × (m.replies ≡ rows_of plan given ++ ending ∷ []))
        ⊎ (IsTrue m.rose × (g < count) × (m.replies ≡ rows_of plan (take g given) ++ reply.ReadFault ∷ [])))))) →
        IsCaused m
    by_cases None t h = none-says m [] old refl h
    by_cases (Some plan) None h = none-says m [] old refl h
    by_cases (Some plan) (Some table) (last, (g, within, after, ends)) =
        let given = take count (left_of open_cursor.cursor table.entries) in
        let ending = cond (nat_eq (length given) count) reply.More reply.CursorEnd in
        elim ends [
          | inl h ↦ no-fault m (rows_of plan given ++ ending ∷ []) h.1 (count-end (rows_of plan given) ending (rows-tell plan given) ∙ ap (λ (b : Bool). cond b 1 0) (more-tells (nat_eq (length given) count)))
          | inr h ↦
              one-fault m (rows_of plan (take g given) ++ reply.ReadFault ∷ []) h.0 h.2
              (rw (count-end (rows_of plan (take g given)) reply.ReadFault (rows-tell plan (take g given))) (omega arith))
        ]

-- a load
loads-caused : (config : Config) (old : Machine) (m : Moment) (plan : Plan) (place step seed turns i s loaded : ℕ) (device : Device) (tables : List Table) →
    LoadsFrom config old m plan place step seed turns i s loaded device tables → IsCaused m
loads-caused config old m plan place step seed zero i s loaded device tables h = none-says m (reply.Loaded loaded ∷ []) _ refl h
loads-caused config old m plan place step seed (suc turns) i s loaded device tables h =
    by_table (slice_get tables place) h (λ d ts. loads-caused config old m plan place step seed turns (i + 1) (next_random s) (loaded + 1) d ts)
  where
    Goes : Device → List Table → Type 0
    Goes d ts = LoadsFrom config old m plan place step seed turns (i + 1) (next_random s) (loaded + 1) d ts

    by_outcome : (o : Outcome) (end : Progress) (P : Type 0) → ((last : List Table) → o ≡ Failed last → IsTrue m.rose) → LoadsOn o old m end loaded P → (P → IsCaused m) → IsCaused m
    by_outcome Finished end P rose h go = go h
    by_outcome (CutShort last) end P rose h go = no-fault m (reply.Loaded loaded ∷ reply.PowerLost ∷ []) h.replies_are refl
    by_outcome (Failed last) end P rose h go = one-fault m (reply.Loaded loaded ∷ reply.DeviceFault ∷ []) (rose last refl) h.replies_are (omega arith)

    by_refusal : (table : Table) (item : Record) (o : Option Refusal) →
        MatchOption o
        ((end : Progress) × Puts config.plans m.rose plan place item table device tables end
        × LoadsOn end.outcome old m end loaded (Goes end.device (changed_at place (put_record plan item) tables)))
        (λ refusal. Says m (reply.Loaded loaded ∷ refused refusal ∷ []) (record old { device = device; tables = tables })) →
        ((d : Device) (ts : List Table) → Goes d ts → IsCaused m) → IsCaused m
    by_refusal table item (Some refusal) h go =
        none-says m (reply.Loaded loaded ∷ refused refusal ∷ []) _ (count-one (refused refusal) (refused-tells refusal)) h
    by_refusal table item None (end, did, on) go =
        by_outcome end.outcome end (Goes end.device (changed_at place (put_record plan item) tables))
        (λ last e. puts-rose config.plans m.rose plan place item table device tables end last did e) on
        (go end.device (changed_at place (put_record plan item) tables))

    by_table : (o : Option Table) →
        MatchOption o (Says m [] (record old { device = device; tables = tables })) (λ table.
        let item = load_record plan table step seed i s in
        MatchOption (refusal_of plan table item)
        ((end : Progress) × Puts config.plans m.rose plan place item table device tables end
        × LoadsOn end.outcome old m end loaded (Goes end.device (changed_at place (put_record plan item) tables)))
        (λ refusal. Says m (reply.Loaded loaded ∷ refused refusal ∷ []) (record old { device = device; tables = tables }))) →
        ((d : Device) (ts : List Table) → Goes d ts → IsCaused m) → IsCaused m
    by_table None h go = none-says m [] _ refl h
    by_table (Some table) h go = by_refusal table (load_record plan table step seed i s) (refusal_of plan table (load_record plan table step seed i s)) h go

cost-tells : (cost : Cost) → is_fault (cost_reply cost) ≡ false
cost-tells NothingYet = refl
cost-tells (OfGet reads limit) = refl
cost-tells (OfScan reads) = refl

-- each step
step-caused : (config : Config) (old : Machine) (m : Moment) (c : Command) → StepOf config old m c → IsCaused m
step-caused config old m command.Nothing h = none-says m [] old refl h
step-caused config old m command.Mount h = mount-caused config old m old.mounted h
step-caused config old m command.Off h = none-says m (reply.Done ∷ []) _ refl h
step-caused config old m (command.Cut n kind) h = none-says m (reply.Done ∷ []) _ refl h
step-caused config old m (command.Put name key values blob) h =
    let item : Record = record { key = key; values = values; blob = blob } in
    on-table config old name m _ h (λ at p. put-caused config old m item at (refusal_of at.plan at.table item) p)
step-caused config old m (command.Flush name) h =
    on-table config old name m _ h
    (λ at p. operations-caused config.plans old m (operations_of at.plan at.place (table_seals at.plan at.table) at.table) old.device old.tables (reply.Done ∷ [])
    (λ end. record old { device = end.device; tables = changed_at at.place (flushed at.plan) old.tables }) refl p)
step-caused config old m (command.Get name key) h =
    on-table config old name m _ h
    (λ at p. read-caused m _ p.2 (λ q. no-fault m _ q (count-one (found_reply at.plan (entry_at key at.table.entries)) (found-tells at.plan (entry_at key at.table.entries)))))
step-caused config old m (command.Blob name key) h =
    on-table config old name m _ h (λ at p. read-caused m _ p.2 (λ q. entry-caused m at.table (entry_at key at.table.entries) q))
step-caused config old m (command.Scan name range span) h =
    on-table config old name m _ h (λ at p. counts-caused old _ m (rows_of at.plan (selected range span at.table.entries)) (rows-tell at.plan (selected range span at.table.entries)) p)
step-caused config old m (command.Open cursor name range span) h = on-table config old name m _ h (λ at p. none-says m (reply.Done ∷ []) _ refl p)
step-caused config old m (command.Next cursor count) h = on-cursor old cursor m (NextStep config old m cursor count) h (λ open_cursor p. next-caused config old m cursor count open_cursor p)
step-caused config old m (command.Close cursor) h = on-cursor old cursor m _ h (λ open_cursor p. none-says m (reply.Done ∷ []) _ refl p)
step-caused config old m (command.Select name range column op value) h =
    on-table config old name m _ h
    (λ at p. on-columns old m (no_column at.plan (column ∷ [])) _ p
    (λ q. counts-caused old old m (map (note_of at.plan) (select column op value (records_of range at))) (count-map (note_of at.plan) (select column op value (records_of range at)) (λ x. refl)) q))
step-caused config old m (command.Project name range columns) h =
    on-table config old name m _ h
    (λ at p. on-columns old m (no_column at.plan columns) _ p
    (λ q. counts-caused old old m (map (λ fields. reply.Fields fields) (project columns (records_of range at))) (count-map (λ fields. reply.Fields fields) (project columns (records_of range at)) (λ x. refl)) q))
step-caused config old m (command.Agg name range column width) h =
    on-table config old name m _ h
    (λ at p. on-columns old m (no_column at.plan (column ∷ [])) _ p
    (λ q. counts-caused old old m (map group_reply (aggregate column width (records_of range at))) (count-map group_reply (aggregate column width (records_of range at)) (λ x. refl)) q))
step-caused config old m (command.Join left right range) h =
    on-table config old left m _ h
    (λ a p. on-table config old right m _ p
    (λ b q. counts-caused old old m (map pair_reply (key_join (records_of range a) (records_of range b))) (count-map pair_reply (key_join (records_of range a) (records_of range b)) (λ x. refl)) q))
step-caused config old m (command.Stat name) h = on-table config old name m _ h (λ at p. none-says m (stat_reply old at.table ∷ []) old refl p)
step-caused config old m command.Cost h = none-says m (cost_reply old.cost ∷ []) old (count-one (cost_reply old.cost) (cost-tells old.cost)) h
step-caused config old m (command.Load name count step seed) h =
    on-table config old name m _ h (λ at p. loads-caused config old m at.plan at.place step seed count 1 (next_random seed) 0 old.device old.tables p)
step-caused config old m (command.Device page block) h = absurd h
step-caused config old m (command.Table line) h = absurd h

-- .. and each run
pub faults-caused : FaultsHaveCauses
faults-caused config old [] run = omega arith
faults-caused config old (m ∷ ms) (step, run) =
    let first : count_by is_fault m.replies ≤ cond m.rose 1 0 = step-caused config old m m.command step in
    let others : faults_told ms ≤ risen_in ms = faults-caused config m.after ms run in
    subst (λ (n : ℕ). n ≤ cond m.rose 1 0 + risen_in ms) (sym (sum_by-cons (λ moment. count_by is_fault moment.replies) m ms)) (add-le-add first others)
