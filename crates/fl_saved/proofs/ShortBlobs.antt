-- No blob of a table is longer than its plan allows, in each state of a run that began so.
use Rattle.std.proofs.Common.{◌≡◌, ℕ, zero, suc, ◌+◌, ◌≤◌, Bool, true, false, cond, Option, Some, None, List, [], ◌∷◌, map, refl, sym, ◌∙◌, ap, subst, arith, inl, inr, MatchBool}
use Rattle.std.specs.List.{slice_get, AllByRecursion}
use Rattle.std.proofs.lemmas.Option.{same_Some}
use Rattle.fl_base.specs.Generator.{next_random}
use Rattle.fl_model.specs.Entry.{blob_len}
use Rattle.fl_model.specs.Record.{Record, Plan, Config, has_log}
use Rattle.fl_model.specs.Table.{Table, refusal_of, put_joined, put_record, table_seals, flushed, lose}
use Rattle.fl_model.specs.Work.{Operation, done, Device, Progress, Outcome, Finished, CutShort, Failed, Performs, changed_at}
use Rattle.fl_model.specs.Puts.{Puts, PutGoesOn, join_operations}
use Rattle.fl_model.specs.Mount.{Turn, turned_at, operations_at, turns_from, Mounts, MountEnd, Mounted, Stopped, Unread, GoesOn, ready}
use Rattle.fl_words.specs.Command as command
use Rattle.fl_words.specs.Command.{Command}
use Rattle.fl_words.specs.Reply as reply
use Rattle.fl_machine.specs.Machine.{Machine}
use Rattle.fl_machine.specs.Step.{Moment, StepOf, Says, EndsAs, EndsMount, LoadsFrom, LoadsOn, Located, located, load_record, all_ready}
use Rattle.fl_machine.specs.Run.{Run, end_of}
use Rattle.fl_machine.proofs.Places.{Both, RelAt, both-refl, both-trans, rel-changed_by, rel-changed_at, rel-map}
use Rattle.fl_machine.proofs.StepCases.{IsQuiet, quiet-step, with-option, with-table}
use Rattle.fl_machine.proofs.LoggedPuts.{located-is}
use Rattle.fl_machine.proofs.Performed.{performs-rel}
use Rattle.fl_saved.specs.ShortBlobs.{ShortBlobsStay}
use Rattle.fl_saved.proofs.ShortTables.{Keeps, keeps-effect, keeps-seals, keeps-put, keeps-record, keeps-turned, keeps-lose, keeps-trans, item-short}

-- ---- all tables, seen at one place

abbrev pub KeepsAt : ℕ → ℕ → List Table → List Table → Type 0
KeepsAt limit p xs ys = RelAt (Keeps limit) p xs ys

at-refl : (limit p : ℕ) (xs : List Table) → KeepsAt limit p xs xs
at-refl limit p xs = both-refl (Keeps limit) (λ x g. g) (slice_get xs p)

at-same : (limit p : ℕ) (xs ys : List Table) → ys ≡ xs → KeepsAt limit p xs ys
at-same limit p xs ys e = subst (λ (zs : List Table). KeepsAt limit p xs zs) (sym e) (at-refl limit p xs)

at-trans : (limit p : ℕ) (xs ys zs : List Table) → KeepsAt limit p xs ys → KeepsAt limit p ys zs → KeepsAt limit p xs zs
at-trans limit p xs ys zs h k = both-trans (Keeps limit) (Keeps limit) (Keeps limit) (keeps-trans limit) _ _ _ h k

done-keeps : (limit p : ℕ) (plans : List Plan) (o : Operation) (tables : List Table) → KeepsAt limit p tables (done plans o tables)
done-keeps limit p plans o tables = rel-changed_by (Keeps limit) (λ x g. g) o.table p _ plans tables (λ plan x e f k. keeps-effect limit plan o.ring o.kind x)

performs-keep : (limit p : ℕ) (plans : List Plan) (rose : Bool) (operations : List Operation) (device : Device) (tables : List Table) (end : Progress) →
    Performs plans rose operations device tables end → KeepsAt limit p tables end.tables
performs-keep limit p plans rose operations device tables end h =
    performs-rel (KeepsAt limit p) (at-refl limit p) (at-trans limit p) plans rose operations device tables end (each operations) h
  where
    each : (operations : List Operation) → AllByRecursion (λ o. (xs : List Table) → KeepsAt limit p xs (done plans o xs)) operations
    each [] = tt
    each (o ∷ operations) = (λ xs. done-keeps limit p plans o xs, each operations)

puts-keep : (limit p : ℕ) (plans : List Plan) (rose : Bool) (plan : Plan) (place : ℕ) (item : Record) (table : Table) (device : Device) (tables : List Table) (end : Progress) →
    (place ≡ p → blob_len item ≤ limit) → Puts plans rose plan place item table device tables end → KeepsAt limit p tables end.tables
puts-keep limit p plans rose plan place item table device tables end short (mid, did, goes) = by_outcome mid.outcome goes
  where
    at_mid : KeepsAt limit p tables mid.tables
    at_mid = performs-keep limit p plans rose _ device tables mid did

    by_outcome : (o : Outcome) → PutGoesOn o mid end (Performs plans rose (join_operations plan place item table) mid.device (changed_at place (put_joined plan item) tables) end) → KeepsAt limit p tables end.tables
    by_outcome Finished g =
        at-trans limit p tables (changed_at place (put_joined plan item) tables) end.tables
        (rel-changed_at (Keeps limit) (λ x g. g) place p (put_joined plan item) tables (λ x e. keeps-put limit plan item x (short e)))
        (performs-keep limit p plans rose (join_operations plan place item table) mid.device (changed_at place (put_joined plan item) tables) end g)
    by_outcome (CutShort last) g = subst (λ (x : Progress). KeepsAt limit p tables x.tables) (sym g) at_mid
    by_outcome (Failed last) g = subst (λ (x : Progress). KeepsAt limit p tables x.tables) (sym g) at_mid

lose-keeps : (limit p : ℕ) (tables : List Table) → KeepsAt limit p tables (map lose tables)
lose-keeps limit p tables = rel-map (Keeps limit) p lose tables (λ x. keeps-lose limit x)

ready-keeps : (limit p : ℕ) (plans : List Plan) (tables : List Table) → KeepsAt limit p tables (all_ready plans tables)
ready-keeps limit p [] tables = at-refl limit p tables
ready-keeps limit p (plan ∷ plans) [] = at-refl limit p []
ready-keeps limit zero (plan ∷ plans) (x ∷ xs) = by_log (has_log plan)
  where
    by_log : (l : Bool) → Keeps limit x (cond l x (ready plan x))
    by_log true = λ g. g
    by_log false = λ h. record { records = h.records; logged = h.logged }
ready-keeps limit (suc p) (plan ∷ plans) (x ∷ xs) = ready-keeps limit p plans xs

-- a mount, however it ends
abbrev EndKeeps : ℕ → ℕ → List Table → MountEnd → Type 0
EndKeeps limit p tables (Mounted end) = KeepsAt limit p tables end.tables
EndKeeps limit p tables (Stopped end) = KeepsAt limit p tables end.tables
EndKeeps limit p tables (Unread end) = KeepsAt limit p tables end.tables

end-from : (limit p : ℕ) (tables mid : List Table) (how : MountEnd) → KeepsAt limit p tables mid → EndKeeps limit p mid how → EndKeeps limit p tables how
end-from limit p tables mid (Mounted end) h k = at-trans limit p tables mid end.tables h k
end-from limit p tables mid (Stopped end) h k = at-trans limit p tables mid end.tables h k
end-from limit p tables mid (Unread end) h k = at-trans limit p tables mid end.tables h k

turned-keeps : (limit p : ℕ) (plans : List Plan) (at : ℕ × Turn) (tables : List Table) → KeepsAt limit p tables (turned_at plans at tables)
turned-keeps limit p plans at tables = rel-changed_by (Keeps limit) (λ x g. g) at.0 p _ plans tables (λ plan x e f k. keeps-turned limit plan at.1 x)

mounts-keep : (limit p : ℕ) (plans : List Plan) (rose : Bool) (turns : List (ℕ × Turn)) (device : Device) (tables : List Table) (how : MountEnd) → Mounts plans rose turns device tables how → EndKeeps limit p tables how
mounts-keep limit p plans rose [] device tables how h = subst (EndKeeps limit p tables) (sym h) (at-refl limit p tables)
mounts-keep limit p plans rose (at ∷ turns) device tables how (inl (end, unread, is)) =
    subst (EndKeeps limit p tables) (sym is)
    (at-trans limit p tables (turned_at plans at tables) end.tables (turned-keeps limit p plans at tables) (performs-keep limit p plans rose unread.front device (turned_at plans at tables) end unread.did))
mounts-keep limit p plans rose (at ∷ turns) device tables how (inr (end, did, goes)) =
    by_outcome end.outcome goes (λ g. end-from limit p tables end.tables how here (mounts-keep limit p plans rose turns end.device end.tables how g))
  where
    here : KeepsAt limit p tables end.tables
    here = at-trans limit p tables (turned_at plans at tables) end.tables (turned-keeps limit p plans at tables) (performs-keep limit p plans rose (operations_at plans at (turned_at plans at tables)) device (turned_at plans at tables) end did)

    by_outcome : (o : Outcome) → GoesOn o end how (Mounts plans rose turns end.device end.tables how) → (Mounts plans rose turns end.device end.tables how → EndKeeps limit p tables how) → EndKeeps limit p tables how
    by_outcome Finished g go = go g
    by_outcome (CutShort last) g go = subst (EndKeeps limit p tables) (sym g) here
    by_outcome (Failed last) g go = subst (EndKeeps limit p tables) (sym g) here

-- ---- steps

abbrev StepKeeps : ℕ → ℕ → Machine → Moment → Type 0
StepKeeps limit p old m = KeepsAt limit p old.tables m.after.tables

after-is : (limit p : ℕ) (old : Machine) (m : Moment) (new : Machine) → m.after ≡ new → KeepsAt limit p old.tables new.tables → StepKeeps limit p old m
after-is limit p old m new e h = subst (λ (x : Machine). KeepsAt limit p old.tables x.tables) (sym e) h

stays : (limit p : ℕ) (old : Machine) (m : Moment) (new : Machine) → m.after ≡ new → new.tables ≡ old.tables → StepKeeps limit p old m
stays limit p old m new e s = after-is limit p old m new e (at-same limit p old.tables new.tables s)

quiet : (config : Config) (limit p : ℕ) (old : Machine) (m : Moment) (c : Command) → IsQuiet c → StepOf config old m c → StepKeeps limit p old m
quiet config limit p old m c q h = stays limit p old m m.after refl (quiet-step config old m c q h).tables

ends-keep : (limit p : ℕ) (old new : Machine) (m : Moment) (end : Progress) (o : Outcome) (ok : List _) → KeepsAt limit p old.tables new.tables → KeepsAt limit p old.tables end.tables → EndsAs o old m end [] ok new → StepKeeps limit p old m
ends-keep limit p old new m end Finished ok h k e = after-is limit p old m new e.after_is h
ends-keep limit p old new m end (CutShort last) ok h k e = after-is limit p old m _ e.after_is (at-trans limit p old.tables end.tables (map lose end.tables) k (lose-keeps limit p end.tables))
ends-keep limit p old new m end (Failed last) ok h k e = after-is limit p old m _ e.after_is (at-trans limit p old.tables end.tables (map lose end.tables) k (lose-keeps limit p end.tables))

mount-keeps : (config : Config) (limit p : ℕ) (old : Machine) (m : Moment) (how : MountEnd) → EndKeeps limit p old.tables how → EndsMount config old m how → StepKeeps limit p old m
mount-keeps config limit p old m (Mounted end) h e = after-is limit p old m _ e.after_is (at-trans limit p old.tables end.tables (all_ready config.plans end.tables) h (ready-keeps limit p config.plans end.tables))
mount-keeps config limit p old m (Unread end) h e = after-is limit p old m _ e.after_is (at-trans limit p old.tables end.tables (map lose end.tables) h (lose-keeps limit p end.tables))
mount-keeps config limit p old m (Stopped end) h e = ends-keep limit p old old m end end.outcome [] (at-refl limit p old.tables) h e

loads-keep : (config : Config) (limit p : ℕ) (old : Machine) (m : Moment) (plan : Plan) (place step seed turns i s loaded : ℕ) (device : Device) (tables : List Table) → KeepsAt limit p old.tables tables →
    LoadsFrom config old m plan place step seed turns i s loaded device tables → StepKeeps limit p old m
loads-keep config limit p old m plan place step seed zero i s loaded device tables h did = after-is limit p old m _ did.after_is h
loads-keep config limit p old m plan place step seed (suc turns) i s loaded device tables h did =
    with-option (slice_get tables place) _ _ _ (λ q says. after-is limit p old m _ says.after_is h)
    (λ table q k. with-option (refusal_of plan table (load_record plan table step seed i s)) _ _ _
    (λ ok g.
    let item = load_record plan table step seed i s in
    let next = at-trans limit p old.tables tables (changed_at place (put_record plan item) tables) h (rel-changed_at (Keeps limit) (λ x g. g) place p (put_record plan item) tables (λ x e. keeps-record limit plan item x (omega arith))) in
    goes_on g.0 g.0.outcome (at-trans limit p old.tables tables g.0.tables h (puts-keep limit p config.plans m.rose plan place item table device tables g.0 (λ e. omega arith) g.1)) _
    (λ rest. loads-keep config limit p old m plan place step seed turns (i + 1) (next_random s) (loaded + 1) g.0.device _ next rest) g.2)
    (λ refusal ok says. after-is limit p old m _ says.after_is h) k) did
  where
    goes_on : (end : Progress) (o : Outcome) → KeepsAt limit p old.tables end.tables → (others : Type 0) → (others → StepKeeps limit p old m) → LoadsOn o old m end loaded others → StepKeeps limit p old m
    goes_on end Finished k others rest g = rest g
    goes_on end (CutShort last) k others rest g = after-is limit p old m _ g.after_is (at-trans limit p old.tables end.tables (map lose end.tables) k (lose-keeps limit p end.tables))
    goes_on end (Failed last) k others rest g = after-is limit p old m _ g.after_is (at-trans limit p old.tables end.tables (map lose end.tables) k (lose-keeps limit p end.tables))

step-keeps : (config : Config) (limit p : ℕ) (old : Machine) (m : Moment) (c : Command) → ((plan : Plan) → slice_get config.plans p ≡ Some plan → plan.blob_limit ≤ limit) → StepOf config old m c → StepKeeps limit p old m
step-keeps config limit p old m command.Nothing most h = quiet config limit p old m command.Nothing tt h
step-keeps config limit p old m command.Mount most h = by_test old.mounted h
  where
    by_test : (b : Bool) → MatchBool b (Says m (reply.AlreadyMounted ∷ []) old) ((how : MountEnd) × Mounts config.plans m.rose (turns_from 0 config.plans) old.device old.tables how × EndsMount config old m how) → StepKeeps limit p old m
    by_test true h = stays limit p old m _ h.after_is refl
    by_test false (how, did, ends) = mount-keeps config limit p old m how (mounts-keep limit p config.plans m.rose (turns_from 0 config.plans) old.device old.tables how did) ends
step-keeps config limit p old m command.Off most h = after-is limit p old m _ h.after_is (lose-keeps limit p old.tables)
step-keeps config limit p old m (command.Cut n kind) most h = quiet config limit p old m (command.Cut n kind) tt h
step-keeps config limit p old m (command.Put name key values blob) most h =
    let item : Record = record { key = key; values = values; blob = blob } in
    with-table config old m name _ _
    (λ at a b k. with-option (refusal_of at.plan at.table item) _ _ _
    (λ ok g. ends-keep limit p old _ m g.0 g.0.outcome _
    (rel-changed_at (Keeps limit) (λ x g. g) at.place p (put_record at.plan item) old.tables (λ x e. keeps-record limit at.plan item x (short at a ok e)))
    (puts-keep limit p config.plans m.rose at.plan at.place item at.table old.device old.tables g.0 (short at a ok) g.1) g.2)
    (λ refusal ok says. stays limit p old m _ says.after_is refl) k)
    (λ r s. stays limit p old m _ s.after_is refl) h
  where
    short : (at : Located) → located config old name ≡ Some at → refusal_of at.plan at.table (record { key = key; values = values; blob = blob }) ≡ None → at.place ≡ p → blob_len (record { key = key; values = values; blob = blob }) ≤ limit
    short at a ok e =
        let within = item-short at.plan at.table (record { key = key; values = values; blob = blob }) ok in
        let fits = most at.plan (subst (λ n. slice_get config.plans n ≡ Some at.plan) e (located-is config old name at a).plan) in
        omega (arith, within, fits)
step-keeps config limit p old m (command.Flush name) most h =
    with-table config old m name _ _
    (λ at a b g. ends-keep limit p old _ m g.0 g.0.outcome _
    (rel-changed_at (Keeps limit) (λ x g. g) at.place p (flushed at.plan) old.tables (λ x e. keeps-seals limit at.plan (table_seals at.plan x) x))
    (performs-keep limit p config.plans m.rose _ old.device old.tables g.0 g.1) g.2)
    (λ r s. stays limit p old m _ s.after_is refl) h
step-keeps config limit p old m (command.Get name key) most h = quiet config limit p old m (command.Get name key) tt h
step-keeps config limit p old m (command.Blob name key) most h = quiet config limit p old m (command.Blob name key) tt h
step-keeps config limit p old m (command.Scan name range span) most h = quiet config limit p old m (command.Scan name range span) tt h
step-keeps config limit p old m (command.Open cursor name range span) most h = quiet config limit p old m (command.Open cursor name range span) tt h
step-keeps config limit p old m (command.Next cursor count) most h = quiet config limit p old m (command.Next cursor count) tt h
step-keeps config limit p old m (command.Close cursor) most h = quiet config limit p old m (command.Close cursor) tt h
step-keeps config limit p old m (command.Select name range column op value) most h = quiet config limit p old m (command.Select name range column op value) tt h
step-keeps config limit p old m (command.Project name range columns) most h = quiet config limit p old m (command.Project name range columns) tt h
step-keeps config limit p old m (command.Agg name range column width) most h = quiet config limit p old m (command.Agg name range column width) tt h
step-keeps config limit p old m (command.Join left right range) most h = quiet config limit p old m (command.Join left right range) tt h
step-keeps config limit p old m (command.Stat name) most h = quiet config limit p old m (command.Stat name) tt h
step-keeps config limit p old m command.Cost most h = quiet config limit p old m command.Cost tt h
step-keeps config limit p old m (command.Load name count step seed) most h =
    with-table config old m name _ _ (λ at a b k. loads-keep config limit p old m at.plan at.place step seed count 1 (next_random seed) 0 old.device old.tables (at-refl limit p old.tables) k) (λ r s. stays limit p old m _ s.after_is refl) h
step-keeps config limit p old m (command.Device page block) most h = absurd h
step-keeps config limit p old m (command.Table line) most h = absurd h

run-keeps : (config : Config) (limit p : ℕ) (old : Machine) (moments : List Moment) → ((plan : Plan) → slice_get config.plans p ≡ Some plan → plan.blob_limit ≤ limit) → Run config old moments → KeepsAt limit p old.tables (end_of old moments).tables
run-keeps config limit p old [] most h = at-refl limit p old.tables
run-keeps config limit p old (m ∷ moments) most h =
    at-trans limit p old.tables m.after.tables (end_of m.after moments).tables (step-keeps config limit p old m m.command most h.0) (run-keeps config limit p m.after moments most h.1)

pub short-blobs-stay : ShortBlobsStay
short-blobs-stay = record {
  new = λ plan. record { records = tt; logged = tt };
  runs = λ config old moments place plan before after plan_is before_is short run after_is.
      keeps-lose plan.blob_limit after
      (both_at plan.blob_limit before after (slice_get old.tables place) (slice_get (end_of old moments).tables place) before_is after_is
      (run-keeps config plan.blob_limit place old moments (λ other is. let same = same_Some _ _ (sym plan_is ∙ is) in let e : plan.blob_limit ≡ other.blob_limit = ap (λ (p : Plan). p.blob_limit) same in omega (arith, e)) run) short);
}
  where
    both_at : (limit : ℕ) (before after : Table) (a b : Option Table) → a ≡ Some before → b ≡ Some after → Both (Keeps limit) a b → Keeps limit before after
    both_at limit before after a b e k h = subst (λ (o : Option Table). Both (Keeps limit) (Some before) o) k (subst (λ (o : Option Table). Both (Keeps limit) o b) e h)
