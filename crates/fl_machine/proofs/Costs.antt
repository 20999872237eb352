-- What `cost` replies: the cost of the last get or scan, which no other command changes.
use Rattle.std.proofs.Common.{◌≡◌, ℕ, ◌+◌, Bool, true, false, cond, Option, Some, None, IfSome, List, [], ◌∷◌, refl, ap, subst, ◌∙◌, MatchOption, MatchBool}
use Rattle.std.specs.List.{slice_get}
use Rattle.std.specs.Option.{is_some}
use Rattle.fl_base.specs.declared.types.KeyRange.{KeyRange}
use Rattle.fl_base.specs.declared.types.Span.{Span}
use Rattle.fl_model.specs.Record.{Plan, Config}
use Rattle.fl_model.specs.Table.{Table}
use Rattle.fl_model.specs.Limits.{scan_limit}
use Rattle.fl_model.specs.Spline.{lookup_limit, lookup_reads}
use Rattle.fl_words.specs.Command as command
use Rattle.fl_words.specs.Command.{Command}
use Rattle.fl_words.specs.Reply as reply
use Rattle.fl_words.specs.Reply.{Reply}
use Rattle.fl_machine.specs.Machine.{Machine, OpenCursor, Cost, OfGet}
use Rattle.fl_machine.specs.Step.{Moment, Step, StepOf, Says, WithTable, Located, located, GetStep, cursor_at, no_column, cost_reply}
use Rattle.fl_machine.specs.Run.{Run}
use Rattle.fl_machine.specs.Reads.{has_reads, is_unread, none_read, blob_limit, OnTable, OnColumns, OnCursor, FaultHasRead, GetExact, ScanExact, ExactOf, RunExact}
use Rattle.fl_machine.specs.AllReads.{Within, GetReads, ScanReads, NextReads, ReadsOf, RunReads}
use Rattle.fl_machine.proofs.StepStays.{Stays, IsOther, says-so, on-table, on-cursor, next-so, other-so}
use Rattle.fl_machine.specs.Costs.{executed_on, cost_of_get, cost_after, TellsCosts, CostsAreTold, PromisedCostsAreTold}

-- neither writes nor sessions change it
abbrev IsCost : Machine → Machine → Type 0
IsCost old new = new.cost ≡ old.cost

cost-stays : (old : Machine) → Stays old (IsCost old)
cost-stays old = record { writes = λ device tables. refl; stops = λ device tables. refl; mounts = λ device tables. refl }

-- a moment leaves the cost
abbrev Keeps : Machine → Moment → Type 0
Keeps old m = IsCost old m.after

says-keeps : (config : Config) (old : Machine) (m : Moment) (replies : List Reply) → Says m replies old → Keeps old m
says-keeps config old m = says-so old (IsCost old) (cost-stays old) config m

-- what is known of the cost before and after
abbrev IsKnown : Option Cost → Cost → Type 0
IsKnown known cost = IfSome known (λ c. cost ≡ c)

known-keeps : (known : Option Cost) (old : Machine) (m : Moment) → IsKnown known old.cost → Keeps old m → IsKnown known m.after.cost
known-keeps None old m k h = tt
known-keeps (Some c) old m k h = h ∙ k

known-other : (config : Config) (old : Machine) (m : Moment) (c : Command) → IsOther c → (known : Option Cost) → IsKnown known old.cost → StepOf config old m c → IsKnown known m.after.cost
known-other config old m c other known k h = known-keeps known old m k (other-so old (IsCost old) (cost-stays old) config m c other h)

get-known : (config : Config) (old : Machine) (m : Moment) (name : List ℕ) (key : ℕ) (known : Option Cost) → IsKnown known old.cost →
    WithTable config old m name (GetStep config old m key) → ExactOf config old m (command.Get name key) →
    IsKnown (cost_of_get config m key known (executed_on config old name)) m.after.cost
get-known config old m name key known k step reads = by_cases old.mounted (located config old name) step reads
  where
    by_reads : (at : Located) (u c : Bool) → is_unread m ≡ u → has_reads config.knots at.plan at.table key ≡ c → GetStep config old m key at → GetExact config m key at →
        IsKnown (cond u None (cond c (Some (OfGet (lookup_reads config.knots at.plan at.table key) (lookup_limit config.knots at.plan at.table key))) None)) m.after.cost
    by_reads at true c e f step reads = tt
    by_reads at false false e f step reads = tt
    by_reads at false true e f step reads =
        ap (λ (x : Machine). x.cost) step.0 ∙ ap (λ (n : ℕ). OfGet n (lookup_limit config.knots at.plan at.table key)) (reads.covered e f)

    by_cases : (b : Bool) (o : Option Located) → MatchBool b (MatchOption o (Says m (reply.NoTable ∷ []) old) (GetStep config old m key)) (Says m (reply.NotMounted ∷ []) old) →
        MatchBool b (MatchOption o (none_read m) (GetExact config m key)) (none_read m) → IsKnown (cost_of_get config m key known (cond b o None)) m.after.cost
    by_cases true None step reads = known-keeps known old m k (says-keeps config old m (reply.NoTable ∷ []) step)
    by_cases true (Some at) step reads = by_reads at (is_unread m) (has_reads config.knots at.plan at.table key) refl refl step reads
    by_cases false o step reads = known-keeps known old m k (says-keeps config old m (reply.NotMounted ∷ []) step)

scan-known : (config : Config) (old : Machine) (m : Moment) (name : List ℕ) (known : Option Cost) (P : Located → Type 0) → IsKnown known old.cost →
    WithTable config old m name P → IsKnown (cond (is_some (executed_on config old name)) None known) m.after.cost
scan-known config old m name known P k step = by_cases old.mounted (located config old name) step
  where
    by_cases : (b : Bool) (o : Option Located) → MatchBool b (MatchOption o (Says m (reply.NoTable ∷ []) old) P) (Says m (reply.NotMounted ∷ []) old) →
        IsKnown (cond (is_some (cond b o None)) None known) m.after.cost
    by_cases true None step = known-keeps known old m k (says-keeps config old m (reply.NoTable ∷ []) step)
    by_cases true (Some at) step = tt
    by_cases false o step = known-keeps known old m k (says-keeps config old m (reply.NotMounted ∷ []) step)

step-known : (config : Config) (old : Machine) (m : Moment) (known : Option Cost) (c : Command) → IsKnown known old.cost → StepOf config old m c → ExactOf config old m c →
    IsKnown (cost_after config old m known c) m.after.cost
step-known config old m known command.Nothing k h r = known-other config old m command.Nothing tt known k h
step-known config old m known command.Mount k h r = known-other config old m command.Mount tt known k h
step-known config old m known command.Off k h r = known-other config old m command.Off tt known k h
step-known config old m known (command.Cut n kind) k h r = known-other config old m (command.Cut n kind) tt known k h
step-known config old m known (command.Put name key values blob) k h r = known-other config old m (command.Put name key values blob) tt known k h
step-known config old m known (command.Flush name) k h r = known-other config old m (command.Flush name) tt known k h
step-known config old m known (command.Get name key) k h r = get-known config old m name key known k h r
step-known config old m known (command.Blob name key) k h r = known-other config old m (command.Blob name key) tt known k h
step-known config old m known (command.Scan name range span) k h r = scan-known config old m name known _ k h
step-known config old m known (command.Open cursor name range span) k h r =
    known-keeps known old m k (on-table old (IsCost old) (cost-stays old) config m name _ h (λ at p. ap (λ (x : Machine). x.cost) p.after_is))
step-known config old m known (command.Next cursor count) k h r =
    known-keeps known old m k (on-cursor old (IsCost old) (cost-stays old) config m cursor _ h
    (λ open_cursor e p. next-so old (IsCost old) (cost-stays old) config m cursor count open_cursor (λ table g. refl) p))
step-known config old m known (command.Close cursor) k h r =
    known-keeps known old m k (on-cursor old (IsCost old) (cost-stays old) config m cursor _ h (λ open_cursor e p. ap (λ (x : Machine). x.cost) p.after_is))
step-known config old m known (command.Select name range column op value) k h r = known-other config old m (command.Select name range column op value) tt known k h
step-known config old m known (command.Project name range columns) k h r = known-other config old m (command.Project name range columns) tt known k h
step-known config old m known (command.Agg name range column width) k h r = known-other config old m (command.Agg name range column width) tt known k h
step-known config old m known (command.Join left right range) k h r = known-other config old m (command.Join left right range) tt known k h
step-known config old m known (command.Stat name) k h r = known-other config old m (command.Stat name) tt known k h
step-known config old m known command.Cost k h r = known-other config old m command.Cost tt known k h
step-known config old m known (command.Load name count step seed) k h r = known-other config old m (command.Load name count step seed) tt known k h
step-known config old m known (command.Device page block) k h r = absurd h
step-known config old m known (command.Table line) k h r = absurd h

-- `cost` replies what is known
cost-known : (config : Config) (old : Machine) (m : Moment) (known : Option Cost) → IsKnown known old.cost → Step config old m → m.command ≡ command.Cost →
    IfSome known (λ cost. m.replies ≡ cost_reply cost ∷ [])
cost-known config old m None k step e = tt
cost-known config old m (Some c) k step e =
    let h : StepOf config old m command.Cost = subst (λ (x : Command). StepOf config old m x) e step in
    h.replies_are ∙ ap (λ (cost : Cost). cost_reply cost ∷ []) k

run-known : (config : Config) (old : Machine) (moments : List Moment) (known : Option Cost) → IsKnown known old.cost → Run config old moments → RunExact config old moments → TellsCosts config known old moments
run-known config old [] known k run reads = tt
run-known config old (m ∷ ms) known k (step, run) (read, reads) = (
  cost-known config old m known k step,
  run-known config m.after ms (cost_after config old m known m.command) (step-known config old m known m.command k step read) run reads,
)

pub promised-costs-told : PromisedCostsAreTold
promised-costs-told config old moments run reads = run-known config old moments (Some old.cost) refl run reads

-- what is said of the located table may be weakened
pub on-table-weaker : (config : Config) (old : Machine) (m : Moment) (name : List ℕ) (P Q : Located → Type 0) → ((at : Located) → P at → Q at) → OnTable config old m name P → OnTable config old m name Q
on-table-weaker config old m name P Q go h = by_cases old.mounted (located config old name) h
  where
    by_cases : (b : Bool) (o : Option Located) → MatchBool b (MatchOption o (none_read m) P) (none_read m) → MatchBool b (MatchOption o (none_read m) Q) (none_read m)
    by_cases true None h = h
    by_cases true (Some at) h = go at h
    by_cases false o h = h

-- a scan reads no fewer pages than it must
scan-read : (config : Config) (m : Moment) (range : KeyRange) (span : Option Span) (at : Located) → ScanReads config m range span at → ScanExact m range span at
scan-read config m range span at h = record { least = h.1; failed = h.0.1 }

-- a cursor whose read failed has read
next-read : (config : Config) (old : Machine) (m : Moment) (n : ℕ) → OnCursor config old m n (NextReads config m) → OnCursor config old m n (λ c plan table. FaultHasRead m)
next-read config old m n h = by_cursor old.mounted (cursor_at old n) h
  where
    by_table : (c : OpenCursor) (plan : Plan) (o : Option Table) → MatchOption o (none_read m) (NextReads config m c plan) → MatchOption o (none_read m) (λ table. FaultHasRead m)
    by_table c plan None h = h
    by_table c plan (Some table) h = h.1

    by_plan : (c : OpenCursor) (o : Option Plan) → MatchOption o (none_read m) (λ plan. MatchOption (slice_get old.tables c.table) (none_read m) (NextReads config m c plan)) →
        MatchOption o (none_read m) (λ plan. MatchOption (slice_get old.tables c.table) (none_read m) (λ table. FaultHasRead m))
    by_plan c None h = h
    by_plan c (Some plan) h = by_table c plan (slice_get old.tables c.table) h

    by_cursor : (b : Bool) (o : Option OpenCursor) →
        MatchBool b (MatchOption o (none_read m) (λ c. MatchOption (slice_get config.plans c.table) (none_read m) (λ plan. MatchOption (slice_get old.tables c.table) (none_read m) (NextReads config m c plan)))) (none_read m) →
        MatchBool b (MatchOption o (none_read m) (λ c. MatchOption (slice_get config.plans c.table) (none_read m) (λ plan. MatchOption (slice_get old.tables c.table) (none_read m) (λ table. FaultHasRead m)))) (none_read m)
    by_cursor true None h = h
    by_cursor true (Some c) h = by_plan c (slice_get config.plans c.table) h
    by_cursor false o h = h

-- an operator over columns reads no fewer pages than it must
over-read : (config : Config) (m : Moment) (range : KeyRange) (columns : List ℕ) (at : Located) → OnColumns m columns (ScanReads config m range None) at → OnColumns m columns (ScanExact m range None) at
over-read config m range columns at h = by_lacked (no_column at.plan columns) h
  where
    by_lacked : (lacked : Option ℕ) → MatchOption lacked (ScanReads config m range None at) (λ column. none_read m) → MatchOption lacked (ScanExact m range None at) (λ column. none_read m)
    by_lacked None h = scan-read config m range None at h
    by_lacked (Some column) h = h

-- the reads of every command are as many as is promised
exact-read : (config : Config) (old : Machine) (m : Moment) (c : Command) → ReadsOf config old m c → ExactOf config old m c
exact-read config old m command.Nothing r = tt
exact-read config old m command.Mount r = tt
exact-read config old m command.Off r = tt
exact-read config old m (command.Cut n kind) r = tt
exact-read config old m (command.Put name key values blob) r = tt
exact-read config old m (command.Flush name) r = tt
exact-read config old m (command.Get name key) r = on-table-weaker config old m name (GetReads config m key) (GetExact config m key) (λ at p. record { covered = p.1; found = p.2; failed = p.0.1 }) r
exact-read config old m (command.Blob name key) r = on-table-weaker config old m name within (λ at. FaultHasRead m) (λ at p. p.1) r
  where
    within : Located → Type 0
    within at = Within m (blob_limit config.knots at.plan at.table key)
exact-read config old m (command.Scan name range span) r = on-table-weaker config old m name (ScanReads config m range span) (ScanExact m range span) (scan-read config m range span) r
exact-read config old m (command.Open cursor name range span) r = tt
exact-read config old m (command.Next cursor count) r = next-read config old m cursor r
exact-read config old m (command.Close cursor) r = tt
exact-read config old m (command.Select name range column op value) r = on-table-weaker config old m name (OnColumns m (column ∷ []) (ScanReads config m range None)) (OnColumns m (column ∷ []) (ScanExact m range None)) (over-read config m range (column ∷ [])) r
exact-read config old m (command.Project name range columns) r = on-table-weaker config old m name (OnColumns m columns (ScanReads config m range None)) (OnColumns m columns (ScanExact m range None)) (over-read config m range columns) r
exact-read config old m (command.Agg name range column width) r = on-table-weaker config old m name (OnColumns m (column ∷ []) (ScanReads config m range None)) (OnColumns m (column ∷ []) (ScanExact m range None)) (over-read config m range (column ∷ [])) r
exact-read config old m (command.Join left right range) r =
    on-table-weaker config old m left (λ a. OnTable config old m right (both a)) (λ a. OnTable config old m right (λ b. FaultHasRead m)) (λ a p. on-table-weaker config old m right (both a) (λ b. FaultHasRead m) (λ b q. q.1) p) r
  where
    both : Located → Located → Type 0
    both a b = Within m (scan_limit config.knots a.plan a.table range None range.low + scan_limit config.knots b.plan b.table range None range.low)
exact-read config old m (command.Stat name) r = tt
exact-read config old m command.Cost r = tt
exact-read config old m (command.Load name count step seed) r = tt
exact-read config old m (command.Device page block) r = tt
exact-read config old m (command.Table line) r = tt

run-told : (config : Config) (old : Machine) (moments : List Moment) (known : Option Cost) → IsKnown known old.cost → Run config old moments → RunReads config old moments → TellsCosts config known old moments
run-told config old [] known k run reads = tt
run-told config old (m ∷ ms) known k (step, run) (read, reads) = (
  cost-known config old m known k step,
  run-told config m.after ms (cost_after config old m known m.command) (step-known config old m known m.command k step (exact-read config old m m.command read)) run reads,
)

pub costs-told : CostsAreTold
costs-told config old moments run reads = run-told config old moments (Some old.cost) refl run reads
