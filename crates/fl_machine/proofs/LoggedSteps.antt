-- Each step keeps what is known of a table with a log, and each mount that succeeds finds its records, those of its log too.
use Rattle.std.proofs.Common.{◌≡◌, ℕ, zero, suc, ◌+◌, ◌-◌, Bool, true, false, cond, Option, Some, None, IfSome, List, [], ◌∷◌, ◌++◌, length, drop, map, refl, sym, ◌∙◌, ap, subst, arith, inl, IsTrue, MatchBool, ◌==◌, eq-eqb}
use Rattle.std.specs.List.{slice_get, AllByRecursion}
use Rattle.std.specs.Option.{is_some, option_map, unwrap_or}
use Rattle.std.proofs.lemmas.Option.{slice_get-map, none-some}
use Rattle.std.proofs.lemmas.Bool.{false≢true, true≢false}
use Rattle.fl_base.specs.Generator.{next_random}
use Rattle.fl_model.specs.Record.{Plan, Config, has_log}
use Rattle.fl_model.specs.Ring.{Ring}
use Rattle.fl_model.specs.Table.{Table, Entry, lose}
use Rattle.fl_model.specs.Log.{IsSafe}
use Rattle.fl_model.specs.Mount.{turns_from, Mounts, MountEnd}
use Rattle.fl_words.specs.Command as command
use Rattle.fl_words.specs.Command.{Command}
use Rattle.fl_words.specs.Reply as reply
use Rattle.fl_machine.specs.Machine.{Machine, stopped}
use Rattle.fl_machine.specs.Step.{Moment, StepOf, Says, EndsMount}
use Rattle.fl_machine.specs.Run.{Run}
use Rattle.fl_machine.specs.Found.{trimmed, ring_at, HasRoom, IsLoggedAtRest, IsAtRest, LoggedPast, nothing_held, past_of, logged_stop_at, logged_passing, logged_past_on, logged_past_after, LoggedFinds}
use Rattle.fl_machine.specs.Keeping.{unsure, sure_at, tables_of}
use Rattle.fl_machine.proofs.StepCases.{with-table}
use Rattle.fl_machine.proofs.MountsAtPlace.{room_at}
use Rattle.fl_machine.proofs.Logs.{core, log_in, Tops, front-all, RestsAs, owed_of, IsFine, IsSafePage, IsThere}
use Rattle.fl_machine.proofs.LogStops.{rests-here, owed-found}
use Rattle.fl_machine.proofs.RecordsChange.{Rows, GoesFrom, from-none, Any, rows_in, rows_with, sure_in, sure-lost, pending-lost, all-logged}
use Rattle.fl_machine.proofs.LogOperations.{trimmed-none}
use Rattle.fl_machine.proofs.LogTables.{Between, between-fine, between-phase}
use Rattle.fl_machine.proofs.LogMounts.{rests-lost}
use Rattle.fl_machine.proofs.LogMoves.{mounts-logged, log-turns, Start}
use Rattle.fl_machine.proofs.LoggedStates.{Rests, IsLogKept, rows_at, InSession, LogKeeps, LogKeepsAll, trimmed-there, rows-there, tables-none, stands-now, idle-or-ready}
use Rattle.fl_machine.proofs.LoggedPuts.{located-is, log-says, log-quiet, log-put, log-flush, log-loads}
use Rattle.fl_machine.proofs.LoggedMounts.{log-no_mount, log-mount}

log-off : (p : ℕ) (past : LoggedPast) (old : Machine) (moment : Moment) → IsLogKept p past old → Says moment (reply.Done ∷ []) (stopped old) → LogKeepsAll p past old moment command.Off
log-off p past old moment kept h = by_test old.mounted refl
  where
    not_mount : command.Off ≡ command.Mount → ⊥
    not_mount e = cc

    same : moment.after.tables ≡ map lose old.tables
    same = ap (λ (m : Machine). m.tables) h.after_is

    after_off : (q : LoggedPast) → logged_past_on p past old moment None command.Off ≡ q → Rests p q (map lose old.tables) →
        (old.mounted ≡ true → InSession p q old moment) → (old.mounted ≡ false → q ≡ logged_passing p past old.tables (map lose old.tables)) → LogKeepsAll p past old moment command.Off
    after_off q is rests session passes =
        subst (λ (l : Option (List Table)). LogKeeps p past (logged_past_on p past old moment l command.Off) old moment command.Off) (sym h.last_is)
        (subst (λ (r : LoggedPast). LogKeeps p past r old moment command.Off) (sym is) (record {
          kept = record {
            session = λ m. absurd (false≢true (sym (ap (λ (m : Machine). m.mounted) h.after_is) ∙ m));
            resting = λ m. subst (λ (list : List Table). Rests p q list) (sym same) rests;
          };
          session = session;
          passes = λ m. passes m ∙ ap (λ (list : List Table). logged_passing p past old.tables list) (sym same);
          finds = λ e r. absurd (not_mount e);
        }))

    lose-there : (t : Table) → slice_get old.tables p ≡ Some t → slice_get (map lose old.tables) p ≡ Some (lose t)
    lose-there t e = slice_get-map lose old.tables p ∙ ap (option_map lose) e

    now : tables_of moment ≡ map lose old.tables
    now = tables-none moment h.last_is ∙ same

    -- the sure records are those after it
    stopped_at : (t : Table) → slice_get old.tables p ≡ Some t → Between Any t → InSession p (past_of t) old moment
    stopped_at t e between = record {
      goes = subst (GoesFrom (rows_at p old.tables)) (rows-there p old.tables t e ∙ sym still_rows) (from-none (rows_at p old.tables));
      last = λ on. h.last_is;
      stops = λ off. record {
        sure = still;
        unsure =
            ap (λ (q : LoggedPast). unsure q) (stop-there (tables_of moment) (lose t) then_is)
            ∙ sym (ap (λ (u : Bool). cond u (drop (length (past_of t).held - 1) (past_of t).held) []) (all-logged (core t) (between-fine t between) (idle-or-ready t between)));
        pending = ap (λ (q : LoggedPast). q.pending) (stop-there (tables_of moment) (lose t) then_is) ∙ pending-lost (core t) (between-fine t between) (idle-or-ready t between);
        given_up =
            let none = trimmed-none (core (lose t)) (core (lose t)) refl refl in
            let there = trimmed-there p (tables_of moment) moment.after.tables (lose t) (lose t) then_is (ap (λ (list : List Table). slice_get list p) same ∙ lose-there t e) in
            let z : 0 ≡ trimmed (ring_at p (tables_of moment)) (ring_at p moment.after.tables) = omega (arith, none, there) in
            z;
      };
    }
      where
        then_is : slice_get (tables_of moment) p ≡ Some (lose t)
        then_is = ap (λ (list : List Table). slice_get list p) now ∙ lose-there t e

        stop-there : (list : List Table) (u : Table) → slice_get list p ≡ Some u → logged_stop_at p list ≡ past_of u
        stop-there list u k = ap (λ (o : Option Table). unwrap_or (option_map past_of o) nothing_held) k

        still_rows : rows_at p (tables_of moment) ≡ rows_in (core t)
        still_rows =
            rows-there p (tables_of moment) (lose t) then_is
            ∙ ap (λ (es : List Entry). rows_with (core t) es) (sure-lost (core t) (between-fine t between) (idle-or-ready t between))

        still : sure_at p (tables_of moment) ≡ sure_in (core t)
        still = ap (λ (rows : Rows). rows.sure) still_rows

    -- nothing is given up
    passes_off : (t : Table) → slice_get old.tables p ≡ Some t → past ≡ logged_passing p past old.tables (map lose old.tables)
    passes_off t e =
        let none = trimmed-none (core t) (core (lose t)) refl refl in
        let there = trimmed-there p old.tables (map lose old.tables) t (lose t) e (lose-there t e) in
        let z : past.given_up ≡ past.given_up + trimmed (ring_at p old.tables) (ring_at p (map lose old.tables)) = omega (arith, none, there) in
        ap (λ (g : ℕ). record past { given_up = g }) z

    by_test : (b : Bool) → old.mounted ≡ b → LogKeepsAll p past old moment command.Off
    by_test true e =
        let s = kept.session e in
        let t = s.table in
        let begins : logged_stop_at p old.tables ≡ past_of t = ap (λ (o : Option Table). unwrap_or (option_map past_of o) nothing_held) s.is in
        after_off (past_of t) (ap (λ (b : Bool). cond b (logged_stop_at p old.tables) past) e ∙ begins)
        (record { table = lose t; is = lose-there t s.is; rests = rests-here (core t) 0 refl (between-fine t s.between) (between-phase t s.between) })
        (λ m. stopped_at t s.is s.between) (λ m. absurd (true≢false (sym e ∙ m)))
    by_test false e =
        let r = kept.resting e in
        after_off past (ap (λ (b : Bool). cond b (logged_stop_at p old.tables) past) e) (record { table = lose r.table; is = lose-there r.table r.is; rests = rests-lost past (core r.table) r.rests })
        (λ m. absurd (true≢false (sym m ∙ e))) (λ m. passes_off r.table r.is)

-- ---- each step

pub log-step : (config : Config) (p : ℕ) (own : Plan) (past : LoggedPast) (old : Machine) (moment : Moment) (c : Command) → AllByRecursion HasRoom config.plans → slice_get config.plans p ≡ Some own → IsTrue (has_log own) →
    IsLogKept p past old → StepOf config old moment c → LogKeepsAll p past old moment c
log-step config p own past old moment command.Nothing room e l kept h = log-quiet config p past old moment command.Nothing tt (λ e. cc, refl) kept h
log-step config p own past old moment command.Mount room e l kept h = by_test old.mounted refl h
  where
    already : reply.AlreadyMounted ∷ [] ≡ reply.Done ∷ [] → ⊥
    already e = cc

    by_test : (b : Bool) → old.mounted ≡ b → MatchBool b (Says moment (reply.AlreadyMounted ∷ []) old) ((how : MountEnd) × Mounts config.plans moment.rose (turns_from 0 config.plans) old.device old.tables how × EndsMount config old moment how) → LogKeepsAll p past old moment command.Mount
    by_test true m h = log-no_mount p past old moment _ already kept h
    by_test false m h =
        let r = kept.resting m in
        log-mount config p own past old moment h.0 r.table e l m r.is kept
        (mounts-logged config.plans moment.rose (turns_from 0 config.plans) old.device old.tables h.0 p own past (core r.table) Start r.table (room_at config.plans p own room e) l r.rests e (log-turns p config.plans own e l) r.is refl h.1) h.2
log-step config p own past old moment command.Off room e l kept h = log-off p past old moment kept h
log-step config p own past old moment (command.Cut n kind) room e l kept h = log-quiet config p past old moment (command.Cut n kind) tt (λ e. cc, refl) kept h
log-step config p own past old moment (command.Put name key values blob) room e l kept h =
    let c = command.Put name key values blob in
    with-table config old moment name _ _ (λ at a m k. log-put config p own past old moment c _ at room e l (λ e. cc, refl) m (located-is config old name at a) kept k) (λ r s. log-says p past old old moment c r (λ e. cc, refl) refl refl kept s) h
log-step config p own past old moment (command.Flush name) room e l kept h =
    let c = command.Flush name in
    with-table config old moment name _ _ (λ at a m k. log-flush config p own past old moment c at room e (λ e. cc, refl) m (located-is config old name at a) kept k) (λ r s. log-says p past old old moment c r (λ e. cc, refl) refl refl kept s) h
log-step config p own past old moment (command.Get name key) room e l kept h = log-quiet config p past old moment (command.Get name key) tt (λ e. cc, refl) kept h
log-step config p own past old moment (command.Blob name key) room e l kept h = log-quiet config p past old moment (command.Blob name key) tt (λ e. cc, refl) kept h
log-step config p own past old moment (command.Scan name range span) room e l kept h = log-quiet config p past old moment (command.Scan name range span) tt (λ e. cc, refl) kept h
log-step config p own past old moment (command.Open cursor name range span) room e l kept h = log-quiet config p past old moment (command.Open cursor name range span) tt (λ e. cc, refl) kept h
log-step config p own past old moment (command.Next cursor count) room e l kept h = log-quiet config p past old moment (command.Next cursor count) tt (λ e. cc, refl) kept h
log-step config p own past old moment (command.Close cursor) room e l kept h = log-quiet config p past old moment (command.Close cursor) tt (λ e. cc, refl) kept h
log-step config p own past old moment (command.Select name range column op value) room e l kept h = log-quiet config p past old moment (command.Select name range column op value) tt (λ e. cc, refl) kept h
log-step config p own past old moment (command.Project name range columns) room e l kept h = log-quiet config p past old moment (command.Project name range columns) tt (λ e. cc, refl) kept h
log-step config p own past old moment (command.Agg name range column width) room e l kept h = log-quiet config p past old moment (command.Agg name range column width) tt (λ e. cc, refl) kept h
log-step config p own past old moment (command.Join left right range) room e l kept h = log-quiet config p past old moment (command.Join left right range) tt (λ e. cc, refl) kept h
log-step config p own past old moment (command.Stat name) room e l kept h = log-quiet config p past old moment (command.Stat name) tt (λ e. cc, refl) kept h
log-step config p own past old moment command.Cost room e l kept h = log-quiet config p past old moment command.Cost tt (λ e. cc, refl) kept h
log-step config p own past old moment (command.Load name count step seed) room e l kept h =
    let c = command.Load name count step seed in
    with-table config old moment name _ _
    (λ at a m k. log-loads config p own past old moment c at.plan at.place step seed count 1 (next_random seed) 0 old.device old.tables room e l (λ e. cc) m (located-is config old name at a).plan (stands-now p old.tables (kept.session m)) k)
    (λ r s. log-says p past old old moment c r (λ e. cc, refl) refl refl kept s) h
log-step config p own past old moment (command.Device page block) room e l kept h = absurd h
log-step config p own past old moment (command.Table line) room e l kept h = absurd h

-- each run
log-run : (config : Config) (p : ℕ) (own : Plan) (past : LoggedPast) (old : Machine) (moments : List Moment) → AllByRecursion HasRoom config.plans → slice_get config.plans p ≡ Some own → IsTrue (has_log own) →
    IsLogKept p past old → Run config old moments → LoggedFinds p past old moments
log-run config p own past old [] room e l kept run = tt
log-run config p own past old (moment ∷ moments) room e l kept run =
    let keeps = log-step config p own past old moment moment.command room e l kept run.0 in
    (λ m. keeps.finds m.mounts m.succeeds, log-run config p own (logged_past_after p past old moment) moment.after moments room e l keeps.kept run.1)

-- a table that was left between two runs
rest-start : (t : Table) → IsAtRest t → IsLoggedAtRest t → RestsAs (past_of t) (core t)
rest-start t rest logged = record { fine = fine; none = rest.pending; found = owed-found (past_of t) (core t) t.entries (owed_of (core t)) refl held owes refl refl }
  where
    b : (t.pending == 0) ≡ true
    b = eq-eqb t.pending 0 rest.pending

    held : (past_of t).held ≡ t.entries ++ owed_of (core t)
    held = ap (λ (z : Bool). cond z (t.entries ++ owed_of (core t)) t.entries) b

    owes : (past_of t).pending ≡ length (owed_of (core t))
    owes = ap (λ (z : Bool). cond z (length (owed_of (core t))) t.pending) b

    there : (o : Option Ring) → IsTrue (is_some o) → IsThere (log_in o)
    there None h = absurd (false≢true h)
    there (Some r) h = tt

    safe_in : (o : Option Ring) → IfSome o IsSafe → IfSome (log_in o) IsSafePage
    safe_in None h = tt
    safe_in (Some r) h = h

    fine : IsFine (core t)
    fine = record {
      counted = let z = rest.pending in let all = logged.counted in omega (arith, z, all);
      numbered = rest.numbered;
      has_log = there t.log logged.has_log;
      greatest = subst Tops (sym (front-all (core t) rest.pending)) logged.greatest;
      ascending = logged.logged.ascending;
      whole = logged.logged.whole;
      safe = λ some. safe_in t.log (logged.logged.safe some);
    }

at-rest : (list : List Table) (p : ℕ) (t : Table) → AllByRecursion IsAtRest list → slice_get list p ≡ Some t → IsAtRest t
at-rest [] p t h e = absurd (none-some t e)
at-rest (x ∷ xs) zero t h e = let same : x ≡ t = cc (e) in subst IsAtRest same h.0
at-rest (x ∷ xs) (suc p) t h e = at-rest xs p t h.1 e

-- .. and with none of its records unsure
pub log-start : (p : ℕ) (old : Machine) (t : Table) → old.mounted ≡ false → AllByRecursion IsAtRest old.tables → slice_get old.tables p ≡ Some t → IsLoggedAtRest t →
    IsLogKept p (logged_stop_at p old.tables) old × (unsure (logged_stop_at p old.tables) ≡ [])
log-start p old t off rest k logged = (
  record {
    session = λ m. absurd (false≢true (sym off ∙ m));
    resting = λ m. record { table = t; is = k; rests = subst (λ (q : LoggedPast). RestsAs q (core t)) (sym begins) start };
  },
  ap unsure begins ∙ ap (λ (u : Bool). cond u (drop (length (past_of t).held - 1) (past_of t).held) []) (all-logged (core t) start.fine (inl start.none)),
)
  where
    begins : logged_stop_at p old.tables ≡ past_of t
    begins = ap (λ (o : Option Table). unwrap_or (option_map past_of o) nothing_held) k

    start : RestsAs (past_of t) (core t)
    start = rest-start t (at-rest old.tables p t rest k) logged

pub logged-finds : (config : Config) (old : Machine) (moments : List Moment) (place : ℕ) (plan : Plan) → AllByRecursion HasRoom config.plans → old.mounted ≡ false → AllByRecursion IsAtRest old.tables →
    slice_get config.plans place ≡ Some plan → IsTrue (has_log plan) → (t : Table) → slice_get old.tables place ≡ Some t → IsLoggedAtRest t → Run config old moments → LoggedFinds place (logged_stop_at place old.tables) old moments
logged-finds config old moments place plan room off rest e l t k logged run =
    log-run config place plan (logged_stop_at place old.tables) old moments room e l (log-start place old t off rest k logged).0 run
