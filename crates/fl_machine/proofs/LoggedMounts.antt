-- A mount keeps what is known of a table with a log, and finds its records if it succeeds.
use Rattle.std.proofs.Common.{◌≡◌, ℕ, zero, suc, ◌+◌, ◌-◌, Bool, true, false, cond, Option, Some, List, [], ◌∷◌, ◌++◌, length, take, drop, map, refl, sym, ◌∙◌, ap, subst, ◌⊎◌, inl, inr, IsTrue, MatchOption}
use Rattle.std.specs.List.{slice_get}
use Rattle.std.specs.Option.{option_map}
use Rattle.std.proofs.lemmas.List.{append-nil}
use Rattle.std.proofs.lemmas.Option.{slice_get-map}
use Rattle.std.proofs.lemmas.Bool.{false≢true, true≢false}
use Rattle.fl_model.specs.Record.{Plan, Config, has_log}
use Rattle.fl_model.specs.Table.{Table, Entry, lose, is_rows_spent}
use Rattle.fl_model.specs.Work.{Progress, Outcome, Finished, CutShort, Failed}
use Rattle.fl_model.specs.Mount.{MountEnd, Mounted, Stopped, Unread, ready}
use Rattle.fl_words.specs.Command as command
use Rattle.fl_words.specs.Reply as reply
use Rattle.fl_words.specs.Reply.{Reply}
use Rattle.fl_machine.specs.Machine.{Machine}
use Rattle.fl_machine.specs.Step.{Moment, Says, Stops, EndsAs, EndsMount, all_ready}
use Rattle.fl_machine.specs.Found.{LoggedPast, logged_stop_at, logged_passing, logged_past_on, IsLoggedFound}
use Rattle.fl_machine.proofs.Logs.{core, RestsAs, IsOwedFound, owed_of}
use Rattle.fl_machine.proofs.RecordsChange.{adds-all, Any, sure_in}
use Rattle.fl_machine.proofs.LogTables.{Resting}
use Rattle.fl_machine.proofs.LogMounts.{pass}
use Rattle.fl_machine.proofs.LogMoves.{LogLeft, LeftBy}
use Rattle.fl_machine.proofs.LoggedStates.{Stands, Rests, IsLogKept, LogKeeps, LogKeepsAll, trimmed-there, same-session, pass-same}

-- what a mount finds of it
found-done : (past : LoggedPast) (t : Table) → IsOwedFound past (core t) → (owed_of (core t) ≡ []) ⊎ IsTrue (is_rows_spent t) → IsLoggedFound past t
found-done past t h paid = record { all = by_all h; paid = by_paid h paid }
  where
    none : owed_of (core t) ≡ [] → t.entries ++ owed_of (core t) ≡ t.entries
    none e = ap (λ (es : List Entry). t.entries ++ es) e ∙ append-nil t.entries

    by_all : IsOwedFound past (core t) → (t.entries ++ owed_of (core t) ≡ drop past.given_up past.held) ⊎ (IsTrue past.unlogged × (t.entries ++ owed_of (core t) ≡ drop past.given_up (take (length past.held - 1) past.held)))
    by_all (inl h) = inl (none h.1 ∙ h.0)
    by_all (inr (inl h)) = h.1
    by_all (inr (inr h)) = inr (h.0, none h.2 ∙ h.1)

    by_paid : IsOwedFound past (core t) → (owed_of (core t) ≡ []) ⊎ IsTrue (is_rows_spent t) →
        (owed_of (core t) ≡ []) ⊎ (IsTrue (is_rows_spent t) × (t.entries ≡ drop past.given_up (take (length past.held - past.pending) past.held)))
    by_paid h (inl e) = inl e
    by_paid (inl h) (inr spent) = inl h.1
    by_paid (inr (inl h)) (inr spent) = inr (spent, h.0)
    by_paid (inr (inr h)) (inr spent) = inl h.2

ready-logged : (p : ℕ) (plans : List Plan) (list : List Table) (plan : Plan) (t : Table) → slice_get plans p ≡ Some plan → IsTrue (has_log plan) → slice_get list p ≡ Some t → slice_get (all_ready plans list) p ≡ Some t
ready-logged p [] list plan t e l k = k
ready-logged p (q ∷ plans) [] plan t e l k = k
ready-logged zero (q ∷ plans) (x ∷ xs) plan t e l k =
    let same : q ≡ plan = cc in
    ap (λ (b : Bool). Some (cond b x (ready q x))) (subst (λ (r : Plan). has_log r ≡ true) (sym same) l) ∙ k
ready-logged (suc p) (q ∷ plans) (x ∷ xs) plan t e l k = ready-logged p plans xs plan t e l k

-- the past when a mount leaves a table
past-left : (p : ℕ) (past : LoggedPast) (before after : List Table) (x t : Table) → slice_get before p ≡ Some x → slice_get after p ≡ Some t → pass past (core x) (core t) ≡ logged_passing p past before after
past-left p past before after x t e k = ap (λ (g : ℕ). record past { given_up = past.given_up + g }) (sym (trimmed-there p before after x t e k))

log-left : (p : ℕ) (past : LoggedPast) (old : Machine) (moment : Moment) (left : List Table) (x : Table) → slice_get old.tables p ≡ Some x → LeftBy p past (core x) left → moment.after.tables ≡ map lose left →
    Rests p (logged_passing p past old.tables moment.after.tables) moment.after.tables
log-left p past old moment left x e h same =
    let there : slice_get (map lose left) p ≡ Some (lose h.table) = slice_get-map lose left p ∙ ap (option_map lose) h.is in
    subst (λ (list : List Table). Rests p (logged_passing p past old.tables list) list) (sym same) (record {
      table = lose h.table;
      is = there;
      rests = subst (λ (q : LoggedPast). RestsAs q (core (lose h.table))) (past-left p past old.tables (map lose left) x (lose h.table) e there) h.halts;
    })

-- a mount that doesn't succeed
log-off-session : (p : ℕ) (past : LoggedPast) (old : Machine) (moment : Moment) (end : Progress) (last : List Table) (replies : List Reply) (x : Table) → old.mounted ≡ false → (replies ≡ reply.Done ∷ [] → ⊥) → slice_get old.tables p ≡ Some x →
    LeftBy p past (core x) end.tables → Stops old moment end last replies → LogKeepsAll p past old moment command.Mount
log-off-session p past old moment end last replies x off other e h stops =
    let is : logged_past_on p past old moment (Some last) command.Mount ≡ logged_passing p past old.tables moment.after.tables =
    ap (λ (b : Bool). cond b (logged_passing p (logged_stop_at p last) last moment.after.tables) (logged_passing p past old.tables moment.after.tables)) off in
    subst (λ (l : Option (List Table)). LogKeeps p past (logged_past_on p past old moment l command.Mount) old moment command.Mount) (sym stops.last_is)
    (subst (λ (q : LoggedPast). LogKeeps p past q old moment command.Mount) (sym is) (record {
      kept = record {
        session = λ m. absurd (false≢true (sym (ap (λ (m : Machine). m.mounted) stops.after_is) ∙ m));
        resting = λ m. log-left p past old moment end.tables x e h (ap (λ (m : Machine). m.tables) stops.after_is);
      };
      session = λ m. absurd (true≢false (sym m ∙ off));
      passes = λ m. refl;
      finds = λ c r. absurd (other (sym stops.replies_are ∙ r));
    }))

-- a mount that does nothing
pub log-no_mount : (p : ℕ) (past : LoggedPast) (old : Machine) (moment : Moment) (replies : List Reply) → (replies ≡ reply.Done ∷ [] → ⊥) → IsLogKept p past old → Says moment replies old → LogKeepsAll p past old moment command.Mount
log-no_mount p past old moment replies other kept says =
    let same : moment.after.tables ≡ old.tables = ap (λ (m : Machine). m.tables) says.after_is in
    let mounted : moment.after.mounted ≡ old.mounted = ap (λ (m : Machine). m.mounted) says.after_is in
    subst (λ (l : Option (List Table)). LogKeeps p past (logged_past_on p past old moment l command.Mount) old moment command.Mount) (sym says.last_is) (record {
      kept = record {
        session = λ m. subst (λ (list : List Table). Stands Any p list) (sym same) (kept.session (sym mounted ∙ m));
        resting = λ m. subst (λ (list : List Table). Rests p (logged_passing p past old.tables list) list) (sym same)
            (let r = kept.resting (sym mounted ∙ m) in record { table = r.table; is = r.is; rests = pass-same p past old.tables r.table r.is r.rests });
      };
      session = same-session p _ old moment says.last_is same mounted;
      passes = λ m. refl;
      finds = λ e r. absurd (other (sym says.replies_are ∙ r));
    })

pub log-mount : (config : Config) (p : ℕ) (own : Plan) (past : LoggedPast) (old : Machine) (moment : Moment) (how : MountEnd) (x : Table) → slice_get config.plans p ≡ Some own → IsTrue (has_log own) → old.mounted ≡ false →
    slice_get old.tables p ≡ Some x → IsLogKept p past old → LogLeft p past (core x) how → EndsMount config old moment how → LogKeepsAll p past old moment command.Mount
log-mount config p own past old moment (Mounted end) x e logged off k kept (t, is, done) h =
    let same : moment.after.tables ≡ all_ready config.plans end.tables = ap (λ (m : Machine). m.tables) h.after_is in
    let there : slice_get (all_ready config.plans end.tables) p ≡ Some t = ready-logged p config.plans end.tables own t e logged is in
    let now : slice_get moment.after.tables p ≡ Some t = ap (λ (list : List Table). slice_get list p) same ∙ there in
    let passed = past-left p past old.tables moment.after.tables x t k now in
    let rests : RestsAs (logged_passing p past old.tables moment.after.tables) (core t) = subst (λ (q : LoggedPast). RestsAs q (core t)) passed done.rests in
    subst (λ (l : Option (List Table)). LogKeeps p past (logged_past_on p past old moment l command.Mount) old moment command.Mount) (sym h.last_is) (record {
      kept = record {
        session = λ m. record { table = t; is = now; between = Resting rests.fine (record { none = rests.none; calm = done.calm }) done.paid (adds-all (sure_in (core t))) };
        resting = λ m. absurd (true≢false (sym (ap (λ (m : Machine). m.mounted) h.after_is) ∙ m));
      };
      session = λ m. absurd (true≢false (sym m ∙ off));
      passes = λ m. refl;
      finds = λ c r. subst (λ (o : Option Table). MatchOption o ⊥ (IsLoggedFound (logged_passing p past old.tables moment.after.tables))) (sym now) (found-done (logged_passing p past old.tables moment.after.tables) t rests.found done.paid);
    })
log-mount config p own past old moment (Unread end) x e logged off k kept left h =
    subst (λ (l : Option (List Table)). LogKeeps p past (logged_past_on p past old moment l command.Mount) old moment command.Mount) (sym h.last_is) (record {
      kept = record {
        session = λ m. absurd (false≢true (sym (ap (λ (m : Machine). m.mounted) h.after_is ∙ off) ∙ m));
        resting = λ m. log-left p past old moment end.tables x k left (ap (λ (m : Machine). m.tables) h.after_is);
      };
      session = λ m. absurd (true≢false (sym m ∙ off));
      passes = λ m. refl;
      finds = λ c r. absurd (no_fault (sym h.replies_are ∙ r));
    })
  where
    no_fault : reply.DeviceFault ∷ [] ≡ reply.Done ∷ [] → ⊥
    no_fault e = cc
log-mount config p own past old moment (Stopped end) x e logged off k kept left h = by_outcome end.outcome h
  where
    lost_power : reply.PowerLost ∷ [] ≡ reply.Done ∷ [] → ⊥
    lost_power e = cc

    no_fault : reply.DeviceFault ∷ [] ≡ reply.Done ∷ [] → ⊥
    no_fault e = cc

    nothing : [] ≡ reply.Done ∷ [] → ⊥
    nothing e = cc

    by_outcome : (o : Outcome) → EndsAs o old moment end [] [] old → LogKeepsAll p past old moment command.Mount
    by_outcome (CutShort last) h = log-off-session p past old moment end last _ x off lost_power k left h
    by_outcome (Failed last) h = log-off-session p past old moment end last _ x off no_fault k left h
    by_outcome Finished h = log-no_mount p past old moment [] nothing kept h
