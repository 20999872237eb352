-- What is known of a table with a log in each state and over a step.
use Rattle.std.proofs.Common.{◌≡◌, ℕ, ◌+◌, true, false, Option, Some, None, List, [], ◌∷◌, length, refl, sym, ◌∙◌, ap, subst, arith, ◌≤◌, ◌⊎◌, inl, inr, MatchOption}
use Rattle.std.specs.List.{slice_get, sum}
use Rattle.std.specs.Option.{option_map, unwrap_or}
use Rattle.std.proofs.lemmas.Bool.{true≢false}
use Rattle.fl_model.specs.Ring.{Ring, fresh}
use Rattle.fl_model.specs.Table.{Table}
use Rattle.fl_words.specs.Command as command
use Rattle.fl_words.specs.Command.{Command}
use Rattle.fl_words.specs.Reply as reply
use Rattle.fl_machine.specs.Machine.{Machine}
use Rattle.fl_machine.specs.Step.{Moment}
use Rattle.fl_machine.specs.Found.{trimmed, ring_at, LoggedPast, nothing_held, past_of, logged_stop_at, logged_passing, logged_past_on, IsLoggedFound}
use Rattle.fl_machine.specs.Keeping.{sure, unsure, sure_at, tables_of}
use Rattle.fl_machine.proofs.Logs.{core, IsReady, Tops, RestsAs}
use Rattle.fl_machine.proofs.RecordsChange.{adds-all, Rows, GoesFrom, from-none, Any, rows_in, sure_in, sure-tops, sure-full}
use Rattle.fl_machine.proofs.LogOperations.{trimmed_in, trimmed-none}
use Rattle.fl_machine.proofs.LogTables.{Between, Resting, Pending, between-fine, between-as}

-- the table in a session, and where there is none
pub record Stands (Q : Rows → Type 0) (p : ℕ) (list : List Table) : Type 0 where
  pub table : Table
  pub is : slice_get list p ≡ Some table
  -- this is known of its pages and sure records
  pub between : Between Q table

pub record Rests (p : ℕ) (past : LoggedPast) (list : List Table) : Type 0 where
  pub table : Table
  pub is : slice_get list p ≡ Some table
  pub rests : RestsAs past (core table)

pub record IsLogKept (p : ℕ) (past : LoggedPast) (machine : Machine) : Type 0 where
  pub session : machine.mounted ≡ true → Stands Any p machine.tables
  pub resting : machine.mounted ≡ false → Rests p past machine.tables

-- where a session stops, the past begins with the tables just before
pub record StopsIn (p : ℕ) (now : LoggedPast) (moment : Moment) : Type 0 where
  pub sure : sure_at p (tables_of moment) ≡ sure now
  pub unsure : unsure (logged_stop_at p (tables_of moment)) ≡ unsure now
  pub pending : (logged_stop_at p (tables_of moment)).pending ≡ now.pending
  pub given_up : now.given_up ≡ trimmed (ring_at p (tables_of moment)) (ring_at p moment.after.tables)

-- the data pages and the sure records at a place
abbrev pub rows_of : Option Table → Rows
rows_of o =
    let ring = unwrap_or (option_map (λ (t : Table). t.rows) o) fresh in
    record { next = ring.next; counts = ring.counts; sure = sure (unwrap_or (option_map past_of o) nothing_held) }

abbrev pub rows_at : ℕ → List Table → Rows
rows_at p list = rows_of (slice_get list p)

-- a moment of a session
pub record InSession (p : ℕ) (now : LoggedPast) (old : Machine) (moment : Moment) : Type 0 where
  pub goes : GoesFrom (rows_at p old.tables) (rows_at p (tables_of moment))
  pub last : moment.after.mounted ≡ true → moment.last ≡ None
  pub stops : moment.after.mounted ≡ false → StopsIn p now moment

pub record LogKeeps (p : ℕ) (past now : LoggedPast) (old : Machine) (moment : Moment) (c : Command) : Type 0 where
  pub kept : IsLogKept p now moment.after
  pub session : old.mounted ≡ true → InSession p now old moment
  pub passes : old.mounted ≡ false → now ≡ logged_passing p past old.tables moment.after.tables
  pub finds : c ≡ command.Mount → moment.replies ≡ reply.Done ∷ [] → MatchOption (slice_get moment.after.tables p) ⊥ (IsLoggedFound now)

abbrev pub LogKeepsAll : ℕ → LoggedPast → Machine → Moment → Command → Type 0
LogKeepsAll p past old moment c = LogKeeps p past (logged_past_on p past old moment moment.last c) old moment c

-- ---- the past

ring-there : (p : ℕ) (list : List Table) (t : Table) → slice_get list p ≡ Some t → ring_at p list ≡ t.rows
ring-there p list t e = ap (λ (o : Option Table). unwrap_or (option_map (λ (x : Table). x.rows) o) fresh) e

pub trimmed-there : (p : ℕ) (before after : List Table) (a b : Table) → slice_get before p ≡ Some a → slice_get after p ≡ Some b → trimmed (ring_at p before) (ring_at p after) ≡ trimmed_in (core a) (core b)
trimmed-there p before after a b e k =
    ap (λ (r : Ring). trimmed r (ring_at p after)) (ring-there p before a e) ∙ ap (λ (r : Ring). trimmed a.rows r) (ring-there p after b k)

pub rows-there : (p : ℕ) (list : List Table) (t : Table) → slice_get list p ≡ Some t → rows_at p list ≡ rows_in (core t)
rows-there p list t e = ap rows_of e

sure-there : (p : ℕ) (list : List Table) (t : Table) → slice_get list p ≡ Some t → sure_at p list ≡ sure_in (core t)
sure-there p list t e = ap (λ (rows : Rows). rows.sure) (rows-there p list t e)

pub tables-none : (moment : Moment) → moment.last ≡ None → tables_of moment ≡ moment.after.tables
tables-none moment e = ap (λ (o : Option (List Table)). unwrap_or o moment.after.tables) e

pub same-session : (p : ℕ) (now : LoggedPast) (old : Machine) (moment : Moment) → moment.last ≡ None → moment.after.tables ≡ old.tables → moment.after.mounted ≡ old.mounted → old.mounted ≡ true → InSession p now old moment
same-session p now old moment last same mounted m = record {
  goes = subst (λ (list : List Table). GoesFrom (rows_at p old.tables) (rows_at p list)) (sym (tables-none moment last ∙ same)) (from-none (rows_at p old.tables));
  last = λ e. last;
  stops = λ off. absurd (true≢false (sym (mounted ∙ m) ∙ off));
}

pub stands-now : (p : ℕ) (list : List Table) → Stands Any p list → Stands (GoesFrom (rows_at p list)) p list
stands-now p list s = record { table = s.table; is = s.is; between = between-as s.table s.between (subst (GoesFrom (rows_at p list)) (rows-there p list s.table s.is) (from-none (rows_at p list))) }

pub idle-or-ready : (t : Table) → Between Any t → ((core t).pending ≡ 0) ⊎ IsReady (core t)
idle-or-ready t (Resting fine idle paid kept) = inl idle.none
idle-or-ready t (Pending fine has ends kept) = inr has

pub stands-tops : (p : ℕ) (list : List Table) → Stands Any p list → Tops (sure_at p list)
stands-tops p list s = subst Tops (sym (sure-there p list s.table s.is)) (sure-tops (core s.table) (between-fine s.table s.between) (idle-or-ready s.table s.between))

-- no more records are in its data pages
pub stands-full : (p : ℕ) (list : List Table) → Stands Any p list → sum (rows_at p list).counts ≤ length (rows_at p list).sure
stands-full p list s =
    subst (λ (rows : Rows). sum rows.counts ≤ length rows.sure) (sym (rows-there p list s.table s.is)) (sure-full (core s.table) (between-fine s.table s.between) (idle-or-ready s.table s.between))

pub stands-any : (Q : Rows → Type 0) (p : ℕ) (list : List Table) → Stands Q p list → Stands Any p list
stands-any Q p list s = record { table = s.table; is = s.is; between = between-as s.table s.between (adds-all (sure_in (core s.table))) }

-- nothing was given up
pub pass-same : (p : ℕ) (past : LoggedPast) (list : List Table) (t : Table) → slice_get list p ≡ Some t → RestsAs past (core t) → RestsAs (logged_passing p past list list) (core t)
pass-same p past list t e h =
    let none = trimmed-none (core t) (core t) refl refl in
    let there = trimmed-there p list list t t e e in
    let z : past.given_up ≡ past.given_up + trimmed (ring_at p list) (ring_at p list) = omega (arith, none, there) in
    subst (λ (g : ℕ). RestsAs (record past { given_up = g }) (core t)) z h
