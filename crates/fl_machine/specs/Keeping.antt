-- A table with a log keeps each record that a session had after a command, so each whose put answered `ok`: each later mount
-- that succeeds finds them all, less exactly the rows of the pages that were given up. Only where no page can be sealed any
-- more may the log have some of them alone.
use Rattle.std.specs.Prelude.{◌≡◌, ℕ, ◌+◌, ◌-◌, nat_le, ◌⊎◌, false, IfSome, MatchOption, unwrap_or, List, [], ◌∷◌, ◌++◌, length, take, drop, filter, slice_get, if◌then◌else◌, IsTrue}
use Rattle.std.specs.List.{AllByRecursion}
use Rattle.fl_model.specs.Record.{Config, has_log}
use Rattle.fl_model.specs.Ring.{Ring, oldest}
use Rattle.fl_model.specs.Table.{Table, Entry, is_after, is_rows_spent, owed}
use Rattle.fl_machine.specs.Machine.{Machine}
use Rattle.fl_machine.specs.Step.{Moment}
use Rattle.fl_machine.specs.Run.{Run}
use Rattle.fl_machine.specs.Found.{HasRoom, IsAtRest, IsMounting, LoggedPast, RestsAt, logged_stop_at, ring_at, trimmed}

-- the records of a table that its log or a data page has: all, but for one that just joined it
abbrev pub sure : LoggedPast → List Entry
sure past = if past.unlogged then take (length past.held - 1) past.held else past.held

-- that one
abbrev pub unsure : LoggedPast → List Entry
unsure past = if past.unlogged then drop (length past.held - 1) past.held else []

abbrev pub sure_at : ℕ → List Table → List Entry
sure_at place tables = sure (logged_stop_at place tables)

-- the tables after a moment, or just before the operation that failed in it
abbrev pub tables_of : Moment → List Table
tables_of moment = unwrap_or moment.last moment.after.tables

-- those of some entries that came after others
abbrev pub newer : List Entry → List Entry → List Entry
newer before entries = filter (λ e. is_after before e) entries

-- what was put into a table so far
pub record PutSoFar : Type 0 where
  -- its records, from those on that the last mount found or that stood there at first; but none that one load put and gave
  -- up itself
  pub held : List Entry
  -- the one of a put that failed before the log had it, where its session stopped so
  pub failed : List Entry
  -- how many of all these no data page had, when its session stopped
  pub pending : ℕ
  -- how many of the oldest were given up since
  pub given_up : ℕ

-- How many were given up, when a command of a session has brought a data ring from one state to another: the rows of the
-- pages that went. Only a load may come round its ring, so that pages go which it sealed itself; then all that went are those
-- that its table no longer has.
abbrev pub given_up_by : Ring → Ring → ℕ → ℕ → ℕ
given_up_by before now given_up absent = if nat_le (oldest now - oldest before) (length before.counts) then given_up + trimmed before now else absent

-- A session's command adds its own records, and its ring gives up old ones; and so may an operation that failed.
abbrev pub session_adds : ℕ → PutSoFar → Machine → Moment → PutSoFar
session_adds place put old moment =
    let now = tables_of moment in
    let held = put.held ++ newer (sure_at place old.tables) (sure_at place now) in
    record {
      held = held;
      failed = unsure (logged_stop_at place now);
      pending = (logged_stop_at place now).pending;
      given_up =
          given_up_by (ring_at place old.tables) (ring_at place now) put.given_up (length held - length (sure_at place now))
          + trimmed (ring_at place now) (ring_at place moment.after.tables);
    }

-- without a session only a mount gives records up
abbrev pub mount_gives_up : ℕ → PutSoFar → Machine → Moment → PutSoFar
mount_gives_up place put old moment = record put { given_up = put.given_up + trimmed (ring_at place old.tables) (ring_at place moment.after.tables) }

-- what stands in a table, with nothing given up yet
abbrev pub standing : List Entry → PutSoFar
standing entries = record { held = entries; failed = []; pending = 0; given_up = 0 }

-- .. in the one at a place
abbrev pub standing_at : ℕ → List Table → PutSoFar
standing_at place tables = record (standing (sure_at place tables)) { pending = (logged_stop_at place tables).pending }

-- .. after a moment; a mount that succeeds begins anew with what it found
abbrev pub put_after : ℕ → PutSoFar → Machine → Moment → PutSoFar
put_after place put old moment =
    if old.mounted then session_adds place put old moment
    else if moment.after.mounted then standing_at place moment.after.tables else mount_gives_up place put old moment

-- all of them that weren't given up
abbrev pub kept_of : PutSoFar → List Entry
kept_of put = drop put.given_up (put.held ++ put.failed)

-- A mount finds them all, less those that were given up, and the record of the put that failed, or not. The log has none of
-- them alone; or just those that no data page had, only where no page can be sealed any more.
pub record IsKept (put : PutSoFar) (table : Table) : Type 0 where
  pub all : (table.entries ++ owed table ≡ drop put.given_up put.held) ⊎ (table.entries ++ owed table ≡ kept_of put)
  pub paid : (owed table ≡ []) ⊎ (IsTrue (is_rows_spent table) × (table.entries ≡ take (length (kept_of put) - put.pending) (kept_of put)))

-- each mount that succeeds finds them so
abbrev pub KeepsPuts : ℕ → PutSoFar → Machine → List Moment → Type 0
KeepsPuts place put old [] = Unit {0}
KeepsPuts place put old (moment ∷ moments) =
    (IsMounting moment → MatchOption (slice_get moment.after.tables place) ⊥ (IsKept (mount_gives_up place put old moment)))
    × KeepsPuts place (put_after place put old moment) moment.after moments

abbrev pub KeepsPutsAt : Config → ℕ → Machine → List Moment → Type 0
KeepsPutsAt config place old moments =
    IfSome (slice_get config.plans place) (λ plan. IsTrue (has_log plan) → KeepsPuts place (standing_at place old.tables) old moments)

-- In each run from a state at rest each table with a log keeps what was put.
abbrev pub PutsAreKept : Type 0
PutsAreKept =
    (config : Config) (old : Machine) (moments : List Moment) (place : ℕ) →
    AllByRecursion HasRoom config.plans → old.mounted ≡ false → AllByRecursion IsAtRest old.tables → RestsAt config place old.tables →
    Run config old moments → KeepsPutsAt config place old moments
