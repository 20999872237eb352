-- What a session tells beside the replies to its commands, over any bytes and on any medium.
use Rattle.std.specs.Prelude.{◌≡◌, ◌⊎◌, ℕ, Option, Some, None, Result, Ok, Err, List, [], ◌∷◌, map, slice_get, if◌then◌else◌}
use Rattle.fl_rlc.specs.Table.{table_in}
use Rattle.fl_script.specs.declared.reply.Reply.{Reply}
use Rattle.fl_table.specs.Memory.{pending_in}
use Rattle.fl_store.specs.declared.tables.Entry.{Entry}
use Rattle.fl_queries.specs.OldestTold.{OldestIn}
use Rattle.fl_ends.specs.declared.pending.TableRows.{TableRows}
use Rattle.fl_ends.specs.declared.run.Status.{Status}
use Rattle.fl_ends.specs.declared.run.Status.TheVariants.{Done}
use Rattle.fl_session.specs.Answer.{Refusal}
use Rattle.fl_session.specs.Caused.{IsHere, OnlyLooks, State}
use Rattle.fl_session.specs.Pending.{rows_of}

-- This is told of the table of this name, which is here and mounted; or else why a command on it is refused.
abbrev pub TellsOf : {A : Type 0} → State → List ℕ → (Entry → A → Type 0) → Result A Reply → Type 0
TellsOf s name Tells (Ok told) = (at : ℕ) × (entry : Entry) × IsHere s name at entry × Tells entry told
TellsOf s name Tells (Err refusal) = Refusal s.entries s.mounted name refusal

-- it is refused as a command on the table is, and nothing changes; or the table and its pages are only looked at
abbrev pub OldestSays : State → State → List ℕ → Result (Option ℕ) Reply → Type 0
OldestSays old new name result =
    ((refusal : Reply) × (result ≡ Err refusal) × Refusal old.entries old.mounted name refusal × (new ≡ old))
    ⊎ ((at : ℕ) × (entry : Entry) × IsHere old name at entry × OldestIn (table_in entry.table) old.flash new.flash result × OnlyLooks old new old.notes)

-- the rows of the table at a place that are pending, while it is mounted
abbrev pub rows_there : Option Entry → Option TableRows
rows_there None = None
rows_there (Some entry) = rows_of entry.name (pending_in (table_in entry.table))

abbrev pub pending_at : State → ℕ → Option TableRows
pending_at s at = if s.mounted then rows_there (slice_get s.entries at) else None

-- .. and those of each table, of which there are at most four
abbrev pub pending_rows : State → List (Option TableRows)
pending_rows s = map (pending_at s) (0 ∷ 1 ∷ 2 ∷ 3 ∷ [])

-- a status that tells pending rows tells those of the state in which the run ended
abbrev pub TellsRows : State → Status → Type 0
TellsRows s (Done pending) = pending.tables ≡ pending_rows s
TellsRows s status = Unit {0}
