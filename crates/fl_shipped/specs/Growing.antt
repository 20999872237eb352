-- What a run writes into the pages of a table, and what these keep of it.
use Rattle.std.specs.Prelude.{◌≡◌, ℕ, zero, suc, ◌+◌, ◌-◌, ◌==◌, false, is_some, Some, unwrap_or, List, [], ◌∷◌, ◌++◌, drop, map, slice_get, take, if◌then◌else◌}
use Rattle.std.specs.List.{flat_map}
use Rattle.fl_base.specs.Generator.{next_random}
use Rattle.fl_model.specs.Record.{Record, Plan, Config, has_log, rows_per_page}
use Rattle.fl_model.specs.Ship.{records_in}
use Rattle.fl_model.specs.Table.{Table, fresh_table, lose, pending_entries, put_record, refusal_of}
use Rattle.fl_words.specs.Command as command
use Rattle.fl_words.specs.Command.{Command}
use Rattle.fl_machine.specs.Machine.{Machine}
use Rattle.fl_machine.specs.Run.{Run, end_of}
use Rattle.fl_machine.specs.Step.{Moment, load_record}

-- the records that no page of the table has yet, and those that its pages have
abbrev pub waiting_records : Table → List Record
waiting_records table = map (λ entry. entry.kept) (pending_entries table)

abbrev pub paged_records : Table → List Record
paged_records table = records_in (lose table)

-- the pages that a flush seals, by their records: one of all that wait, unless none do
abbrev pub flush_pages : Table → List (List Record)
flush_pages table = if table.pending == 0 then [] else waiting_records table ∷ []

-- .. a put, which makes room where a page of records waits
abbrev pub put_pages : Plan → Table → List (List Record)
put_pages plan table = if table.pending == rows_per_page plan then flush_pages table else []

-- .. and the puts of a load, until one is refused
abbrev pub load_pages : Plan → ℕ → ℕ → ℕ → ℕ → ℕ → Table → List (List Record)
load_pages plan step seed zero i s table = []
load_pages plan step seed (suc turns) i s table =
    let item = load_record plan table step seed i s in
    if is_some (refusal_of plan table item) then []
    else put_pages plan table ++ load_pages plan step seed turns (i + 1) (next_random s) (put_record plan item table)

-- the pages of records that a command seals in the table that it names, in order, where no operation fails
abbrev pub sealed_pages : Plan → Table → Command → List (List Record)
sealed_pages plan table (command.Put name key values blob) = put_pages plan table
sealed_pages plan table (command.Flush name) = flush_pages table
sealed_pages plan table (command.Load name count step seed) = load_pages plan step seed count 1 (next_random seed) table
sealed_pages plan table other = []

-- the records that a command wrote into pages of a table: those of as many of them as the table has more page numbers
abbrev pub written_by : Plan → Table → Table → Command → List Record
written_by plan before after command = flat_map (λ page. page) (take (after.rows.next - before.rows.next) (sealed_pages plan before command))

abbrev pub table_at : Plan → ℕ → List Table → Table
table_at plan place tables = unwrap_or (slice_get tables place) (fresh_table plan)

-- all that a run wrote into pages of the table at a place
abbrev pub written_in : Plan → ℕ → Machine → List Moment → List Record
written_in plan place old [] = []
written_in plan place old (moment ∷ moments) =
    written_by plan (table_at plan place old.tables) (table_at plan place moment.after.tables) moment.command ++ written_in plan place moment.after moments

-- more records came, and the oldest went
pub record GrowsBy (before more after : List Record) : Type 0 where
  pub given_up : ℕ
  pub is : after ≡ drop given_up (before ++ more)

-- In each run, whatever was cut or failed in it, the pages of a table without a log have at the end all that they had and all that
-- was written into them, but for the oldest records.
abbrev pub RunsGrow : Type 0
RunsGrow =
    (config : Config) (old : Machine) (moments : List Moment) (place : ℕ) (plan : Plan) (before after : Table) → slice_get config.plans place ≡ Some plan → has_log plan ≡ false →
    slice_get old.tables place ≡ Some before → Run config old moments → slice_get (end_of old moments).tables place ≡ Some after →
    GrowsBy (paged_records before) (written_in plan place old moments) (paged_records after)
