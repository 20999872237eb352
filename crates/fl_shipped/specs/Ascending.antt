-- Where the keys of all that was ever written into a table ascend, and where they fail to.
use Rattle.std.specs.Prelude.{◌≡◌, ◌⊎◌, ℕ, zero, suc, ◌≤◌, false, true, None, Option, Some, List, [], ◌∷◌, ◌++◌, slice_get}
use Rattle.std.specs.List.{last_or}
use Rattle.fl_base.specs.Generator.{next_random}
use Rattle.fl_machine.specs.Machine.{Machine}
use Rattle.fl_machine.specs.Run.{Run}
use Rattle.fl_machine.specs.Step.{Moment, load_record, located}
use Rattle.fl_model.specs.Record.{Config, Plan, Record, has_log}
use Rattle.fl_model.specs.Ship.{Ascends, IsEnd, records_in}
use Rattle.fl_model.specs.Table.{Table, refusal_of}
use Rattle.fl_words.specs.Command as command
use Rattle.fl_words.specs.Command.{Command}
use Rattle.fl_shipped.specs.Growing.{table_at, written_by, written_in}

-- the table that a put or a load names, and the first record that it puts
abbrev pub named_by : Command → List ℕ
named_by (command.Put name key values blob) = name
named_by (command.Load name count step seed) = name
named_by other = []

abbrev pub first_put : Plan → Table → Command → Option Record
first_put plan table (command.Put name key values blob) = Some (record { key = key; values = values; blob = blob })
first_put plan table (command.Load name zero step seed) = None
first_put plan table (command.Load name (suc count) step seed) = Some (load_record plan table step seed 1 (next_random seed))
first_put plan table other = None

-- The table has no record, though these were written into it, and takes one with a key that isn't above the last of them.
pub record TakesLower (config : Config) (place : ℕ) (plan : Plan) (written : List Record) (old : Machine) (moment : Moment) : Type 0 where
  pub mounted : old.mounted ≡ true
  pub table : Table
  pub at : located config old (named_by moment.command) ≡ Some (record { place = place; plan = plan; table = table })
  pub empty : table.entries ≡ []
  pub item : Record
  pub puts : first_put plan table moment.command ≡ Some item
  pub accepted : refusal_of plan table item ≡ None
  pub last : Record
  pub last_is : last_or None written ≡ Some last
  pub lower : item.key ≤ last.key

-- .. in some moment of a run
abbrev pub TakesLowerIn : Config → ℕ → Plan → List Record → Machine → List Moment → Type 0
TakesLowerIn config place plan written old [] = ⊥
TakesLowerIn config place plan written old (moment ∷ moments) =
    TakesLower config place plan written old moment
    ⊎ TakesLowerIn config place plan (written ++ written_by plan (table_at plan place old.tables) (table_at plan place moment.after.tables) moment.command) moment.after moments

-- In each run over a table without a log in which nothing is pending at first, and which has the last of what was written: the keys
-- of all that was written go on to ascend, but where the table's last record was given up and it then took a lower key.
abbrev pub KeysAscend : Type 0
KeysAscend =
    (config : Config) (old : Machine) (moments : List Moment) (place : ℕ) (plan : Plan) (before : Table) (written : List Record) → slice_get config.plans place ≡ Some plan → has_log plan ≡ false →
    slice_get old.tables place ≡ Some before → before.pending ≡ 0 → IsEnd (records_in before) written → Ascends written → Run config old moments →
    Ascends (written ++ written_in plan place old moments) ⊎ TakesLowerIn config place plan written old moments
