-- The operations on the flash that a command does, and how the totals rise by them.
use Rattle.std.specs.Prelude.{◌≡◌, ℕ, zero, suc, ◌+◌, ◌-◌, ◌^◌, ◌<◌, false, Option, Some, None, List, [], ◌∷◌, ◌++◌, slice_get, if◌then◌else◌}
use Rattle.fl_base.specs.Generator.{next_random}
use Rattle.fl_model.specs.Record.{Record, Plan, Config}
use Rattle.fl_model.specs.Table.{Table, Refusal, refusal_of, put_record, table_seals}
use Rattle.fl_model.specs.Work.{Operation, Device, is_erase, done, operations_of, changed_at}
use Rattle.fl_model.specs.Within.{all_done}
use Rattle.fl_model.specs.Puts.{room_operations, join_operations}
use Rattle.fl_model.specs.Mount.{Turn, turns_from, turned_at, operations_at}
use Rattle.fl_words.specs.Command as command
use Rattle.fl_words.specs.Command.{Command}
use Rattle.fl_machine.specs.Machine.{Machine}
use Rattle.fl_machine.specs.Step.{Moment, Located, located, load_record}
use Rattle.fl_machine.specs.Run.{Run}

-- how many of them program, and how many erase
abbrev pub programs_in : List Operation → ℕ
programs_in [] = 0
programs_in (operation ∷ operations) = (if is_erase operation.kind then 0 else 1) + programs_in operations

abbrev pub erases_in : List Operation → ℕ
erases_in [] = 0
erases_in (operation ∷ operations) = (if is_erase operation.kind then 1 else 0) + erases_in operations

-- those of a record that is accepted
abbrev pub unless_refused : Option Refusal → List Operation → List Operation
unless_refused None operations = operations
unless_refused (Some refusal) operations = []

abbrev pub accepted_operations : Plan → ℕ → Record → Table → List Operation
accepted_operations plan place item table = room_operations plan place table ++ join_operations plan place item table

abbrev pub put_operations : Plan → ℕ → Record → Table → List Operation
put_operations plan place item table = unless_refused (refusal_of plan table item) (accepted_operations plan place item table)

-- those of the puts of a load, up to the first record that is refused; `turns` puts are left, from the i-th on
abbrev pub of_table : Option Table → (Table → List Operation) → List Operation
of_table None f = []
of_table (Some table) f = f table

abbrev pub load_operations : Plan → ℕ → ℕ → ℕ → ℕ → ℕ → ℕ → List Table → List Operation
load_operations plan place step seed zero i s tables = []
load_operations plan place step seed (suc turns) i s tables =
    of_table (slice_get tables place) (λ table.
    let item = load_record plan table step seed i s in
    unless_refused (refusal_of plan table item)
    (accepted_operations plan place item table
    ++ load_operations plan place step seed turns (i + 1) (next_random s) (changed_at place (put_record plan item) tables)))

-- those of a mount, turn by turn
abbrev pub mount_operations : List Plan → List (ℕ × Turn) → List Table → List Operation
mount_operations plans [] tables = []
mount_operations plans (at ∷ turns) tables =
    let begun = turned_at plans at tables in
    let operations = operations_at plans at begun in
    operations ++ mount_operations plans turns (all_done (done plans) operations begun)

-- those of a command on the table of a name, which has none where it isn't executed
abbrev pub of_located : Option Located → (Located → List Operation) → List Operation
of_located None f = []
of_located (Some at) f = f at

abbrev pub of_named : Config → Machine → List ℕ → (Located → List Operation) → List Operation
of_named config old name f = if old.mounted then of_located (located config old name) f else []

-- The operations of a command. A command other than these has none.
abbrev pub operations_by : Config → Machine → Command → List Operation
operations_by config old command.Mount = if old.mounted then [] else mount_operations config.plans (turns_from 0 config.plans) old.tables
operations_by config old (command.Put name key values blob) =
    of_named config old name (λ at. put_operations at.plan at.place (record { key = key; values = values; blob = blob }) at.table)
operations_by config old (command.Flush name) = of_named config old name (λ at. operations_of at.plan at.place (table_seals at.plan at.table) at.table)
operations_by config old (command.Load name count step seed) =
    of_named config old name (λ at. load_operations at.plan at.place step seed count 1 (next_random seed) old.tables)
operations_by config old _ = []

-- The totals rise by just these operations, where they aren't at their end.
pub record CountsOperations (old : Device) (operations : List Operation) (new : Device) : Type 0 where
  pub programs : new.programs < 2 ^ 64 - 1 → new.programs ≡ old.programs + programs_in operations
  pub erases : new.erases < 2 ^ 64 - 1 → new.erases ≡ old.erases + erases_in operations

-- .. or by a front of them
pub record CountsFront (old : Device) (operations : List Operation) (new : Device) : Type 0 where
  pub front : List Operation
  pub others : List Operation
  pub split : front ++ others ≡ operations
  pub counts : CountsOperations old front new

-- a moment does a front of the operations of its command, and all where none fails and the medium's faults don't rise
pub record CountsMoment (config : Config) (old : Machine) (moment : Moment) : Type 0 where
  pub front : CountsFront old.device (operations_by config old moment.command) moment.after.device
  pub whole : moment.rose ≡ false → moment.last ≡ None → CountsOperations old.device (operations_by config old moment.command) moment.after.device

-- .. in each moment
abbrev pub CountsEach : Config → Machine → List Moment → Type 0
CountsEach config old [] = Unit {0}
CountsEach config old (moment ∷ moments) = CountsMoment config old moment × CountsEach config moment.after moments

-- each moment does just the operations of its command
abbrev pub DoesEach : Config → Machine → List Moment → Type 0
DoesEach config old [] = Unit {0}
DoesEach config old (moment ∷ moments) =
    CountsOperations old.device (operations_by config old moment.command) moment.after.device × DoesEach config moment.after moments

abbrev pub OperationsAreExact : Type 0
OperationsAreExact = (config : Config) (old : Machine) (moments : List Moment) → Run config old moments → CountsEach config old moments
