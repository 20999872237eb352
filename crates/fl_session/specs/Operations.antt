-- What a command does to the flash of a session, where no operation of it fails.
use Rattle.std.specs.Prelude.{◌≡◌, ℕ, ◌+◌, ◌-◌, ◌^◌, ◌<◌, Bool, Option, Some, None, Result, List}
use Rattle.fl_base.specs.Causes.{Rose}
use Rattle.fl_base.specs.declared.stream.SinkFailed.{SinkFailed}
use Rattle.fl_flash.specs.Flash.{FlashState}
use Rattle.fl_model.specs.Record.{Config}
use Rattle.fl_words.specs.Command.{Command}
use Rattle.fl_machine.specs.Machine.{Machine}
use Rattle.fl_machine.specs.Operations.{operations_by, programs_in, erases_in}
use Rattle.fl_machine.specs.Plain.{plain}
use Rattle.fl_machine.specs.Script.{StandsAfter}
use Rattle.fl_machine.specs.Stays.{CommandStays}
use Rattle.fl_store.specs.declared.tables.Entry.{Entry}
use Rattle.fl_session.specs.Execute.{Executes}
use Rattle.fl_session.specs.Standing.{SessionStands}
use Rattle.fl_session.specs.declared.notes.Notes.{Notes}

-- The flash counts just the operations of the command, where a count isn't at its end, and its medium stands for the state
-- that they leave, which is the plain machine's. What they don't touch there is as it was.
pub record DoesJust (config : Config) (old : Machine) (command : Command) (f f_now : FlashState) : Type 0 where
  pub programs : f_now.work.programs < 2 ^ 64 - 1 → f_now.work.programs ≡ f.work.programs + programs_in (operations_by config old command)
  pub erases : f_now.work.erases < 2 ^ 64 - 1 → f_now.work.erases ≡ f.work.erases + erases_in (operations_by config old command)
  pub content : StandsAfter config (Some f_now.media.content) (plain config old command).after
  pub stays : CommandStays config old command (plain config old command).after f.media.content f_now.media.content

-- So does each command that a session executes, where the medium doesn't fail and no cut falls into an operation.
abbrev pub CommandsAreExact : Type 0
CommandsAreExact =
    (config : Config) (old : Machine) (command : Command) (entries entries_now : List Entry) (f f_now : FlashState) (mounted mounted_now : Bool) (notes notes_now : Notes)
    (told told_now : Option (List ℕ)) (result : Result (Unit {0}) SinkFailed) →
    SessionStands config entries f mounted notes old → Executes config old command (SessionStands config entries_now f_now mounted_now notes_now) f f_now told told_now result →
    (Rose f.media.faults f_now.media.faults → ⊥) → (plain config old command).last ≡ None → DoesJust config old command f f_now
