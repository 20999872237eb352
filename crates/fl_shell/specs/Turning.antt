-- What one line does to a session.
use Rattle.std.specs.Prelude.{◌≡◌, ℕ, ◌+◌, ◌*◌, ◌≤◌, Bool, true, false, Option, Some, None, Result, Ok, List, [], length}
use Rattle.std.specs.List.{list_any}
use Rattle.fl_base.specs.Causes.{Rose}
use Rattle.fl_flash.specs.Flash.{FlashState}
use Rattle.fl_model.specs.Record.{Config}
use Rattle.fl_words.specs.Command.{Command}
use Rattle.fl_machine.specs.Machine.{Machine}
use Rattle.fl_machine.specs.Script.{runs}
use Rattle.fl_script.specs.Written.{Written}
use Rattle.fl_session.specs.Execute.{Executes}
use Rattle.fl_session.specs.Oldest.{reads_of}
use Rattle.fl_shell.specs.Own.{Own, First, own_of}
use Rattle.fl_shell.specs.Talk.{Answers, description, first_text, groups_of}

-- the command that the machine executes for a line, if any
abbrev pub command_by : Option Own → List ℕ → Option Command
command_by None line = runs line
command_by (Some (First name)) line = Some (groups_of name)
command_by (Some own) line = None

abbrev pub command_for : List ℕ → Option Command
command_for line = command_by (own_of line) line

-- the groups of a table's rows are asked for, and what they say of the first key is written
pub record TellsFirst {E : Type 0} (config : Config) (old : Machine) (name : List ℕ) (stands : Machine → Type 0) (flash flash_now : FlashState) (told told_now : Option (List ℕ)) (result : Result (Unit {0}) E) : Type 0 where
  pub executes : Executes {E = E} config old (groups_of name) stands flash flash_now None None (Ok tt)
  pub written : Written told told_now result (first_text executes.moment.replies)

-- Pages of so many tables were read beside commands, of these a read failed, and the session stands for what it stood for.
pub record Looked (config : Config) (old : Machine) (unread : List Bool) (stands : Machine → Type 0) (flash flash_now : FlashState) : Type 0 where
  pub stays : stands old
  pub content : flash_now.media.content ≡ flash.media.content
  pub reads : (most : ℕ) → ((name : List ℕ) → reads_of config old name ≤ most) → flash_now.work.reads ≤ flash.work.reads + length unread * most
  pub cause : list_any (λ failed. failed) unread ≡ true → Rose flash.media.faults flash_now.media.faults

-- nothing is executed
pub record Says {E : Type 0} (config : Config) (old : Machine) (line : List ℕ) (stands : Machine → Type 0) (flash flash_now : FlashState) (told told_now : Option (List ℕ)) (result : Result (Unit {0}) E) : Type 0 where
  pub unread : List Bool
  pub few : length unread ≤ 4
  pub looked : Looked config old unread stands flash flash_now
  pub answer : List ℕ
  pub answers : Answers config old line (record { moment = None; answer = answer; unread = unread })
  pub written : Written told told_now result answer

-- what each table is and holds is written
pub record Describes {E : Type 0} (config : Config) (old : Machine) (stands : Machine → Type 0) (flash flash_now : FlashState) (told told_now : Option (List ℕ)) (result : Result (Unit {0}) E) : Type 0 where
  pub unread : List Bool
  pub few : length unread ≤ 4
  pub looked : Looked config old unread stands flash flash_now
  pub written : Written told told_now result (description config old unread)

-- The command is executed, and the line answered; where the sink fails in the answer, a front of it is written.
pub record Executed {E : Type 0} (config : Config) (old : Machine) (line : List ℕ) (c : Command) (stands : Machine → Type 0) (flash flash_now : FlashState) (told told_now : Option (List ℕ)) (result : Result (Unit {0}) E) : Type 0 where
  pub executes : Executes {E = E} config old c stands flash flash_now None None result
  pub answer : List ℕ
  pub answers : Answers config old line (record { moment = Some executes.moment; answer = answer; unread = [] })
  pub written : Written told told_now result answer

abbrev pub Turns : {E : Type 0} → Config → Machine → List ℕ → Option Command → (Machine → Type 0) → FlashState → FlashState → Option (List ℕ) → Option (List ℕ) → Result (Unit {0}) E → Type 0
Turns {E} config old line None stands flash flash_now told told_now result = Says {E = E} config old line stands flash flash_now told told_now result
Turns {E} config old line (Some c) stands flash flash_now told told_now result = Executed {E = E} config old line c stands flash flash_now told told_now result

-- .. of the line in hand, if there is one
abbrev pub TurnsIf : {E : Type 0} → Bool → Config → Machine → List ℕ → Option Command → (Machine → Type 0) → FlashState → FlashState → Option (List ℕ) → Option (List ℕ) → Result (Unit {0}) E → Type 0
TurnsIf {E} true config old line o stands flash flash_now told told_now result = Turns {E = E} config old line o stands flash flash_now told told_now result
TurnsIf {E} false config old line o stands flash flash_now told told_now result = stands old × (flash_now ≡ flash) × (told_now ≡ told) × (result ≡ Ok tt)
