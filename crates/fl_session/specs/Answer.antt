-- One command of a session, up to its reply.
use Rattle.std.specs.Prelude.{◌≡◌, ℕ, Bool, true, false, IsTrue, None, Result, Ok, Err, List, [], ◌∷◌}
use Rattle.fl_base.specs.Causes.{Rose}
use Rattle.fl_flash.specs.Flash.{FlashState}
use Rattle.fl_model.specs.Record.{Config}
use Rattle.fl_words.specs.Command.{Command}
use Rattle.fl_words.specs.Reply as reply
use Rattle.fl_words.specs.Reply.{Reply, text, texts}
use Rattle.fl_machine.specs.Machine.{Machine}
use Rattle.fl_machine.specs.Reads.{none_read}
use Rattle.fl_machine.specs.Stays.{MomentStays}
use Rattle.fl_machine.specs.Step.{Moment, Step}
use Rattle.fl_script.specs.declared.reply.Reply as code
use Rattle.fl_table.specs.declared.faults.PutRefusal.{PutRefusal}
use Rattle.fl_parts.specs.declared.mount_fault.MountFault.{MountFault}
use Rattle.fl_parts.specs.declared.mount_fault.MountFault.TheVariants as mount
use Rattle.fl_store.specs.Replies.{fault_reply, put_reply}
use Rattle.fl_store.specs.Tables.{IsNamed, Names}
use Rattle.fl_store.specs.declared.tables.BadMount.{BadMount}
use Rattle.fl_store.specs.declared.tables.Entry.{Entry}

-- From a state of the machine a command that reads no rows went on to another one, for which the session stands; this is
-- the text of its replies.
pub record Answers (config : Config) (old : Machine) (command : Command) (stands : Machine → Type 0) (flash flash_now : FlashState) (said : List ℕ) : Type 0 where
  pub moment : Moment
  pub command_is : moment.command ≡ command
  pub step : Step config old moment
  pub stands_after : stands moment.after
  pub none : none_read moment
  pub stays : MomentStays config old moment flash.media.content flash_now.media.content
  pub rose : IsTrue moment.rose → Rose flash.media.faults flash_now.media.faults
  pub said_is : texts moment.replies ≡ said

-- the replies to a load: how many records were put, and why the next one wasn't
abbrev pub load_replies : ℕ → Result (Unit {0}) PutRefusal → List Reply
load_replies count (Ok done) = reply.Loaded count ∷ []
load_replies count (Err refusal) = reply.Loaded count ∷ put_reply (Err refusal) ∷ []

-- why a command on a table isn't executed: nothing is mounted, or no table has this name
abbrev pub Refusal : List Entry → Bool → List ℕ → code.Reply → Type 0
Refusal entries mounted name code.TheVariants.NotMounted = mounted ≡ false
Refusal entries mounted name code.TheVariants.NoTable = (mounted ≡ true) × Names entries name None
Refusal entries mounted name _ = ⊥

-- the table of this name is at this place, and a command on it is executed
pub record IsReached (entries : List Entry) (mounted : Bool) (name : List ℕ) (at : ℕ) : Type 0 where
  pub mounted_is : mounted ≡ true
  pub named : IsNamed entries name at

abbrev pub Reaches : List Entry → Bool → List ℕ → Result ℕ code.Reply → Type 0
Reaches entries mounted name (Ok at) = IsReached entries mounted name at
Reaches entries mounted name (Err refusal) = Refusal entries mounted name refusal

-- the reply to a mount of the tables; this is the name of the one that isn't mounted
abbrev pub bad_reply : List ℕ → MountFault → Reply
bad_reply name (mount.Flash fault) = fault_reply fault
bad_reply name _ = reply.BadImage name

abbrev pub mount_reply : Result (Unit {0}) BadMount → Reply
mount_reply (Ok done) = reply.Done
mount_reply (Err bad) = bad_reply bad.name bad.fault
