-- Where no line is read, the status tells of the source alone.
use Rattle.std.proofs.Common.{◌≡◌, ℕ, ◌+◌, ◌^◌, ◌<◌, Bool, true, false, Result, Ok, Err, List, refl, sym, ◌∙◌, subst, arith}
use Rattle.fl_lines.specs.declared.lines.LinesFault.{LinesFault}
use Rattle.fl_lines.specs.declared.lines.LinesFault.TheVariants.{Failed, Long}
use Rattle.fl_machine.specs.Machine.{Machine}
use Rattle.fl_model.specs.Record.{Config}
use Rattle.fl_words.specs.Command.{Command}
use Rattle.fl_words.specs.Config.{Lines}
use Rattle.fl_ends.specs.declared.pending.PendingRows.{PendingRows}
use Rattle.fl_ends.specs.declared.run.Status.{Status}
use Rattle.fl_ends.specs.declared.run.Status.TheVariants.{Done, Line, ScriptRead, OutWrite, Config as BadConfiguration, ScriptLong}
use Rattle.fl_session.specs.Begin.{ConfiguresBy, IsOfScript}
use Rattle.fl_session.specs.Caused.{State}
use Rattle.fl_session.specs.Next.{EndsThere}
use Rattle.fl_session.specs.Pending.{TellsPending}
use Rattle.fl_session.specs.Run.{IsOfCommands}
use Rattle.fl_session.specs.Told.{TellsRows}

-- ---- the line that was asked for

pub read-script : (given : Result Bool LinesFault) (line : List ℕ) (number : ℕ) (Refused : Type 0) (status : Status) → EndsThere given line number Refused status → IsOfScript status
read-script (Ok true) line number Refused (Line n) h = tt
read-script (Ok true) line number Refused status h = absurd h
read-script (Ok false) line number Refused status h = absurd h
read-script (Err Failed) line number Refused ScriptRead h = tt
read-script (Err Failed) line number Refused status h = absurd h
read-script (Err Long) line number Refused ScriptLong h = tt
read-script (Err Long) line number Refused status h = absurd h

-- a status of the script that isn't one of its configuration
pub read-commands : (given : Result Bool LinesFault) (line : List ℕ) (number : ℕ) (Refused : Type 0) (status : Status) → EndsThere given line number Refused status → IsOfCommands status
read-commands (Ok true) line number Refused (Line n) h = tt
read-commands (Ok true) line number Refused status h = absurd h
read-commands (Ok false) line number Refused status h = absurd h
read-commands (Err Failed) line number Refused ScriptRead h = tt
read-commands (Err Failed) line number Refused status h = absurd h
read-commands (Err Long) line number Refused ScriptLong h = tt
read-commands (Err Long) line number Refused status h = absurd h

-- what is read tells the source's fault, and no other
pub read-failed : (given : Result Bool LinesFault) (line : List ℕ) (number : ℕ) (Refused : Type 0) (status : Status) → EndsThere given line number Refused status → status ≡ ScriptRead → given ≡ Err Failed
read-failed (Ok true) line number Refused status h e = absurd (subst (EndsThere (Ok true) line number Refused) e h)
read-failed (Ok false) line number Refused status h e = absurd (subst (EndsThere (Ok false) line number Refused) e h)
read-failed (Err Failed) line number Refused status h e = refl
read-failed (Err Long) line number Refused status h e = absurd (subst (EndsThere (Err Long) line number Refused) e h)

-- .. and nothing of pending rows or of the sink
pub script-pending : (status : Status) → IsOfScript status → (config : Config) (m : Machine) → TellsPending config status m
script-pending (Done pending) h config m = absurd h
script-pending status h config m = tt

pub script-rows : (status : Status) → IsOfScript status → (s : State) → TellsRows s status
script-rows (Done pending) h s = absurd h
script-rows status h s = tt

pub script-write : (status : Status) → IsOfScript status → status ≡ OutWrite → ⊥
script-write status h e = subst IsOfScript e h

-- ---- what isn't read

pub unread : (status : Status) → status ≡ ScriptRead → (IsOfScript status → ⊥) → ⊥
unread status e other = other (subst IsOfScript (sym e) tt)

pub done-write : (pending : PendingRows) → Done pending ≡ OutWrite → ⊥
done-write pending e = cc

-- ---- the configuration

pub config-read : (n : ℕ) (status : Status) → status ≡ BadConfiguration n → status ≡ ScriptRead → ⊥
config-read n status is e = subst IsOfCommands (sym (sym is ∙ e)) tt

pub configure-script : (old : Lines) (c : Command) (number : ℕ) (status : Status) (new : Lines) → ConfiguresBy old c number (Err status) new → IsOfScript status
configure-script old c number (BadConfiguration n) new h = tt
configure-script old c number status new h = absurd h

pub configure-read : (old : Lines) (c : Command) (number : ℕ) (status : Status) (new : Lines) → ConfiguresBy old c number (Err status) new → status ≡ ScriptRead → ⊥
configure-read old c number status new h e = subst (λ s. ConfiguresBy old c number (Err s) new) e h

pub numbered-on : (number before now : ℕ) → number + before < 2 ^ 32 → now < before → number + now < 2 ^ 32
numbered-on number before now few fewer = omega (arith, few, fewer)
