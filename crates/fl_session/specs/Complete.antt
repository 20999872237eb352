-- A script whose lines are all in the grammar and in their places is run to its end.
use Rattle.std.specs.Prelude.{◌≡◌, ℕ, ◌≤◌, ◌⊎◌, None, List, [], length}
use Rattle.fl_base.specs.Causes.{Appends}
use Rattle.fl_model.specs.Record.{Config}
use Rattle.fl_words.specs.Command.{Command}
use Rattle.fl_machine.specs.Script.{Ready, accepted, first_refused}
use Rattle.fl_ends.specs.declared.run.Status.{Status}
use Rattle.fl_ends.specs.declared.run.Status.TheVariants.{Done, Usage, Line, ScriptRead, OutWrite, MediaMake, Config as BadConfiguration, OtherConfig, ScriptLong, NoMemory}
use Rattle.fl_session.specs.Ends.{Told, RunsAll}
use Rattle.fl_session.specs.ScriptEnds.{start_in}
use Rattle.fl_lines.specs.Texts.{most_bytes}
use Rattle.fl_store.specs.NewImage.{new_image}

-- The lines of the script are all in the grammar and in their places: the first ones make this configuration, which is
-- accepted, and those behind them are these commands.
pub record IsInPlace (knots : ℕ) (text : List ℕ) (config : Config) (commands : List Command) : Type 0 where
  pub short : length text ≤ most_bytes
  pub number : ℕ
  pub lines : List (List ℕ)
  pub starts : start_in knots text ≡ Ready config number lines
  pub accepts : first_refused number lines ≡ None
  pub commands_are : accepted lines ≡ commands

-- no command was run: nothing was written, and the medium is as it was or newly made
pub record IsUnbegun (config : Config) (told : Told) : Type 0 where
  pub written : Appends told.written told.written_now []
  pub content : (told.content_now ≡ told.content) ⊎ ((told.content ≡ []) × (told.content_now ≡ new_image config))

-- All its commands are run, or memory was wanted before the first of them.
abbrev pub Completes : Config → List Command → Told → Status → Type 0
Completes config commands told (Done pending) = RunsAll config commands told (Done pending)
Completes config commands told NoMemory = IsUnbegun config told
Completes config commands told Usage = ⊥
Completes config commands told (Line n) = ⊥
Completes config commands told ScriptRead = ⊥
Completes config commands told OutWrite = ⊥
Completes config commands told MediaMake = ⊥
Completes config commands told (BadConfiguration n) = ⊥
Completes config commands told (OtherConfig wanted found at) = ⊥
Completes config commands told ScriptLong = ⊥
