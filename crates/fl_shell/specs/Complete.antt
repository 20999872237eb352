-- An input over an image, or over an empty medium that its leading lines configure, is answered to its end.
use Rattle.std.specs.Prelude.{ℕ, List}
use Rattle.fl_model.specs.Record.{Config}
use Rattle.fl_ends.specs.declared.shell.Flushed.{Flushed}
use Rattle.fl_ends.specs.declared.shell.ShellStatus.{ShellStatus}
use Rattle.fl_ends.specs.declared.shell.ShellStatus.TheVariants.{Done, NoMemory, Unflushed}
use Rattle.fl_session.specs.Ends.{Told}
use Rattle.fl_shell.specs.Ends.{BeginsWith, ShellEnds}

-- there is a configuration: that of the image with this content, or over an empty one that of the leading lines
abbrev pub IsConfigured : ℕ → List ℕ → List (List ℕ) → Type 0
IsConfigured knots content lines = (config : Config) × (others : List (List ℕ)) × (answers : List ℕ) × BeginsWith knots content lines config others answers

-- all lines are answered and what is pending is flushed, or memory was wanted before the first command
abbrev pub Completes : ℕ → List ℕ → Told → Flushed → ShellStatus → Type 0
Completes knots text told flushed Done = ShellEnds knots text told flushed Done
Completes knots text told flushed Unflushed = ShellEnds knots text told flushed Unflushed
Completes knots text told flushed NoMemory = ShellEnds knots text told flushed NoMemory
Completes knots text told flushed status = ⊥
