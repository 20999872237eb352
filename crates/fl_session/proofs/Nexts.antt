-- The next line behind a configuration.
use Rattle.std.proofs.Common.{◌≡◌, ℕ, Bool, true, false, Some, None, Result, Ok, Err, List, refl, ap, ◌∙◌}
use Rattle.fl_words.specs.Command as words
use Rattle.fl_words.specs.Grammar as grammar
use Rattle.fl_words.specs.Grammar.{command_of}
use Rattle.fl_machine.specs.Script.{runs, runs_read}
use Rattle.fl_lines.specs.declared.lines.LinesFault.{LinesFault}
use Rattle.fl_lines.specs.declared.lines.LinesFault.TheVariants.{Failed, Long}
use Rattle.fl_ends.specs.declared.run.Status.{Status}
use Rattle.fl_ends.specs.declared.run.Status.TheVariants.{Line}
use Rattle.fl_session.specs.Next.{EndsThere, IsRefused, IsToRun}

pub ends-there : (given : Result Bool LinesFault) (line : List ℕ) (number : ℕ) (P Q : Type 0) (status : Status) → (P → Q) → EndsThere given line number P status → EndsThere given line number Q status
ends-there (Ok true) line number P Q (Line n) f h = (h.0, f h.1)
ends-there (Ok true) line number P Q status f h = h
ends-there (Ok false) line number P Q status f h = h
ends-there (Err Failed) line number P Q status f h = h
ends-there (Err Long) line number P Q status f h = h

runs-refused_of : (r : Result words.Command grammar.LineFault) → IsRefused r → runs_read r ≡ None
runs-refused_of (Ok c) h = absurd h
runs-refused_of (Err fault) h = refl

pub runs-refused : (line : List ℕ) → IsRefused (command_of line) → runs line ≡ None
runs-refused line h = runs-refused_of (command_of line) h

pub ends-refused : (given : Result Bool LinesFault) (line : List ℕ) (number : ℕ) (status : Status) → EndsThere given line number (IsRefused (command_of line)) status → EndsThere given line number (runs line ≡ None) status
ends-refused given line number status h = ends-there given line number (IsRefused (command_of line)) (runs line ≡ None) status (runs-refused line) h

pub runs-runnable : (line : List ℕ) (c : words.Command) → IsToRun line c → runs line ≡ Some c
runs-runnable line c h = ap runs_read h.reads ∙ h.runnable.runs
