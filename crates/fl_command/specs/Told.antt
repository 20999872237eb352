-- What standard error has of an ending, by whether explanations are wanted.
use Rattle.std.specs.Prelude.{ℕ, ◌==◌, Bool, true, Option, Some, None, List, [], ◌++◌, codes, if◌then◌else◌}
use Rattle.fl_reason.specs.declared.text.Reason.{Reason}
use Rattle.fl_command.specs.Number.{number_of}
use Rattle.fl_command.specs.Text.{line_of, exit_headline, exit_text}
use Rattle.fl_command.specs.declared.ending.Ending.{Ending}
use Rattle.fl_command.specs.declared.told.Telling.{Telling}
use Rattle.fl_command.specs.declared.told.Telling.TheVariants.{Headline, Explained}
use Rattle.fl_command.specs.declared.told.Told.{Told}

-- why a line is refused: no definition has the words of a reason
abbrev pub reason_text : Option Reason → Option (List ℕ)
reason_text (Some reason) = None
reason_text None = Some []

abbrev pub made_text : Bool → List ℕ
made_text made = if made then line_of (codes "a new image was made\n") else []

-- all lines of an ending, where no reason is told
abbrev pub lines_of : Option (List ℕ) → Ending → Option (List ℕ)
lines_of (Some reason) ending = Some (exit_text ending.exit ++ reason ++ made_text ending.made)
lines_of None ending = None

abbrev pub ending_text : Ending → Option (List ℕ)
ending_text ending = lines_of (reason_text ending.reason) ending

-- whether all of it is told: beside status 0, and where explanations are wanted
abbrev pub is_whole : Telling → ℕ → Bool
is_whole Explained number = true
is_whole Headline number = number == 0

abbrev pub is_told_whole : Told → Bool
is_told_whole told = is_whole told.telling (number_of told.ending.exit)

-- all lines, or of an ending that failed and isn't explained the headline alone
abbrev pub told_text : Told → Option (List ℕ)
told_text told = if is_told_whole told then ending_text told.ending else Some (exit_headline told.ending.exit)
