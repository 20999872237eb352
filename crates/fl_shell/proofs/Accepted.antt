-- The configuration of a shell's image is one that is accepted.
use Rattle.std.proofs.Common.{◌≡◌, ℕ, Option, Some, None, Result, Ok, Err, List, [], ◌∷◌, refl, sym, subst}
use Rattle.std.proofs.lemmas.Option.{option_and_then_some}
use Rattle.fl_image.specs.Header.{unless_refused, after_command, after_lines, IsAccepted}
use Rattle.fl_machine.proofs.Accepted as machine
use Rattle.fl_machine.proofs.Accepted.{LinesHaveRoom, configured-room, no_lines-room, whole-accepted}
use Rattle.fl_model.specs.Record.{Config}
use Rattle.fl_words.specs.Command as command
use Rattle.fl_words.specs.Command.{Command}
use Rattle.fl_words.specs.Config.{ConfigFault, Lines, configured, no_lines, whole}
use Rattle.fl_words.specs.Grammar.{LineFault, command_of}
use Rattle.fl_shell.specs.Own.{Own, Echo, own_of}
use Rattle.fl_shell.specs.Begin.{Leads, LeadsTo, step_command, step_config, step_own}

-- ---- the leading lines

config-leads : (before after : Lines) (answer : List ℕ) (r : Result Lines ConfigFault) → ((now : Lines) → r ≡ Ok now → LinesHaveRoom now) → LinesHaveRoom before → LeadsTo before (step_config r) answer after → LinesHaveRoom after
config-leads before after answer (Ok now) taken room h = subst LinesHaveRoom (sym h.1) (taken now refl)
config-leads before after answer (Err fault) taken room h = subst LinesHaveRoom (sym h.1) room

command-leads : (before after : Lines) (answer : List ℕ) (r : Result Command LineFault) → LinesHaveRoom before → LeadsTo before (step_command before r) answer after → LinesHaveRoom after
command-leads before after answer (Ok (command.Device page block)) room h =
    config-leads before after answer (configured before (command.Device page block)) (λ now e. configured-room before now (command.Device page block) room e) room h
command-leads before after answer (Ok (command.Table line)) room h =
    config-leads before after answer (configured before (command.Table line)) (λ now e. configured-room before now (command.Table line) room e) room h
command-leads before after answer (Ok command.Nothing) room h = subst LinesHaveRoom (sym h.1) room
command-leads before after answer (Ok c) room h = subst LinesHaveRoom (sym h.1) room
command-leads before after answer (Err fault) room h = subst LinesHaveRoom (sym h.1) room

own-leads : (before after : Lines) (answer line : List ℕ) (o : Option Own) → LinesHaveRoom before → LeadsTo before (step_own before o line) answer after → LinesHaveRoom after
own-leads before after answer line (Some (Echo word)) room h = subst LinesHaveRoom (sym h.1) room
own-leads before after answer line (Some own) room h = subst LinesHaveRoom (sym h.1) room
own-leads before after answer line None room h = command-leads before after answer (command_of line) room h

leads-room : (before after : Lines) (lines : List (List ℕ)) (answers : List ℕ) → LinesHaveRoom before → Leads before lines answers after → LinesHaveRoom after
leads-room before after [] answers room h = subst LinesHaveRoom (sym h.1) room
leads-room before after (line ∷ lines) answers room h = leads-room h.2 after lines h.1 (own-leads before h.2 h.0 line (own_of line) room h.4) h.5

pub leads-accepted : (knots : ℕ) (lines : Lines) (front : List (List ℕ)) (answers : List ℕ) (config : Config) → Leads no_lines front answers lines → whole knots lines ≡ Some config → machine.IsAccepted config
leads-accepted knots lines front answers config h w = whole-accepted knots lines config (leads-room no_lines lines front answers no_lines-room h) w

-- ---- the lines of a header

taken-room : (lines now : Lines) (r : Result Lines ConfigFault) → ((next : Lines) → r ≡ Ok next → LinesHaveRoom next) → unless_refused r ≡ Some now → LinesHaveRoom now
taken-room lines now (Ok next) taken h = let same : next ≡ now = cc in subst LinesHaveRoom same (taken next refl)
taken-room lines now (Err fault) taken h = cc

after-room : (lines now : Lines) (r : Result Command LineFault) → LinesHaveRoom lines → after_command lines r ≡ Some now → LinesHaveRoom now
after-room lines now (Ok c) room h = taken-room lines now (configured lines c) (λ next e. configured-room lines next c room e) h
after-room lines now (Err fault) room h = cc

lines-room : (lines now : Lines) (texts : List (List ℕ)) → LinesHaveRoom lines → after_lines lines texts ≡ Some now → LinesHaveRoom now
lines-room lines now [] room h = let same : lines ≡ now = cc in subst LinesHaveRoom same room
lines-room lines now (text ∷ texts) room h =
    option_and_then_some (λ next. after_lines next texts) (after_command lines (command_of text)) now h
    (λ next first others. lines-room next now texts (after-room lines next (command_of text) room first) others)

pub header-accepted : (knots : ℕ) (lines : Lines) (config : Config) → IsAccepted lines → whole knots lines ≡ Some config → machine.IsAccepted config
header-accepted knots lines config accepted w = whole-accepted knots lines config (lines-room no_lines lines accepted.0 no_lines-room accepted.1) w
