-- What the lines of a configuration were that is accepted.
use Rattle.std.proofs.Common.{◌≡◌, ℕ, ◌≤◌, Option, Some, None, Result, Ok, Err, List, [], ◌∷◌, ◌++◌, refl, sym, subst, append_assoc, append-nil}
use Rattle.std.proofs.lemmas.Option.{option_and_then_some}
use Rattle.fl_base.specs.declared.types.Geometry.{Geometry}
use Rattle.fl_model.specs.Record.{Plan}
use Rattle.fl_words.specs.Command as command
use Rattle.fl_words.specs.Command.{Command, TableLine}
use Rattle.fl_words.specs.Config.{ConfigFault, Lines, no_lines, configured, with_device, with_table_line, unless, first_fault, device_faults, table_faults, plan_of}
use Rattle.fl_words.specs.Grammar.{LineFault, command_of, greatest_number}
use Rattle.fl_image.specs.Header.{unless_refused, after_command, after_lines, IsAccepted}
use Rattle.fl_image.proofs.ReadWords.{IsRead, IsTableRead, command-read}

-- a table line was read and taken behind these tables
pub record IsTaken (geometry : Geometry) (before : List Plan) (plan : Plan) : Type 0 where
  pub line : TableLine
  pub plan_is : plan_of geometry line ≡ plan
  pub read : IsTableRead line
  pub passes : first_fault (table_faults geometry before line) ≡ None

-- .. and so was each of these, one behind another
abbrev pub AreTaken : Geometry → List Plan → List Plan → Type 0
AreTaken geometry before [] = Unit {0}
AreTaken geometry before (plan ∷ plans) = IsTaken geometry before plan × AreTaken geometry (before ++ plan ∷ []) plans

-- a device line was read and taken
pub record IsDevice (geometry : Geometry) : Type 0 where
  pub page : geometry.page ≤ greatest_number
  pub block : geometry.block ≤ greatest_number
  pub passes : first_fault (device_faults geometry) ≡ None

abbrev pub Stands : Option Geometry → List Plan → Type 0
Stands None plans = plans ≡ []
Stands (Some geometry) plans = IsDevice geometry × AreTaken geometry [] plans

taken-push : (geometry : Geometry) (before plans : List Plan) (plan : Plan) → AreTaken geometry before plans → IsTaken geometry (before ++ plans) plan → AreTaken geometry before (plans ++ plan ∷ [])
taken-push geometry before [] plan h k = (subst (λ l. IsTaken geometry l plan) (append-nil before) k, tt)
taken-push geometry before (first ∷ plans) plan h k =
    (h.0, taken-push geometry (before ++ first ∷ []) plans plan h.1 (subst (λ l. IsTaken geometry l plan) (sym (append_assoc before (first ∷ []) plans)) k))

-- what is taken isn't refused
taken : (fault : Option ConfigFault) (lines now : Lines) → unless_refused (unless fault lines) ≡ Some now → (fault ≡ None) × (lines ≡ now)
taken None lines now h = (refl, cc)
taken (Some fault) lines now h = cc

device-stands : (lines now : Lines) (geometry : Geometry) (device : Option Geometry) → geometry.page ≤ greatest_number → geometry.block ≤ greatest_number → Stands device lines.plans →
    unless_refused (with_device lines geometry device) ≡ Some now → Stands now.device now.plans
device-stands lines now geometry (Some before) page block stands h = cc
device-stands lines now geometry None page block stands h =
    let ok = taken (first_fault (device_faults geometry)) (record lines { device = Some geometry }) now h in
    subst (λ (l : Lines). Stands l.device l.plans) ok.1
    (record { page = page; block = block; passes = ok.0 }, subst (AreTaken geometry []) (sym stands) tt)

table-stands : (lines now : Lines) (line : TableLine) (device : Option Geometry) → lines.device ≡ device → IsTableRead line → Stands device lines.plans →
    unless_refused (with_table_line lines line device) ≡ Some now → Stands now.device now.plans
table-stands lines now line None is read stands h = cc
table-stands lines now line (Some geometry) is read stands h =
    let ok = taken (first_fault (table_faults geometry lines.plans line)) (record lines { plans = lines.plans ++ plan_of geometry line ∷ [] }) now h in
    let all : AreTaken geometry [] (lines.plans ++ plan_of geometry line ∷ []) =
    taken-push geometry [] lines.plans (plan_of geometry line) stands.1 (record { line = line; plan_is = refl; read = read; passes = ok.0 }) in
    subst (λ (l : Lines). Stands l.device l.plans) ok.1 (subst (λ d. Stands d (lines.plans ++ plan_of geometry line ∷ [])) (sym is) (stands.0, all))

command-stands : (lines now : Lines) (c : Command) → IsRead c → Stands lines.device lines.plans → unless_refused (configured lines c) ≡ Some now → Stands now.device now.plans
command-stands lines now (command.Device page block) read stands h = device-stands lines now (record { page = page; block = block }) lines.device read.0 read.1 stands h
command-stands lines now (command.Table line) read stands h = table-stands lines now line lines.device refl read stands h
command-stands lines now c read stands h = let same : lines ≡ now = cc in subst (λ (l : Lines). Stands l.device l.plans) same stands

line-stands : (lines now : Lines) (r : Result Command LineFault) → ((c : Command) → r ≡ Ok c → IsRead c) → Stands lines.device lines.plans → after_command lines r ≡ Some now → Stands now.device now.plans
line-stands lines now (Ok c) read stands h = command-stands lines now c (read c refl) stands h
line-stands lines now (Err fault) read stands h = cc

lines-stand : (lines now : Lines) (texts : List (List ℕ)) → Stands lines.device lines.plans → after_lines lines texts ≡ Some now → Stands now.device now.plans
lines-stand lines now [] stands h = let same : lines ≡ now = cc in subst (λ (l : Lines). Stands l.device l.plans) same stands
lines-stand lines now (text ∷ texts) stands h =
    option_and_then_some (λ next. after_lines next texts) (after_command lines (command_of text)) now h
    (λ next first others. lines-stand next now texts (line-stands lines next (command_of text) (λ c is. command-read text c is) stands first) others)

pub accepted-stands : (lines : Lines) → IsAccepted lines → Stands lines.device lines.plans
accepted-stands lines accepted = lines-stand no_lines lines accepted.0 refl accepted.1
