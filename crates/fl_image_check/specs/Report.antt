-- The lines of what a check finds of tables.
use Rattle.std.specs.Prelude.{ℕ, Bool, true, false, List, [], ◌∷◌, ◌++◌, codes, decimal}
use Rattle.fl_model.specs.Record.{Plan}
use Rattle.fl_words.specs.Medium.{line_text}
use Rattle.fl_check.specs.Faults.{findings_of}
use Rattle.fl_rules.specs.Rule.{rule_number}
use Rattle.fl_check.specs.declared.faults.TableRules.{TableRules}
use Rattle.fl_check.specs.declared.faults.TableRules.TheVariants.{Kept, Broken}
use Rattle.fl_check.specs.declared.finding.RingName.{RingName}
use Rattle.fl_check.specs.declared.finding.RingName.TheVariants.{Index, Data, Var, Log}
use Rattle.fl_check.specs.declared.finding.Finding.{Finding}
use Rattle.fl_check.specs.declared.finding.Finding.TheVariants.{Sound, Fault}
use Rattle.fl_rules.specs.declared.rule.Rule.{Rule}
use Rattle.fl_rules.specs.declared.rule.Rule.TheVariants.{Head, State, Number, Body, Keys, Entry, Blob, Rest}
use Rattle.fl_image_check.specs.declared.extent.Extent.{Extent}
use Rattle.fl_image_check.specs.declared.extent.Extent.TheVariants.{FirstFault, AllTables}

abbrev pub ring_name : RingName → List ℕ
ring_name Index = codes "index"
ring_name Data = codes "data"
ring_name Var = codes "var"
ring_name Log = codes "log"

abbrev pub is_sound : Finding → Bool
is_sound (Sound rows pages voids) = true
is_sound (Fault ring page rule) = false

abbrev pub rule_name : Rule → List ℕ
rule_name Head = codes "head"
rule_name State = codes "state"
rule_name Number = codes "number"
rule_name Body = codes "body"
rule_name Keys = codes "keys"
rule_name Entry = codes "entry"
rule_name Blob = codes "blob"
rule_name Rest = codes "rest"

-- a rule is told by its number, and by its name too where all tables are checked
abbrev pub rule_words : Extent → Rule → List (List ℕ)
rule_words FirstFault rule = decimal (rule_number rule) ∷ []
rule_words AllTables rule = decimal (rule_number rule) ∷ rule_name rule ∷ []

-- the words of the line, with the name of the table
abbrev pub finding_line : Extent → List ℕ → Finding → List ℕ
finding_line extent name (Sound rows pages voids) =
    line_text (codes "sound" ∷ name ∷ codes "rows" ∷ decimal rows ∷ codes "pages" ∷ decimal pages ∷ codes "voids" ∷ decimal voids ∷ [])
finding_line extent name (Fault ring page rule) =
    line_text (codes "fault" ∷ name ∷ ring_name ring ∷ decimal page ∷ rule_words extent rule)

abbrev pub finding_text : List ℕ → Finding → List ℕ
finding_text name finding = finding_line FirstFault name finding

-- ---- of all rules

abbrev pub findings_text : List ℕ → List Finding → List ℕ
findings_text name [] = []
findings_text name (finding ∷ findings) = finding_line AllTables name finding ++ findings_text name findings

-- a line for each rule that is broken, in their order, or that of a sound table
abbrev pub rules_text : List ℕ → TableRules → List ℕ
rules_text name rules = findings_text name (findings_of rules)

abbrev pub are_kept : TableRules → Bool
are_kept (Kept rows pages voids) = true
are_kept (Broken faults) = false

-- ---- of tables

-- what a check finds of a table: the first rule that doesn't hold, or all of them where it goes over all tables
abbrev pub FoundBy : Extent → Type 0
FoundBy FirstFault = Finding
FoundBy AllTables = TableRules

abbrev pub found_text : (extent : Extent) → List ℕ → FoundBy extent → List ℕ
found_text FirstFault name finding = finding_text name finding
found_text AllTables name rules = rules_text name rules

abbrev pub found_sound : (extent : Extent) → FoundBy extent → Bool
found_sound FirstFault = is_sound
found_sound AllTables = are_kept

-- the lines of what was found of the first tables
abbrev pub report_lines : (extent : Extent) → List Plan → List (FoundBy extent) → List ℕ
report_lines extent (plan ∷ plans) (found ∷ more) = found_text extent plan.name found ++ report_lines extent plans more
report_lines extent plans more = []

abbrev pub report_text : List Plan → List Finding → List ℕ
report_text plans findings = report_lines FirstFault plans findings
