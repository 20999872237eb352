-- The number of a rule.
use Rattle.std.specs.Prelude.{ℕ}
use Rattle.fl_rules.specs.declared.rule.Rule.{Rule}
use Rattle.fl_rules.specs.declared.rule.Rule.TheVariants.{Head, State, Number, Body, Keys, Entry, Blob, Rest}

-- ---- what is found

abbrev pub rule_number : Rule → ℕ
rule_number Head = 1
rule_number State = 2
rule_number Number = 3
rule_number Body = 4
rule_number Keys = 5
rule_number Entry = 6
rule_number Blob = 7
rule_number Rest = 8
