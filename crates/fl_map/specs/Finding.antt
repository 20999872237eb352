-- What a map says of a ring's name, and of what a check finds.
use Rattle.std.specs.Prelude.{ℕ, Option, Some, None, List, ◌++◌, codes, decimal}
use Rattle.fl_rules.specs.Rule.{rule_number}
use Rattle.fl_rules.specs.declared.rule.Rule.{Rule}
use Rattle.fl_check.specs.declared.finding.Finding.{Finding}
use Rattle.fl_check.specs.declared.finding.Finding.TheVariants.{Sound, Fault}
use Rattle.fl_check.specs.declared.finding.RingName.{RingName}
use Rattle.fl_check.specs.declared.finding.RingName.TheVariants.{Index, Data, Var, Log}

abbrev pub ring_word : RingName → List ℕ
ring_word Index = codes " index"
ring_word Data = codes " data"
ring_word Var = codes " var"
ring_word Log = codes " log"

-- the names of a table and of one of its rings
abbrev pub title_text : List ℕ → RingName → List ℕ
title_text name ring = name ++ ring_word ring

-- what is told of a page that breaks a rule
abbrev pub fault_text : List ℕ → RingName → ℕ → Rule → List ℕ
fault_text name ring page rule = codes "fault: " ++ title_text name ring ++ codes " page " ++ decimal page ++ codes " rule " ++ decimal (rule_number rule)

-- the page that a check finds to break a rule
abbrev pub fault_page : Finding → Option ℕ
fault_page (Sound rows pages voids) = None
fault_page (Fault ring page rule) = Some page
