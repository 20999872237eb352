-- The first page that breaks each rule of a table, as a list in the order of the rules.
use Rattle.std.specs.Prelude.{ℕ, Bool, ◌&&◌, is_none, Option, Some, None, List, [], ◌∷◌, ◌++◌}
use Rattle.fl_check.specs.declared.faults.RingFaults.{RingFaults}
use Rattle.fl_check.specs.declared.faults.TableFaults.{TableFaults}
use Rattle.fl_check.specs.declared.faults.TableRules.{TableRules}
use Rattle.fl_check.specs.declared.faults.TableRules.TheVariants.{Kept, Broken}
use Rattle.fl_check.specs.declared.finding.Finding.{Finding}
use Rattle.fl_check.specs.declared.finding.Finding.TheVariants.{Sound, Fault}
use Rattle.fl_check.specs.declared.finding.RingName.{RingName}
use Rattle.fl_check.specs.declared.finding.RingName.TheVariants.{Index, Data, Var, Log}
use Rattle.fl_rules.specs.declared.rule.Rule.{Rule}
use Rattle.fl_rules.specs.declared.rule.Rule.TheVariants.{Head, State, Number, Body, Keys, Entry, Blob, Rest}

abbrev pub no_faults : RingFaults
no_faults = record { head = None; state = None; number = None; body = None; keys = None; rest = None }

abbrev pub headless : ℕ → RingFaults
headless page = record no_faults { head = Some page }

abbrev pub with_keys : Option ℕ → RingFaults → RingFaults
with_keys keys faults = record faults { keys = keys }

-- no page is told
abbrev pub is_clear : RingFaults → Bool
is_clear faults =
    is_none faults.head && is_none faults.state && is_none faults.number && is_none faults.body && is_none faults.keys && is_none faults.rest

abbrev pub are_clear : TableFaults → Bool
are_clear faults = is_clear faults.index && is_clear faults.rows && is_clear faults.var && is_clear faults.log && is_none faults.entry && is_none faults.blob

-- ---- in the order of the rules

abbrev pub fault_of : RingName → Rule → Option ℕ → List Finding
fault_of ring rule None = []
fault_of ring rule (Some page) = Fault ring page rule ∷ []

abbrev pub ring_faults : RingName → RingFaults → List Finding
ring_faults ring faults =
    fault_of ring Head faults.head ++ fault_of ring State faults.state ++ fault_of ring Number faults.number ++ fault_of ring Body faults.body
    ++ fault_of ring Keys faults.keys ++ fault_of ring Rest faults.rest

abbrev pub table_faults : TableFaults → List Finding
table_faults faults =
    ring_faults Index faults.index ++ ring_faults Data faults.rows ++ ring_faults Var faults.var ++ ring_faults Log faults.log
    ++ fault_of Index Entry faults.entry ++ fault_of Data Blob faults.blob

abbrev pub findings_of : TableRules → List Finding
findings_of (Kept rows pages voids) = Sound rows pages voids ∷ []
findings_of (Broken faults) = table_faults faults
