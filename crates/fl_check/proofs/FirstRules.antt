-- What is found by the first rule that doesn't hold comes first in what all rules tell.
use Rattle.std.proofs.Common.{inl, inr, ℕ, Option, List, [], ◌∷◌, sym, ◌∙◌, ap}
use Rattle.std.proofs.lemmas.Bool.{true≢false}
use Rattle.fl_base.specs.declared.types.RingPlace.{RingPlace}
use Rattle.fl_plan.specs.declared.table_config.TableConfig.{TableConfig}
use Rattle.fl_check.specs.Faults.{are_clear, table_faults}
use Rattle.fl_check.specs.Rules.{AreRules, TellsFirst}
use Rattle.fl_check.specs.Whole.{IsFinding}
use Rattle.fl_check.specs.declared.faults.TableRules.{TableRules}
use Rattle.fl_check.specs.declared.faults.TableRules.TheVariants.{Kept, Broken}
use Rattle.fl_check.specs.declared.finding.Finding.{Finding}
use Rattle.fl_check.specs.declared.finding.Finding.TheVariants.{Sound}
use Rattle.fl_check.proofs.FirstTold.{FirstOf, IsSoundTable, table_first}
use Rattle.fl_check.proofs.OneFinding.{one_finding}

pub first_rules : (config : TableConfig) (log : Option RingPlace) (page : ℕ → List ℕ) (rules : TableRules) (finding : Finding) → AreRules config log page rules → IsFinding config log page finding → TellsFirst rules finding
first_rules config log page (Kept rows pages voids) finding is found =
    record { others = []; is = ap (λ (x : Finding). x ∷ []) (one_finding config log page (Sound rows pages voids) finding is found) }
first_rules config log page (Broken faults) finding are found = by (table_first config log page faults are.0)
  where
    by : FirstOf (IsSoundTable config log page faults are.0) (λ finding. IsFinding config log page finding) (table_faults faults) (are_clear faults) → TellsFirst (Broken faults) finding
    by (inl passes) = absurd (true≢false (sym passes.cleared ∙ are.1))
    by (inr begins) = record { others = begins.others; is = begins.is ∙ ap (λ (x : Finding). x ∷ begins.others) (one_finding config log page begins.finding finding begins.holds found) }
