-- The lines of some findings, written one after another.
use Rattle.std.proofs.Common.{◌≡◌, ℕ, Option, List, [], ◌∷◌, ◌++◌, Result, refl, sym, ◌∙◌, ap, subst, append_assoc}
use Rattle.std.specs.List.{fold}
use Rattle.fl_base.specs.Causes.{Appends, AppendsFront}
use Rattle.fl_base.proofs.Appended.{appends-append, front-more, front-behind}
use Rattle.fl_script.specs.Written.{Written}
use Rattle.fl_script.proofs.SinkPieces.{written-behind}
use Rattle.fl_check.specs.declared.finding.Finding.{Finding}
use Rattle.fl_image_check.specs.Report.{finding_line, findings_text}
use Rattle.fl_image_check.specs.declared.extent.Extent.TheVariants.{AllTables}

module _ (name : List ℕ) where
  text-append : (a b : List Finding) → findings_text name (a ++ b) ≡ findings_text name a ++ findings_text name b
  text-append [] b = refl
  text-append (finding ∷ a) b =
      ap (λ (l : List ℕ). finding_line AllTables name finding ++ l) (text-append a b) ∙ sym (append_assoc (finding_line AllTables name finding) (findings_text name a) (findings_text name b))

  module _ (before mid now : Option (List ℕ)) (a b : List Finding) where
    pub more : Appends before mid (findings_text name a) → Appends mid now (findings_text name b) → Appends before now (findings_text name (a ++ b))
    more first then =
        subst (λ (l : List ℕ). Appends before now l) (sym (text-append a b)) (appends-append before mid now (findings_text name a) (findings_text name b) first then)

    -- a front of the later ones alone was written
    pub more-front : Appends before mid (findings_text name a) → AppendsFront mid now (findings_text name b) → AppendsFront before now (findings_text name (a ++ b))
    more-front first then =
        subst (λ (l : List ℕ). AppendsFront before now l) (sym (text-append a b))
        (front-behind before mid now (findings_text name a) (findings_text name b) first then)

  -- .. and nothing of those behind them
  pub front-of : (before now : Option (List ℕ)) (a b : List Finding) → AppendsFront before now (findings_text name a) → AppendsFront before now (findings_text name (a ++ b))
  front-of before now a b front =
      subst (λ (l : List ℕ). AppendsFront before now l) (sym (text-append a b))
      (front-more before now (findings_text name a) (findings_text name b) front)

  -- .. whatever stands behind them
  pub front-of_all : (before now : Option (List ℕ)) (a : List Finding) (others : List (List Finding)) → AppendsFront before now (findings_text name a) → AppendsFront before now (findings_text name (fold ◌++◌ a others))
  front-of_all before now a [] front = front
  front-of_all before now a (b ∷ others) front = front-of_all before now (a ++ b) others (front-of before now a b front)

  -- the last of them
  pub then-written : {E : Type 0} (before mid now : Option (List ℕ)) (result : Result (Unit {0}) E) (a b : List Finding) → Appends before mid (findings_text name a) → Written mid now result (findings_text name b)
      → Written before now result (findings_text name (a ++ b))
  then-written before mid now result a b first then =
      subst (λ (l : List ℕ). Written before now result l) (sym (text-append a b)) (written-behind before mid now (findings_text name a) (findings_text name b) result first then)
