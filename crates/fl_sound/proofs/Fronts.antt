-- Fronts of a report, and what is written of one.
use Rattle.std.proofs.Common.{◌≡◌, ℕ, Option, List, [], ◌∷◌, ◌++◌, length, length-append, append_assoc, append-nil, refl, sym, ◌∙◌, ap, arith}
use Rattle.fl_base.specs.Causes.{IsFront, Appends, AppendsFront}
use Rattle.fl_image_check.specs.Report.{finding_text, report_text}
use Rattle.fl_model.specs.Record.{Plan}
use Rattle.fl_check.specs.declared.finding.Finding.{Finding}

-- a front that is as long is all of it
pub all-of : (findings others all : List Finding) → findings ++ others ≡ all → length findings ≡ length all → findings ≡ all
all-of findings [] all e len = sym (append-nil findings) ∙ e
all-of findings (x ∷ others) all e len = absurd (omega (arith, len, length-append findings (x ∷ others), ap (λ (l : List Finding). length l) e))

-- the lines of the first findings
pub report-front : (plans : List Plan) (findings others : List Finding) → IsFront (report_text plans findings) (report_text plans (findings ++ others))
report-front [] findings others = ([], refl)
report-front (plan ∷ plans) [] others = (report_text (plan ∷ plans) others, refl)
report-front (plan ∷ plans) (f ∷ findings) others =
    let later = report-front plans findings others in
    (later.0, append_assoc (finding_text plan.name f) (report_text plans findings) later.0 ∙ ap (λ l. finding_text plan.name f ++ l) later.1)

module _ (told told_now : Option (List ℕ)) where
  pub front-nothing : (whole : List ℕ) → Appends told told_now [] → AppendsFront told told_now whole
  front-nothing whole h = ([], (whole, refl), h)

  pub front-all : (text : List ℕ) → Appends told told_now text → AppendsFront told told_now text
  front-all text h = (text, ([], append-nil text), h)
