use Rattle.std.proofs.Common.{ℕ, [], ◌∷◌, ap, ◌∙◌, codes}
use Rattle.std.specs.Prelude.{decimal}
use Rattle.fl_words.specs.Medium.{line_text}
use Rattle.fl_image_check.specs.Report.{ring_name}
use Rattle.fl_image_check.proofs.report.add_fault.Goals as goal

pub returns : goal.returns
returns c =
    c.add_numbered.ensures
    ∙ ap (λ (n : ℕ). line_text (codes "fault" ∷ c.args.name.now ∷ ring_name c.args.ring ∷ decimal c.args.page ∷ decimal n ∷ [])) c.number.ensures
