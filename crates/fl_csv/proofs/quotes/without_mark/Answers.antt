use Rattle.std.proofs.Common.{◌∙◌, ap, refl}
use Rattle.fl_csv.proofs.Places.{without}
use Rattle.fl_csv.proofs.quotes.without_mark.Goals as goal

pub returns : goal.returns
returns c = ap (λ s. s.now) c.unwrap_or.ensures ∙ without c.args.line.now _ _ c.strip_prefix.ensures.cases refl
