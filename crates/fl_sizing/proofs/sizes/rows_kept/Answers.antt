use Rattle.std.proofs.Common.{refl}
use Rattle.fl_sizing.proofs.sizes.rows_kept.Goals as goal

pub returns-clause-exact : goal.returns-clause-exact
returns-clause-exact c = λ label. rw (c.rows_per_page.ensures.exact label, c.pages_kept.ensures.exact label) refl
