use Rattle.std.proofs.Common.{refl}
use Rattle.fl_sizing.proofs.sizes.pages_kept.Goals as goal

pub returns-clause-exact : goal.returns-clause-exact
returns-clause-exact c = λ label. rw (c.least_pages.ensures.exact, c.from.ensures, c.from-2.ensures) refl
