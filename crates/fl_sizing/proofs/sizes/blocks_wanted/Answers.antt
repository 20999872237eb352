use Rattle.std.proofs.Common.{refl}
use Rattle.fl_sizing.proofs.sizes.blocks_wanted.Goals as goal

pub returns-clause-exact : goal.returns-clause-exact
returns-clause-exact c = λ label. rw (c.from.ensures, c.index_blocks.ensures.exact label, c.from-2.ensures, c.var_blocks.ensures, c.log_blocks.ensures.exact) refl
