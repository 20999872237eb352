use Rattle.std.proofs.Common.{codes, ◌∙◌}
use Rattle.fl_model.proofs.Names.{bytes_equal-is}
use Rattle.fl_sizing.proofs.words.is_plan.Goals as goal

pub returns : goal.returns
returns c = c.eq.ensures ∙ bytes_equal-is c.args.word.now (codes "plan")
