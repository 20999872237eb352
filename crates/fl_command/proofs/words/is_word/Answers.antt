use Rattle.std.proofs.Common.{◌∙◌}
use Rattle.fl_model.proofs.Names.{bytes_equal-is}
use Rattle.fl_command.proofs.words.is_word.Goals as goal

pub returns : goal.returns
returns c = c.eq.ensures ∙ bytes_equal-is c.args.word.now c.args.wanted.now
