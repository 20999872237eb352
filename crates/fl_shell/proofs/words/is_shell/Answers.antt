use Rattle.std.proofs.Common.{◌∙◌, ◌∷◌, []}
use Rattle.fl_model.proofs.Names.{bytes_equal-is}
use Rattle.fl_shell.proofs.words.is_shell.Goals as goal

pub returns : goal.returns
returns c = c.eq.ensures ∙ bytes_equal-is c.args.word.now (115 ∷ 104 ∷ 101 ∷ 108 ∷ 108 ∷ [])
