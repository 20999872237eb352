use Rattle.std.proofs.Common.{◌∙◌, ◌∷◌, []}
use Rattle.fl_model.proofs.Names.{bytes_equal-is}
use Rattle.fl_session.proofs.words.is_run.Goals as goal

pub returns : goal.returns
returns c = c.eq.ensures ∙ bytes_equal-is c.args.word.now (114 ∷ 117 ∷ 110 ∷ [])
