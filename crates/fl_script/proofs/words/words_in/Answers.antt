use Rattle.fl_script.proofs.WordsOfLine.{all_there}
use Rattle.fl_script.proofs.words.words_in.Goals as goal

pub returns-in_default-clause-words : goal.returns-in_default-clause-words
returns-in_default-clause-words c = all_there _ _ _ _ _ c.loop-word.invariant.words (c.in_default.ensures.words) c.loop-word.invariant.count
