use Rattle.fl_script.proofs.Spaces.{word_length}
use Rattle.fl_script.proofs.words.word_len.Goals as goal

pub returns : goal.returns
returns c = rw c.unwrap_or.ensures (word_length _ _ c.memchr.ensures)
