use Rattle.std.proofs.Common.{sym, ◌∙◌}
use Rattle.fl_script.proofs.WordsOfLine.{first, none_left}
use Rattle.fl_script.proofs.words.first_word.Goals as goal

pub returns-then-is_empty-clause-words : goal.returns-then-is_empty-clause-words
returns-then-is_empty-clause-words c = none_left _ _ _ c.split_at.ensures.back c.spaces.ensures.0 (sym c.is_empty.ensures ∙ c.if-is_empty.true)

pub returns-clause-words : goal.returns-clause-words
returns-clause-words c =
    (first _ _ _ _ _ _ c.split_at.ensures.back c.spaces.ensures.0 (sym c.is_empty.ensures ∙ c.if-is_empty.false) c.split_at-2.ensures.front c.split_at-2.ensures.back c.word_len.ensures.0).0

pub returns-clause-shorter : goal.returns-clause-shorter
returns-clause-shorter c =
    let f = first _ _ _ _ _ _ c.split_at.ensures.back c.spaces.ensures.0 (sym c.is_empty.ensures ∙ c.if-is_empty.false) c.split_at-2.ensures.front c.split_at-2.ensures.back c.word_len.ensures.0 in
    (f.1, f.2)
