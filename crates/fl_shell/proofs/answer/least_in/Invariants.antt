use Rattle.std.proofs.Common.{◌≡◌, ◌-◌, slice_get}
use Rattle.fl_words.specs.Grammar.{words_in}
use Rattle.fl_shell.proofs.answer.least_in.Given as goal

-- the word that is looked for stands so far behind
abbrev pub invariant-words : goal.invariant-words
invariant-words l = slice_get (words_in l.groups) 5 ≡ slice_get (words_in l.rest) (5 - l._at)
