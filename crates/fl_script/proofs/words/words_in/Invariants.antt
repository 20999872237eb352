use Rattle.std.proofs.Common.{◌≡◌, ◌≤◌, ◌++◌, length, map, take}
use Rattle.std.specs.List.{All}
use Rattle.fl_words.specs.Grammar.{words_in}
use Rattle.fl_script.proofs.words.words_in.Given as goal

abbrev pub decreases-loop-word : goal.decreases-loop-word
decreases-loop-word l = length l.rest

abbrev pub invariant-loop-word : goal.invariant-loop-word
invariant-loop-word l = record {
  words : map (λ word. word.now) (take l.count l.room) ++ words_in l.rest ≡ words_in l.line;
  short : All (λ word. length word.now ≤ length l.line) (take l.count l.room);
  size : length l.room ≡ 22;
  count : l.count ≤ 22;
  rest : length l.rest ≤ length l.line;
}
