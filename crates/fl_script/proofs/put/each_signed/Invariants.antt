use Rattle.std.proofs.Common.{◌≡◌, length, drop, map}
use Rattle.fl_words.specs.Grammar as grammar
use Rattle.fl_script.proofs.Lists.{each_from}
use Rattle.fl_script.proofs.put.each_signed.Given as goal

abbrev pub invariant-loop-word : goal.invariant-loop-word
invariant-loop-word l = record {
  values : grammar.each_signed (map (λ word. word.now) l.words) ≡ each_from l.values.items (drop l.word-index l.words);
  count : length l.values.items ≡ l.word-index;
}
