use Rattle.std.proofs.Common.{◌≡◌, ◌<◌, ◌^◌, drop}
use Rattle.fl_words.specs.Grammar as grammar
use Rattle.fl_script.proofs.Digits.{number_from}
use Rattle.fl_script.proofs.word.number.Given as goal

abbrev pub invariant-loop-byte : goal.invariant-loop-byte
invariant-loop-byte l = (grammar.number l.word ≡ number_from l.value (drop l.byte-index l.word)) × (l.value < 2 ^ 64)
