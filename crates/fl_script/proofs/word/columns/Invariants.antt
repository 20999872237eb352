use Rattle.std.proofs.Common.{◌≡◌, ◌≤◌, length, drop}
use Rattle.fl_words.specs.Grammar as grammar
use Rattle.fl_words.specs.Parts.{comma_parts}
use Rattle.fl_script.proofs.Lists.{columns_from}
use Rattle.fl_script.proofs.word.columns.Given as goal

abbrev pub invariant-loop-part : goal.invariant-loop-part
invariant-loop-part l =
    (goal.iterator-loop-part).can_next l.part-iterator
    × (goal.iterator-loop-part).is_finite l.part-iterator
    × (grammar.columns_of l.word ≡ columns_from l.columns.items (drop (length l.yielded) (comma_parts l.word)))
    × (length l.columns.items ≤ 8)
