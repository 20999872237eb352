use Rattle.std.proofs.Common.{length}
use Rattle.fl_words.specs.Parts.{comma_parts}
use Rattle.fl_config.proofs.Parts.{Seen}
use Rattle.fl_config.proofs.columns.columns_in.Given as goal

abbrev pub invariant-loop-part : goal.invariant-loop-part
invariant-loop-part l =
    (goal.iterator-loop-part).can_next l.part-iterator
    × (goal.iterator-loop-part).is_finite l.part-iterator
    × Seen (comma_parts l.word) (length l.yielded) l.columns.items l.fits
