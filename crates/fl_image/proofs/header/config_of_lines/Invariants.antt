use Rattle.std.proofs.Common.{◌≡◌, length, drop}
use Rattle.fl_words.specs.Config.{no_lines}
use Rattle.fl_words.specs.Parts.{line_parts}
use Rattle.fl_image.specs.Header.{after_lines}
use Rattle.fl_image.proofs.header.config_of_lines.Given as goal

abbrev pub invariant-loop-line : goal.invariant-loop-line
invariant-loop-line l =
    (goal.iterator-loop-line).can_next l.line-iterator
    × (goal.iterator-loop-line).is_finite l.line-iterator
    × (after_lines no_lines (line_parts l.text) ≡ after_lines l.config (drop (length l.yielded) (line_parts l.text)))
