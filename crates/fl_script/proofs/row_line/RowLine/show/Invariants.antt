use Rattle.std.proofs.Common.{◌≡◌, ◌+◌, ◌*◌, ◌≤◌, [], ◌∷◌, ◌++◌, length}
use Rattle.fl_words.specs.Reply.{spaced, note_text}
use Rattle.fl_script.specs.ReplyView.{note_view}
use Rattle.fl_script.proofs.row_line.RowLine.show.Given as goal

abbrev pub invariant-loop-last : goal.invariant-loop-last
invariant-loop-last l = record {
  text : spaced l.left ++ l.self ≡ spaced l.fn.values ++ note_text (note_view l.fn.note) ++ 10 ∷ [];
  short : length l.self + length l.left * 22 ≤ 28 + length l.fn.values * 22;
}

abbrev pub decreases-loop-last : goal.decreases-loop-last
decreases-loop-last l = length l.left
