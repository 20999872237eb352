use Rattle.std.proofs.Common.{◌≡◌, drop}
use Rattle.fl_page.specs.View.{rows_of}
use Rattle.fl_cursor.specs.Asked.{asked_by}
use Rattle.fl_cursor.specs.Sought.{first_left}
use Rattle.fl_cursor.proofs.bookmark.Bookmark.first_in_page.Given as goal

abbrev pub invariant-loop-i : goal.invariant-loop-i
invariant-loop-i l = first_left (asked_by l.self) (drop l.from (rows_of l.view)) l.from ≡ first_left (asked_by l.self) (drop l.i (rows_of l.view)) l.i
