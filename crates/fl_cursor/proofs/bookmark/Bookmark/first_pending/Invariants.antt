use Rattle.std.proofs.Common.{◌≡◌, drop}
use Rattle.fl_table.specs.Look.{buffered_rows}
use Rattle.fl_cursor.specs.Asked.{asked_by}
use Rattle.fl_cursor.specs.Sought.{first_left}
use Rattle.fl_cursor.proofs.bookmark.Bookmark.first_pending.Given as goal

abbrev pub invariant-loop-i : goal.invariant-loop-i
invariant-loop-i g l = first_left (asked_by l.self) (drop l.from (buffered_rows l.table)) l.from ≡ first_left (asked_by l.self) (drop l.i (buffered_rows l.table)) l.i
