-- Cursors that are open in a run.
use Rattle.std.specs.Prelude.{◌≤◌, Option, List, IfSome}
use Rattle.std.specs.List.{AllByRecursion}
use Rattle.fl_model.specs.Query.{Cursor}
use Rattle.fl_machine.specs.Machine.{OpenCursor}

-- no key above the range may be given, and the key given last isn't below it
pub record IsWithin (cursor : Cursor) : Type 0 where
  pub top : IfSome cursor.top (λ top. top ≤ cursor.range.high)
  pub after : IfSome cursor.after (λ after. cursor.range.low ≤ after)

abbrev pub IsOpenWithin : Option OpenCursor → Type 0
IsOpenWithin slot = IfSome slot (λ open_cursor. IsWithin open_cursor.cursor)

abbrev pub AreWithin : List (Option OpenCursor) → Type 0
AreWithin cursors = AllByRecursion IsOpenWithin cursors
