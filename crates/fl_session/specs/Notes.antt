-- What a session remembers between two commands, as the machine has it.
use Rattle.std.specs.Prelude.{ℕ, Option, None, option_map, List, map, replicate, slice_set}
use Rattle.fl_cursor.specs.Asked.{asked_by}
use Rattle.fl_machine.specs.Machine.{OpenCursor}
use Rattle.fl_session.specs.declared.cost.Cost.TheVariants.{NothingYet}
use Rattle.fl_session.specs.declared.notes.Notes.{Notes}
use Rattle.fl_session.specs.declared.notes.TableCursor.{TableCursor}

-- nothing was executed yet
abbrev pub no_notes : Notes
no_notes = record { cost = NothingYet; cursors = replicate 4 None }

-- no cursor is open
abbrev pub without_cursors : Notes → Notes
without_cursors notes = record notes { cursors = replicate 4 None }

-- the cursor with this number is this one, or isn't open
abbrev pub with_cursor : Notes → ℕ → Option TableCursor → Notes
with_cursor notes n held = record notes { cursors = slice_set notes.cursors n held }

-- a cursor over a table, which is kept as a bookmark
abbrev pub cursor_of : TableCursor → OpenCursor
cursor_of c = record { table = c.table; cursor = asked_by c.mark }

abbrev pub cursors_of : List (Option TableCursor) → List (Option OpenCursor)
cursors_of cursors = map (option_map cursor_of) cursors
