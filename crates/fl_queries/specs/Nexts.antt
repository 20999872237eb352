-- The replies to a command for the next rows of a cursor.
use Rattle.std.specs.Prelude.{◌≡◌, ◌⊎◌, ℕ, ◌+◌, ◌<◌, ◌≤◌, Bool, ◌==◌, IsTrue, OnOk, Option, Result, List, [], ◌∷◌, ◌++◌, length, take, if◌then◌else◌}
use Rattle.fl_base.specs.Causes.{Rose}
use Rattle.fl_cursor.specs.Asked.{asked_by, lowest_of}
use Rattle.fl_cursor.specs.Reads.{IsBounded}
use Rattle.fl_cursor.specs.declared.bookmark.Bookmark.{Bookmark}
use Rattle.fl_machine.specs.Step.{rows_of}
use Rattle.fl_model.specs.Limits.{scan_limit}
use Rattle.fl_model.specs.Query.{left_of, moved}
use Rattle.fl_model.specs.Record.{Plan}
use Rattle.fl_model.specs.Table as model
use Rattle.fl_script.specs.Written.{Written}
use Rattle.fl_search.specs.Search.{RoseSome}
use Rattle.fl_words.specs.Reply as words
use Rattle.fl_words.specs.Reply.{texts}
use Rattle.fl_queries.specs.Listed.{ends_unread}

-- the entries that are given where as many are wanted, and the reply behind them
abbrev pub given_of : ℕ → Bookmark → model.Table → List model.Entry
given_of count mark table = take count (left_of (asked_by mark) table.entries)

abbrev pub ending_of : ℕ → ℕ → words.Reply
ending_of count given = if given == count then words.More else words.CursorEnd

-- In this table of the model the rows that are left were given, up to so many, and the cursor was moved behind them. Or a
-- page wasn't read after some of them, which is said only where the medium's faults rose. Where the sink failed the cursor
-- may be anywhere. The count of reads rose by no more than the limit from the lowest key on that may be given, and a read that
-- failed is counted.
pub record Nexts {E : Type 0} (plan : Plan) (table : model.Table) (count : ℕ) (mark new : Bookmark) (told told_now : Option (List ℕ)) (faults faults_now reads reads_now : ℕ) (result : Result (Unit {0}) E) : Type 0 where
  pub rose : Bool
  pub risen : IsTrue rose → Rose faults faults_now
  pub given : ℕ
  pub some : given ≤ length (given_of count mark table)
  pub replies : List words.Reply
  pub replied : ((given ≡ length (given_of count mark table)) × (replies ≡ rows_of plan (given_of count mark table) ++ ending_of count (length (given_of count mark table)) ∷ []))
      ⊎ (IsTrue rose × (given < count) × (replies ≡ rows_of plan (take given (given_of count mark table)) ++ words.ReadFault ∷ []))
  pub moved_to : OnOk result (asked_by new ≡ moved (asked_by mark) (take given (given_of count mark table)))
  pub wrote : Written told told_now result (texts replies)
  pub within : IsBounded mark.top mark.range.high → reads_now ≤ reads + scan_limit 64 plan table mark.range mark.span (lowest_of (asked_by mark))
  pub failed : IsTrue (ends_unread replies) → RoseSome reads reads_now
