-- The records of a log's newest page join a table, one after another, as many as it takes.
use Rattle.std.specs.Prelude.{◌≡◌, ℕ, ◌+◌, ◌^◌, ◌<◌, List, [], ◌∷◌, ◌++◌, if◌then◌else◌}
use Rattle.fl_flash.specs.Flash.{FlashState}
use Rattle.fl_model.specs.Layout.{committed}
use Rattle.fl_model.specs.Record.{Plan}
use Rattle.fl_model.specs.Table.{Table, Entry, is_after, is_rows_spent}
use Rattle.fl_rlc.specs.Memory.{page_in}
use Rattle.fl_rlc.specs.Pages.{log_body, IsPage}
use Rattle.fl_rlc.specs.declared.log.RecordLog.{RecordLog}

-- one more record, which is pending
abbrev pub more : Table → Entry → Table
more t e = record t { entries = t.entries ++ e ∷ []; pending = t.pending + 1 }

-- .. where the table takes it: page numbers are left, and it is above the others
abbrev pub taken : Table → Entry → Table
taken t e = if is_rows_spent t then t else if is_after t.entries e then more t e else t

abbrev pub all_taken : Table → List Entry → Table
all_taken t [] = t
all_taken t (e ∷ es) = all_taken (taken t e) es

-- the log's page with this number has the records that its table names logged
pub record HasNewest (l : RecordLog) (f : FlashState) (plan : Plan) (table : Table) (number : ℕ) : Type 0 where
  pub bytes : page_in l f number ≡ committed (log_body plan number table.logged)
  pub page : IsPage plan table.logged
  pub small : number < 2 ^ 32
