-- The log of a table, where it has one.
use Rattle.std.specs.Prelude.{◌≡◌, ℕ, ◌+◌, Bool, Option, Some, None, Result, Ok, List, [], ◌∷◌, ◌++◌, length, map}
use Rattle.fl_flash.specs.Flash.{FlashState}
use Rattle.fl_flash.specs.declared.flash.FlashFault.{FlashFault}
use Rattle.fl_model.specs.Record.{Plan, RowLayout, row_layout}
use Rattle.fl_model.specs.Row.{Row, stored_row}
use Rattle.fl_model.specs.Table as model
use Rattle.fl_model.specs.Table.{pending_entries}
use Rattle.fl_model.specs.Work.{Device}
use Rattle.fl_page.specs.Writer.{Gathers}
use Rattle.fl_ring.specs.Ring as ring
use Rattle.fl_frame.specs.Watched.{IsWatched}
use Rattle.fl_rlc.specs.Memory.{next_in, oldest_in, oldest_after, rows_in, kept_rows, log_shape, IsSamePlan}
use Rattle.fl_rlc.specs.Pages.{IsPage}
use Rattle.fl_rlc.specs.Sealing.{SealEnds}
use Rattle.fl_rlc.specs.Standing.{HasRing}
use Rattle.fl_rlc.specs.declared.log.RecordLog.{RecordLog}

-- the pending rows of a table are those of the log's next page, as far as they stay, and this one
pub record Joins (log : RecordLog) (f : FlashState) (first : ℕ) (plan : Plan) (table : model.Table) (layout : RowLayout) (row : Row) : Type 0 where
  pub ring : HasRing log f first plan table
  pub layout_is : layout ≡ row_layout plan
  pub rows : List Row
  pub gathers : Gathers layout rows (rows_in log)
  pub pending : map stored_row (pending_entries table) ≡ kept_rows layout (rows_in log) rows ++ row ∷ []
  pub page : IsPage plan (pending_entries table)
  pub as_many : length (pending_entries table) ≡ table.pending

-- how the seal of the rows with this one ends
abbrev pub RowEnds : Option RecordLog → FlashState → ℕ → Plan → model.Table → RowLayout → Row → Bool → Device → Result (Unit {0}) FlashFault → Option RecordLog → FlashState → Type 0
RowEnds None old first plan table layout row rose device result new_log new = (result ≡ Ok tt) × (new_log ≡ None) × (new ≡ old)
RowEnds (Some log) old first plan table layout row rose device result None new = ⊥
RowEnds (Some log) old first plan table layout row rose device result (Some now) new =
    IsWatched old new rose device → Joins log old first plan table layout row → SealEnds first plan table rose device log old result now new

-- A page more was sealed, and the ring gave up what it had to. The rows of the next page are those that stayed of it, and this one.
pub record HasLogged (layout : RowLayout) (row : Row) (old new : RecordLog) : Type 0 where
  pub next : next_in new ≡ next_in old + 1
  pub oldest : oldest_in new ≡ oldest_after old
  pub rows : (rows : List Row) → Gathers layout rows (rows_in old) → Gathers layout (kept_rows layout (rows_in old) rows ++ row ∷ []) (rows_in new)

abbrev pub HaveLogged : RowLayout → Row → Option RecordLog → Option RecordLog → Type 0
HaveLogged layout row None new = new ≡ None
HaveLogged layout row (Some old) None = ⊥
HaveLogged layout row (Some old) (Some new) = HasLogged layout row old new

-- the flash pages outside the ring stand
abbrev pub StandOutside : Option RecordLog → (ℕ → List ℕ) → (ℕ → List ℕ) → Type 0
StandOutside None old new = (page : ℕ) → new page ≡ old page
StandOutside (Some log) old new = ring.OutsideStands (log_shape log) old new

-- no row is left in its next page, and all else of it stays
pub record IsBegun (old new : RecordLog) : Type 0 where
  pub same : IsSamePlan old new
  pub ring : new.ring ≡ old.ring
  pub rows : (layout : RowLayout) (rows : List Row) → Gathers layout rows (rows_in old) → Gathers layout [] (rows_in new)

abbrev pub AreBegun : Option RecordLog → Option RecordLog → Type 0
AreBegun None new = new ≡ None
AreBegun (Some old) None = ⊥
AreBegun (Some old) (Some new) = IsBegun old new
