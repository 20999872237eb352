-- No blob of a table is longer than its plan allows.
use Rattle.std.specs.Prelude.{◌≡◌, ℕ, ◌≤◌, Some, List, slice_get}
use Rattle.std.specs.List.{AllByRecursion}
use Rattle.fl_model.specs.Entry.{Entry, blob_len}
use Rattle.fl_model.specs.Record.{Plan, Config}
use Rattle.fl_model.specs.Table.{Table, fresh_table, lose}
use Rattle.fl_machine.specs.Machine.{Machine}
use Rattle.fl_machine.specs.Run.{Run, end_of}
use Rattle.fl_machine.specs.Step.{Moment}

-- none of these records has one of more bytes
abbrev pub AreShort : ℕ → List Entry → Type 0
AreShort limit entries = AllByRecursion (λ entry. blob_len entry.kept ≤ limit) entries

-- .. no record of a table, nor any that its log has
pub record HasShortBlobs (limit : ℕ) (table : Table) : Type 0 where
  pub records : AreShort limit table.entries
  pub logged : AreShort limit table.logged

pub record ShortBlobsStay : Type 0 where
  -- a new table has none
  pub new : (plan : Plan) → HasShortBlobs plan.blob_limit (fresh_table plan)
  -- no run brings one in
  pub runs : (config : Config) (old : Machine) (moments : List Moment) (place : ℕ) (plan : Plan) (before after : Table) →
      slice_get config.plans place ≡ Some plan → slice_get old.tables place ≡ Some before → HasShortBlobs plan.blob_limit before →
      Run config old moments → slice_get (end_of old moments).tables place ≡ Some after → HasShortBlobs plan.blob_limit (lose after)
