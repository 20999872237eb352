-- What clauses see of a table with a log.
use Rattle.std.specs.Prelude.{◌≡◌, ◌⊎◌, ℕ, ◌+◌, ◌*◌, Bool, Option, Some, None, is_some, IfSome, List, [], if◌then◌else◌}
use Rattle.std.specs.Option.{ForSome, IsSomeAnd}
use Rattle.fl_flash.specs.Flash.{FlashState}
use Rattle.fl_index.specs.Memory.{ring_shape as index_shape}
use Rattle.fl_model.specs.Bare.{bare}
use Rattle.fl_model.specs.Record.{Plan, RowLayout, blocks_of}
use Rattle.fl_page.specs.Writer.{Gathers}
use Rattle.fl_table.specs.BlobAt.{data_in}
use Rattle.fl_parts.specs.Bitmaps.{IsOutside}
use Rattle.fl_table.specs.Look.{counts_in, index_in}
use Rattle.fl_table.specs.Memory as table
use Rattle.fl_table.specs.Memory.{ring_shape}
use Rattle.fl_table.specs.Mounting as mounting
use Rattle.fl_table.specs.declared.counts.Mounted.{Mounted}
use Rattle.fl_table.specs.declared.table.Table.{Table}
use Rattle.fl_var.specs.Memory.{var_shape}
use Rattle.fl_rlc.specs.Memory as log
use Rattle.fl_rlc.specs.Memory.{log_shape}
use Rattle.fl_rlc.specs.declared.log.RecordLog.{RecordLog}
use Rattle.fl_rlc.specs.declared.table.LoggedTable.{LoggedTable}

-- the table itself, and its log
abbrev pub table_in : {KNOTS SLOTS : ℕ} → LoggedTable KNOTS SLOTS → Table KNOTS SLOTS
table_in t = t.table

abbrev pub log_in : {KNOTS SLOTS : ℕ} → LoggedTable KNOTS SLOTS → Option RecordLog
log_in t = t.log

abbrev pub is_logged : {KNOTS SLOTS : ℕ} → LoggedTable KNOTS SLOTS → Bool
is_logged t = is_some t.log

-- the last mount succeeded, and no operation failed since; and an operation failed
abbrev pub is_running : {KNOTS SLOTS : ℕ} → LoggedTable KNOTS SLOTS → Bool
is_running t = table.is_running t.table

abbrev pub is_stopped : {KNOTS SLOTS : ℕ} → LoggedTable KNOTS SLOTS → Bool
is_stopped t = table.is_stopped t.table

-- a log as a plan says, where its ring begins at this block
abbrev pub IsLogPlanned : Option RecordLog → ℕ → Plan → Type 0
IsLogPlanned None first plan = plan.log_blocks ≡ 0
IsLogPlanned (Some l) first plan = log.IsPlanned l first plan

-- a table of this plan, whose blocks begin at `first`; those of its log come last
pub record IsPlanned {KNOTS SLOTS : ℕ} (t : LoggedTable KNOTS SLOTS) (first : ℕ) (plan : Plan) : Type 0 where
  pub table : table.IsPlanned t.table first (bare plan)
  pub log : IsLogPlanned t.log (first + blocks_of (bare plan)) plan

-- what no call changes
abbrev pub AreSameLog : Option RecordLog → Option RecordLog → Type 0
AreSameLog None None = Unit {0}
AreSameLog (Some old) (Some new) = log.IsSamePlan old new
AreSameLog None (Some new) = ⊥
AreSameLog (Some old) None = ⊥

pub record IsSamePlan {KNOTS SLOTS : ℕ} (old new : LoggedTable KNOTS SLOTS) : Type 0 where
  pub table : table.IsSamePlan old.table new.table
  pub log : AreSameLog old.log new.log

-- a flash on which it lies
pub record LiesOn {KNOTS SLOTS : ℕ} (t : LoggedTable KNOTS SLOTS) (f : FlashState) : Type 0 where
  pub table : table.LiesOn t.table f
  pub log : ForSome t.log (λ l. log.LiesOn l f)

-- nothing waits in memory, and no row is gathered for its log
pub record NothingWaits {KNOTS SLOTS : ℕ} (t : LoggedTable KNOTS SLOTS) : Type 0 where
  pub table : table.NothingWaits t.table
  pub log : IfSome t.log (λ l. (layout : RowLayout) → Gathers layout [] (log.rows_in l))

-- how many rings it has
abbrev pub rings_in : {KNOTS SLOTS : ℕ} → LoggedTable KNOTS SLOTS → ℕ
rings_in t = mounting.rings_in t.table + (if is_logged t then 1 else 0)

-- How often its mount programs at most, and how often it erases: once in each ring, and for the page that the log's rows may become
-- twice in each other one.
abbrev pub repairs_in : {KNOTS SLOTS : ℕ} → LoggedTable KNOTS SLOTS → ℕ
repairs_in t = rings_in t + (if is_logged t then 2 * mounting.rings_in t.table else 0)

-- the flash pages that the seal of its log changes, and those that may change in a put
abbrev pub MaySealLog : Option RecordLog → ℕ → Type 0
MaySealLog held page = IsSomeAnd held (λ l. log.MaySeal l page)

abbrev pub MayPut : {KNOTS SLOTS : ℕ} → LoggedTable KNOTS SLOTS → Option (List ℕ) → ℕ → Type 0
MayPut t blob page = table.MayPut t.table blob page ⊎ MaySealLog t.log page

-- each flash page outside its rings stands
abbrev pub OutsideStands : {KNOTS SLOTS : ℕ} → LoggedTable KNOTS SLOTS → (ℕ → List ℕ) → (ℕ → List ℕ) → Type 0
OutsideStands t old new =
    (page : ℕ) → IsOutside (ring_shape t.table) page → IfSome (index_in t.table) (λ index. IsOutside (index_shape index) page) → IfSome (data_in t.table) (λ var. IsOutside (var_shape var) page) →
    IfSome t.log (λ l. IsOutside (log_shape l) page) → new page ≡ old page

-- what a table holds, as a mount answers it
abbrev pub mounted_in : {KNOTS SLOTS : ℕ} → Table KNOTS SLOTS → Mounted
mounted_in t = record { rows = (counts_in t).rows; pages = (counts_in t).pages; voids = (counts_in t).voids }
