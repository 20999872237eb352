-- The cost of a command: the pages that it reads.
use Rattle.std.specs.Prelude.{◌≡◌, ℕ, ◌+◌, ◌-◌, ◌^◌, ◌<◌, ◌≤◌, Bool, true, false, OnOk, Option, None, Result, [], ◌∷◌}
use Rattle.fl_base.specs.declared.types.KeyRange.{KeyRange}
use Rattle.fl_base.specs.declared.types.Span.{Span}
use Rattle.fl_flash.specs.Flash.{FlashState}
use Rattle.fl_model.specs.Record.{Config}
use Rattle.fl_model.specs.Limits.{scan_limit, least_reads}
use Rattle.fl_model.specs.Spline.{lookup_limit}
use Rattle.fl_words.specs.Command as command
use Rattle.fl_words.specs.Command.{Command}
use Rattle.fl_machine.specs.Machine as machine
use Rattle.fl_machine.specs.Machine.{Machine}
use Rattle.fl_machine.specs.OpenCursors.{AreWithin}
use Rattle.fl_machine.specs.Reads.{none_read, is_unread, OnTable, OnColumns, OnCursor, FaultHasRead, GetExact, LimitOf}
use Rattle.fl_machine.specs.Step.{Moment, Located}
use Rattle.fl_session.specs.declared.cost.Cost.{Cost}
use Rattle.fl_session.specs.declared.cost.Cost.TheVariants.{NothingYet, OfGet, OfScan}

-- the cost that a session keeps, as the machine has it
abbrev pub cost_of : Cost → machine.Cost
cost_of NothingYet = machine.NothingYet
cost_of (OfGet reads limit) = machine.OfGet reads limit
cost_of (OfScan reads) = machine.OfScan reads

-- The flash counts so many more reads, and the medium as many, where neither count is at its end.
pub record HasRead (old : FlashState) (reads : ℕ) (new : FlashState) : Type 0 where
  pub flash : new.work.reads ≡ old.work.reads + reads
  pub medium : new.work.reads < 2 ^ 64 - 1 → new.media.reads < 2 ^ 64 - 1 → new.media.reads ≡ old.media.reads + reads

-- The machine's reads are those of the flash and its medium in a command that reads rows, and in a mount by how much the
-- flash's count rose. Another command has none, and the flash's count doesn't rise.
abbrev pub CountsReads : FlashState → Moment → FlashState → Command → Type 0
CountsReads old moment new command.Mount = moment.reads ≡ new.work.reads - old.work.reads
CountsReads old moment new (command.Get name key) = HasRead old moment.reads new
CountsReads old moment new (command.Blob name key) = HasRead old moment.reads new
CountsReads old moment new (command.Scan name range span) = HasRead old moment.reads new
CountsReads old moment new (command.Next cursor count) = HasRead old moment.reads new
CountsReads old moment new (command.Select name range column op value) = HasRead old moment.reads new
CountsReads old moment new (command.Project name range columns) = HasRead old moment.reads new
CountsReads old moment new (command.Agg name range column width) = HasRead old moment.reads new
CountsReads old moment new (command.Join left right range) = HasRead old moment.reads new
CountsReads old moment new _ = none_read moment × (new.work.reads ≤ old.work.reads)

-- The reads of a get: at most its limit, and as many as is promised, where the flash's count isn't at its end.
pub record ReadsGet (config : Config) (moment : Moment) (key : ℕ) (now : FlashState) (at : Located) : Type 0 where
  pub within : moment.reads ≤ lookup_limit config.knots at.plan at.table key
  pub exact : now.work.reads < 2 ^ 64 - 1 → GetExact config moment key at

-- The reads of a scan, or of an operator over one range: at most its limit. They are at least the least number, where no read and no write failed and the
-- flash's count isn't at its end. A read that failed is one of them.
pub record ReadsScan {E : Type 0} (config : Config) (moment : Moment) (range : KeyRange) (span : Option Span) (now : FlashState) (result : Result (Unit {0}) E) (at : Located) : Type 0 where
  pub within : moment.reads ≤ scan_limit config.knots at.plan at.table range span range.low
  pub least : OnOk result (now.work.reads < 2 ^ 64 - 1 → is_unread moment ≡ false → least_reads at.plan at.table range span ≤ moment.reads)
  pub failed : now.work.reads < 2 ^ 64 - 1 → FaultHasRead moment

-- the flash's count rose by no more than this in a mount, and not where it was mounted already
abbrev pub ReadsMount : Bool → FlashState → FlashState → ℕ → Type 0
ReadsMount true old new most = new.work.reads ≡ old.work.reads
ReadsMount false old new most = new.work.reads ≤ old.work.reads + most

-- A command reads as many pages as is stated: a mount, a question for a blob, a `next` and a join at most their limits,
-- `next` where the open cursors are within their ranges. A read of the last three that failed is counted.
abbrev pub ReadsAsStated : {E : Type 0} → Config → Machine → Moment → FlashState → Result (Unit {0}) E → Command → Type 0
ReadsAsStated config old moment now result command.Mount = LimitOf config old moment command.Mount
ReadsAsStated config old moment now result (command.Get name key) = OnTable config old moment name (ReadsGet config moment key now)
ReadsAsStated config old moment now result (command.Blob name key) =
    LimitOf config old moment (command.Blob name key)
    × (now.work.reads < 2 ^ 64 - 1 → OnTable config old moment name (λ at. FaultHasRead moment))
ReadsAsStated config old moment now result (command.Scan name range span) = OnTable config old moment name (ReadsScan config moment range span now result)
ReadsAsStated config old moment now result (command.Next cursor count) =
    (AreWithin old.cursors → LimitOf config old moment (command.Next cursor count))
    × (now.work.reads < 2 ^ 64 - 1 → OnCursor config old moment cursor (λ c plan table. FaultHasRead moment))
ReadsAsStated config old moment now result (command.Select name range column op value) = OnTable config old moment name (OnColumns moment (column ∷ []) (ReadsScan config moment range None now result))
ReadsAsStated config old moment now result (command.Project name range columns) = OnTable config old moment name (OnColumns moment columns (ReadsScan config moment range None now result))
ReadsAsStated config old moment now result (command.Agg name range column width) = OnTable config old moment name (OnColumns moment (column ∷ []) (ReadsScan config moment range None now result))
ReadsAsStated config old moment now result (command.Join left right range) =
    LimitOf config old moment (command.Join left right range)
    × (now.work.reads < 2 ^ 64 - 1 → OnTable config old moment left (λ a. OnTable config old moment right (λ b. FaultHasRead moment)))
ReadsAsStated config old moment now result _ = Unit {0}
