-- How many pages a moment reads.
use Rattle.std.specs.Prelude.{◌≡◌, ℕ, ◌+◌, ◌-◌, ◌*◌, ◌/◌, ◌^◌, ◌≤◌, min, Bool, true, false, not, ◌&&◌, Option, None, is_some, option_map, unwrap_or, List, [], ◌∷◌, length, sum_by, if◌then◌else◌, IsTrue, MatchBool, MatchOption, slice_get}
use Rattle.std.specs.List.{last_or}
use Rattle.fl_base.specs.declared.types.KeyRange.{KeyRange}
use Rattle.fl_base.specs.declared.types.Span.{Span}
use Rattle.fl_model.specs.Record.{Plan, Config, blocks_of, content_per_page}
use Rattle.fl_model.specs.Table.{Table, Entry, written}
use Rattle.fl_model.specs.Query.{Cursor, entry_at, BlobState, Without, Lost, Stands, blob_of}
use Rattle.fl_model.specs.Spline.{retained, is_covered, is_pending_key, lookup_limit, lookup_reads}
use Rattle.fl_model.specs.Limits.{scan_limit, least_reads}
use Rattle.fl_model.specs.MountLimit.{mount_limit}
use Rattle.fl_words.specs.Command as command
use Rattle.fl_words.specs.Command.{Command}
use Rattle.fl_words.specs.Reply as reply
use Rattle.fl_words.specs.Reply.{Reply}
use Rattle.fl_machine.specs.Machine.{Machine, OpenCursor}
use Rattle.fl_machine.specs.Step.{Moment, Located, located, cursor_at, no_column}

abbrev pub is_read_fault : Reply → Bool
is_read_fault reply.ReadFault = true
is_read_fault _ = false

-- a read of the moment failed
abbrev pub is_unread : Moment → Bool
is_unread moment = unwrap_or (option_map is_read_fault (last_or None moment.replies)) false

-- the lookup of a covered key that isn't pending
abbrev pub has_reads : ℕ → Plan → Table → ℕ → Bool
has_reads knots plan table key = not (is_pending_key table key) && is_covered (retained knots plan.error table.points) key

-- the lowest key that a cursor may still give; no key is above the greatest one
abbrev pub lowest_of : Cursor → ℕ
lowest_of cursor = unwrap_or (option_map (λ after. min (after + 1) (2 ^ 64 - 1)) cursor.after) cursor.range.low

abbrev pub pages_in : Config → ℕ
pages_in config = sum_by blocks_of config.plans * config.geometry.block

abbrev pub none_read : Moment → Type 0
none_read moment = moment.reads ≡ 0

-- the reads of a command that is executed on the table of a name, and none where it isn't executed
abbrev pub OnTable : Config → Machine → Moment → List ℕ → (Located → Type 0) → Type 0
OnTable config old moment name P = MatchBool old.mounted (MatchOption (located config old name) (none_read moment) P) (none_read moment)

-- the reads of a command over columns, and none where the table lacks one of them
abbrev pub OnColumns : Moment → List ℕ → (Located → Type 0) → Located → Type 0
OnColumns moment columns P at = MatchOption (no_column at.plan columns) (P at) (λ column. none_read moment)

-- no more pages than a scan of the range may read
abbrev pub WithinScan : Config → Moment → KeyRange → Option Span → Located → Type 0
WithinScan config moment range span at = moment.reads ≤ scan_limit config.knots at.plan at.table range span range.low

-- no fewer pages than a scan of the range reads at least, where no read failed
abbrev pub ReadsLeast : Moment → KeyRange → Option Span → Located → Type 0
ReadsLeast moment range span at = is_unread moment ≡ false → least_reads at.plan at.table range span ≤ moment.reads

-- the reads of a command that goes on with a cursor, and none where there is none
abbrev pub OnCursor : Config → Machine → Moment → ℕ → (OpenCursor → Plan → Table → Type 0) → Type 0
OnCursor config old moment cursor P =
    MatchBool old.mounted
    (MatchOption (cursor_at old cursor) (none_read moment) (λ c.
    MatchOption (slice_get config.plans c.table) (none_read moment) (λ plan.
    MatchOption (slice_get old.tables c.table) (none_read moment) (P c plan))))
    (none_read moment)

-- a reply that a read failed comes with one read at least
abbrev pub FaultHasRead : Moment → Type 0
FaultHasRead moment = IsTrue (is_unread moment) → 1 ≤ moment.reads

-- how many bytes of an entry's blob stand, 0 where there is no entry, it has none or they are gone
abbrev pub length_of : BlobState → ℕ
length_of Without = 0
length_of Lost = 0
length_of (Stands bytes) = length bytes

abbrev pub length_of_blob : Table → Option Entry → ℕ
length_of_blob table found = unwrap_or (option_map (λ entry. length_of (blob_of table entry)) found) 0

-- no more pages than the lookup of a key may read, and those of its blob with two more
abbrev pub blob_limit : ℕ → Plan → Table → ℕ → ℕ
blob_limit knots plan table key =
    lookup_limit knots plan table key + length_of_blob table (entry_at key table.entries) / content_per_page plan + 2

-- the greatest number of reads of a table's mount: by what its rings keep where its index entries are full, else four for
-- each page of its rings
abbrev pub most_of_mount : Plan → Table → ℕ
most_of_mount plan table = if plan.full_index then mount_limit plan table else 4 * (blocks_of plan * plan.geometry.block)

-- .. of the mounts of tables, each with its plan
abbrev pub mounts_limit : List Plan → List Table → ℕ
mounts_limit [] tables = 0
mounts_limit (plan ∷ plans) [] = 0
mounts_limit (plan ∷ plans) (table ∷ tables) = most_of_mount plan table + mounts_limit plans tables

-- No more pages than a mount may read. It is said twice: by the configuration alone, whatever its tables are, and by what
-- the tables keep, which is closer where index entries are full.
pub record WithinMount (config : Config) (old : Machine) (moment : Moment) : Type 0 where
  pub by_pages : moment.reads ≤ 4 * pages_in config
  pub by_tables : moment.reads ≤ mounts_limit config.plans old.tables

-- The greatest number of reads of a command. An operator reads no more than a scan of its range, and a join no more than
-- two.
abbrev pub LimitOf : Config → Machine → Moment → Command → Type 0
LimitOf config old moment command.Mount = MatchBool old.mounted (none_read moment) (WithinMount config old moment)
LimitOf config old moment (command.Get name key) = OnTable config old moment name (λ at. moment.reads ≤ lookup_limit config.knots at.plan at.table key)
LimitOf config old moment (command.Blob name key) = OnTable config old moment name (λ at. moment.reads ≤ blob_limit config.knots at.plan at.table key)
LimitOf config old moment (command.Scan name range span) = OnTable config old moment name (WithinScan config moment range span)
LimitOf config old moment (command.Next cursor count) =
    OnCursor config old moment cursor (λ c plan table. moment.reads ≤ scan_limit config.knots plan table c.cursor.range c.cursor.span (lowest_of c.cursor))
LimitOf config old moment (command.Select name range column op value) = OnTable config old moment name (OnColumns moment (column ∷ []) (WithinScan config moment range None))
LimitOf config old moment (command.Project name range columns) = OnTable config old moment name (OnColumns moment columns (WithinScan config moment range None))
LimitOf config old moment (command.Agg name range column width) = OnTable config old moment name (OnColumns moment (column ∷ []) (WithinScan config moment range None))
LimitOf config old moment (command.Join left right range) =
    OnTable config old moment left (λ a. OnTable config old moment right (λ b.
    moment.reads ≤ scan_limit config.knots a.plan a.table range None range.low + scan_limit config.knots b.plan b.table range None range.low))
LimitOf config old moment _ = none_read moment

-- .. in each moment of a run
abbrev pub RunLimits : Config → Machine → List Moment → Type 0
RunLimits config old [] = Unit {0}
RunLimits config old (moment ∷ moments) = LimitOf config old moment moment.command × RunLimits config moment.after moments

-- A get of a covered key that isn't pending reads just as many pages as the definition says, and of a written record at least
-- one, where no read of it failed; where one failed, at least that one.
pub record GetExact (config : Config) (moment : Moment) (key : ℕ) (at : Located) : Type 0 where
  pub covered : is_unread moment ≡ false → IsTrue (has_reads config.knots at.plan at.table key) → moment.reads ≡ lookup_reads config.knots at.plan at.table key
  pub found : is_unread moment ≡ false → IsTrue (is_some (entry_at key (written at.table))) → 1 ≤ moment.reads
  pub failed : FaultHasRead moment

-- .. a scan, or an operator over one range, at least the least number
pub record ScanExact (moment : Moment) (range : KeyRange) (span : Option Span) (at : Located) : Type 0 where
  pub least : ReadsLeast moment range span at
  pub failed : FaultHasRead moment

abbrev pub ExactOf : Config → Machine → Moment → Command → Type 0
ExactOf config old moment (command.Get name key) = OnTable config old moment name (GetExact config moment key)
ExactOf config old moment (command.Blob name key) = OnTable config old moment name (λ at. FaultHasRead moment)
ExactOf config old moment (command.Scan name range span) = OnTable config old moment name (ScanExact moment range span)
ExactOf config old moment (command.Next cursor count) = OnCursor config old moment cursor (λ c plan table. FaultHasRead moment)
ExactOf config old moment (command.Select name range column op value) = OnTable config old moment name (OnColumns moment (column ∷ []) (ScanExact moment range None))
ExactOf config old moment (command.Project name range columns) = OnTable config old moment name (OnColumns moment columns (ScanExact moment range None))
ExactOf config old moment (command.Agg name range column width) = OnTable config old moment name (OnColumns moment (column ∷ []) (ScanExact moment range None))
ExactOf config old moment (command.Join left right range) = OnTable config old moment left (λ a. OnTable config old moment right (λ b. FaultHasRead moment))
ExactOf config old moment _ = Unit {0}

-- .. in each moment of a run
abbrev pub RunExact : Config → Machine → List Moment → Type 0
RunExact config old [] = Unit {0}
RunExact config old (moment ∷ moments) = ExactOf config old moment moment.command × RunExact config moment.after moments
