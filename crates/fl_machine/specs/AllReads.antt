-- The reads of every command of the machine, of the blobs and the operators too. `Reads` has those that a run promises.
use Rattle.std.specs.Prelude.{◌≡◌, ℕ, ◌+◌, ◌*◌, ◌≤◌, false, Option, None, is_some, option_map, unwrap_or, List, [], ◌∷◌, IsTrue, MatchBool}
use Rattle.fl_base.specs.declared.types.KeyRange.{KeyRange}
use Rattle.fl_base.specs.declared.types.Span.{Span}
use Rattle.fl_model.specs.Record.{Plan, Config}
use Rattle.fl_model.specs.Table.{Table, written}
use Rattle.fl_model.specs.Query.{entry_at, Cursor}
use Rattle.fl_model.specs.Spline.{lookup_limit, lookup_reads}
use Rattle.fl_model.specs.Limits.{scan_limit, least_reads}
use Rattle.fl_words.specs.Command as command
use Rattle.fl_words.specs.Command.{Command}
use Rattle.fl_machine.specs.Machine.{Machine, OpenCursor}
use Rattle.fl_machine.specs.Step.{Moment, Located}
use Rattle.fl_machine.specs.Reads.{is_unread, has_reads, pages_in, none_read, OnTable, OnColumns, OnCursor, FaultHasRead, blob_limit}

-- at most the limit, and where a read failed one at least
abbrev pub Within : Moment → ℕ → Type 0
Within moment limit = (moment.reads ≤ limit) × FaultHasRead moment

abbrev pub GetReads : Config → Moment → ℕ → Located → Type 0
GetReads config moment key at =
    Within moment (lookup_limit config.knots at.plan at.table key)
    × (is_unread moment ≡ false → IsTrue (has_reads config.knots at.plan at.table key) → moment.reads ≡ lookup_reads config.knots at.plan at.table key)
    × (is_unread moment ≡ false → IsTrue (is_some (entry_at key (written at.table))) → 1 ≤ moment.reads)

-- a scan, or an operator over one range
abbrev pub ScanReads : Config → Moment → KeyRange → Option Span → Located → Type 0
ScanReads config moment range span at =
    Within moment (scan_limit config.knots at.plan at.table range span range.low)
    × (is_unread moment ≡ false → least_reads at.plan at.table range span ≤ moment.reads)

abbrev pub lowest_left : Cursor → ℕ
lowest_left cursor = unwrap_or (option_map (λ after. after + 1) cursor.after) cursor.range.low

abbrev pub NextReads : Config → Moment → OpenCursor → Plan → Table → Type 0
NextReads config moment open_cursor plan table =
    Within moment (scan_limit config.knots plan table open_cursor.cursor.range open_cursor.cursor.span (lowest_left open_cursor.cursor))

abbrev pub ReadsOf : Config → Machine → Moment → Command → Type 0
ReadsOf config old moment command.Mount = MatchBool old.mounted (none_read moment) (moment.reads ≤ 5 * pages_in config)
ReadsOf config old moment (command.Get name key) = OnTable config old moment name (GetReads config moment key)
ReadsOf config old moment (command.Blob name key) =
    OnTable config old moment name (λ at. Within moment (blob_limit config.knots at.plan at.table key))
ReadsOf config old moment (command.Scan name range span) = OnTable config old moment name (ScanReads config moment range span)
ReadsOf config old moment (command.Select name range column op value) = OnTable config old moment name (OnColumns moment (column ∷ []) (ScanReads config moment range None))
ReadsOf config old moment (command.Project name range columns) = OnTable config old moment name (OnColumns moment columns (ScanReads config moment range None))
ReadsOf config old moment (command.Agg name range column width) = OnTable config old moment name (OnColumns moment (column ∷ []) (ScanReads config moment range None))
ReadsOf config old moment (command.Join left right range) =
    OnTable config old moment left (λ a. OnTable config old moment right (λ b.
    Within moment (scan_limit config.knots a.plan a.table range None range.low + scan_limit config.knots b.plan b.table range None range.low)))
ReadsOf config old moment (command.Next cursor count) = OnCursor config old moment cursor (NextReads config moment)
ReadsOf config old moment _ = none_read moment

abbrev pub ReadsAllowed : Config → Machine → Moment → Type 0
ReadsAllowed config old moment = ReadsOf config old moment moment.command

-- each moment of a run
abbrev pub RunReads : Config → Machine → List Moment → Type 0
RunReads config old [] = Unit {0}
RunReads config old (moment ∷ moments) = ReadsAllowed config old moment × RunReads config moment.after moments
