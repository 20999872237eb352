-- How the writing of lines ends.
use Rattle.std.specs.Prelude.{◌≡◌, ◌⊎◌, ℕ, true, Option, Result, Ok, Err, List}
use Rattle.fl_base.specs.Causes.{Appends, AppendsFront}
use Rattle.fl_csv.specs.declared.record.CsvFault.{CsvFault}
use Rattle.fl_csv.specs.declared.record.CsvFault.TheVariants as line
use Rattle.fl_cursor.specs.Cursor.{MayBeBad}
use Rattle.fl_flash.specs.Flash.{FlashState}
use Rattle.fl_frame.specs.Contents.{Contents}
use Rattle.fl_page.specs.Causes.{IsCaused}
use Rattle.fl_page.specs.declared.fault.BadPage as page
use Rattle.fl_page.specs.declared.fault.ReadFault.TheVariants.{BadPage}
use Rattle.fl_table.specs.BlobAt.{has_blobs}
use Rattle.fl_table.specs.declared.table.Table.{Table}
use Rattle.fl_export.specs.declared.fault.ExportFault.{ExportFault}
use Rattle.fl_export.specs.declared.fault.ExportFault.TheVariants.{NoMemory, Sink, Read}

-- why a line isn't written
abbrev pub of_line : CsvFault → ExportFault
of_line (line.Sink failed) = Sink failed
of_line line.NoMemory = NoMemory

-- a fault of the sink has this cause
abbrev pub IfSink : Type 0 → ExportFault → Type 0
IfSink P (Sink failed) = P
IfSink P fault = Unit {0}

-- .. and one of a read has its own
abbrev pub IfUnread : FlashState → FlashState → ExportFault → Type 0
IfUnread old new (Read fault) = IsCaused old fault new
IfUnread old new fault = Unit {0}

-- .. and this holds of a bad page
abbrev pub IfBadPage : (page.BadPage → Type 0) → ExportFault → Type 0
IfBadPage P (Read (BadPage bad)) = P bad
IfBadPage P fault = Unit {0}

-- A page of a table's rows or of its index is bad; or it is one of its blobs, of which nothing more is said.
abbrev pub IsBadIn : Table 64 64 → Contents → page.BadPage → Type 0
IsBadIn t contents bad = MayBeBad t contents bad ⊎ (has_blobs t ≡ true)

-- no page is bad
abbrev pub NoneBad : ExportFault → Type 0
NoneBad (Read (BadPage bad)) = ⊥
NoneBad fault = Unit {0}

-- this text was appended; or a front of it, and no page was bad
abbrev pub Writes : List ℕ → Option (List ℕ) → Option (List ℕ) → Result (Unit {0}) ExportFault → Type 0
Writes text told told_now (Ok done) = Appends told told_now text
Writes text told told_now (Err fault) = NoneBad fault × AppendsFront told told_now text
