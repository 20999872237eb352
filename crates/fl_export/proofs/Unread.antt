-- The cause of a fault that comes later, and the page that is bad.
use Rattle.fl_csv.specs.declared.record.CsvFault.{CsvFault}
use Rattle.fl_csv.specs.declared.record.CsvFault.TheVariants as line
use Rattle.fl_cursor.specs.Cursor.{IfBad}
use Rattle.fl_flash.specs.Flash.{FlashState}
use Rattle.fl_frame.specs.Contents.{OnlyReads}
use Rattle.fl_page.specs.declared.fault.BadPage as page
use Rattle.fl_page.specs.declared.fault.ReadFault.{ReadFault}
use Rattle.fl_page.specs.declared.fault.ReadFault.TheVariants.{Flash, BadPage}
use Rattle.fl_page.proofs.ReadsInTurn.{IsCaused-later}
use Rattle.fl_export.specs.Writing.{IfBadPage, IfUnread, of_line}
use Rattle.fl_export.specs.declared.fault.ExportFault.{ExportFault}
use Rattle.fl_export.specs.declared.fault.ExportFault.TheVariants.{NoMemory, Sink, Read}

-- a fault of a later call has its cause in both
pub unread-later : (a b c : FlashState) (fault : ExportFault) → OnlyReads a b → IfUnread b c fault → IfUnread a c fault
unread-later a b c (Read fault) only h = IsCaused-later a b c fault only h
unread-later a b c fault only h = tt

-- what holds of each page holds of a bad one
pub bad-when : (fault : ExportFault) (P : page.BadPage → Type 0) → ((bad : page.BadPage) → P bad) → IfBadPage P fault
bad-when (Read (BadPage bad)) P h = h bad
bad-when fault P h = tt

-- .. and what follows from what holds of it
pub bad-more : (fault : ExportFault) (P Q : page.BadPage → Type 0) → ((bad : page.BadPage) → P bad → Q bad) → IfBadPage P fault → IfBadPage Q fault
bad-more (Read (BadPage bad)) P Q more h = more bad h
bad-more fault P Q more h = tt

-- a page that a read finds bad
pub bad-read : (fault : ReadFault) (P Q : page.BadPage → Type 0) → ((bad : page.BadPage) → P bad → Q bad) → IfBad P fault → IfBadPage Q (Read fault)
bad-read (Flash e) P Q more h = tt
bad-read (BadPage bad) P Q more h = more bad h

-- why a line isn't written tells of no page
pub bad-line : (fault : CsvFault) (P : page.BadPage → Type 0) → IfBadPage P (of_line fault)
bad-line (line.Sink failed) P = tt
bad-line line.NoMemory P = tt
