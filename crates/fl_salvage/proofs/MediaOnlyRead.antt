-- Media that are only looked at, and the causes of faults.
use Rattle.std.proofs.Common.{◌≡◌, ℕ, ◌≤◌, IsTrue, Result, Err, refl, subst, sym}
use Rattle.fl_base.specs.Causes.{Rose}
use Rattle.fl_base.specs.declared.stream.SinkFailed.{SinkFailed}
use Rattle.fl_base.proofs.Risen.{rose-back}
use Rattle.fl_csv.specs.declared.record.CsvFault.{CsvFault}
use Rattle.fl_csv.specs.declared.record.CsvFault.TheVariants as line
use Rattle.fl_flash.specs.Media.{MediaState}
use Rattle.fl_image.specs.Image.{OnlyLooksAt}
use Rattle.fl_salvage.specs.Faults.{IsCaused, IsUnread, of_line}
use Rattle.fl_salvage.specs.declared.fault.SalvageFault.{SalvageFault}
use Rattle.fl_salvage.specs.declared.fault.SalvageFault.TheVariants.{Media, Sink, NoMemory}

pub tells-on : (a b : MediaState) → OnlyLooksAt a b → IsTrue a.tells → IsTrue b.tells
tells-on a b looks tells = subst IsTrue (sym looks.tells) tells

pub unread-later : (a b c : MediaState) (fault : SalvageFault) → OnlyLooksAt a b → IsUnread b c fault → IsUnread a c fault
unread-later a b c Media looks rose = rose-back a.faults b.faults c.faults looks.later rose
unread-later a b c Sink looks none = none
unread-later a b c NoMemory looks t = tt

pub caused-later : (a b c : MediaState) (k l m : ℕ) (fault : SalvageFault) → OnlyLooksAt a b → k ≤ l → IsCaused b c l m fault → IsCaused a c k m fault
caused-later a b c k l m Media looks le rose = rose-back a.faults b.faults c.faults looks.later rose
caused-later a b c k l m Sink looks le rose = rose-back k l m le rose
caused-later a b c k l m NoMemory looks le t = tt

pub unread-caused : (a b : MediaState) (k l : ℕ) (fault : SalvageFault) → IsUnread a b fault → IsCaused a b k l fault
unread-caused a b k l Media rose = rose
unread-caused a b k l Sink none = absurd none
unread-caused a b k l NoMemory t = tt

-- a line that isn't written has its cause in the sink
pub line-caused : (a b : MediaState) (k l : ℕ) (e : CsvFault) → ((failed : SinkFailed) → ◌≡◌ {A = Result (Unit {0}) CsvFault} (Err e) (Err (line.Sink failed)) → Rose k l) → IsCaused a b k l (of_line e)
line-caused a b k l (line.Sink failed) cause = cause failed refl
line-caused a b k l line.NoMemory cause = tt
