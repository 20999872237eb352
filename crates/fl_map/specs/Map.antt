-- The map of an image, and how its writing ends.
use Rattle.std.specs.Prelude.{◌≡◌, ℕ, zero, suc, Option, Some, List, [], length}
use Rattle.fl_base.specs.Causes.{Appends, AppendsFront}
use Rattle.fl_base.specs.declared.types.Geometry.{Geometry}
use Rattle.fl_flash.specs.Flash.{page_at}
use Rattle.fl_words.specs.Config.{Lines}
use Rattle.fl_image_check.specs.Checking.{IsFound}
use Rattle.fl_image.specs.Header.{IsAccepted}
use Rattle.fl_image.specs.Image.{IsImageOf}
use Rattle.fl_image.specs.declared.status.ToolStatus.{ToolStatus}
use Rattle.fl_image.specs.declared.status.ToolStatus.TheVariants.{Done, InputRead, OutWrite, InputLong, NoMemory, NotImage, Device, BadImage, NoTable, BadInput, Unsound}
use Rattle.fl_check.specs.Whole.{Finds}
use Rattle.fl_check.specs.declared.finding.Finding.{Finding}
use Rattle.fl_map.specs.declared.drawing.Drawing.{Drawing}
use Rattle.fl_map.specs.declared.fault.MapFault.{MapFault}
use Rattle.fl_map.specs.declared.fault.MapFault.TheVariants as fault
use Rattle.fl_map.specs.Drawn.{Drawn, no_tables, map_text}
use Rattle.fl_map.specs.Table.{with_table}

-- one table more, the n-th, with what a check finds of it in these bytes
pub record IsDrawnNext (drawing : Drawing) (lines : Lines) (bytes : List ℕ) (n : ℕ) (before now : Drawn) : Type 0 where
  pub finding : Finding
  pub found : IsFound Finds lines bytes n finding
  pub drawn : now ≡ with_table drawing found.plan.name found.config found.log (page_at found.flash) finding before

-- the first n tables
abbrev pub AreDrawn : Drawing → Lines → List ℕ → ℕ → Drawn → Type 0
AreDrawn drawing lines bytes zero now = now ≡ no_tables drawing
AreDrawn drawing lines bytes (suc n) now = (before : Drawn) × AreDrawn drawing lines bytes n before × IsDrawnNext drawing lines bytes n before now

-- the bytes are an image, and this is the map of its tables
pub record IsMapOf (drawing : Drawing) (bytes text : List ℕ) : Type 0 where
  pub lines : Lines
  pub accepted : IsAccepted lines
  pub image : IsImageOf bytes lines
  pub geometry : Geometry
  pub device : lines.device ≡ Some geometry
  pub drawn : Drawn
  pub are : AreDrawn drawing lines bytes (length lines.plans) drawn
  pub text_is : text ≡ map_text drawing geometry.block drawn

-- the status of a map that isn't drawn
abbrev pub status_of : MapFault → ToolStatus
status_of (fault.Flash failed) = Device
status_of fault.NoMemory = NoMemory

-- how it ends: the map is written whole; or a front of it, where the sink fails; or nothing
abbrev pub MapEnds : Drawing → List ℕ → Option (List ℕ) → Option (List ℕ) → ToolStatus → Type 0
MapEnds drawing bytes told told_now Done = (text : List ℕ) × IsMapOf drawing bytes text × Appends told told_now text
MapEnds drawing bytes told told_now OutWrite = (text : List ℕ) × IsMapOf drawing bytes text × AppendsFront told told_now text
MapEnds drawing bytes told told_now NotImage = ((lines : Lines) → IsAccepted lines → IsImageOf bytes lines → ⊥) × Appends told told_now []
MapEnds drawing bytes told told_now NoMemory = Appends told told_now []
MapEnds drawing bytes told told_now Device = Appends told told_now []
MapEnds drawing bytes told told_now Unsound = ⊥
MapEnds drawing bytes told told_now (BadImage table) = ⊥
MapEnds drawing bytes told told_now NoTable = ⊥
MapEnds drawing bytes told told_now InputRead = ⊥
MapEnds drawing bytes told told_now InputLong = ⊥
MapEnds drawing bytes told told_now (BadInput number) = ⊥
