-- How a job ends: just as the call that does it says, with the name and the range that the words have.
use Rattle.std.specs.Prelude.{◌≡◌, ◌⊎◌, ℕ, ◌≤◌, IsTrue, true, Option, Some, IfSome, is_some, List}
use Rattle.fl_base.specs.Causes.{Rose}
use Rattle.fl_base.specs.declared.types.KeyRange.{KeyRange}
use Rattle.fl_check.specs.Rules.{AreRules}
use Rattle.fl_check.specs.Whole.{IsFinding}
use Rattle.fl_csv.specs.declared.record.GoneBlobs.{GoneBlobs}
use Rattle.fl_export.specs.Ends.{ExportEnds, StatusFits as ExportFits}
use Rattle.fl_export.specs.Over.{ExportsOver}
use Rattle.fl_flash.specs.Flash.{page_at}
use Rattle.fl_flash.specs.Media.{MediaState}
use Rattle.fl_image.specs.Header.{IsMade}
use Rattle.fl_image.specs.Image.{OnlyLooksAt}
use Rattle.fl_image.specs.Status.{is_done}
use Rattle.fl_image.specs.declared.status.ToolStatus.TheVariants.{Done, InputRead, OutWrite, NotImage, Device, BadImage, NoTable, BadInput, Unsound}
use Rattle.fl_image_check.specs.Checking.{CheckedTo}
use Rattle.fl_image_check.specs.declared.extent.Extent.{Extent}
use Rattle.fl_image_check.specs.declared.extent.Extent.TheVariants.{FirstFault, AllTables}
use Rattle.fl_import.specs.Ends.{ImportEnds, IsFormIn, StatusFits as ImportFits}
use Rattle.fl_import.specs.Images.{told_of as import_told}
use Rattle.fl_import.specs.Over.{ImportsOver, IsUnbegun}
use Rattle.fl_import.specs.Taken.{end_of}
use Rattle.fl_import.specs.declared.job_end.JobEnd.{JobEnd}
use Rattle.fl_map.specs.declared.drawing.Drawing.{Drawing}
use Rattle.fl_map.specs.Map.{MapEnds}
use Rattle.fl_model.specs.Record.{Config}
use Rattle.fl_model.specs.Table.{Table}
use Rattle.fl_salvage.specs.Ends.{SalvageEnds}
use Rattle.fl_salvage.specs.Pages.{none_passed}
use Rattle.fl_salvage.specs.declared.salvage.SalvageEnd.{SalvageEnd}
use Rattle.fl_store.specs.Repaired.{AreRepaired, OthersAreRepaired}
use Rattle.fl_store.specs.Jobs.{JobEnds}
use Rattle.fl_store.specs.Named.{IsImageWith}
use Rattle.fl_store.specs.MountEnds.{Keeps, told_of as export_told}
use Rattle.fl_words.specs.Medium.{IsImage}
use Rattle.fl_command.specs.declared.exit.Exit.{Exit}
use Rattle.fl_command.specs.declared.exit.Exit.TheVariants as ending
use Rattle.fl_command.specs.declared.words.ToolJob.{ToolJob}
use Rattle.fl_command.specs.declared.words.ToolJob.TheVariants.{Check, CheckAll, Map, Export, Import, Salvage}

-- What a job reads and writes: the medium of its image; its input, with the bytes that are left of it, where it tells them; and
-- its output, with the bytes that it has taken; and how often each of these two failed.
pub record Ends (S K : Type 0) : Type 0 where
  pub media : MediaState
  pub input : S
  pub left : Option (List ℕ)
  pub input_faults : ℕ
  pub out : K
  pub written : Option (List ℕ)
  pub out_faults : ℕ

abbrev pub ends_of : {S K : Type 0} → MediaState → S → Option (List ℕ) → ℕ → K → Option (List ℕ) → ℕ → Ends S K
ends_of media input left input_faults out written out_faults =
    record { media = media; input = input; left = left; input_faults = input_faults; out = out; written = written; out_faults = out_faults }

-- A check: what is written of the tables is the first rule that doesn't hold, up to the first table that isn't sound, or each rule
-- that doesn't hold of all tables.
-- Nothing is changed, and the input isn't read.
pub record Checks {S K : Type 0} (extent : Extent) (old new : Ends S K) (end : JobEnd) : Type 0 where
  pub ends : IsTrue old.media.tells → CheckedTo extent (λ config log f finding. IsFinding config log (page_at f) finding) (λ config log f rules. AreRules config log (page_at f) rules) old.media.content old.written new.written end.status
  pub looks : OnlyLooksAt old.media new.media
  pub device : end.status ≡ Device → Rose old.media.faults new.media.faults
  pub write : end.status ≡ OutWrite → Rose old.out_faults new.out_faults
  pub plain : end ≡ end_of end.status
  pub unread : new.input ≡ old.input
  pub later : old.out_faults ≤ new.out_faults

-- A map: what is written is the map of the image's bytes. Nothing is changed, and the input isn't read.
pub record Maps {S K : Type 0} (drawing : Drawing) (old new : Ends S K) (end : JobEnd) : Type 0 where
  pub ends : IsTrue old.media.tells → MapEnds drawing old.media.content old.written new.written end.status
  pub looks : OnlyLooksAt old.media new.media
  pub device : end.status ≡ Device → Rose old.media.faults new.media.faults
  pub write : end.status ≡ OutWrite → Rose old.out_faults new.out_faults
  pub plain : end ≡ end_of end.status
  pub unread : new.input ≡ old.input
  pub later : old.out_faults ≤ new.out_faults

-- An export of the table with the name: over an image that stands for tables its records whose keys are in the range are
-- written, or a front of their text, and the medium stands for the tables that a mount leaves. Whatever bytes the medium holds, and
-- whether it tells them, no store is opened, and nothing is written; or its tables are mounted, up to one that is refused, and nothing is
-- written; or pages are read then and none is changed. The input isn't read.
pub record Exports {S K : Type 0} (name : List ℕ) (range : KeyRange) (old new : Ends S K) (end : JobEnd) : Type 0 where
  pub ends : (config : Config) (tables : List Table) → IsTrue old.media.tells → IsMade config → IsImage config old.media.content tables
      → ExportEnds config tables name range (export_told old.media new.media old.written new.written) old.media.content new.media.content end.status
  pub repairs : (config : Config) (tables : List Table) → IsTrue old.media.tells → IsMade config → IsImage config old.media.content tables → (end.status ≡ Device → ⊥)
      → AreRepaired config old.media.content new.media.content
  pub over : JobEnds name old.media new.media end.status (new.out ≡ old.out) (ExportsOver end.status old.out new.out)
  pub fits : IsTrue old.media.tells → ExportFits old.media.content name end.status
  pub device : end.status ≡ Device → Rose old.media.faults new.media.faults
  pub known : end.status ≡ Unsound → ⊥
  pub untouched : (end.status ≡ NotImage) ⊎ (end.status ≡ NoTable) → OnlyLooksAt old.media new.media × (new.out ≡ old.out)
  pub changes : IsTrue old.media.tells → IsImageWith old.media.content name true ⊎ (new.media.content ≡ old.media.content)
  pub write : end.status ≡ OutWrite → Rose old.out_faults new.out_faults
  pub plain : end ≡ end_of end.status
  pub unread : new.input ≡ old.input
  pub later : old.out_faults ≤ new.out_faults
  pub keeps : Keeps old.media new.media

-- An import into the table with the name: over an image that stands for tables the lines of the input are put in turn, and
-- the table is flushed; what is refused is told. The medium stands for the tables that this leaves. Whatever bytes the medium holds,
-- and whether it tells them, no store is opened, no line is taken and nothing is written; or its tables are mounted, up to one that is refused,
-- and neither is done; or only pages in the rings of the named one change then.
pub record Imports {S K : Type 0} (name : List ℕ) (gone : GoneBlobs) (old new : Ends S K) (end : JobEnd) : Type 0 where
  pub ends : (config : Config) (tables : List Table) (text : List ℕ) → IsTrue old.media.tells → IsMade config → IsImage config old.media.content tables → old.left ≡ Some text
      → ImportEnds config tables name text (import_told gone end.taken old.written new.written new.left) old.media.faults new.media.faults old.media.content new.media.content end.kept end.status
  pub repairs : (config : Config) (tables : List Table) → IsTrue old.media.tells → IsMade config → IsImage config old.media.content tables → (end.status ≡ Device → ⊥)
      → OthersAreRepaired config name old.media.content new.media.content
  pub over : JobEnds name old.media new.media end.status (IsUnbegun end old.input new.input old.out new.out) (ImportsOver end old.input new.input old.out new.out)
  pub kept : is_some end.kept ≡ is_done end.status
  pub form : IsTrue old.media.tells → IfSome end.form (λ form. IsFormIn old.media.content name form)
  pub formed : (line : ℕ) → end.status ≡ BadInput line → is_some end.form ≡ true
  pub fits : IsTrue old.media.tells → ImportFits old.media.content name old.left new.left end.status
  pub device : end.status ≡ Device → Rose old.media.faults new.media.faults
  pub known : end.status ≡ Unsound → ⊥
  pub untouched : (end.status ≡ NotImage) ⊎ (end.status ≡ NoTable) → OnlyLooksAt old.media new.media × (new.input ≡ old.input) × (new.out ≡ old.out)
  pub unread : (table : ℕ) → end.status ≡ BadImage table → (new.input ≡ old.input) × (new.out ≡ old.out)
  pub changes : IsTrue old.media.tells → IsImageWith old.media.content name true ⊎ (new.media.content ≡ old.media.content)
  pub read : end.status ≡ InputRead → Rose old.input_faults new.input_faults
  pub write : end.status ≡ OutWrite → Rose old.out_faults new.out_faults
  pub later : (old.input_faults ≤ new.input_faults) × (old.out_faults ≤ new.out_faults)
  pub keeps : Keeps old.media new.media

-- A salvage of the table with the name: what is written is what the image's bytes still hold of it. Nothing is changed, and the
-- input is read only where these are no image.
pub record Salvages {S K : Type 0} (name : List ℕ) (old new : Ends S K) (end : SalvageEnd) : Type 0 where
  pub ends : IsTrue old.media.tells → SalvageEnds old.media.content old.left name old.written new.written end.passed_over end.status
  pub counts : (end.status ≡ Done) ⊎ (end.passed_over ≡ none_passed)
  pub device : end.status ≡ Device → Rose old.media.faults new.media.faults
  pub read : end.status ≡ InputRead → Rose old.input_faults new.input_faults
  pub write : end.status ≡ OutWrite → Rose old.out_faults new.out_faults
  pub later : (old.input_faults ≤ new.input_faults) × (old.out_faults ≤ new.out_faults)
  pub looks : OnlyLooksAt old.media new.media

-- the program ends by a job whose end is so
abbrev pub ByJob : (JobEnd → Type 0) → Exit → Type 0
ByJob Holds exit = (end : JobEnd) × (exit ≡ ending.Job end) × Holds end

abbrev pub ToolEnds : {S K : Type 0} → ToolJob → Ends S K → Ends S K → Exit → Type 0
ToolEnds Check old new exit = ByJob (Checks FirstFault old new) exit
ToolEnds CheckAll old new exit = ByJob (Checks AllTables old new) exit
ToolEnds (Map drawing) old new exit = ByJob (Maps drawing old new) exit
ToolEnds (Export name range) old new exit = ByJob (Exports name range old new) exit
ToolEnds (Import name gone) old new exit = ByJob (Imports name gone old new) exit
ToolEnds (Salvage name) old new exit = (end : SalvageEnd) × (exit ≡ ending.Salvage end) × Salvages name old new end
