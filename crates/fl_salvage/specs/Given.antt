-- The configuration of an image that may be damaged.
use Rattle.std.specs.Prelude.{◌≡◌, ◌⊎◌, ℕ, ◌<◌, IsTrue, Option, Some, IfSome, List, length}
use Rattle.fl_config.specs.Whole.{is_whole}
use Rattle.fl_image.specs.Header.{after_lines, IsAccepted}
use Rattle.fl_image.specs.Image.{IsImageOf}
use Rattle.fl_image.specs.declared.status.ToolStatus.{ToolStatus}
use Rattle.fl_image.specs.declared.status.ToolStatus.TheVariants.{Done, InputRead, OutWrite, InputLong, NoMemory, NotImage, Device, BadImage, NoTable, BadInput, Unsound}
use Rattle.fl_words.specs.Config.{Lines, no_lines}
use Rattle.fl_words.specs.Parts.{line_parts}

-- the bytes are no image: their header is that of no configuration, or their length isn't that one's
abbrev pub IsNoImage : List ℕ → Type 0
IsNoImage bytes = (lines : Lines) → IsAccepted lines → IsImageOf bytes lines → ⊥

-- the lines of a text are the commands of a configuration, none of which is refused, and with a device and a table at least
pub record IsGiven (text : List ℕ) (lines : Lines) : Type 0 where
  pub lines_are : after_lines no_lines (line_parts text) ≡ Some lines
  pub whole : IsTrue (is_whole lines)

abbrev pub IsNoneGiven : List ℕ → Type 0
IsNoneGiven text = (lines : Lines) → IsGiven text lines → ⊥

-- the configuration of an image: that of its header, and of bytes that are no image the one that is given
abbrev pub IsConfigured : List ℕ → Option (List ℕ) → Lines → Type 0
IsConfigured bytes given lines = (IsAccepted lines × IsImageOf bytes lines) ⊎ (IsNoImage bytes × IfSome given (λ text. IsGiven text lines))

-- a status that comes where no configuration is found
abbrev pub IsOfConfig : ToolStatus → Type 0
IsOfConfig NotImage = Unit {0}
IsOfConfig InputRead = Unit {0}
IsOfConfig InputLong = Unit {0}
IsOfConfig Device = Unit {0}
IsOfConfig Done = ⊥
IsOfConfig OutWrite = ⊥
IsOfConfig NoMemory = ⊥
IsOfConfig NoTable = ⊥
IsOfConfig Unsound = ⊥
IsOfConfig (BadImage table) = ⊥
IsOfConfig (BadInput line) = ⊥

-- why none is found: the bytes are no image, and none is given, or too long a text; or medium or source failed
abbrev pub IsUnconfigured : List ℕ → Option (List ℕ) → ToolStatus → Type 0
IsUnconfigured bytes given NotImage = IsNoImage bytes × IfSome given IsNoneGiven
IsUnconfigured bytes given InputLong = IsNoImage bytes × IfSome given (λ text. 4096 < length text)
IsUnconfigured bytes given InputRead = IsNoImage bytes
IsUnconfigured bytes given Device = Unit {0}
IsUnconfigured bytes given Done = ⊥
IsUnconfigured bytes given OutWrite = ⊥
IsUnconfigured bytes given NoMemory = ⊥
IsUnconfigured bytes given NoTable = ⊥
IsUnconfigured bytes given Unsound = ⊥
IsUnconfigured bytes given (BadImage table) = ⊥
IsUnconfigured bytes given (BadInput line) = ⊥
