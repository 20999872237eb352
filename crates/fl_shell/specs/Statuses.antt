-- How a part of a shell may end.
use Rattle.std.specs.Prelude.{Bool, false}
use Rattle.fl_config.specs.declared.image.ImageRefusal.{ImageRefusal}
use Rattle.fl_config.specs.declared.image.ImageRefusal.TheVariants.{Media, Other}
use Rattle.fl_image.specs.declared.status.ToolStatus.{ToolStatus}
use Rattle.fl_image.specs.declared.status.ToolStatus.TheVariants as tool
use Rattle.fl_lines.specs.declared.lines.LinesFault.{LinesFault}
use Rattle.fl_lines.specs.declared.lines.LinesFault.TheVariants.{Failed, Long}
use Rattle.fl_ends.specs.declared.shell.ShellStatus.{ShellStatus}
use Rattle.fl_ends.specs.declared.shell.ShellStatus.TheVariants.{Done, InputRead, OutWrite, MediaMake, Unconfigured, InputLong, NotImage, Unflushed}

-- where the reading of the input fails
abbrev pub reading_status : LinesFault → ShellStatus
reading_status Failed = InputRead
reading_status Long = InputLong

-- where the image isn't opened
abbrev pub opening_status : ImageRefusal → ShellStatus
opening_status Media = MediaMake
opening_status (Other wanted found at) = NotImage

-- where the image has no configuration in its header
abbrev pub header_status : ToolStatus → ShellStatus
header_status tool.NotImage = NotImage
header_status status = MediaMake

-- while lines are answered
abbrev pub IsOfTalk : ShellStatus → Type 0
IsOfTalk Done = Unit {0}
IsOfTalk InputRead = Unit {0}
IsOfTalk OutWrite = Unit {0}
IsOfTalk InputLong = Unit {0}
IsOfTalk status = ⊥

-- .. and what is pending is flushed then
abbrev pub IsOfSession : ShellStatus → Type 0
IsOfSession Unflushed = Unit {0}
IsOfSession status = IsOfTalk status

-- how a shell ends whose lines were answered, by whether all was flushed then
abbrev pub behind : ShellStatus → Bool → ShellStatus
behind Done false = Unflushed
behind status all = status

-- while the leading lines make a configuration
abbrev pub IsOfLines : ShellStatus → Type 0
IsOfLines InputRead = Unit {0}
IsOfLines OutWrite = Unit {0}
IsOfLines Unconfigured = Unit {0}
IsOfLines InputLong = Unit {0}
IsOfLines status = ⊥
