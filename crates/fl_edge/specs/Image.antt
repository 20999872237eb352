-- The file of an image.
use Rattle.std.specs.Prelude.{Option}
use Rattle.fl_edge.specs.declared.file_media.FileMedia.{FileMedia}

-- the file that a medium reads and writes, where there is one
abbrev pub file_of : {F : Type 0} → FileMedia F → Option F
file_of media = media.file
