-- What the line of a row says of its blob.
use Rattle.std.specs.Prelude.{Bool, true, false, Option, Some, None}
use Rattle.fl_base.specs.declared.types.BlobRef.{BlobRef}
use Rattle.fl_words.specs.Reply.{BlobNote, NoRing, NoneKept, Length}

-- nothing where its table has no variable data, else the length of the blob, or that there is none
abbrev pub note_of : Bool → Option BlobRef → BlobNote
note_of false blob = NoRing
note_of true None = NoneKept
note_of true (Some at) = Length at.length
