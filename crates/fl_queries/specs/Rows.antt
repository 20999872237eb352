-- The replies to rows.
use Rattle.std.specs.Prelude.{Bool}
use Rattle.fl_model.specs.Row.{Row}
use Rattle.fl_words.specs.Reply as words
use Rattle.fl_queries.specs.BlobNotes.{note_of}

-- the line of a row, in a table with variable data or without
abbrev pub row_reply : Bool → Row → words.Reply
row_reply blobs row = words.Row row.key row.values (note_of blobs row.blob)
