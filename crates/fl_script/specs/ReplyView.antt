-- Replies and their bytes as the definitions of replies have them.
use Rattle.std.specs.Prelude.{ℕ, Bool, true, false, Option, Some, None, List, [], ◌∷◌, codes}
use Rattle.fl_words.specs.Reply as words
use Rattle.fl_script.specs.declared.reply.BlobNote.{BlobNote}
use Rattle.fl_script.specs.declared.reply.BlobNote.TheVariants.{NoRing, Nothing, Length}
use Rattle.fl_script.specs.declared.reply.Reply.{Reply}
use Rattle.fl_script.specs.declared.reply.Reply.TheVariants.{Done, AlreadyMounted, NotMounted, NoTable, NoCursor, NoColumn, RefusedKey, RefusedColumns, RefusedValue, RefusedBlob, RefusedSpent, PowerLost, DeviceFault, BadImage, Row, Fields, Absent, BytesBegin, BytesEmpty, LineEnd, NoBlob, Gone, Group, Pair, EndCount, More, CursorEnd, ReadFault, BadPage, Stat, CostGet, CostScan, NoCost, Loaded}

abbrev pub note_view : BlobNote → words.BlobNote
note_view NoRing = words.NoRing
note_view Nothing = words.NoneKept
note_view (Length bytes) = words.Length bytes

-- the line that a reply is; the two ends of a bytes line are none
abbrev pub reply_view : Reply → Option words.Reply
reply_view Done = Some words.Done
reply_view AlreadyMounted = Some words.AlreadyMounted
reply_view NotMounted = Some words.NotMounted
reply_view NoTable = Some words.NoTable
reply_view NoCursor = Some words.NoCursor
reply_view (NoColumn column) = Some (words.NoColumn column)
reply_view (RefusedKey last) = Some (words.RefusedKey last)
reply_view (RefusedColumns wanted) = Some (words.RefusedColumns wanted)
reply_view (RefusedValue column) = Some (words.RefusedValue column)
reply_view (RefusedBlob limit) = Some (words.RefusedBlob limit)
reply_view RefusedSpent = Some words.RefusedSpent
reply_view PowerLost = Some words.PowerLost
reply_view DeviceFault = Some words.DeviceFault
reply_view (BadImage name) = Some (words.BadImage name)
reply_view (Row key values blob) = Some (words.Row key values.items (note_view blob))
reply_view (Fields fields) = Some (words.Fields fields.items)
reply_view Absent = Some words.Absent
reply_view BytesBegin = None
reply_view BytesEmpty = Some words.BytesEmpty
reply_view LineEnd = None
reply_view NoBlob = Some words.NoBlob
reply_view Gone = Some words.Gone
reply_view (Group group count least greatest sum mean) = Some (words.Group group count least greatest sum mean)
reply_view (Pair key left right) = Some (words.Pair key left.items right.items)
reply_view (EndCount count) = Some (words.EndCount count)
reply_view More = Some words.More
reply_view CursorEnd = Some words.CursorEnd
reply_view ReadFault = Some words.ReadFault
reply_view (BadPage number) = Some (words.BadPage number)
reply_view (Stat rows pending pages voids programs erases) = Some (words.Stat rows pending pages voids programs erases)
reply_view (CostGet reads limit) = Some (words.CostGet reads limit)
reply_view (CostScan reads) = Some (words.CostScan reads)
reply_view NoCost = Some words.NoCost
reply_view (Loaded count) = Some (words.Loaded count)

abbrev pub line_or : List ℕ → Option words.Reply → List ℕ
line_or other None = other
line_or other (Some reply) = words.text reply

-- the bytes of a reply: a line, or one of the ends of a bytes line
abbrev pub reply_text : Reply → List ℕ
reply_text BytesBegin = codes "bytes "
reply_text LineEnd = 10 ∷ []
reply_text reply = line_or [] (reply_view reply)

-- whether it is a row
abbrev pub is_row : Reply → Bool
is_row (Row key values blob) = true
is_row reply = false
