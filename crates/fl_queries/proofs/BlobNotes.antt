-- The note on a row's blob is that of its record.
use Rattle.std.proofs.Common.{◌≡◌, ℕ, Bool, true, false, cond, Option, Some, None, List, length, refl, option_map}
use Rattle.fl_machine.specs.Step.{row_note}
use Rattle.fl_model.specs.Record.{Plan, has_var}
use Rattle.fl_model.specs.Row.{stored_row}
use Rattle.fl_model.specs.Table.{Entry}
use Rattle.fl_words.specs.Reply.{NoRing, NoneKept, Length}
use Rattle.fl_queries.specs.BlobNotes.{note_of}

pub note-record : (plan : Plan) (entry : Entry) → note_of (has_var plan) (stored_row entry).blob ≡ row_note plan entry.kept.blob
note-record plan entry = by_blob entry.kept.blob
  where
    none : (b : Bool) → note_of b None ≡ cond b NoneKept NoRing
    none true = refl
    none false = refl

    some : (b : Bool) (bytes : List ℕ) → note_of b (Some (record { page = entry.page; offset = entry.offset; length = length bytes })) ≡ cond b (Length (length bytes)) NoRing
    some true bytes = refl
    some false bytes = refl

    by_blob : (o : Option (List ℕ)) → note_of (has_var plan) (option_map (λ bytes. record { page = entry.page; offset = entry.offset; length = length bytes }) o) ≡ row_note plan o
    by_blob None = none (has_var plan)
    by_blob (Some bytes) = some (has_var plan) bytes
