-- What the reads of the crate csv find in a line.
use Rattle.std.specs.Prelude.{◌≡◌, ℕ, Bool, true, false, Option, Some, None, List}
use Rattle.std.specs.Borrow.{Bor}
use Rattle.csv.specs.Reading.{Ready, ReadRecord, default_config, reader_config, reader_state, reader_trim, records, source_of, took_first}
use Rattle.csv.specs.declared.parser.State.TheVariants as st
use Rattle.csv.specs.declared.reader.Reader.{Reader}
use Rattle.csv.specs.declared.reader.Trim.TheVariants as trim
use Rattle.fl_csv.specs.Lines.{only_record}

-- the bytes that a slice has left
abbrev pub left_of : Bor (List ℕ) → Option (List ℕ)
left_of s = Some s.now

-- a reader from which nothing of this text was read
pub record Fresh (reader : Reader (Bor (List ℕ))) (text : List ℕ) : Type 0 where
  pub config : reader_config reader ≡ default_config
  pub whole : reader_trim reader ≡ trim.None
  pub ready : Ready reader
  pub state : reader_state reader ≡ st.StartRecord
  pub source : source_of left_of reader ≡ Some text

-- a read that gave a record, or found none
pub record Took (old new : Reader (Bor (List ℕ))) (found : Bool) (fields : List (List ℕ)) : Type 0 where
  pub reads : reader_trim old ≡ trim.None → Ready old → ReadRecord left_of old new found fields
  pub ready : reader_trim old ≡ trim.None → took_first new ≡ true

-- whether these are the fields of the only record of a text
abbrev pub IsOnly : Bool → List (List ℕ) → List ℕ → Type 0
IsOnly true fields text = only_record (records default_config text) ≡ Some fields
IsOnly false fields text = only_record (records default_config text) ≡ None
