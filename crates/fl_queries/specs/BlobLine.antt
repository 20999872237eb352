-- The line of a blob's bytes.
use Rattle.std.specs.Prelude.{◌≡◌, ◌⊎◌, ℕ, ◌≤◌, ◌<◌, Bool, true, IsTrue, Option, Result, Ok, Err, List, [], ◌∷◌, length, take}
use Rattle.fl_base.specs.Causes.{Rose, Appends, AppendsFront}
use Rattle.fl_flash.specs.Flash.{FlashState}
use Rattle.fl_page.specs.declared.fault.ReadFault.{ReadFault}
use Rattle.fl_page.specs.declared.fault.ReadFault.TheVariants.{Flash, BadPage}
use Rattle.fl_script.specs.Written.{Written}
use Rattle.fl_search.specs.Search.{RoseSome}
use Rattle.fl_var.specs.Reading.{has_here, count_left, bytes_left}
use Rattle.fl_var.specs.declared.reader.BlobReader.{BlobReader}
use Rattle.fl_words.specs.Reply as words
use Rattle.fl_words.specs.Reply.{hex_text, texts}
use Rattle.fl_queries.specs.Listed.{ends_unread}
use Rattle.fl_queries.specs.declared.listing.ListFault.{ListFault}
use Rattle.fl_queries.specs.declared.listing.ListFault.TheVariants.{Sink, Read}

-- a reader that was turned to a blob: a byte of it stands on the page in hand, and as many bytes are left as are counted
pub record IsTurned (r : BlobReader) (f : FlashState) : Type 0 where
  pub here : has_here r ≡ true
  pub count : length (bytes_left r f) ≡ count_left r

-- The digits of these bytes were written. Or a read failed after some and not all, or the sink in one of them; no page is bad.
abbrev pub GivesDigits : List ℕ → Option (List ℕ) → Option (List ℕ) → Result (Unit {0}) ListFault → Type 0
GivesDigits bytes told told_now (Ok done) = Appends told told_now (hex_text bytes)
GivesDigits bytes told told_now (Err (Sink failed)) = AppendsFront told told_now (hex_text bytes)
GivesDigits bytes told told_now (Err (Read (Flash fault))) = (n : ℕ) × (1 ≤ n) × (n < length bytes) × Appends told told_now (hex_text (take n bytes))
GivesDigits bytes told told_now (Err (Read (BadPage bad))) = ⊥

-- The line of these bytes was written. Or a page wasn't read after some of them: then a line of its own says so, which it
-- does only where the medium's faults rose, and the read that failed is counted.
pub record ShowsBytes {E : Type 0} (bytes : List ℕ) (told told_now : Option (List ℕ)) (faults faults_now reads reads_now : ℕ) (result : Result (Unit {0}) E) : Type 0 where
  pub rose : Bool
  pub risen : IsTrue rose → Rose faults faults_now
  pub replies : List words.Reply
  pub replied : (replies ≡ words.Bytes bytes ∷ [])
      ⊎ (IsTrue rose × ((n : ℕ) × (1 ≤ n) × (n < length bytes) × (replies ≡ words.Bytes (take n bytes) ∷ words.ReadFault ∷ [])))
  pub wrote : Written told told_now result (texts replies)
  pub failed : IsTrue (ends_unread replies) → RoseSome reads reads_now

-- what is said of a page that isn't read
abbrev pub read_reply : ReadFault → words.Reply
read_reply (Flash fault) = words.ReadFault
read_reply (BadPage bad) = words.BadPage bad.wanted
