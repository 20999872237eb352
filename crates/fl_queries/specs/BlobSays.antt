-- The replies to a question for a blob, over any bytes and on any medium.
use Rattle.std.specs.Prelude.{◌≡◌, ◌⊎◌, ◌<◌, ℕ, zero, suc, Bool, true, false, IfErr, IsTrue, Option, Some, None, Result, Ok, Err, List, IsSomeAnd}
use Rattle.std.specs.List.{AllByRecursion}
use Rattle.fl_base.specs.Causes.{Appends, AppendsFront}
use Rattle.fl_base.specs.declared.types.BlobRef.{BlobRef}
use Rattle.fl_flash.specs.Flash.{FlashState}
use Rattle.fl_page.specs.Causes.{IsCaused}
use Rattle.fl_frame.specs.Contents.{OnlyReads}
use Rattle.fl_page.specs.declared.fault.BadPage.{BadPage}
use Rattle.fl_page.specs.declared.fault.ReadFault.{ReadFault}
use Rattle.fl_page.specs.declared.fault.ReadFault.TheVariants as fault
use Rattle.fl_table.specs.BlobAt.{data_in}
use Rattle.fl_table.specs.Finding.{BlamesFor, HasBadPage, IsAnswered, is_covered_in}
use Rattle.fl_table.specs.declared.table.Table.{Table}
use Rattle.fl_var.specs.Blobs.{IsBadOf, IsGone, IsThere, bytes_of}
use Rattle.fl_var.specs.Reading.{bytes_left, IfBad, IsBadAhead, IsThereBehind, Reads}
use Rattle.fl_var.specs.declared.reader.BlobReader.{BlobReader}
use Rattle.fl_words.specs.Reply as reply
use Rattle.fl_words.specs.Reply.{Reply, hex_text}
use Rattle.fl_queries.specs.Found.{FindsRow}
use Rattle.fl_queries.specs.ListSays.{IsUnread, ListSays}
use Rattle.fl_queries.specs.declared.blob.BlobFound.{BlobFound}
use Rattle.fl_queries.specs.declared.blob.BlobFound.TheVariants as found
use Rattle.fl_queries.specs.declared.listing.ListFault.{ListFault}
use Rattle.fl_queries.specs.declared.listing.ListFault.TheVariants.{Sink, Read}

-- ---- bad pages

-- a page of the blob at a place that a row names is bad, as far as the flash tells
abbrev pub IsBadIn : Table 64 64 → FlashState → BlobRef → BadPage → Type 0
IsBadIn t f at bad = IsTrue f.media.tells → IsSomeAnd (data_in t) (λ var. IsBadOf var f at bad)

-- a row with the key stands where the lookup found it, and names a blob of which this holds
abbrev pub FindsNamed : Table 64 64 → ℕ → FlashState → (BlobRef → Type 0) → Type 0
FindsNamed t key f Holds = FindsRow t key f (λ row. (at : BlobRef) × (row.blob ≡ Some at) × Holds at)

-- .. whose page is bad
abbrev pub IsBadNamed : Table 64 64 → ℕ → FlashState → BadPage → Type 0
IsBadNamed t key f bad = FindsNamed t key f (λ at. IsBadIn t f at bad)

-- .. or one that the lookup of its record reports: a page that the table keeps and, of a covered key, the one that this blames, as
-- far as the flash tells
abbrev pub MayBeBadFor : Table 64 64 → ℕ → FlashState → BadPage → Type 0
MayBeBadFor t key f bad = ((IsTrue f.media.tells → HasBadPage t f bad) × (is_covered_in t key ≡ true → BlamesFor t f key (fault.BadPage bad))) ⊎ IsBadNamed t key f bad

-- a page is bad on which the bytes go on that a reader has left
abbrev pub MayBeBadAhead : BlobReader → FlashState → BadPage → Type 0
MayBeBadAhead reader f bad = Reads reader f → IsBadAhead reader f bad

-- ---- the lines

-- the bytes of a blob
abbrev pub IsBytes : Reply → Type 0
IsBytes (reply.Bytes bytes) = Unit {0}
IsBytes _ = ⊥

-- the bytes, or that there are none
abbrev pub IsBlob : Reply → Type 0
IsBlob reply.Absent = Unit {0}
IsBlob reply.NoBlob = Unit {0}
IsBlob reply.Gone = Unit {0}
IsBlob reply.BytesEmpty = Unit {0}
IsBlob (reply.Bytes bytes) = Unit {0}
IsBlob _ = ⊥

-- What a line tells of the blob at the place that a row names: it is gone, or empty, or it has bytes, isn't gone, all of it is there, and these
-- are its bytes, as far as the flash tells. Whether it has bytes is known from the row alone.
abbrev pub TellsBlob : Table 64 64 → FlashState → BlobRef → Reply → Type 0
TellsBlob t f at reply.Gone = IsTrue f.media.tells → IsSomeAnd (data_in t) (λ var. IsGone var f at)
TellsBlob t f at reply.BytesEmpty = at.length ≡ 0
TellsBlob t f at (reply.Bytes bytes) = (0 < at.length) × (IsTrue f.media.tells → IsSomeAnd (data_in t) (λ var. (IsGone var f at → ⊥) × IsThere var f at × (bytes ≡ bytes_of var f at)))
TellsBlob t f at _ = ⊥

-- .. of that of the record with the key: no record has it, or the row that has it names no blob, or this one
abbrev pub AnswersBlob : Table 64 64 → ℕ → FlashState → Reply → Type 0
AnswersBlob t key f reply.Absent = IsAnswered t f key None
AnswersBlob t key f reply.NoBlob = FindsRow t key f (λ row. row.blob ≡ None)
AnswersBlob t key f said = FindsNamed t key f (λ at. TellsBlob t f at said)

-- these bytes are those that a reader has left, and all of them are there
abbrev pub IsLeft : BlobReader → FlashState → List ℕ → Type 0
IsLeft reader f bytes = Reads reader f → IsThereBehind reader f × (bytes ≡ bytes_left reader f)

abbrev pub TellsLeft : BlobReader → FlashState → Reply → Type 0
TellsLeft reader f (reply.Bytes bytes) = IsLeft reader f bytes
TellsLeft reader f _ = ⊥

-- What a line tells holds of one of a word whether the sink took it or failed in it, and of a line of bytes where it took it.
abbrev pub TellsTaken : (Reply → Type 0) → Bool → Reply → Type 0
TellsTaken Tells taken (reply.Bytes bytes) = taken ≡ true → Tells (reply.Bytes bytes)
TellsTaken Tells taken last = Tells last

-- One line tells it, or that a page wasn't read; or that stands behind a line of some bytes. A page is bad then of which something holds,
-- and behind bytes something else.
abbrev pub EndsBlob : (Reply → Type 0) → (BadPage → Type 0) → (BadPage → Type 0) → FlashState → FlashState → Bool → ℕ → Reply → Type 0
EndsBlob Tells IsBad IsBadOn old new taken zero last = (IsBlob last × TellsTaken Tells taken last) ⊎ IsUnread IsBad old new last
EndsBlob Tells IsBad IsBadOn old new taken (suc zero) last = IsUnread IsBadOn old new last
EndsBlob Tells IsBad IsBadOn old new taken (suc (suc n)) last = ⊥

abbrev pub BlobSays : {E : Type 0} → (Reply → Type 0) → (BadPage → Type 0) → (BadPage → Type 0) → FlashState → FlashState → Option (List ℕ) → Option (List ℕ) → Result (Unit {0}) E → Type 0
BlobSays Tells IsBad IsBadOn old new told told_now result = ListSays (AllByRecursion IsBytes) (EndsBlob Tells IsBad IsBadOn old new) told told_now result

-- what a lookup finds of a record's blob
abbrev pub NamesFor : Table 64 64 → ℕ → FlashState → BlobFound → Type 0
NamesFor t key f found.NoRecord = IsAnswered t f key None
NamesFor t key f found.NoBlob = FindsRow t key f (λ row. row.blob ≡ None)
NamesFor t key f (found.At at) = FindsRow t key f (λ row. row.blob ≡ Some at)

-- A reader was turned to a blob of this table, or wasn't: a page that wasn't read then, or isn't read from now on, has its cause.
pub record OpensFor (t : Table 64 64) (at : BlobRef) (f g : FlashState) (stands : Result Bool ReadFault) (reader : BlobReader) : Type 0 where
  pub only : OnlyReads f g
  pub fails : IfErr stands (λ fault. IsCaused f fault g × IfBad (IsBadIn t f at) fault)
  pub gone : stands ≡ Ok false → TellsBlob t f at reply.Gone
  pub left : stands ≡ Ok true → (bytes : List ℕ) → IsLeft reader g bytes → TellsBlob t f at (reply.Bytes bytes)
  pub ahead : stands ≡ Ok true → (bad : BadPage) → MayBeBadAhead reader g bad → IsBadIn t f at bad

-- The digits of some bytes were written, all that there are; or the sink failed in them, or a page behind them wasn't read.
abbrev pub GivesSome : (List ℕ → Type 0) → (BadPage → Type 0) → Option (List ℕ) → Option (List ℕ) → Result (Unit {0}) ListFault → Type 0
GivesSome AreAll IsBad told told_now (Ok done) = (bytes : List ℕ) × Appends told told_now (hex_text bytes) × AreAll bytes
GivesSome AreAll IsBad told told_now (Err (Sink failed)) = (bytes : List ℕ) × AppendsFront told told_now (hex_text bytes)
GivesSome AreAll IsBad told told_now (Err (Read fault)) = ((bytes : List ℕ) × Appends told told_now (hex_text bytes)) × IfBad IsBad fault
