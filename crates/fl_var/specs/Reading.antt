-- A reader of a blob.
use Rattle.std.specs.Prelude.{◌≡◌, ℕ, ◌+◌, ◌-◌, ◌/◌, ◌<◌, ◌≤◌, Bool, true, false, ◌==◌, nat_lt, if◌then◌else◌, IsTrue, Option, Some, None, Result, Ok, Err, List, [], ◌++◌, length, take, drop, slice_range}
use base.Fml.{GName}
use Rattle.fl_base.specs.declared.types.BlobRef.{BlobRef}
use Rattle.fl_flash.specs.Buffer.{BufferState}
use Rattle.fl_flash.specs.Flash.{FlashState}
use Rattle.fl_model.specs.Query.{Lost, Stands, blob_of}
use Rattle.fl_model.specs.Table as model
use Rattle.fl_model.specs.Table.{Entry}
use Rattle.fl_page.specs.Causes.{IsCaused}
use Rattle.fl_page.specs.Header.{page_count}
use Rattle.fl_page.specs.declared.fault.BadPage.{BadPage}
use Rattle.fl_page.specs.declared.fault.ReadFault.{ReadFault}
use Rattle.fl_page.specs.declared.fault.ReadFault.TheVariants as fault
use Rattle.fl_var.specs.Blobs.{IsGone, contents_in, bytes_of, IsWhole, IsBadFirst, AreThere, IsThere, IsBadBehind, IsBadOf}
use Rattle.fl_var.specs.Content.{content_of}
use Rattle.fl_var.specs.Memory.{next_in, room_in, page_in, image_in, present}
use Rattle.fl_var.specs.declared.reader.BlobReader.{BlobReader}
use Rattle.fl_var.specs.declared.var_data.VarData.{VarData}

-- the variable data that it reads
abbrev pub data_of : BlobReader → VarData
data_of r = r.var.now

-- the buffer that it was given
abbrev pub buffer_of : BlobReader → GName
buffer_of r = r.buf.ghost_name

-- what this one holds
abbrev pub held_by : BlobReader → BufferState
held_by r = r.buf.now

-- the page on which it is
abbrev pub page_of : BlobReader → ℕ
page_of r = r.page

-- the bytes that its last step gave
abbrev pub chunk_of : BlobReader → List ℕ
chunk_of r = slice_range (present r.var.now r.page r.buf.now.bytes) r.begin r.end

-- a byte stands behind the place on the page in hand
abbrev pub has_here : BlobReader → Bool
has_here r = nat_lt r.end r.used

-- how many bytes of the blob are left
abbrev pub count_left : BlobReader → ℕ
count_left r = r.left

-- how many pages more they stand on, where all of these are full but for the last one
abbrev pub pages_left : BlobReader → ℕ
pages_left r = if r.left == 0 then 0 else (r.end + r.left - 1) / room_in r.var.now

-- the bytes of the blob that are left
abbrev pub bytes_left : BlobReader → FlashState → List ℕ
bytes_left r f = take r.left (drop r.end (contents_in r.var.now f r.page))

-- a flash whose pages it reads
pub record Reads (r : BlobReader) (f : FlashState) : Type 0 where
  pub told : IsTrue f.media.tells
  pub within : r.page ≤ next_in r.var.now
  pub used : 0 < r.left → r.used ≡ page_count (image_in r.var.now f r.page)
  pub size : 0 < r.left → length (content_of (image_in r.var.now f r.page)) ≡ r.used
  pub bytes : r.end < r.used → r.page < next_in r.var.now → r.buf.now.bytes ≡ page_in r.var.now f r.page

-- the bytes left stand on pages that are all there
abbrev pub IsWholeIn : BlobReader → FlashState → Type 0
IsWholeIn r f = 0 < r.left → IsWhole (image_in r.var.now f) (next_in r.var.now) (room_in r.var.now) r.page r.end r.left

-- all pages are there to which they go on behind the one in hand
abbrev pub IsThereBehind : BlobReader → FlashState → Type 0
IsThereBehind r f = 0 < r.left → AreThere (image_in r.var.now f) (next_in r.var.now) r.page (r.end + r.left)

-- the first of these that isn't there
abbrev pub IsBadAhead : BlobReader → FlashState → BadPage → Type 0
IsBadAhead r f bad = IsBadBehind r.var.now f r.page (r.end + r.left) bad

-- A blob was opened. Where it has bytes it is there if what the reader has left is, and a bad page of these is one of the blob.
pub record Opened (v : VarData) (f : FlashState) (at : BlobRef) (r : BlobReader) : Type 0 where
  pub not_gone : IsGone v f at → ⊥
  pub reads : Reads r f
  pub reads_of : data_of r ≡ v
  pub left : bytes_left r f ≡ bytes_of v f at
  pub there : 0 < at.length → IsThereBehind r f → IsThere v f at
  pub ahead : 0 < at.length → (bad : BadPage) → IsBadAhead r f bad → IsBadOf v f at bad

-- how an opening ends over any bytes: none exactly where the blob is gone
abbrev pub Opens : VarData → FlashState → BlobRef → Result (Option BlobReader) ReadFault → Type 0
Opens v f at (Ok None) = IsGone v f at
Opens v f at (Ok (Some r)) = Opened v f at r
Opens v f at (Err (fault.BadPage bad)) = (IsGone v f at → ⊥) × IsBadFirst v f at bad
Opens v f at (Err (fault.Flash e)) = Unit {0}

-- .. and for an entry of a table, with its blob, that has its bytes where they aren't gone
abbrev pub Finds : model.Table → Entry → List ℕ → FlashState → Result (Option BlobReader) ReadFault → Type 0
Finds table entry bytes f (Ok None) = blob_of table entry ≡ Lost
Finds table entry bytes f (Ok (Some r)) = (blob_of table entry ≡ Stands bytes) × (bytes_left r f ≡ bytes) × IsWholeIn r f
Finds table entry bytes f (Err (fault.BadPage bad)) = ⊥
Finds table entry bytes f (Err (fault.Flash e)) = Unit {0}

-- an opening as a reader says it that was turned to the blob, or wasn't
abbrev pub turned : Result Bool ReadFault → BlobReader → Result (Option BlobReader) ReadFault
turned (Ok true) r = Ok (Some r)
turned (Ok false) r = Ok None
turned (Err e) r = Err e

-- What a step made of the bytes left: true takes a chunk from their front, false comes where none is left, and a fault
-- leaves them.
abbrev pub Steps : Result Bool ReadFault → List ℕ → List ℕ → List ℕ → Type 0
Steps (Ok true) before chunk after = (before ≡ chunk ++ after) × (1 ≤ length chunk)
Steps (Ok false) before chunk after = (before ≡ []) × (after ≡ [])
Steps (Err e) before chunk after = after ≡ before

-- why a read of a page fails
abbrev pub IfUnread : FlashState → ReadFault → FlashState → Type 0
IfUnread old fault new = IsCaused old fault new

abbrev pub IfBad : (BadPage → Type 0) → ReadFault → Type 0
IfBad P (fault.Flash e) = Unit {0}
IfBad P (fault.BadPage bad) = P bad

-- a page is bad, and no read failed
abbrev pub IsOfPage : ReadFault → Type 0
IsOfPage (fault.Flash e) = ⊥
IsOfPage (fault.BadPage bad) = Unit {0}

-- no page is bad
abbrev pub NoneBad : {T : Type 0} → Result T ReadFault → Type 0
NoneBad (Ok t) = Unit {0}
NoneBad (Err (fault.Flash e)) = Unit {0}
NoneBad (Err (fault.BadPage bad)) = ⊥
