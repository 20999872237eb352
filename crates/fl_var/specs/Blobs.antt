-- Blobs over any bytes: where they are gone, and the content in which their bytes stand.
use Rattle.std.specs.Prelude.{◌≡◌, ◌⊎◌, ℕ, zero, suc, ◌+◌, ◌-◌, ◌*◌, ◌/◌, ◌<◌, ◌≤◌, List, [], ◌++◌, length, take, drop}
use Rattle.fl_base.specs.declared.types.BlobRef.{BlobRef}
use Rattle.fl_flash.specs.Flash.{FlashState}
use Rattle.fl_mark.specs.Mark.{state_of_page}
use Rattle.fl_mark.specs.declared.page_state.PageState.TheVariants.{Committed}
use Rattle.fl_page.specs.Header.{page_count}
use Rattle.fl_page.specs.Page.{bad_page}
use Rattle.fl_page.specs.declared.fault.BadPage.{BadPage}
use Rattle.fl_var.specs.Content.{content_of, HasContent}
use Rattle.fl_var.specs.Memory.{next_in, oldest_in, waiting_in, page_in, image_in}
use Rattle.fl_var.specs.declared.var_data.VarData.{VarData}

-- a page before the next one that isn't kept, or isn't committed
pub record IsGone (v : VarData) (f : FlashState) (at : BlobRef) : Type 0 where
  pub some : 0 < at.length
  pub sealed : at.page < next_in v
  pub lost : (at.page < oldest_in v) ⊎ (state_of_page (page_in v f at.page) ≡ Committed → ⊥)

-- the content of so many pages from a number on
abbrev pub contents_from : (ℕ → List ℕ) → ℕ → ℕ → List ℕ
contents_from image number zero = []
contents_from image number (suc n) = content_of (image number) ++ contents_from image (number + 1) n

-- the content from a number on, up to the bytes in the buffer
abbrev pub contents_in : VarData → FlashState → ℕ → List ℕ
contents_in v f number = contents_from (image_in v f) number (next_in v + 1 - number)

-- the bytes of a blob
abbrev pub bytes_of : VarData → FlashState → BlobRef → List ℕ
bytes_of v f at = take at.length (drop at.offset (contents_in v f at.page))

-- `left` bytes behind the first `from` ones of page `number` stand on pages that are kept or in the buffer, all of them full but for the last one
pub record IsWhole (image : ℕ → List ℕ) (next room number from left : ℕ) : Type 0 where
  pub good : (j : ℕ) → j ≤ (from + left - 1) / room → (number + j ≤ next) × HasContent (number + j) (image (number + j))
  pub full : (j : ℕ) → j < (from + left - 1) / room → page_count (image (number + j)) ≡ room
  pub ends : from + left ≤ (from + left - 1) / room * room + page_count (image (number + (from + left - 1) / room))

-- the pages and the buffer end before the blob does
abbrev pub end_fault : VarData → BadPage
end_fault v = record { wanted = next_in v; found = next_in v; count = length (waiting_in v) }

-- why the first page of a blob is bad: it has another number, or no count of bytes that a page has, or the blob begins
-- behind them
pub record IsBadFirst (v : VarData) (f : FlashState) (at : BlobRef) (bad : BadPage) : Type 0 where
  pub some : 0 < at.length
  pub behind : next_in v < at.page → bad ≡ end_fault v
  pub here : at.page ≤ next_in v → (state_of_page (image_in v f at.page) ≡ Committed) × (bad ≡ bad_page at.page (image_in v f at.page))
      × (HasContent at.page (image_in v f at.page) → page_count (image_in v f at.page) ≤ at.offset)

-- why a later page is: it isn't committed, or has another number, or no count of bytes that a page has
pub record IsBadLater (v : VarData) (f : FlashState) (number : ℕ) (bad : BadPage) : Type 0 where
  pub behind : next_in v < number → bad ≡ end_fault v
  pub here : number ≤ next_in v → (HasContent number (image_in v f number) → ⊥) × (bad ≡ bad_page number (image_in v f number))

-- ---- where a blob is there, and where it isn't

-- bytes on a page that end so far in the content from there on go on to a later page: the pages before that one have fewer
abbrev pub GoesOnTo : (ℕ → List ℕ) → ℕ → ℕ → ℕ → Type 0
GoesOnTo image page end number = (page < number) × (length (contents_from image page (number - page)) < end)

-- a page that isn't behind the one in memory, and has content
abbrev pub IsReadable : (ℕ → List ℕ) → ℕ → ℕ → Type 0
IsReadable image next number = (number ≤ next) × HasContent number (image number)

-- all pages to which they go on are such
pub record AreThere (image : ℕ → List ℕ) (next page end : ℕ) : Type 0 where
  pub each : (number : ℕ) → GoesOnTo image page end number → IsReadable image next number

-- a blob begins in the content of its first page
pub record Begins (v : VarData) (f : FlashState) (at : BlobRef) : Type 0 where
  pub first : IsReadable (image_in v f) (next_in v) at.page
  pub inside : at.offset < page_count (image_in v f at.page)

-- .. and all of its bytes are there
pub record IsThere (v : VarData) (f : FlashState) (at : BlobRef) : Type 0 where
  pub begins : Begins v f at
  pub behind : AreThere (image_in v f) (next_in v) at.page (at.offset + at.length)

-- the first page to which bytes go on that isn't there
pub record IsBadBehind (v : VarData) (f : FlashState) (page end : ℕ) (bad : BadPage) : Type 0 where
  pub number : ℕ
  pub goes_on : GoesOnTo (image_in v f) page end number
  pub before : (n : ℕ) → page < n → n < number → IsReadable (image_in v f) (next_in v) n
  pub is_bad : IsBadLater v f number bad

-- A page of a blob that isn't gone is bad: its first one, or where it begins there, the first later one that isn't there.
abbrev pub IsBadOf : VarData → FlashState → BlobRef → BadPage → Type 0
IsBadOf v f at bad = (IsGone v f at → ⊥) × (IsBadFirst v f at bad ⊎ (Begins v f at × IsBadBehind v f at.page (at.offset + at.length) bad))
