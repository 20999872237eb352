-- The bytes of an index page: its number in four bytes, the first data page that it lists in four, the count of its
-- entries in two, six zeros, and the entries of consecutive data pages.
use Rattle.std.specs.Prelude.{◌≡◌, ℕ, zero, suc, ◌+◌, ◌*◌, ◌/◌, ◌%◌, ◌^◌, Bool, Option, Some, None, List, [], ◌++◌, take, drop, if◌then◌else◌}
use Rattle.fl_mark.specs.Mark.{state_of_page}
use Rattle.fl_mark.specs.declared.page_state.PageState.{PageState}
use Rattle.fl_mark.specs.declared.page_state.PageState.TheVariants.{Blank, Torn, Committed, Void}
use Rattle.fl_model.specs.Layout.{Full, IndexEntry, full_bytes}
use Rattle.fl_model.specs.Row.{le, number_of}
use Rattle.fl_index.specs.declared.page.EntryForm.{EntryForm}
use Rattle.fl_index.specs.declared.page.Full as code
use Rattle.fl_index.specs.declared.page.Found.{Found}
pub use Rattle.fl_page.specs.Header.{page_number}

-- the first data page that it lists
abbrev pub page_first : List ℕ → ℕ
page_first page = number_of (take 4 (drop 4 page))

-- how many entries it says to hold
abbrev pub page_entries : List ℕ → ℕ
page_entries page = number_of (take 2 (drop 8 page))

-- the bytes of an entry, whose bitmap has so many bits
abbrev pub entry_bytes : ℕ → Bool → ℕ
entry_bytes bits full = bits / 8 + (if full then 14 else 0)

abbrev pub form_len : EntryForm → ℕ
form_len form = form.width + (if form.full then 14 else 0)

abbrev pub bytes_of : EntryForm → IndexEntry → List ℕ
bytes_of form entry = le form.width entry.bitmap ++ (if form.full then full_bytes entry.full else [])

-- the bitmap of entry j
abbrev pub bitmap_at : EntryForm → List ℕ → ℕ → ℕ
bitmap_at form page j = number_of (take form.width (drop (16 + j * form_len form) page))

-- what entry j tells beside it, where it is full
abbrev pub full_at : EntryForm → List ℕ → ℕ → code.Full
full_at form page j =
    let at = 16 + j * form_len form + form.width in
    record { first_key = number_of (take 8 (drop at page)); count = number_of (take 2 (drop (at + 8) page)); blob_end = number_of (take 4 (drop (at + 10) page)) }

abbrev pub found_at : EntryForm → List ℕ → ℕ → Found
found_at form page j = record { bitmap = bitmap_at form page j; full = if form.full then Some (full_at form page j) else None }

-- what fits the fields of a full entry
abbrev pub fields_of : Full → code.Full
fields_of full = record { first_key = full.first_key % 2 ^ 64; count = full.count % 2 ^ 16; blob_end = full.blob_end % 2 ^ 32 }

-- what a full entry tells beside it
abbrev pub full_view : code.Full → Full
full_view full = record { first_key = full.first_key; count = full.count; blob_end = full.blob_end }

-- what stands before its entries
abbrev pub header_bytes : ℕ → ℕ → ℕ → List ℕ
header_bytes number first count = le 4 number ++ le 4 first ++ le 2 count ++ le 6 0

-- a page in this state with this first data page; only a committed page lists any
abbrev pub first_where : PageState → ℕ → Option ℕ
first_where Committed first = Some first
first_where Blank first = None
first_where Torn first = None
first_where Void first = None

abbrev pub first_on : List ℕ → Option ℕ
first_on page = first_where (state_of_page page) (page_first page)

-- the newest committed one of so many pages from a number on
abbrev pub newest_where : PageState → ℕ → Option ℕ → Option ℕ
newest_where Committed number older = Some number
newest_where Blank number older = older
newest_where Torn number older = older
newest_where Void number older = older

abbrev pub newest_of : (ℕ → List ℕ) → ℕ → ℕ → Option ℕ
newest_of page from zero = None
newest_of page from (suc n) = newest_where (state_of_page (page (from + n))) (from + n) (newest_of page from n)

-- a page with this number and so many entries
pub record IsGoodPage (per_page number : ℕ) (page : List ℕ) : Type 0 where
  pub number_is : page_number page ≡ number
  pub full : page_entries page ≡ per_page
