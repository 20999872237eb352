-- What a mount reads in the headers of the kept pages, over any bytes.
use Rattle.std.specs.Prelude.{◌≡◌, ℕ, ◌+◌, ◌%◌, ◌<◌, Option, Some, None, List, length, slice_index_or}
use Rattle.fl_flash.specs.Flash.{FlashState, page_at}
use Rattle.fl_ring.specs.Place.{shape_of}
use Rattle.fl_ring.specs.Ring.{place}
use Rattle.fl_ring.specs.declared.ring.Ring.{Ring}
use Rattle.fl_index.specs.declared.mount.Newest.{Newest}
use Rattle.fl_index.specs.Page.{page_first, page_entries, first_on}

-- the bytes of a page of a ring, by its number
abbrev pub kept_page : Ring → FlashState → ℕ → List ℕ
kept_page ring f number = page_at f (place (shape_of ring) number)

-- the header of a committed flash page with these bytes
abbrev pub header_of : ℕ → List ℕ → Newest
header_of at page = record { page = at; first = page_first page; count = page_entries page }

-- the header of the page with a number, where there is one
abbrev pub IsNewest : (ℕ → ℕ) → (ℕ → List ℕ) → Option ℕ → Option Newest → Type 0
IsNewest at page None newest = newest ≡ None
IsNewest at page (Some number) newest = newest ≡ Some (header_of (at number) (page number))

-- the first data page of so many pages from a number on is remembered, each at its place
abbrev pub AreRemembered : (ℕ → List ℕ) → ℕ → ℕ → List (Option ℕ) → Type 0
AreRemembered page number n firsts =
    (i : ℕ) → i < n → slice_index_or firsts ((number + i) % length firsts) None ≡ first_on (page (number + i))
