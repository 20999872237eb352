-- The rows of pages by their bytes, and their first keys.
use Rattle.std.specs.Prelude.{◌≡◌, ℕ, Option, Some, option_map, List, [], slice_get, IsTrue}
use Rattle.fl_flash.specs.Buffer.{BufferState}
use Rattle.fl_flash.specs.Flash.{FlashState, page_at}
use Rattle.fl_mark.specs.Mark.{state_of_page}
use Rattle.fl_mark.specs.declared.page_state.PageState.{PageState}
use Rattle.fl_mark.specs.declared.page_state.PageState.TheVariants.{Blank, Torn, Committed, Void}
use Rattle.fl_model.specs.Record.{RowLayout}
use Rattle.fl_model.specs.Row.{Row}
use Rattle.fl_page.specs.Page.{IsGoodPage, bad_page, rows_in}
use Rattle.fl_page.specs.declared.fault.BadPage.{BadPage}
use Rattle.fl_ring.specs.Ring.{Shape, place}

-- the rows of a page in this state; a page that isn't committed has none
abbrev pub rows_where : PageState → RowLayout → List ℕ → List Row
rows_where Committed layout page = rows_in layout page
rows_where Blank layout page = []
rows_where Torn layout page = []
rows_where Void layout page = []

abbrev pub rows_on : RowLayout → List ℕ → List Row
rows_on layout page = rows_where (state_of_page page) layout page

abbrev pub first_key : List Row → Option ℕ
first_key rows = option_map (λ row. row.key) (slice_get rows 0)

-- the bytes at a number of a ring
abbrev pub bytes_at : Shape → FlashState → ℕ → List ℕ
bytes_at shape f number = page_at f (place shape number)

-- the first key of a page of a ring, or none where it has no rows
abbrev pub first_on : RowLayout → Shape → FlashState → ℕ → Option ℕ
first_on layout shape f number = first_key (rows_on layout (bytes_at shape f number))

-- a buffer holds a page with rows that has this number; its bytes are those of the flash, where that tells them
pub record Holds (layout : RowLayout) (shape : Shape) (f : FlashState) (number : ℕ) (buf : BufferState) : Type 0 where
  pub holds : buf.holds ≡ Some (place shape number)
  pub committed : state_of_page buf.bytes ≡ Committed
  pub good : IsGoodPage layout number buf.bytes
  pub bytes : IsTrue f.media.tells → buf.bytes ≡ bytes_at shape f number

-- a buffer that holds a flash page has its bytes, where the flash tells them
abbrev pub IsFresh : FlashState → BufferState → Type 0
IsFresh f buf = (p : ℕ) → IsTrue f.media.tells → buf.holds ≡ Some p → buf.bytes ≡ page_at f p

-- a committed page that has another number, or no count that a page has
pub record IsBadPage (layout : RowLayout) (number : ℕ) (page : List ℕ) (bad : BadPage) : Type 0 where
  pub committed : state_of_page page ≡ Committed
  pub not_good : IsGoodPage layout number page → ⊥
  pub told : bad ≡ bad_page number page
