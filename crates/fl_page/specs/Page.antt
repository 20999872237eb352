-- The rows of a page, by its bytes.
use Rattle.std.specs.Prelude.{◌≡◌, ℕ, zero, suc, ◌+◌, ◌-◌, ◌*◌, ◌/◌, ◌≤◌, Bool, ◌&&◌, nat_le, ◌==◌, List, [], ◌∷◌, length, take, drop, slice_range}
use Rattle.fl_model.specs.Record.{RowLayout, layout_len}
use Rattle.fl_model.specs.Row.{Row, row_in}
use Rattle.fl_page.specs.Header.{page_number, page_count}
use Rattle.fl_page.specs.declared.fault.BadPage.{BadPage}

-- the bytes of row i
abbrev pub row_at : RowLayout → List ℕ → ℕ → List ℕ
row_at layout page i = slice_range page (16 + i * layout_len layout) (16 + i * layout_len layout + layout_len layout)

abbrev pub key_at : RowLayout → List ℕ → ℕ → ℕ
key_at layout page i = (row_in layout (row_at layout page i)).key

-- so many rows, one after another
abbrev pub rows_from : ℕ → RowLayout → List ℕ → List Row
rows_from zero layout bytes = []
rows_from (suc n) layout bytes = row_in layout (take (layout_len layout) bytes) ∷ rows_from n layout (drop (layout_len layout) bytes)

abbrev pub rows_in : RowLayout → List ℕ → List Row
rows_in layout page = rows_from (page_count page) layout (drop 16 page)

-- a page with this number, and from one row on as many as it has room for
pub record IsGoodPage (layout : RowLayout) (number : ℕ) (page : List ℕ) : Type 0 where
  pub number_is : page_number page ≡ number
  pub some : 1 ≤ page_count page
  pub room : page_count page ≤ (length page - 24) / layout_len layout

-- .. as a test
abbrev pub has_form : RowLayout → ℕ → List ℕ → Bool
has_form layout number page =
    (page_number page == number) && nat_le 1 (page_count page) && nat_le (page_count page) ((length page - 24) / layout_len layout)

abbrev pub bad_page : ℕ → List ℕ → BadPage
bad_page number page = record { wanted = number; found = page_number page; count = page_count page }
