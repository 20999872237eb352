-- What an entry of an index page has to tell of its data page.
use Rattle.std.specs.Prelude.{◌≡◌, ℕ, true, false, IfSome, option_map, unwrap_or, List, [], length, slice_get}
use Rattle.fl_index.specs.Page.{full_view}
use Rattle.fl_index.specs.declared.page.Found.{Found}
use Rattle.fl_mark.specs.Mark.{state_of_page}
use Rattle.fl_model.specs.Layout.{Full, full_of}
use Rattle.fl_model.specs.Record.{RowLayout}
use Rattle.fl_model.specs.Row.{Row}
use Rattle.fl_model.specs.BlobEnds.{blobs_end}
use Rattle.fl_page.specs.Header.{page_number, page_bitmap}
use Rattle.fl_page.specs.Page.{rows_in, IsGoodPage}
use Rattle.fl_ring.specs.Newest.{commits}

-- what a full entry tells of a page with these rows beside its bitmap
abbrev pub full_in : List Row → Full
full_in rows = record { first_key = unwrap_or (option_map (λ row. row.key) (slice_get rows 0)) 0; count = length rows; blob_end = blobs_end 0 rows }

-- an entry tells of a page of rows: its bitmap, and a full one the rest too, where the page has the rows that it counts
pub record TellsCommitted (layout : RowLayout) (page : List ℕ) (found : Found) : Type 0 where
  pub bitmap : found.bitmap ≡ page_bitmap page
  pub full : IfSome found.full (λ full. IsGoodPage layout (page_number page) page × (full_view full ≡ full_in (rows_in layout page)))

-- .. and a full one of a page without rows: it is all zero
abbrev pub TellsVoid : Found → Type 0
TellsVoid found = IfSome found.full (λ full. (found.bitmap ≡ 0) × (full_view full ≡ full_of []))

-- an entry tells of a data page, whose rows count where it is committed
pub record TellsPage (layout : RowLayout) (page : List ℕ) (found : Found) : Type 0 where
  pub rows : commits (state_of_page page) ≡ true → TellsCommitted layout page found
  pub void : commits (state_of_page page) ≡ false → TellsVoid found
