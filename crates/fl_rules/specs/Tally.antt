-- What the kept pages of a table tell: the rows, the void pages, and where its blobs and the entries of its index end.
use Rattle.std.specs.Prelude.{ℕ, zero, suc, ◌+◌, if◌then◌else◌, List, length}
use Rattle.fl_index.specs.Page.{page_first}
use Rattle.fl_mark.specs.Mark.{state_of_page}
use Rattle.fl_model.specs.Record.{RowLayout}
use Rattle.fl_model.specs.BlobEnds.{blobs_end}
use Rattle.fl_page.specs.Page.{rows_in}
use Rattle.fl_ring.specs.Newest.{commits}
use Rattle.fl_ring.specs.Ring.{Shape}
use Rattle.fl_rules.specs.Marks.{kept_page}
use Rattle.fl_rules.specs.declared.marks.Marks.{Marks}
use Rattle.fl_rules.specs.declared.tally.Tally.{Tally}

-- the end of what an index page of so many entries lists, where it is committed; else what it was before
abbrev pub listed_after : ℕ → List ℕ → ℕ → ℕ
listed_after per_page page before = if commits (state_of_page page) then page_first page + per_page else before

-- the end of what the newest committed one of the first i kept pages lists; 0 where there is none
abbrev pub listed_to : ℕ → (ℕ → List ℕ) → Shape → Marks → ℕ → ℕ
listed_to per_page page r m zero = 0
listed_to per_page page r m (suc i) = listed_after per_page (page (kept_page r m i)) (listed_to per_page page r m i)

-- one page more
abbrev pub with_page : RowLayout → List ℕ → Tally → Tally
with_page layout page tally =
    if commits (state_of_page page) then record { rows = tally.rows + length (rows_in layout page); voids = tally.voids; blob_end = blobs_end tally.blob_end (rows_in layout page) }
    else record tally { voids = tally.voids + 1 }

abbrev pub no_pages : Tally
no_pages = record { rows = 0; voids = 0; blob_end = 0 }

-- the first i kept pages
abbrev pub tally_of : RowLayout → (ℕ → List ℕ) → Shape → Marks → ℕ → Tally
tally_of layout page r m zero = no_pages
tally_of layout page r m (suc i) = with_page layout (page (kept_page r m i)) (tally_of layout page r m i)
