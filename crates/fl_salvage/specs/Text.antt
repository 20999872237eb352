-- The text of the rows that the pages of a table's data ring hold.
use Rattle.std.specs.Prelude.{ℕ, ◌==◌, nat_lt, Option, Some, None, option_map, List, [], ◌++◌, length, if◌then◌else◌}
use Rattle.std.specs.List.{flat_map}
use Rattle.fl_base.specs.declared.types.BlobRef.{BlobRef}
use Rattle.fl_check.specs.Whole.{layout_in}
use Rattle.fl_csv.specs.Text.{Blob, Absent, Nothing, Bytes, Gone, entry_text, header_text}
use Rattle.fl_model.specs.Record.{RowLayout}
use Rattle.fl_model.specs.Row.{Row}
use Rattle.fl_page.specs.Page.{rows_in}
use Rattle.fl_plan.specs.declared.table_config.TableConfig.{TableConfig}
use Rattle.fl_schema.specs.Schema.{layout_of}
use Rattle.fl_salvage.specs.Blobs.{blob_from, content_at, content_room}
use Rattle.fl_salvage.specs.Pages.{has_rows, numbered, ring_at}
use Rattle.fl_salvage.specs.declared.ring.RingPages.{RingPages}
use Rattle.fl_salvage.specs.declared.table_pages.TablePages.{TablePages}

-- a table: the form of its rows, its data ring, its ring of variable data, if it has one, and the greatest length of a blob
pub record Form : Type 0 where
  pub layout : RowLayout
  pub rows : RingPages
  pub var : Option RingPages
  pub limit : ℕ

abbrev pub form_of : TablePages → Form
form_of table = record { layout = layout_of table.schema; rows = table.rows; var = table.var; limit = table.blob_limit }

abbrev pub form_in : TableConfig → Form
form_in config = record {
  layout = layout_in config;
  rows = ring_at config.geometry config.rows;
  var = option_map (λ place. ring_at config.geometry place) config.var;
  limit = config.blob_limit;
}

-- ---- blobs

abbrev pub told_bytes : Option (List ℕ) → Blob
told_bytes None = Gone
told_bytes (Some bytes) = Bytes bytes

-- A blob is gone where its reference has more bytes than a blob of the table may have, and where not all of them stand on
-- pages that are there. One of no bytes never is.
abbrev pub blob_in : Option RingPages → ℕ → List ℕ → BlobRef → Blob
blob_in None limit bytes at = Gone
blob_in (Some ring) limit bytes at =
    if at.length == 0 then Bytes []
    else if nat_lt limit at.length then Gone
    else told_bytes (blob_from (content_at ring bytes) (content_room ring) at.length at.page at.offset at.length)

abbrev pub blob_told : Form → List ℕ → Option BlobRef → Blob
blob_told form bytes (Some at) = blob_in form.var form.limit bytes at
blob_told form bytes None = if form.layout.blobs then Nothing else Absent

-- ---- rows

-- the line of a row
abbrev pub row_text : Form → List ℕ → Row → List ℕ
row_text form bytes row = entry_text (record { key = row.key; values = row.values; blob = blob_told form bytes row.blob })

-- the rows of the page with this number, where the one at its place is such a page
abbrev pub rows_of : RowLayout → RingPages → ℕ → List ℕ → List Row
rows_of layout ring number page = if nat_lt (length page) ring.size then [] else if has_rows layout number page then rows_in layout page else []

-- the lines of the rows of the page with this number, as they stand in it
abbrev pub page_text : Form → List ℕ → ℕ → List ℕ
page_text form bytes number = flat_map (row_text form bytes) (rows_of form.layout form.rows number (numbered form.rows bytes number))

-- the lines of the pages with these numbers
abbrev pub pages_text : Form → List ℕ → List ℕ → List ℕ
pages_text form bytes numbers = flat_map (page_text form bytes) numbers

-- .. below the line of the names
abbrev pub salvaged_text : Form → List ℕ → List ℕ → List ℕ
salvaged_text form bytes numbers = header_text (length form.layout.columns) form.layout.blobs ++ pages_text form bytes numbers
