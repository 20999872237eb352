-- The sizes of a table, by its plan alone.
use Rattle.std.specs.Prelude.{ℕ, ◌+◌, ◌-◌, ◌*◌, min, max, Bool, ◌&&◌, List, sum_by, if◌then◌else◌}
use Rattle.fl_base.specs.declared.types.Geometry.{Geometry}
use Rattle.fl_model.specs.Record.{Plan, has_index, has_var, has_log, row_len, rows_per_page, entries_per_page, content_per_page, blocks_of}
use Rattle.fl_model.specs.Table.{DataRing, IndexRing, VarRing, LogRing, shape_of}
use Rattle.fl_sizing.specs.Rings.{rounded_up, least_pages, most_pages, blocks_for, end_reads}
use Rattle.fl_sizing.specs.declared.sizes.TableSizes.{TableSizes}

-- the data pages that are always kept, once the ring was full, and the rows of so many full ones
abbrev pub pages_kept : Plan → ℕ
pages_kept plan = least_pages (shape_of plan DataRing)

abbrev pub rows_kept : Plan → ℕ
rows_kept plan = rows_per_page plan * pages_kept plan

-- so many index pages list as many data pages as are ever kept, and so many blocks always keep these; none where there is no index
abbrev pub index_pages : Plan → ℕ
index_pages plan = if has_index plan then rounded_up (most_pages (shape_of plan DataRing)) (entries_per_page plan) else 0

abbrev pub index_blocks : Plan → ℕ
index_blocks plan = if has_index plan then max (blocks_for (index_pages plan) plan.geometry.block) 3 else 0

-- the bytes of the pages of variable data that are always kept, once their ring was full of full pages; the first of them may be the end of
-- a blob that is gone
abbrev pub blob_bytes : Plan → ℕ
blob_bytes plan = content_per_page plan * least_pages (shape_of plan VarRing)

-- 1 where it is so, else 0
abbrev pub one_if : Bool → ℕ
one_if b = if b then 1 else 0

-- The memory of a table: for each page of data 2 bytes for its count of rows, for each of the index 8 for the page that it lists first, for each
-- page whether it is known to be blank, and a page in hand for each ring.
abbrev pub table_memory : Plan → ℕ
table_memory plan =
    (3 * plan.data_blocks + 9 * plan.index_blocks + plan.var_blocks + plan.log_blocks) * plan.geometry.block
    + (1 + one_if (has_index plan) + one_if (has_var plan) + one_if (has_log plan)) * plan.geometry.page

-- how many data pages no index page lists, where both rings are full and only the entries of the last pages aren't in an index page: they
-- wait, as many as an index page lists at most, or the kept index pages have no room for so many
abbrev pub unlisted_pages : Plan → ℕ
unlisted_pages plan =
    let pages = most_pages (shape_of plan DataRing) in
    min pages (max (entries_per_page plan) (pages - entries_per_page plan * least_pages (shape_of plan IndexRing)))

-- the data pages that a mount of such rings without void pages reads: all of them, or where index entries are full those that no index
-- page lists, and the newest
abbrev pub rows_read : Plan → ℕ
rows_read plan = if plan.full_index && has_index plan then unlisted_pages plan + 1 else most_pages (shape_of plan DataRing)

-- the reads of a full index, and those of a ring of variable data, whose pages a mount doesn't read
abbrev pub index_reads : Plan → ℕ
index_reads plan = if has_index plan then most_pages (shape_of plan IndexRing) + end_reads (shape_of plan IndexRing) else 0

abbrev pub var_reads : Plan → ℕ
var_reads plan = if has_var plan then end_reads (shape_of plan VarRing) else 0

-- .. and those of a log, whose newest page is read once more for its records
abbrev pub log_reads : Plan → ℕ
log_reads plan = if has_log plan then end_reads (shape_of plan LogRing) + 1 else 0

-- the reads of a mount of full rings without void pages: these data pages, the kept pages of the index, the newest page of the log, and
-- those that find the ends of the rings
abbrev pub full_reads : Plan → ℕ
full_reads plan = rows_read plan + end_reads (shape_of plan DataRing) + index_reads plan + var_reads plan + log_reads plan

-- the reads of a mount at most, whatever the pages hold
abbrev pub most_reads : Plan → ℕ
most_reads plan = 4 * (blocks_of plan * plan.geometry.block)

abbrev pub sizes_of : Plan → TableSizes
sizes_of plan = record {
  row_bytes = row_len plan;
  rows_per_page = rows_per_page plan;
  pages_kept = pages_kept plan;
  rows_kept = rows_kept plan;
  index_pages = index_pages plan;
  index_blocks = index_blocks plan;
  blob_bytes = blob_bytes plan;
  memory = table_memory plan;
  full_reads = full_reads plan;
  most_reads = most_reads plan;
}

-- the blocks of a table whose index has as many as are wanted
abbrev pub blocks_wanted : Plan → ℕ
blocks_wanted plan = plan.data_blocks + index_blocks plan + plan.var_blocks + plan.log_blocks

-- The memory of a device: of its tables, of a block, and of four pages in hand. The texts of a script and of replies take more, the same for each
-- configuration.
abbrev pub device_memory : Geometry → List Plan → ℕ
device_memory geometry plans = sum_by table_memory plans + geometry.page * geometry.block + 4 * geometry.page
