-- Data pages that are whole, by their bytes.
use Rattle.std.specs.Prelude.{◌≡◌, ℕ, ◌-◌, ◌/◌, ◌≤◌, Bool, true, ◌&&◌, ◌||◌, nat_lt, ◌==◌, Option, Some, None, List, length, map}
use Rattle.std.specs.List.{list_all, AllByRecursion}
use Rattle.fl_base.specs.declared.types.BlobRef.{BlobRef}
use Rattle.fl_bitmap.specs.Bucket.{HasBuckets, bitmap_in}
use Rattle.fl_bitmap.specs.declared.buckets.Buckets.{Buckets}
use Rattle.fl_model.specs.Layout.{rows_body, data_body, committed}
use Rattle.fl_model.specs.Record.{Plan, RowLayout, row_layout, layout_len, rows_per_page}
use Rattle.fl_model.specs.Row.{Row, IsStorable, stored_row}
use Rattle.fl_model.specs.Table.{Entry}

-- a reference of length 0 is ten bytes 0
abbrev pub is_plain : Option BlobRef → Bool
is_plain None = true
is_plain (Some blob) = nat_lt 0 blob.length || ((blob.page == 0) && (blob.offset == 0))

abbrev pub are_plain : List Row → Bool
are_plain rows = list_all (λ row. is_plain row.blob) rows

-- a committed page with this number, whose body is that of some rows of the layout, as many as it has room for at most
pub record IsDataPage (layout : RowLayout) (buckets : Option Buckets) (number : ℕ) (page : List ℕ) : Type 0 where
  pub rows : List Row
  pub some : 1 ≤ length rows
  pub few : length rows ≤ (length page - 24) / layout_len layout
  pub storable : AllByRecursion (IsStorable layout) rows
  pub plain : are_plain rows ≡ true
  pub bytes : page ≡ committed (rows_body (length page - 8) layout number (bitmap_in buckets rows) rows)

-- the data pages of a table have rows of this layout, these buckets and so many bytes
pub record HasForm (plan : Plan) (layout : RowLayout) (buckets : Option Buckets) (size : ℕ) : Type 0 where
  pub layout_is : row_layout plan ≡ layout
  pub buckets_are : HasBuckets plan buckets
  pub size_is : plan.geometry.page ≡ size

-- a committed data page of a table with this number and the rows of some entries
pub record HoldsEntries (plan : Plan) (number : ℕ) (page : List ℕ) : Type 0 where
  pub entries : List Entry
  pub some : 1 ≤ length entries
  pub few : length entries ≤ rows_per_page plan
  pub storable : AllByRecursion (IsStorable (row_layout plan)) (map stored_row entries)
  pub plain : are_plain (map stored_row entries) ≡ true
  pub bytes : page ≡ committed (data_body plan number entries)
