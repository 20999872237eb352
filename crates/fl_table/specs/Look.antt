-- What a table in memory tells of itself, and the same in the model.
use Rattle.std.specs.Prelude.{ℕ, ◌+◌, ◌-◌, ◌%◌, ◌==◌, Option, option_map, unwrap_or, List, length, drop, map, sum, count_by, slice_index, vec_len}
use Rattle.std.specs.List.{range_with_len}
use Rattle.fl_bitmap.specs.declared.buckets.Buckets.{Buckets}
use Rattle.fl_find.specs.declared.index.KeyIndex.{KeyIndex}
use Rattle.fl_index.specs.declared.index.BitmapIndex.{BitmapIndex}
use Rattle.fl_model.specs.Record.{RowLayout}
use Rattle.fl_model.specs.Row.{Row}
use Rattle.fl_model.specs.Spline.{voids_of}
use Rattle.fl_model.specs.Table as model
use Rattle.fl_page.specs.Page.{rows_from}
use Rattle.fl_ring.specs.Place.{oldest_of, shape_of}
use Rattle.fl_ring.specs.Ring.{place}
use Rattle.fl_schema.specs.Schema.{layout_of}
use Rattle.fl_table.specs.declared.table.Table.{Table}
use Rattle.fl_table.specs.declared.counts.TableCounts.{TableCounts}
use Rattle.fl_table.specs.Memory.{next_in, pending_in}

-- the form of its rows
abbrev pub layout_in : {KNOTS SLOTS : ℕ} → Table KNOTS SLOTS → RowLayout
layout_in t = layout_of t.schema

-- the key of its last record
abbrev pub last_key_in : {KNOTS SLOTS : ℕ} → Table KNOTS SLOTS → Option ℕ
last_key_in t = t.last_key

-- the number of the oldest kept page of a running table
abbrev pub oldest_in : {KNOTS SLOTS : ℕ} → Table KNOTS SLOTS → ℕ
oldest_in t = unwrap_or (option_map (λ ring. oldest_of ring) t.ring) 0

-- the flash page at which a number of a running table stands
abbrev pub place_of : {KNOTS SLOTS : ℕ} → Table KNOTS SLOTS → ℕ → ℕ
place_of t number = unwrap_or (option_map (λ ring. place (shape_of ring) number) t.ring) 0

-- the pending rows, by their bytes in the page buffer
abbrev pub buffered_rows : {KNOTS SLOTS : ℕ} → Table KNOTS SLOTS → List Row
buffered_rows t = rows_from (pending_in t) (layout_in t) (drop 16 t.writer.body)

-- how many rows the kept page with this number has
abbrev pub rows_noted : {KNOTS SLOTS : ℕ} → Table KNOTS SLOTS → ℕ → ℕ
rows_noted t number = slice_index t.counts.items (number % vec_len t.counts)

-- how many of its kept pages are void
abbrev pub voids_noted : {KNOTS SLOTS : ℕ} → Table KNOTS SLOTS → ℕ
voids_noted t = t.voids

-- where the pages of keys are
abbrev pub learned_in : {KNOTS SLOTS : ℕ} → Table KNOTS SLOTS → KeyIndex KNOTS SLOTS
learned_in t = t.index

-- the index of its pages' values, where it has one
abbrev pub index_in : {KNOTS SLOTS : ℕ} → Table KNOTS SLOTS → Option BitmapIndex
index_in t = t.bitmaps

-- the buckets of its bitmaps, where its pages have any
abbrev pub buckets_in : {KNOTS SLOTS : ℕ} → Table KNOTS SLOTS → Option Buckets
buckets_in t = t.buckets

-- how many rows each kept page has, the oldest first
abbrev pub kept_counts : {KNOTS SLOTS : ℕ} → Table KNOTS SLOTS → List ℕ
kept_counts t = map (rows_noted t) (range_with_len (oldest_in t) (next_in t - oldest_in t))

abbrev pub counts_in : {KNOTS SLOTS : ℕ} → Table KNOTS SLOTS → TableCounts
counts_in t = record {
  rows = sum (kept_counts t) + pending_in t;
  pending = pending_in t;
  pages = next_in t - oldest_in t;
  voids = count_by (λ count. count == 0) (kept_counts t);
}

-- Of a table that isn't running the rows in its page buffer are counted, which are lost, and no page.
abbrev pub lost_counts : {KNOTS SLOTS : ℕ} → Table KNOTS SLOTS → TableCounts
lost_counts t = record { rows = pending_in t; pending = pending_in t; pages = 0; voids = 0 }

-- what a table of the model holds
abbrev pub counts_of : model.Table → TableCounts
counts_of table = record {
  rows = length table.entries;
  pending = table.pending;
  pages = length table.rows.counts;
  voids = voids_of table;
}
