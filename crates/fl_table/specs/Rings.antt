-- How many pages the rings of a table keep, in memory and in the model.
use Rattle.std.specs.Prelude.{ℕ, ◌-◌, option_map, length}
use Rattle.fl_model.specs.Table as model
use Rattle.fl_parts.specs.Rings.{index_pages, blob_pages}
use Rattle.fl_table.specs.declared.rings.TableRings.{TableRings}
use Rattle.fl_table.specs.declared.table.Table.{Table}
use Rattle.fl_table.specs.Look.{oldest_in}
use Rattle.fl_table.specs.Memory.{next_in}

abbrev pub rings_in : {KNOTS SLOTS : ℕ} → Table KNOTS SLOTS → TableRings
rings_in t = record { rows = next_in t - oldest_in t; index = index_pages t.bitmaps; blobs = blob_pages t.blobs }

-- the kept pages of a table of the model
abbrev pub rings_of : model.Table → TableRings
rings_of table = record {
  rows = length table.rows.counts;
  index = option_map (λ ring. length ring.counts) table.index;
  blobs = option_map (λ ring. length ring.counts) table.var;
}
