-- How many pages the index and the variable data of a table keep, in memory.
use Rattle.std.specs.Prelude.{ℕ, ◌-◌, Option, option_map}
use Rattle.fl_index.specs.Memory as index
use Rattle.fl_index.specs.declared.index.BitmapIndex.{BitmapIndex}
use Rattle.fl_var.specs.Memory as var
use Rattle.fl_var.specs.declared.var_data.VarData.{VarData}

-- the kept pages of the rings in memory; a ring that isn't mounted keeps none
abbrev pub index_pages : Option BitmapIndex → Option ℕ
index_pages bitmaps = option_map (λ i. index.next_in i - index.oldest_in i) bitmaps

abbrev pub blob_pages : Option VarData → Option ℕ
blob_pages blobs = option_map (λ v. var.next_in v - var.oldest_in v) blobs

-- the number of the oldest kept page of variable data
abbrev pub oldest_page : Option VarData → Option ℕ
oldest_page blobs = option_map (λ v. var.oldest_in v) blobs
