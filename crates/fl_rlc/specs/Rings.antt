-- How many pages the rings of a table with a log keep, in memory and in the model.
use Rattle.std.specs.Prelude.{ℕ, ◌-◌, Option, option_map, length}
use Rattle.fl_model.specs.Table as model
use Rattle.fl_table.specs.Rings as unlogged
use Rattle.fl_rlc.specs.Memory.{next_in, oldest_in}
use Rattle.fl_rlc.specs.declared.log.RecordLog.{RecordLog}
use Rattle.fl_rlc.specs.declared.rings.RingCounts.{RingCounts}
use Rattle.fl_rlc.specs.declared.table.LoggedTable.{LoggedTable}

-- the kept pages of the rings in memory; a ring that isn't mounted keeps none
abbrev pub log_pages : Option RecordLog → Option ℕ
log_pages log = option_map (λ l. next_in l - oldest_in l) log

abbrev pub rings_in : {KNOTS SLOTS : ℕ} → LoggedTable KNOTS SLOTS → RingCounts
rings_in t = record { table = unlogged.rings_in t.table; log = log_pages t.log }

-- .. and those of a table of the model
abbrev pub rings_of : model.Table → RingCounts
rings_of table = record { table = unlogged.rings_of table; log = option_map (λ ring. length ring.counts) table.log }
