use Rattle.std.proofs.Common.{◌≡◌, ◌+◌, ◌-◌, ◌*◌, ◌≤◌, ◌==◌, map}
use Rattle.std.specs.List.{range_with_len, sum, count_by}
use Rattle.fl_table.specs.Look.{oldest_in, rows_noted}
use Rattle.fl_table.specs.Memory.{next_in, pending_in}
use Rattle.fl_table.proofs.table.Table.counts.Given as goal

abbrev pub invariant-loop-number : goal.invariant-loop-number
invariant-loop-number g l = record {
  from : oldest_in l.self ≤ l.number;
  rows : l.counts.rows ≡ sum (map (rows_noted l.self) (range_with_len (oldest_in l.self) (l.number - oldest_in l.self))) + pending_in l.self;
  pending : l.counts.pending ≡ pending_in l.self;
  pages : l.counts.pages ≡ next_in l.self - oldest_in l.self;
  voids : l.counts.voids ≡ count_by (λ count. count == 0) (map (rows_noted l.self) (range_with_len (oldest_in l.self) (l.number - oldest_in l.self)));
  rows_few : l.counts.rows ≤ (l.number - oldest_in l.self) * 65536 + 4294967296;
  voids_few : l.counts.voids ≤ l.number - oldest_in l.self;
}
