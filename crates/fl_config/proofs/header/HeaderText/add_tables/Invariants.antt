use Rattle.std.proofs.Common.{◌≡◌, ◌+◌, ◌*◌, ◌≤◌, ◌++◌, length, map, take}
use Rattle.std.specs.List.{flat_map}
use Rattle.fl_words.specs.Medium.{table_text}
use Rattle.fl_config.specs.Entry.{plan_in}
use Rattle.fl_config.proofs.header.HeaderText.add_tables.Given as goal

abbrev pub invariant-loop-table : goal.invariant-loop-table
invariant-loop-table l = record {
  text : l.self ≡ l.fn.self ++ flat_map table_text (map plan_in (take l.table-index l.tables));
  short : length l.self ≤ 40 + 200 * l.table-index;
}
