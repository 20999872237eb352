use Rattle.std.proofs.Common.{◌≡◌, length, map, take}
use Rattle.fl_table.specs.Look.{layout_in}
use Rattle.fl_session.proofs.generator.Generator.new.Given as goal

abbrev pub invariant-loop-i : goal.invariant-loop-i
invariant-loop-i l = record {
  count : length l.signed.items ≡ l.i;
  signed : l.signed.items ≡ take l.i (map (λ column. column.signed) (layout_in l.table).columns);
}
