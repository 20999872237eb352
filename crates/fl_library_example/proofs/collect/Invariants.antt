use Rattle.std.proofs.Common.{◌≡◌, length}
use Rattle.fl_cursor.specs.Cursor.{table_of, IsReady}
use Rattle.fl_frame.specs.Contents.{contents_of}
use Rattle.fl_table.specs.Look.{layout_in}
use Rattle.fl_library_example.proofs.collect.Given as goal

abbrev pub invariant-loop : goal.invariant-loop
invariant-loop g l = record {
  ready : IsReady l.found (contents_of (g.F.Flash.state l.flash));
  columns : length (layout_in (table_of l.found)).columns ≡ 2;
}
