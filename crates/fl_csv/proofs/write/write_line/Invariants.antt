use Rattle.std.proofs.Common.{◌≤◌, ◌++◌, length}
use Rattle.fl_script.proofs.SinkPieces.{Sent}
use Rattle.fl_csv.specs.Text.{entry_text}
use Rattle.fl_csv.specs.Views.{blob_view}
use Rattle.fl_csv.proofs.Gathers.{left_at}
use Rattle.fl_csv.proofs.write.write_line.Given as goal

abbrev pub invariant-loop-value : goal.invariant-loop-value
invariant-loop-value g l = record {
  sent : Sent (g.K.Sink.written l.fn.out) (g.K.Sink.written l.out) (entry_text (record { key = l.key; values = l.values; blob = blob_view l.blob })) (l.line ++ left_at l.values (blob_view l.blob) l.value-index);
  short : length l.line ≤ 373;
  later : g.K.Sink.faults l.fn.out ≤ g.K.Sink.faults l.out;
}
