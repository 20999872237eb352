use Rattle.std.proofs.Common.{◌≤◌}
use Rattle.fl_script.proofs.SinkPieces.{Sent}
use Rattle.fl_csv.specs.Text.{header_text}
use Rattle.fl_csv.proofs.Sends.{left_of}
use Rattle.fl_csv.proofs.write.header_line.Given as goal

abbrev pub invariant-names : goal.invariant-names
invariant-names g l = record {
  sent : Sent (g.K.Sink.written l.fn.out) (g.K.Sink.written l.out) (header_text l.columns l.blobs) (left_of l.columns l.blobs l.i);
  later : g.K.Sink.faults l.fn.out ≤ g.K.Sink.faults l.out;
}
