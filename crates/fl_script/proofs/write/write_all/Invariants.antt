use Rattle.std.proofs.Common.{◌≤◌, length}
use Rattle.fl_script.proofs.SinkPieces.{Sent}
use Rattle.fl_script.proofs.write.write_all.Given as goal

abbrev pub invariant-loop-left : goal.invariant-loop-left
invariant-loop-left g l = record {
  sent : Sent (g.K.Sink.written l.fn.out) (g.K.Sink.written l.out) l.bytes l.left;
  later : g.K.Sink.faults l.fn.out ≤ g.K.Sink.faults l.out;
}

abbrev pub decreases-loop-left : goal.decreases-loop-left
decreases-loop-left g l = length l.left
