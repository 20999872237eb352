use Rattle.std.specs.Io.KnownBytes.{Keeps}
use Rattle.fl_edge.proofs.retried.read_retried.Given as goal

-- nothing was taken yet
abbrev pub invariant-loop : goal.invariant-loop
invariant-loop g l = Keeps (g.R.Read.remaining l.initial.reader) (g.R.Read.remaining l.reader)
