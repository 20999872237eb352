use Rattle.std.proofs.Common.{arith}
use Rattle.std.proofs.lemmas.Grind.{common_steps}
use Rattle.fl_script.proofs.SinkPieces.{sent-next}
use Rattle.fl_script.proofs.write.write_all.Goals as goal

pub loop-left-preserved : goal.loop-left-preserved
loop-left-preserved g c = record {
  sent = sent-next _ _ _ _ _ c.loop-left.left.now _ c.in_ok-taken.taken c.loop-left.invariant.sent c.in_ok-taken.ensures.bytes (grind (arith, common_steps));
  later = omega (arith, c.loop-left.invariant.later, c.in_ok-taken.ensures.cause.later);
}
