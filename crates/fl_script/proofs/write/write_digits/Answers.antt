use Rattle.std.proofs.Common.{◌++◌, drop, take, ap, arith, ◌∙◌}
use Rattle.std.proofs.lemmas.Grind.{common_steps}
use Rattle.fl_words.specs.Reply.{hex_text}
use Rattle.fl_script.proofs.SinkPieces.{sent-piece, sent-failed, written-err}
use Rattle.fl_script.proofs.Digits16.{hex_text-parts}
use Rattle.fl_script.proofs.write.write_digits.Goals as goal

pub returns-in_err-write_piece-clause-text : goal.returns-in_err-write_piece-clause-text
returns-in_err-write_piece-clause-text g c =
    written-err _ _ _ _ c.from_residual.ensures.0
    (sent-failed _ _ _ _ _ (hex_text (drop c.min-count.result c.loop-left.left.now)) _ c.loop-left.invariant.sent c.in_err-write_piece.ensures.text
    (hex_text-parts c.min-count.result c.loop-left.left.now))

pub loop-left-preserved : goal.loop-left-preserved
loop-left-preserved g c = record {
  sent = sent-piece _ _ _ _ _ _ _ c.loop-left.invariant.sent c.in_ok-write_piece.ensures.text
      (ap (λ l. hex_text (take c.min-count.result c.loop-left.left.now) ++ hex_text l) (grind (arith, common_steps)) ∙ hex_text-parts c.min-count.result c.loop-left.left.now);
  later = omega (arith, c.loop-left.invariant.later, c.in_ok-write_piece.ensures.cause.later);
}
