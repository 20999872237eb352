use Rattle.std.proofs.Common.{arith, ◌∙◌}
use Rattle.fl_script.proofs.SinkPieces.{written-ok}
use Rattle.fl_script.proofs.Digits16.{encode_lower-is}
use Rattle.fl_script.proofs.write.write_piece.Goals as goal

pub returns-clause-text : goal.returns-clause-text
returns-clause-text g c =
    let written = rw c.unwrap.ensures at c.encode_to_slice.ensures.written in
    written-ok _ _ _ _ _ (written ∙ encode_lower-is c.args.piece.now (λ k. omega (arith, c.type_inv.piece k))) c.write_all.ensures.text
