use Rattle.std.proofs.Common.{◌∙◌, arith}
use Rattle.fl_script.proofs.Digits16.{encode_lower-is}
use Rattle.fl_csv.proofs.write.encoded.Goals as goal

pub returns : goal.returns
returns c = c.in_ok-encode.ensures ∙ encode_lower-is c.args.bytes.now (λ k. omega (arith, c.type_inv.bytes k))
