use Rattle.std.proofs.Common.{◌*◌, ◌%◌, arith, ◌∙◌, ap}
use Rattle.std.proofs.lemmas.Simd.{length-put_chunk}
use Rattle.fl_script.proofs.Blocks.{start, step, done}
use Rattle.fl_script.proofs.hexadecimal.decode_blocks.Goals as goal

pub parts-init : goal.parts-init
parts-init c = (c.requires.pairs, c.requires.whole, start _)

pub parts-preserved : goal.parts-preserved
parts-preserved c =
    let long = length-put_chunk (16 * c.parts.i) c.parts.bytes c.joined.result in
    let same = c.parts.invariant in (
      omega (arith, long, same.0),
      ap (λ n. n % 16) long ∙ same.1,
      rw (c.are_digits-all.ensures, c.joined.ensures, c.digit_values-values.ensures) (step c.args.digits.now c.parts.bytes c.parts.i c.parts.all same.0 (omega (arith, c.parts.auto.bytes, c.parts-test.true)) same.2),
    )

pub returns : goal.returns
returns c = done c.parts.all c.args.digits.now c.parts.bytes c.parts.i c.parts.invariant.0 (omega (arith, c.parts.invariant.1, c.parts.auto.bytes, c.parts.auto.i-end, c.parts-test.false)) c.parts.invariant.2
