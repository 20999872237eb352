use Rattle.std.proofs.Common.{length, refl}
use Rattle.fl_script.proofs.Blocks.{padded, still_values}
use Rattle.fl_script.proofs.hexadecimal.decode_rest.Goals as goal

pub returns : goal.returns
returns c =
    let digits = c.args.digits.now in
    rw (c.are_digits.ensures, c.copy_from_slice-2.ensures.after, c.joined.ensures, c.digit_values-values.ensures, c.copy_from_slice.ensures.after)
    (padded (length c.args.bytes.now) digits _ c.requires.pairs (still_values (length digits) _ refl))
