use Rattle.std.proofs.Common.{length, drop, length-drop, length-append, ap, arith}
use Rattle.std.specs.Fmt.{decimal}
use Rattle.std.proofs.lemmas.Fmt.{length-decimal-le}
use Rattle.fl_script.proofs.row_line.RowLine.put_digits.Goals as goal

pub write_digits-self-inside-requires : goal.write_digits-self-inside-requires
write_digits-self-inside-requires c =
    let long = length-decimal-le 20 c.args.n (omega arith) (omega arith) c.ranges.n.fits in
    let left = ap length c.self.view_is in
    (omega (arith, long, c.self.invariant, c.requires, left, length-drop c.self.inside.start c.self.inside.text), omega (arith, c.self.invariant))

pub returns-clause-short : goal.returns-clause-short
returns-clause-short c =
    let long = length-decimal-le 20 c.args.n (omega arith) (omega arith) c.ranges.n.fits in
    let wrote = ap length c.write_digits-self-inside.ensures.written in
    let parts = length-append (decimal c.args.n) (drop c.self.inside.start c.self.inside.text) in
    let left = ap length c.self.view_is in
    omega (arith, long, wrote, parts, left)
