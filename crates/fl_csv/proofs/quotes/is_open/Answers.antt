use Rattle.std.proofs.Common.{◌∙◌}
use Rattle.fl_csv.proofs.Places.{ends-open}
use Rattle.fl_csv.proofs.quotes.is_open.Goals as goal

pub returns : goal.returns
returns c = c.is_between.ensures ∙ ends-open c.args.line.now _ _ _ c.without_mark-text.ensures c.loop-byte-test.false c.loop-byte.invariant
