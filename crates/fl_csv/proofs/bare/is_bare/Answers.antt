use Rattle.std.proofs.Common.{◌≢◌, ◌<◌, get_or, length, rules}
use Rattle.fl_csv.proofs.BareLines.{bare-is}
use Rattle.fl_csv.proofs.bare.is_bare.Goals as goal

pub returns : goal.returns
returns c =
    let some : 0 < length c.args.line.now = search rules in
    let other : get_or c.args.line.now 0 0 ≢ 239 = search rules in
    bare-is c.args.line.now _ c.are_alone.ensures some other
