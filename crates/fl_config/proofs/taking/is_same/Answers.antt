use Rattle.std.proofs.Common.{◌∙◌}
use Rattle.fl_model.proofs.Names.{bytes_equal-is}
use Rattle.fl_config.proofs.taking.is_same.Goals as goal

pub returns : goal.returns
returns c = c.eq.ensures ∙ rw (c.bytes.ensures.same, c.bytes-2.ensures.same) (bytes_equal-is c.args.a.now c.args.b.now)
