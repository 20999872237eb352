use Rattle.std.proofs.Common.{sym, ◌∙◌}
use Rattle.fl_base.proofs.OneByte.{all_same}
use Rattle.fl_flash.proofs.block.is_blank.Goals as goal

pub returns : goal.returns
returns c = λ same. all_same 255 c.args.page.now (sym c.each_is.ensures ∙ same)
