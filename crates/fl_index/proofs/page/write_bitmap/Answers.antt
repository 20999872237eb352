use Rattle.std.proofs.Common.{◌∙◌, ap, take}
use Rattle.fl_index.proofs.WaitingEntries.{low-written}
use Rattle.fl_index.proofs.page.write_bitmap.Goals as goal

pub returns : goal.returns
returns c =
    low-written c.args.width c.args.at c.args.bitmap c.args.body.now c.copy_from_slice.new.self c.requires.few (c.copy_from_slice.ensures.after ∙ ap (take c.args.width) c.to_le_bytes.ensures)
