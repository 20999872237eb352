use Rattle.fl_index.proofs.LoadedPages.{copied}
use Rattle.fl_index.proofs.page.copy_entries.Goals as goal

pub returns : goal.returns
returns c = copied c.args.bytes c.args.body.now c.args.page.now c.copy_from_slice.new.self c.requires.page c.copy_from_slice.ensures.after
