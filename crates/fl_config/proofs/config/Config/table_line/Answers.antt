use Rattle.std.proofs.Common.{◌∙◌, ap}
use Rattle.fl_words.specs.Medium.{table_text}
use Rattle.fl_config.specs.declared.entry.Entry.{Entry}
use Rattle.fl_config.specs.Entry.{plan_in}
use Rattle.fl_config.proofs.TableAt.{line-at}
use Rattle.fl_config.proofs.config.Config.table_line.Goals as goal

pub returns : goal.returns
returns c =
    let text = rw c.new-text.ensures at c.add_table.ensures.text in
    line-at c.entries.result.now c.args.self.now.plans c.args.i c.index-entries-i.result _ c.entries.ensures.plans c.requires
    (text ∙ ap (λ (entry : Entry). table_text (plan_in entry)) c.index-entries-i.is)
